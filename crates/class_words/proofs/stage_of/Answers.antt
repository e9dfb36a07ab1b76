-- `class_words::stage_of` meets its contract: what `get` and then `unwrap_or` give of the list of the stages.
use mathlib.Core.Path.{ap, ◌∙◌}
use native.Mathlib.Omega.{arith}
use Rattle.std.specs.Prelude.{Option}
use Rattle.std.specs.Option.{unwrap_or}
use Rattle.class.specs.declared.Stage.{Stage}
use Rattle.class.specs.declared.Stage.TheVariants.{Nothing}
use Rattle.class_words.specs.Words.{stage_of}
use Rattle.class_words.proofs.stage_of.Goals as goal

pub returns : goal.returns
unfolding stage_of
returns c =
    c.unwrap_or.ensures ∙ ap (λ (o : Option Stage). unwrap_or o Nothing) c.copied.ensures ∙ c.get.ensures.lookup.4 (omega arith) Nothing
