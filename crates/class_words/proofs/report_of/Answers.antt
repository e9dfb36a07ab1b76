-- `class_words::report_of` meets its contract: word by word, the stage by `stage_of`, the pending sheet by `pending_of`.
use mathlib.Core.Path.{refl}
use Rattle.class_words.specs.Words.{report_of}
use Rattle.class_words.proofs.report_of.Goals as goal

pub returns : goal.returns
unfolding report_of
returns c = rw (c.stage_of.ensures, c.pending_of.ensures) refl
