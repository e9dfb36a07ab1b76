-- `listing::field_count` meets its contract: the last edition knows a code asked for, so that `arity_of` has its number of fields.
use mathlib.Core.Path.{◌≡◌, refl, ◌∙◌}
use Rattle.std.specs.Prelude.{ℕ, Some}
use Rattle.rules.specs.Arity.{arity_of, knows, field_count, fields_few, last_knows, is_code}
use Rattle.rules.specs.Formula.{Holds}
use Rattle.rules.specs.FormulaLaws.{choose_yes}
use Rattle.rules.specs.Step.{last_edition}
use Rattle.listing.proofs.field_count.Goals as goal

known : (code : ℕ) → Holds (is_code code) → arity_of last_edition code ≡ Some (field_count code)
unfolding arity_of
known code h = choose_yes (knows last_edition code) _ _ (last_knows code h)

pub unwrap-requires : goal.unwrap-requires
unwrap-requires c = rw (c.arity_of.ensures ∙ known _ c.requires) refl

pub returns : goal.returns
returns c =
    let k = known c.args.code c.requires in
    let e : c.unwrap.result ≡ field_count c.args.code = cc in
    record { count = e; five = rw e (fields_few _ c.requires) }
