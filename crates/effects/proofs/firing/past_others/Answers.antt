-- `effects::firing::past_others` meets its contract: where none of eight links is from e, the eight are passed (`passed_eight`).
use mathlib.Core.Path.{sym, ◌∙◌}
use borrow.Author.Rules.{rules}
use Rattle.std.proofs.lemmas.Bool.{not-true}
use Rattle.session.specs.Table.{read}
use Rattle.session.specs.declared.Field.TheVariants.{LinkSource}
use Rattle.rules.specs.Formula.{Formula.◌≐◌}
use Rattle.rules.specs.FormulaLaws.{failed}
use Rattle.reading.specs.Eights.{one_of_eight}
use Rattle.reading.specs.TestLaws.{equals}
use Rattle.effects.specs.OpenLinks.{passed_eight}
use Rattle.effects.proofs.firing.past_others.Goals as goal

pub returns-then-l-le-LAST_EIGHT : goal.returns-then-l-le-LAST_EIGHT
returns-then-l-le-LAST_EIGHT c =
    let a = c.args in
    let links = read a.s.now LinkSource in
    let near = one_of_eight _ (λ i. links i ≐ a.e) a.l _ c.any_of_eight.ensures (λ i r x. rw (← equals (links i) a.e) (search rules)) in
    λ q. passed_eight (read a.s.now) a.e a.l (failed _ (sym near ∙ not-true _ q))
