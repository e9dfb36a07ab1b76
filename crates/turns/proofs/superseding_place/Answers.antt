-- `turns::superseding_place` meets its contract: the reference that is handed back tells its place by its length.
use mathlib.Core.Path.{ap, ◌∙◌}
use Rattle.rules.specs.Formula.{Formula.◌≼◌}
use Rattle.rules.specs.FormulaLaws.{choose_yes, choose_no}
use Rattle.turns.specs.MemoryPlaces.{chosen_place}
use Rattle.turns.proofs.superseding_place.Goals as goal

pub overflow_sub-result : goal.overflow_sub-result
overflow_sub-result c =
    let a = c.args in
    let e = c.superseding-kept.ensures in
    (chosen_place (a.past ≼ a.turn) a.held a.place a.room.now _ c.requires
    (λ y. ap (λ x. x.now) (e ∙ choose_yes (a.past ≼ a.turn) _ _ y) ∙ c.rest_of-2.ensures)
    (λ n. ap (λ x. x.now) (e ∙ choose_no (a.past ≼ a.turn) _ _ n) ∙ c.rest_of.ensures)).0

pub returns : goal.returns
returns c =
    let a = c.args in
    let e = c.superseding-kept.ensures in
    (chosen_place (a.past ≼ a.turn) a.held a.place a.room.now _ c.requires
    (λ y. ap (λ x. x.now) (e ∙ choose_yes (a.past ≼ a.turn) _ _ y) ∙ c.rest_of-2.ensures)
    (λ n. ap (λ x. x.now) (e ∙ choose_no (a.past ≼ a.turn) _ _ n) ∙ c.rest_of.ensures)).1
