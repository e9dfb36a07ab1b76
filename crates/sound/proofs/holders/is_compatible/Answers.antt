-- `sound::holders::is_compatible` meets its contract: not held passes (`passes`); else by no clash (`none_clashes`, `test_then`).
use mathlib.Core.Path.{sym, ◌∙◌}
use Rattle.session.specs.Names.{held}
use Rattle.session.specs.declared.Field.TheVariants.{SlotMark}
use Rattle.session.specs.Table.{read}
use Rattle.rules.specs.FormulaLaws.{test_then}
use Rattle.rules.specs.Formula.{not, Formula.◌≐◌, Formula.◌and◌, Formula.each}
use Rattle.sound.specs.HolderTable.{none_clashes}
use Rattle.rules.specs.Bools.{test-both, test-not}
use Rattle.rules.specs.Sound.{clash, clash_made}
use Rattle.sound.proofs.holders.is_compatible.Goals as goal

pub returns : goal.returns
returns c =
    let a = c.args in
    let s = read a.s.now in
    let f = each a.i (λ k. not (clash s a.i k)) in
    let g = clash_made s a.i in
    let m = sym c.of_slot.ensures ∙ c.if-of_slot-ne-HELD.false in
    rw (c.does_clash.ensures, c.clashes_with_maker.ensures)
    (sym (test_then (s SlotMark a.i ≐ held) (f and not g) m ∙ test-both f (not g) ∙ rw (none_clashes s a.i, test-not g)))
