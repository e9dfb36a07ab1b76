-- `reading::objects::is_full` meets its contract: what the marks of the slots below j say, from j to j + 1 (`each_more`).
use Prim.Native.Nat.{◌≤◌, ◌*◌}
use mathlib.Core.Path.{◌≡◌}
use Rattle.session.specs.Table.{read, at}
use Rattle.session.specs.declared.Field.TheVariants.{TaskSlots, SlotMark}
use Rattle.rules.specs.Formula.{test, Formula.◌≼◌, Formula.each}
use Rattle.reading.proofs.objects.is_full.Given as goal

abbrev pub invariant-loop-j : goal.invariant-loop-j
invariant-loop-j l =
    (l.n ≡ read l.s TaskSlots l.t) × (l.n ≤ 16) × (l.first ≡ l.t * 16) × (l.ok ≡ test (each l.j (λ k. 1 ≼ read l.s SlotMark (at l.t k))))
