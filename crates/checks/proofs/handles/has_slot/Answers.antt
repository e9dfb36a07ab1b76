-- `checks::handles::has_slot` meets its contract: of a task the count decides (`task-slot`), and what is none is an event of a user's.
use mathlib.Core.Path.{◌∙◌, sym}
use mathlib.Core.Logic.{⊎_elim}
use Rattle.session.specs.Table.{read}
use Rattle.rules.specs.Bools.{test_lt}
use Rattle.reading.specs.TestLaws.{yes, no}
use Rattle.reading.specs.SlotsByKind.{task-slot}
use Rattle.checks.proofs.handles.has_slot.Goals as goal

pub returns-then-is_kind : goal.returns-then-is_kind
returns-then-is_kind c =
    let a = c.args in
    let k = yes _ c.is_kind.ensures c.if-is_kind.true in
    rw c.of_object.ensures (sym (test_lt _ _) ∙ task-slot (read a.s.now) a.h a.j k)

pub has_event_slot-requires : goal.has_event_slot-requires
has_event_slot-requires c =
    let no_task = no _ c.is_kind.ensures c.if-is_kind.false in
    ⊎_elim (λ t. absurd (no_task t)) (λ u. u) c.requires
