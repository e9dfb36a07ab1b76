-- `effects::making::task` meets its contract: with output 1 the event is written behind the task (`choose_yes`, `wrote_next`), whose
-- handle is the count then, else the task alone (`choose_no`); the answer is `new_task`'s.
use Prim.Native.Nat.{◌+◌}
use native.Mathlib.Omega.{arith}
use Rattle.session.specs.Table.{put}
use Rattle.session.specs.declared.Field.TheVariants.{Objects}
use Rattle.rules.specs.FormulaLaws.{choose_yes, choose_no}
use Rattle.rules.specs.Effects.{new, new_task, new_event, make_task}
use Rattle.laws.specs.Puts.{wrote_next}
use Rattle.session.specs.Names.{output}
use Rattle.effects.proofs.making.task.Goals as goal

pub new_event-requires : goal.new_event-requires
unfolding new_task new put
new_event-requires c = rw c.new_task-h.ensures.wrote.reading (omega arith)

pub returns-then-out-eq1 : goal.returns-then-out-eq1
unfolding make_task new_task new put
returns-then-out-eq1 c =
    let made = c.new_task-h.ensures in
    record {
      wrote = rw (choose_yes _ _ _ c.if-out-eq1.true, ← c.task_slots-slots.ensures)
          (wrote_next (λ r. new_event r (r Objects 0 + 1) output 0) made.wrote c.new_event.ensures.wrote);
      answer = made.answer;
    }

pub returns-else-out-eq1 : goal.returns-else-out-eq1
unfolding make_task
returns-else-out-eq1 c =
    let made = c.new_task-h.ensures in
    record {
      wrote = rw (choose_no _ _ _ c.if-out-eq1.false, ← c.task_slots-slots.ensures) made.wrote;
      answer = made.answer;
    }
