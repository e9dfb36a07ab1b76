-- `effects::making::new_task` meets its contract: what `new_object` wrote and the five words put behind it (`wrote_more`), the
-- first of them `first_state`'s, are `new_task`; the answer is `new_object`'s.
use Rattle.session.specs.TableLaws.{wrote_more}
use Rattle.session.specs.declared.Field.TheVariants.{TaskState, TaskCreator, TaskSlots, TaskFinish, TaskOutput}
use Rattle.rules.specs.Effects.{new_task}
use Rattle.effects.specs.FirstValues.{first_state}
use Rattle.effects.proofs.making.new_task.Goals as goal

pub returns : goal.returns
unfolding new_task first_state
returns c =
    let made = c.new_object-h.ensures in
    record {
      wrote = rw (← c.first_state.ensures, ← made.answer)
          (wrote_more TaskOutput _ _
          (wrote_more TaskFinish _ _
          (wrote_more TaskSlots _ _
          (wrote_more TaskCreator _ _ (wrote_more TaskState _ _ (rw (← made.answer) at made.wrote) c.set.ensures) c.set-2.ensures)
          c.set-3.ensures)
          c.set-4.ensures)
          c.set-5.ensures);
      answer = made.answer;
    }
