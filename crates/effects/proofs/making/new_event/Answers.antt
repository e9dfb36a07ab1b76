-- `effects::making::new_event` meets its contract: what `new_object` wrote and the four words put behind it (`wrote_more`), the
-- third of them `first_tally`'s, are `new_event`; the answer is `new_object`'s.
use Rattle.session.specs.TableLaws.{wrote_more}
use Rattle.session.specs.declared.Field.TheVariants.{EventState, EventType, EventTally, EventCount}
use Rattle.rules.specs.Effects.{new_event}
use Rattle.effects.specs.FirstValues.{first_tally}
use Rattle.effects.proofs.making.new_event.Goals as goal

pub returns : goal.returns
unfolding new_event first_tally
returns c =
    let made = c.new_object-h.ensures in
    record {
      wrote = rw (← c.first_tally.ensures, ← made.answer)
          (wrote_more EventCount _ _
          (wrote_more EventTally _ _
          (wrote_more EventType _ _ (wrote_more EventState _ _ (rw (← made.answer) at made.wrote) c.set.ensures) c.set-2.ensures)
          c.set-3.ensures) c.set-4.ensures);
      answer = made.answer;
    }
