-- `effects::making::block` meets its contract: what `new_object` wrote and the three words put behind it (`wrote_more`) are
-- `new_block`; the answer is `new_object`'s.
use Rattle.session.specs.TableLaws.{wrote_more}
use Rattle.session.specs.declared.Field.TheVariants.{BlockState, BlockCreator, BlockHeld}
use Rattle.rules.specs.Effects.{new_block}
use Rattle.effects.proofs.making.block.Goals as goal

pub returns : goal.returns
unfolding new_block
returns c =
    let made = c.new_object-h.ensures in
    record {
      wrote = rw (← made.answer)
          (wrote_more BlockHeld _ _
          (wrote_more BlockCreator _ _ (wrote_more BlockState _ _ (rw (← made.answer) at made.wrote) c.set.ensures) c.set-2.ensures)
          c.set-3.ensures);
      answer = made.answer;
    }
