-- `effects::making::new_object` meets its contract: the two words put, one after the other (`wrote_more`), are `new`; the
-- answer is the count read and 1.
use native.Mathlib.Omega.{arith}
use Rattle.session.specs.TableLaws.{wrote_none, wrote_more}
use Rattle.session.specs.declared.Field.TheVariants.{Objects, Kind}
use Rattle.rules.specs.Effects.{new}
use Rattle.effects.proofs.making.new_object.Goals as goal

pub returns : goal.returns
unfolding new
returns c =
    record {
      wrote = rw (← c.get-h.ensures) (wrote_more Kind _ _ (wrote_more Objects _ _ (wrote_none _) c.set.ensures) c.set-2.ensures);
      answer = omega (arith, c.get-h.ensures);
    }
