-- `effects::linking::new_link` meets its contract: the five words put, one after the other (`wrote_more`), are `new_link`; the
-- answer is the count read and 1.
use Rattle.session.specs.TableLaws.{wrote_none, wrote_more}
use Rattle.session.specs.declared.Field.TheVariants.{Links, LinkSource, LinkTarget, LinkSlot, LinkState}
use Rattle.rules.specs.Effects.{new_link}
use Rattle.effects.specs.Linking.{first_link}
use native.Mathlib.Omega.{arith}
use Rattle.effects.proofs.linking.new_link.Goals as goal

pub returns : goal.returns
unfolding new_link first_link
returns c =
    record {
      wrote = rw (← c.get.ensures, ← c.first_link-state.ensures, ← c.get-l.ensures)
          (wrote_more LinkState _ _
          (wrote_more LinkSlot _ _
          (wrote_more LinkTarget _ _
          (wrote_more LinkSource _ _ (wrote_more Links _ _ (wrote_none _) c.set.ensures) c.set-2.ensures)
          c.set-3.ensures)
          c.set-4.ensures)
          c.set-5.ensures);
      answer = omega (arith, c.get-l.ensures);
    }
