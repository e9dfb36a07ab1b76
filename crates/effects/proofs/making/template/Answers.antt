-- `effects::making::template` meets its contract: what `new_object` wrote and the two words put behind it (`wrote_more`) are
-- `new_template`; the answer is `new_object`'s.
use Rattle.session.specs.TableLaws.{wrote_more}
use Rattle.session.specs.declared.Field.TheVariants.{TemplateState, TemplateCount}
use Rattle.rules.specs.Effects.{new_template}
use Rattle.effects.proofs.making.template.Goals as goal

pub returns : goal.returns
unfolding new_template
returns c =
    let made = c.new_object-h.ensures in
    record {
      wrote = rw (← made.answer)
          (wrote_more TemplateCount _ _ (wrote_more TemplateState _ _ (rw (← made.answer) at made.wrote) c.set.ensures) c.set-2.ensures);
      answer = made.answer;
    }
