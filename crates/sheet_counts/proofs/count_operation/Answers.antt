-- `sheet_counts::count_operation` meets its contract: an answer is a refusal or an accepted operation, as the reply is.
use mathlib.Core.Path.{ap, sym, ◌∙◌}
use Rattle.rules.specs.Answer.{answer_told}
use Rattle.sheet_counts.specs.Telling.{told-refused, told-accepted}
use Rattle.sheet_counts.proofs.count_operation.Goals as goal

pub returns-in-Ok : goal.returns-in-Ok
returns-in-Ok c =
    let r = c.apply_sound.ensures in
    record { session = r.leaves; counts = told-accepted _ _ _ (sym (ap answer_told c.in-Ok.is) ∙ r.answer) }

pub returns-in-Err : goal.returns-in-Err
returns-in-Err c =
    let r = c.apply_sound.ensures in
    record { session = r.leaves; counts = told-refused _ _ _ (sym (ap answer_told c.in-Err.is) ∙ r.answer) }
