-- `unchecked::unchecked_apply` meets its contract: what `apply_sound` answered, as two numbers (`told`).
use Rattle.rules.specs.Answer.{answer_told}
use Rattle.library.specs.Called.{operation, told, tells_refused, tells_made}
use Rattle.unchecked.proofs.unchecked_apply.Goals as goal

pub returns : goal.returns
returns c =
    let t = c.tell.ensures in
    let call = c.apply_sound in
    let a = c.args in
    rw (tells_refused call.result _ t.refused, tells_made call.result _ t.made)
    (told a.memory.now call.new.memory (operation a.code a.f0 a.f1 a.f2 a.f3 a.f4) (answer_told call.result)
    call.ensures)
