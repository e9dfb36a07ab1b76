-- `sound::is_sound` meets its contract: too short memory is not sound (`short_unsound`), any other as `is_sound_session` answers of its
-- first words (`read_first`, `memory_tested`).
use Rattle.std.proofs.Common.{◌≤◌, sym, ◌∙◌, length}
use native.Mathlib.Omega.{arith}
use Rattle.session.specs.First.{read_first}
use Rattle.session.specs.Table.{words}
use Rattle.sound.specs.RulesInOrder.{memory_tested}
use Rattle.sound.proofs.is_sound.Goals as goal

pub returns : goal.returns
returns c =
    let s = c.args.s.now in
    let long : words ≤ length s = omega arith in
    let first = rw c.unwrap.ensures at c.first_chunk.ensures.cases in
    c.is_sound_session.ensures ∙ rw (first.same, read_first s) (sym (memory_tested s long))
