-- `engine::apply` meets its contract: memory too short is refused (`answered_short`), first words that are no sound session too
-- (`answered-unsound`), and what `play` replies answers those that are (`answered-sound`).
use mathlib.Core.Path.{sym, ◌∙◌}
use native.Mathlib.Omega.{arith}
use Rattle.std.proofs.lemmas.List.{take-append-drop}
use Rattle.session.specs.Table.{words}
use Rattle.session.specs.First.{read_first}
use Rattle.engine.specs.Played.{answered-unsound, answered-sound, memory-sound, memory-unsound, replied_first}
use Rattle.engine.proofs.apply.Goals as goal

pub returns-then-not-is_sound : goal.returns-then-not-is_sound
returns-then-not-is_sound c =
    let ws = c.args.memory.now in
    let first = c.in-Some.ensures.cases in
    let unsound = memory-unsound c.in-Some.s.now (omega arith) (sym c.is_sound.ensures ∙ c.if-not-is_sound.true) in
    rw (first.same, take-append-drop words ws)
    (answered-unsound ws c.args.op first.enough (rw (first.same, read_first ws) at unsound))

pub play-requires : goal.play-requires
play-requires c = memory-sound c.in-Some.s.now (omega arith) (sym c.is_sound.ensures ∙ c.if-not-is_sound.false)

pub returns : goal.returns
returns c =
    let first = c.in-Some.ensures.cases in
    answered-sound c.args.memory.now _ c.args.op _ first.enough
    (replied_first c.args.memory.now _ _ c.args.op first.enough (rw first.same at c.play.ensures))
