-- `holding::granting::grant` meets its contract: what `hold_slots` wrote and the state put behind it (`wrote_next`) are `grant`
-- (`grant-slots`); that the task is made bounds its handle.
use Rattle.session.specs.Table.{read, put}
use Rattle.session.specs.Names.{granted}
use Rattle.session.specs.declared.Field.TheVariants.{TaskState}
use native.Mathlib.Omega.{arith}
use Rattle.laws.specs.ByName.{sound_by_name}
use Rattle.laws.specs.Standing.{handle_made}
use Rattle.laws.specs.Puts.{wrote_next}
use Rattle.holding.specs.GrantedSlots.{grant-slots}
use Rattle.holding.proofs.granting.grant.Goals as goal

pub hold_slots-requires : goal.hold_slots-requires
hold_slots-requires c =
    let s = read c.args.s.now in
    handle_made s c.args.t (sound_by_name s c.requires.0) c.requires.1.0

pub set-requires : goal.set-requires
set-requires c =
    let s = read c.args.s.now in
    let l = handle_made s c.args.t (sound_by_name s c.requires.0) c.requires.1.0 in
    omega (arith, l, c.hold_slots.ensures.same_length)

pub returns : goal.returns
returns c =
    let a = c.args in
    rw (← grant-slots (read a.s.now) a.t)
    (wrote_next (λ r. put r TaskState a.t granted) c.hold_slots.ensures c.set.ensures)
