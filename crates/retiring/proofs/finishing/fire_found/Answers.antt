-- `retiring::finishing::fire_found` meets its contract: with none found nothing is written (`found_none`), one is fired alone
-- (`found_one`), and several are fired by their marks (`finished_fire`). That an event that finishes is made bounds the handle.
use native.Mathlib.Omega.{arith}
use Rattle.session.specs.Table.{read}
use Rattle.session.specs.TableLaws.{wrote_none}
use Rattle.retiring.specs.Finish.{marks-within, finished_fire}
use Rattle.retiring.specs.Climb.{event-made, climbed_all, found_none, found_one}
use Rattle.retiring.proofs.finishing.fire_found.Goals as goal

pub returns-in-Nothing : goal.returns-in-Nothing
returns-in-Nothing c = rw (found_none (read c.args.s.now) _ _ c.requires.1 c.in-Nothing.is) (wrote_none _)

pub fire_one-requires : goal.fire_one-requires
fire_one-requires c =
    let p = c.requires in
    let one = found_one (read c.args.s.now) _ _ p.1 c.in-One.e c.in-One.is in
    let made = event-made (read c.args.s.now) p.0 _ one.0.0 in
    (omega (arith, made.1, p.0.frame.few), p.0.frame.few_links, p.0.no_more)

pub returns-in-One : goal.returns-in-One
returns-in-One c =
    let one = found_one (read c.args.s.now) _ _ c.requires.1 c.in-One.e c.in-One.is in
    rw (← one.1) c.fire_one.ensures

pub fire_by_marks-requires : goal.fire_by_marks-requires
fire_by_marks-requires c =
    let p = c.requires in
    (p.0, marks-within (read c.args.s.now) _ p.0 (climbed_all _ _ _ p.1))

pub returns-in-Several : goal.returns-in-Several
returns-in-Several c =
    let p = c.requires in
    rw (← finished_fire (read c.args.s.now) _ p.0 (climbed_all _ _ _ p.1)) c.fire_by_marks.ensures
