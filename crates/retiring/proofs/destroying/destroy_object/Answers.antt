-- `retiring::destroying::destroy_object` meets its contract: by the kind read, each of the four arms is its own law (`destroys_template`
-- and the like), and so are the steps (`task_climbs`, `other_climbs`); what they require follows from the sound session and the checks
-- (`retirable`). A task that is destroyed never ran, and has no child (`unstarted_childless`).
use mathlib.Core.Path.{◌≡◌, sym, ◌∙◌}
use native.Mathlib.Omega.{arith}
use Rattle.session.specs.Names.{template, task, event}
use Rattle.session.specs.Table.{read}
use Rattle.session.specs.declared.Field.TheVariants.{Kind}
use Rattle.holding.specs.SoundHolds.{doomed-held, active}
use Rattle.retiring.specs.RetiringParts.{retirable, destroys_template, destroys_task, destroys_event, destroys_block}
use Rattle.retiring.specs.RetiringParts.{task_climbs, other_climbs}
use Rattle.retiring.specs.Children.{unstarted_childless}
use Rattle.retiring.proofs.destroying.destroy_object.Goals as goal

pub get-requires : goal.get-requires
get-requires c =
    let r = retirable c.args.s.now c.args.h c.requires.0 c.requires.1.1.0 in
    omega (arith, r.handle)

pub set-requires : goal.set-requires
set-requires c =
    let r = retirable c.args.s.now c.args.h c.requires.0 c.requires.1.1.0 in
    omega (arith, r.handle)

pub returns-in-1 : goal.returns-in-1
returns-in-1 c =
    let a = c.args in
    let s = read a.s.now in
    let k : read a.s.now Kind a.h ≡ template = sym c.get.ensures ∙ c.in-1.is in
    record {
      wrote = rw (destroys_template s a.caller a.h k) c.set.ensures;
      answer = other_climbs s a.caller a.h (λ q. omega arith);
    }

pub destroy_task-requires : goal.destroy_task-requires
destroy_task-requires c =
    let r = retirable c.args.s.now c.args.h c.requires.0 c.requires.1.1.0 in
    let k = sym c.get.ensures ∙ c.in-2.is in
    let early = c.requires.1.1.1.1.1.0 k in
    let none = unstarted_childless (read c.args.s.now) c.requires.0 c.args.h c.requires.1.1.0.0 early in
    (r.handle, r.tidy, r.low, c.requires.1.1.0, r.outputs, none)

pub returns-in-2 : goal.returns-in-2
returns-in-2 c =
    let k = sym c.get.ensures ∙ c.in-2.is in
    let made = c.destroy_task.ensures in
    record { wrote = rw (destroys_task _ _ _ k) made.wrote; answer = made.answer ∙ task_climbs _ _ _ k }

pub destroy_event-requires : goal.destroy_event-requires
destroy_event-requires c =
    let r = retirable c.args.s.now c.args.h c.requires.0 c.requires.1.1.0 in
    (r.handle, r.tidy.frame.few_links, r.tidy.no_more)

pub returns-in-3 : goal.returns-in-3
returns-in-3 c =
    let a = c.args in
    let s = read a.s.now in
    let k : read a.s.now Kind a.h ≡ event = sym c.get.ensures ∙ c.in-3.is in
    record {
      wrote = rw (destroys_event s a.caller a.h k) c.destroy_event.ensures;
      answer = other_climbs s a.caller a.h (λ q. omega arith);
    }

pub destroy_block-requires : goal.destroy_block-requires
destroy_block-requires c =
    let ws = c.args.s.now in
    let good = c.requires.0 in
    let caller = retirable ws c.args.caller good c.requires.1.0.0 in
    let r = retirable ws c.args.h good c.requires.1.1.0 in
    (r.tidy.frame.few, caller.handle, c.requires.1.1.0.0, r.handle, doomed-held ws good, active ws good)

pub returns-in_default : goal.returns-in_default
returns-in_default c =
    let a = c.args in
    let s = read a.s.now in
    let e = c.get.ensures in
    let n : read a.s.now Kind a.h ≡ task → ⊥ = λ q. omega (arith, e, q) in
    record {
      wrote = rw (destroys_block s a.caller a.h (λ q. omega (arith, e, q)) n (λ q. omega (arith, e, q))) c.destroy_block.ensures;
      answer = other_climbs s a.caller a.h n;
    }
