-- `retiring::destroying::destroy_task` meets its contract: state, output and finish events, one behind the other (`wrote_next`),
-- are `destroy_task` (`destroy_task-parts`); the first two leave it tidy, t not live (`destroyed_over`) and without a child, and only what
-- is above t to finish (`only_above`). Firing changes nothing of the climb (`climbed-fired`).
use mathlib.Core.Path.{sym, ap, ◌∙◌}
use native.Mathlib.Omega.{arith}
use Rattle.session.specs.Table.{Session, read, put}
use Rattle.session.specs.Names.{task_destroyed}
use Rattle.session.specs.declared.Field.TheVariants.{TaskState}
use Rattle.rules.specs.Effects.{fire_finished}
use Rattle.rules.specs.Descendants.{climbed}
use Rattle.laws.specs.Puts.{wrote_next}
use Rattle.retiring.specs.TidyUnderWay.{tidy_state}
use Rattle.retiring.specs.RetiringParts.{output_destroyed, tidy_output_destroyed, low_state, destroy_task-parts}
use Rattle.retiring.specs.RetiringParts.{destroyed_over}
use Rattle.retiring.specs.Climb.{only_above, own-state, own_destroyed, childless_own}
use Rattle.retiring.specs.Children.{childless_idle}
use Rattle.retiring.specs.Steps.{climbed-fired}
use Rattle.retiring.proofs.destroying.destroy_task.Goals as goal

pub destroy_output-requires : goal.destroy_output-requires
destroy_output-requires c =
    let p = c.requires in
    let a = c.args in
    let s = read a.s.now in
    let w = c.set.ensures in (
      p.0,
      rw (← w.reading) at (tidy_state s p.1 a.t task_destroyed (omega arith)),
      rw
          (← w.reading) at (low_state s a.t task_destroyed p.2),
    )

pub fire_over-requires : goal.fire_over-requires
fire_over-requires c =
    let p = c.requires in
    let a = c.args in
    let s = read a.s.now in
    let w = wrote_next (λ r. output_destroyed r a.t) c.set.ensures c.destroy_output.ensures in
    let r = put s TaskState a.t task_destroyed in
    let q = output_destroyed r a.t in
    let tidy = tidy_output_destroyed r a.t (tidy_state s p.1 a.t task_destroyed (omega arith)) in
    let own = own_destroyed s a.t r (own-state s a.t task_destroyed) in (
      rw (← w.reading) at tidy,
      p.3.0,
      rw (← w.reading) at (destroyed_over s a.t),
      rw (← w.reading) at
          (only_above s q a.t p.1 p.4 own p.3),
      rw (← w.reading) at
          (childless_idle q tidy a.t (childless_own s q a.t own p.5)),
    )

pub returns : goal.returns
returns c =
    let a = c.args in
    let s = read a.s.now in
    let q = output_destroyed (put s TaskState a.t task_destroyed) a.t in
    let w = wrote_next (λ r. output_destroyed r a.t) c.set.ensures c.destroy_output.ensures in
    let made = c.fire_over.ensures in
    record {
      wrote = rw (← destroy_task-parts s a.t) (wrote_next fire_finished w made.wrote);
      answer =
          made.answer ∙ ap (λ (r : Session). climbed r a.t) w.reading ∙ sym (climbed-fired q a.t)
          ∙ ap (λ (r : Session). climbed r a.t) (destroy_task-parts s a.t);
    }
