-- `retiring::ending::end_task` meets its contract: the four parts, one behind the other (`wrote_next`), are `end` (`end-parts`); the
-- first three leave it tidy (`tidy_ending`, `tidy_output_fired`), t not live (`ended-over`), and only what is above t to finish
-- (`only_above`). Firing changes nothing of the climb (`climbed-fired`).
use mathlib.Core.Path.{sym, ap, ◌∙◌}
use native.Mathlib.Omega.{arith}
use Rattle.session.specs.Table.{Session, read, put}
use Rattle.session.specs.Names.{ended}
use Rattle.session.specs.declared.Field.TheVariants.{TaskState}
use Rattle.rules.specs.Effects.{fire_finished}
use Rattle.rules.specs.Descendants.{climbed}
use Rattle.laws.specs.Puts.{wrote_next}
use Rattle.holding.specs.SoundHolds.{unheld, unmarked, active}
use Rattle.retiring.specs.RetiringParts.{retirable, ending, output_fired, tidy_output_fired, tidy_ending, low_ending}
use Rattle.retiring.specs.RetiringParts.{end-parts, ended-over}
use Rattle.retiring.specs.Climb.{only_above, own-ending, own-fired}
use Rattle.retiring.specs.Steps.{climbed-fired}
use Rattle.retiring.proofs.ending.end_task.Goals as goal

pub let_go_all-requires : goal.let_go_all-requires
let_go_all-requires c =
    let ws = c.args.s.now in
    let good = c.requires.0 in
    let r = retirable ws c.args.t good c.requires.1.0.0 in
    (r.tidy.frame.few, r.handle, unheld ws good, unmarked ws good, active ws good)

pub set-requires : goal.set-requires
set-requires c =
    let r = retirable c.args.s.now c.args.t c.requires.0 c.requires.1.0.0 in
    omega (arith, r.handle)

pub fire_output-requires : goal.fire_output-requires
fire_output-requires c =
    let p = c.requires in
    let a = c.args in
    let q = retirable a.s.now a.t p.0 p.1.0.0 in
    let s = read a.s.now in
    let w = wrote_next (λ r. put r TaskState a.t ended) c.let_go_all.ensures c.set.ensures in (
      q.handle,
      rw (← w.reading) at (tidy_ending s a.t q.tidy),
      rw (← w.reading) at (low_ending s a.t q.low),
    )

pub fire_finished-requires : goal.fire_finished-requires
fire_finished-requires c =
    let p = c.requires in
    let a = c.args in
    let q = retirable a.s.now a.t p.0 p.1.0.0 in
    let s = read a.s.now in
    let w = wrote_next (λ r. output_fired r a.t a.b)
    (wrote_next (λ r. put r TaskState a.t ended) c.let_go_all.ensures c.set.ensures) c.fire_output.ensures in
    let own = own-fired s a.t (ending s a.t) (own-ending s a.t) a.b in (
      rw (← w.reading) at (tidy_output_fired (ending s a.t) a.t a.b (tidy_ending s a.t q.tidy)),
      p.1.0.0.0,
      rw (← w.reading) at (ended-over s a.t a.b),
      rw (← w.reading) at
          (only_above s (output_fired (ending s a.t) a.t a.b) a.t q.tidy q.outputs own p.1.0.0),
    )

pub returns : goal.returns
returns c =
    let a = c.args in
    let s = read a.s.now in
    let q = output_fired (ending s a.t) a.t a.b in
    let w = wrote_next (λ r. output_fired r a.t a.b)
    (wrote_next (λ r. put r TaskState a.t ended) c.let_go_all.ensures c.set.ensures) c.fire_output.ensures in
    let made = c.fire_finished.ensures in
    record {
      wrote = rw (← end-parts s a.t a.b) (wrote_next fire_finished w made.wrote);
      answer =
          made.answer ∙ ap (λ (r : Session). climbed r a.t) w.reading ∙ sym (climbed-fired q a.t)
          ∙ ap (λ (r : Session). climbed r a.t) (end-parts s a.t a.b);
    }
