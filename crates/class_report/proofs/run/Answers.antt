-- `class_report::run` keeps its loop's invariant: a step leaves the pending sheet in a half, and no more read than may lie there then.
use Rattle.std.proofs.Common.{ℕ, arith, rules, subst, sym, ◌∙◌}
use lib.ListN.{replicate, length-replicate}
use Rattle.session.specs.Table.{words}
use Rattle.session.specs.FreshLaws.{leaves-written}
use Rattle.sheet.specs.Printing.{ready-fresh}
use Rattle.class.specs.declared.Report.{Report}
use Rattle.class.specs.Steps.{begun}
use Rattle.class.specs.Halves.{InHalf}
use Rattle.class_input.specs.Ahead.{Ahead, ahead_begun}
use Rattle.class_report.specs.ProgramStepped.{step_half, stepped_ahead}
use Rattle.class_report.proofs.run.Goals as goal

pub loop-init : goal.loop-init
unfolding begun
loop-init g c =
    let m = length-replicate {A = ℕ} words 0 in
    let l = length-replicate {A = ℕ} 16384 0 in
    record {
      ready = ready-fresh (replicate words 0) _ (replicate 16384 0) (omega arith) (omega arith)
          (leaves-written (omega arith) c.put_fresh.ensures);
      memory_long = c.put_fresh.ensures.same_length ∙ m;
      room_long = length-replicate {A = ℕ} 65536 0;
      lines_long = l;
      line_free = omega arith;
      in_half = subst (λ (r : Report). InHalf r.pending) (sym c.begin-report.ensures) tt;
      input_long = l;
      inside = (omega arith, omega arith);
      ahead = subst (λ (r : Report). Ahead r 0) (sym c.begin-report.ensures) ahead_begun;
    }

pub loop-preserved : goal.loop-preserved
loop-preserved g c =
    let i = c.loop.invariant in
    let r = c.in_ok-handed.ensures.given.0 in
    let e = c.gather-step.ensures.next in
    record {
      ready = c.gather-step.ensures.ready;
      memory_long = search rules;
      room_long = search rules;
      lines_long = search rules;
      line_free = c.in_ok-filled.ensures;
      in_half = step_half _ _ _ _ _ _ e (r.long ∙ i.room_long) c.free_half-place.ensures i.in_half;
      input_long = search rules;
      inside = r.window;
      ahead = stepped_ahead _ _ _ _ _ _ e _ r.inside r.few;
    }
