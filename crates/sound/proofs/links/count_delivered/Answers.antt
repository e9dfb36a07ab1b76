-- `sound::links::count_delivered` meets its contract: from l to l + 1, by what l is (`count_next_yes`, `count_next_no`).
use mathlib.Core.Path.{sym, ◌∙◌}
use native.Mathlib.Omega.{arith}
use Rattle.session.specs.Table.{read}
use Rattle.rules.specs.FormulaLaws.{passed, failed}
use Rattle.rules.specs.Sound.{is_delivered}
use Rattle.laws.specs.Counting.{count_next_yes, count_next_no}
use Rattle.reading.specs.Loops.{count_none}
use Rattle.sound.proofs.links.count_delivered.Goals as goal
use Rattle.sound.proofs.links.count_delivered.Goals.{then-is_delivered, else-is_delivered}

pub loop-l-init : goal.loop-l-init
loop-l-init c = (sym (count_none _), omega arith)

pub loop-l-preserved : goal.loop-l-preserved
loop-l-preserved c =
    let l = c.loop-l in
    let e = c.is_delivered.ensures in
    let f = is_delivered (read c.args.v.now.s.now) in
    elim c.if-is_delivered.branch [
      | then-is_delivered w ↦
          let y = count_next_yes l.l f (passed (f l.l) (sym e ∙ w.if-is_delivered.true)) in
          (omega (arith, w.count-is, y, l.invariant.0), omega (arith, w.count-is, l.invariant.1))
      | else-is_delivered w ↦
          let y = count_next_no l.l f (failed (f l.l) (sym e ∙ w.if-is_delivered.false)) in
          (omega (arith, w.count-is, y, l.invariant.0), omega (arith, w.count-is, l.invariant.1))
    ]
