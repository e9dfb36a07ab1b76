-- `text::bad_line` meets its contract: what the rest of the text gives from here is what the whole text gives.
use mathlib.Core.Path.{◌≡◌, sym, ◌∙◌, ap}
use native.Mathlib.Omega.{arith}
use Rattle.std.proofs.Common.{rules}
use lib.ListN.{get_or}
use Rattle.text.specs.Text.{is_bad, line_after}
use Rattle.text.specs.TextLaws.{bad_start, bad_here, bad_later, bad_none, line-more, line_same, not_bad}
use Rattle.text.specs.declared.Mode.TheVariants.{Bad}
use Rattle.text.proofs.bad_line.Goals as goal
use Rattle.text.proofs.bad_line.Goals.{then-b-eq10, else-b-eq10}

pub loop-b-init : goal.loop-b-init
loop-b-init c = (omega arith, omega arith, bad_start _)

pub returns-then-eq : goal.returns-then-eq
unfolding is_bad
returns-then-eq c =
    let l = c.loop-b in
    let then : c.next-mode.result ≡ Bad = search rules in
    let bad = ap is_bad (sym c.next-mode.ensures ∙ then) in
    let e = bad_here c.args.text.now l.mode l.b-index (omega arith) l.line bad in
    record { told = sym e ∙ l.invariant.2; from_one = omega (arith, e) }

pub loop-b-preserved : goal.loop-b-preserved
loop-b-preserved c =
    let l = c.loop-b in
    let text = c.args.text.now in
    let then = c.next-mode.ensures in
    let not : c.next-mode.result ≡ Bad → ⊥ = search rules in
    let good = ap is_bad (sym then) ∙ not_bad c.next-mode.result not in
    let line : c.if-b-eq10.line ≡ line_after l.line (get_or text l.b-index 0) =
    elim c.if-b-eq10.branch [
      | then-b-eq10 w ↦ w.line-is ∙ sym (line-more l.line _ w.if-b-eq10.true)
      | else-b-eq10 w ↦ w.line-is ∙ sym (line_same l.line _ w.if-b-eq10.false)
    ] in (
      elim c.if-b-eq10.branch [ then-b-eq10 w ↦ omega arith | else-b-eq10 w ↦ omega arith ],
      elim c.if-b-eq10.branch [ then-b-eq10 w ↦ omega arith | else-b-eq10 w ↦ omega arith ],
      rw (then, line) (sym (bad_later text l.mode l.b-index (omega arith) l.line good)) ∙ l.invariant.2,
    )

pub returns : goal.returns
returns c =
    let l = c.loop-b in
    record { told = sym (bad_none _ l.mode l.b-index (omega arith) l.line) ∙ l.invariant.2; from_one = tt }
