-- `number::judge` meets its contract: the sum is the value of the groups behind the bytes that are left.
use mathlib.Core.Bool.{true}
use mathlib.Core.Path.{◌≡◌, sym, ap, ◌∙◌}
use Prim.Native.Nat.{ℕ}
use native.Mathlib.Omega.{arith}
use borrow.Author.Rules.{rules}
use Rattle.std.specs.Prelude.{Ok}
use Rattle.number.specs.Number.{shortest}
use Rattle.number.specs.Decode.{shortest-one}
use Rattle.number.specs.NumberCases.{judged_long, judged-above, judged-value}
use Rattle.number.proofs.Steps.{summed_none, summed_more, summed_all, judged_early, shortest_yes, shortest_no}
use Rattle.number.proofs.judge.Goals as goal

pub returns-then-number-n-eq0 : goal.returns-then-number-n-eq0
returns-then-number-n-eq0 c =
    let a = c.args in
    sym (judged_long a.limit a.number.now a.next (shortest_no a.number.now (omega arith) c.if-number-n-eq0.true))

pub loop-byte-init : goal.loop-byte-init
loop-byte-init c = summed_none _ _ cc

pub returns-then-limit-v : goal.returns-then-limit-v
returns-then-limit-v c =
    let a = c.args in
    let l = c.loop-byte in
    sym (judged_early a.limit a.number.now _ _ _ l.v a.next c.in-Some.ensures.steps (omega arith) l.invariant)

pub loop-byte-preserved : goal.loop-byte-preserved
loop-byte-preserved c = summed_more _ _ _ _ _ _ c.in-Some.ensures.steps c.group.ensures c.loop-byte.invariant

pub returns-then-limit-v-2 : goal.returns-then-limit-v-2
returns-then-limit-v-2 c =
    let a = c.args in
    let s = summed_all _ _ _ c.in-None.ensures.steps.0 c.loop-byte.invariant in
    sym (judged-above a.limit a.number.now a.next (omega (arith, s)))

pub returns : goal.returns
returns c =
    let a = c.args in
    let s = summed_all _ _ _ c.in-None.ensures.steps.0 c.loop-byte.invariant in
    let short : shortest a.number.now ≡ true = search (rules, shortest_yes, shortest-one) in
    ap (λ (x : ℕ). Ok (x, a.next)) s ∙ sym (judged-value a.limit a.number.now a.next short (omega (arith, s)))
