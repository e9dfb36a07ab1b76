-- `sheet::settled::is_settled` meets its contract: each link before the one that is looked at is settled.
use Prim.Native.Nat.{◌+◌}
use mathlib.Core.Path.{sym, ◌∙◌}
use native.Mathlib.Omega.{arith}
use borrow.Author.Count.{below_more}
use Rattle.session.specs.Table.{read}
use Rattle.session.specs.declared.Field.TheVariants.{Links}
use Rattle.rules.specs.Formula.{Formula.each}
use Rattle.rules.specs.FormulaLaws.{passed, failed, passes, fails}
use Rattle.sheet.specs.Settled.{link_settled, leads, settled-links}
use Rattle.sheet.proofs.settled.is_settled.Goals as goal

pub is_link_settled-requires : goal.is_link_settled-requires
is_link_settled-requires c =
    leads (read c.args.s.now) c.requires _ (omega (arith, c.get-links.ensures))

pub returns-then-not-is_link_settled : goal.returns-then-not-is_link_settled
returns-then-not-is_link_settled c =
    let s = read c.args.s.now in
    let l = c.loop-l.l in
    let here = failed (link_settled s l) (sym c.is_link_settled.ensures ∙ c.if-not-is_link_settled.true) in
    sym (fails (each (s Links 0 + 1) (link_settled s)) (λ f. here (f l (omega (arith, c.get-links.ensures)))))
    ∙ settled-links s c.requires

pub loop-l-preserved : goal.loop-l-preserved
loop-l-preserved c =
    let s = read c.args.s.now in
    let l = c.loop-l in
    below_more _ _ l.invariant
    (passed (link_settled s l.l) (sym c.is_link_settled.ensures ∙ c.if-not-is_link_settled.false))

pub returns-else-not-is_link_settled : goal.returns-else-not-is_link_settled
returns-else-not-is_link_settled c =
    let s = read c.args.s.now in
    let l = c.loop-l in
    let all = below_more _ _ l.invariant
    (passed (link_settled s l.l) (sym c.is_link_settled.ensures ∙ c.if-not-is_link_settled.false)) in
    sym (passes (each (s Links 0 + 1) (link_settled s)) (λ i h. all i (omega (arith, c.get-links.ensures))))
    ∙ settled-links s c.requires
