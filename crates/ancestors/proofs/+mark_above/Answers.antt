-- `ancestors::mark_above` meets its contract, by induction on the handle: creators are below, and what is above a mark is marked.
use Prim.Native.Nat.{◌<◌, ◌≤◌}
use mathlib.Core.Path.{◌≡◌, sym, ◌∙◌}
use native.Mathlib.Omega.{arith}
use lib.ListN.{length-set}
use Rattle.session.specs.Table.{read}
use Rattle.session.specs.declared.Field.TheVariants.{TaskCreator}
use Rattle.ancestors.specs.Above.{above_none, above-met, above-climb, closed-climb}
use Rattle.ancestors.proofs.+mark_above.Goals as goal

pub returns-then-c-eq0 : goal.returns-then-c-eq0
returns-then-c-eq0 t c =
    let p = c.requires in
    let s = read c.args.s.now in
    let h = c.args.h in
    let e : c.get-c.result ≡ s TaskCreator h = c.get-c.ensures in
    above_none s p.1 c.args.marks.now h (sym e ∙ c.if-c-eq0.true)

pub returns-then-marks-c-eq1 : goal.returns-then-marks-c-eq1
returns-then-marks-c-eq1 t c =
    let p = c.requires in
    let s = read c.args.s.now in
    let h = c.args.h in
    let e : c.get-c.result ≡ s TaskCreator h = c.get-c.ensures in
    let some : 1 ≤ s TaskCreator h = omega (arith, e, c.if-c-eq0.false) in
    above-met s p.1 c.args.marks.now h p.0 p.2 p.3 some (rw e at c.if-marks-c-eq1.true)

pub mark_above-requires : goal.mark_above-requires
mark_above-requires t c =
    let p = c.requires in
    let s = read c.args.s.now in
    let h = c.args.h in
    let e : c.get-c.result ≡ s TaskCreator h = c.get-c.ensures in
    let some : 1 ≤ s TaskCreator h = omega (arith, e, c.if-c-eq0.false) in
    let below : s TaskCreator h < h = p.1 h p.2 some in
    let m = c.args.marks.now in
    let q : h ≡ t = c.decreases in
    rw e (
      omega (arith, below, q),
      (
        p.0,
        p.1,
        omega (arith, below, p.2),
        closed-climb s p.1 m h p.0 p.2 (omega arith) p.3 some,
      ),
    )

pub returns : goal.returns
returns t c =
    let p = c.requires in
    let s = read c.args.s.now in
    let h = c.args.h in
    let e : c.get-c.result ≡ s TaskCreator h = c.get-c.ensures in
    let some : 1 ≤ s TaskCreator h = omega (arith, e, c.if-c-eq0.false) in
    above-climb s p.1 c.args.marks.now c.mark_above.new.marks h p.0 p.2 (omega arith) some
    (simp length-set) (rw e at c.mark_above.ensures)
