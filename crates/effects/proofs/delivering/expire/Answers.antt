-- `effects::delivering::expire` meets its contract: what is read is in range, by the checks (`deliver-ready`); by what `serves_last`
-- answers the source's state is written or nothing is (`expire_yes`, `expire_no`).
use mathlib.Core.Path.{sym, ◌∙◌}
use native.Mathlib.Omega.{arith}
use Rattle.session.specs.Table.{read}
use Rattle.session.specs.TableLaws.{wrote_none}
use Rattle.rules.specs.FormulaLaws.{passed, failed}
use Rattle.rules.specs.Reading.{serves_last}
use Rattle.effects.specs.Ready.{deliver-ready}
use Rattle.effects.specs.Delivering.{expire_yes, expire_no}
use Rattle.effects.proofs.delivering.expire.Goals as goal

pub serves_last-requires : goal.serves_last-requires
serves_last-requires c =
    let ready = deliver-ready _ _ c.requires.0 c.requires.1 in
    omega (arith, ready.links)

pub get-source-requires : goal.get-source-requires
get-source-requires c =
    let ready = deliver-ready _ _ c.requires.0 c.requires.1 in
    omega (arith, ready.link, ready.links)

pub set-requires : goal.set-requires
set-requires c =
    let ready = deliver-ready _ _ c.requires.0 c.requires.1 in
    omega (arith, c.get-source.ensures, ready.source)

pub returns-then-serves_last : goal.returns-then-serves_last
returns-then-serves_last c =
    let a = c.args in
    let last = passed (serves_last (read a.s.now) a.l) (sym c.serves_last.ensures ∙ c.if-serves_last.true) in
    let e = expire_yes (read a.s.now) a.l last in
    rw (e, ← c.get-source.ensures) c.set.ensures

pub returns-else-serves_last : goal.returns-else-serves_last
returns-else-serves_last c =
    let a = c.args in
    let more = failed (serves_last (read a.s.now) a.l) (sym c.serves_last.ensures ∙ c.if-serves_last.false) in
    rw (expire_no (read a.s.now) a.l more) (wrote_none _)
