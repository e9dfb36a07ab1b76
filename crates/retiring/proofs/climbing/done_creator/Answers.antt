-- `retiring::climbing::done_creator` meets its contract: without a creator there is none that is done (`creator_none`), a live one is none
-- (`live_creator_none`), any other is itself (`creator-done`); that it is made bounds the place read (`creator-made`).
use mathlib.Core.Path.{sym, ap, ◌∙◌}
use native.Mathlib.Omega.{arith}
use Rattle.session.specs.Table.{read}
use Rattle.retiring.specs.Climb.{handle, handle_some, creator-made, creator-done, creator_none}
use Rattle.retiring.proofs.climbing.done_creator.Goals as goal

pub returns-then-c-eq0 : goal.returns-then-c-eq0
returns-then-c-eq0 c = ap handle (sym (creator_none _ _ (sym c.get-c.ensures ∙ c.if-c-eq0.true)))

pub get-requires : goal.get-requires
get-requires c =
    let p = c.requires in
    omega (arith, c.get-c.ensures, creator-made (read c.args.s.now) p.0 c.args.h p.1, p.0.frame.few)

pub returns : goal.returns
returns c =
    let e = c.get-c.ensures in
    let state = rw e at c.get.ensures in
    sym (handle_some _ c.if-c-eq0.false) ∙ ap handle (e ∙ sym (creator-done _ _ (λ l. omega (arith, state))))
