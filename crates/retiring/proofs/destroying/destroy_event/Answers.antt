-- `retiring::destroying::destroy_event` meets its contract: the state put and the links cut behind it (`wrote_next`) are
-- `destroy_event` (`destroy_event-cut`); the state leaves the links as they were (`after_retire`).
use mathlib.Core.Path.{◌≡◌}
use Rattle.session.specs.Table.{read}
use Rattle.session.specs.declared.Field.TheVariants.{EventState}
use Rattle.laws.specs.Puts.{wrote_next}
use Rattle.retiring.specs.Cutting.{retired, links_cut, after_retire, destroy_event-cut}
use Rattle.retiring.proofs.destroying.destroy_event.Goals as goal

pub cut_links-requires : goal.cut_links-requires
cut_links-requires c =
    let a = c.args in
    let w = c.set.ensures in
    let y = rw (← w.reading) at (after_retire (read a.s.now) a.e c.retired_state.result c.requires.1 c.requires.2) in
    y

pub returns : goal.returns
returns c =
    let a = c.args in
    let s = read a.s.now in
    let v : c.retired_state.result ≡ retired (s EventState a.e) = rw c.get-state.ensures at
    c.retired_state.ensures in
    rw (← destroy_event-cut s a.e, ← v) (wrote_next (λ c. links_cut c a.e) c.set.ensures c.cut_links.ensures)
