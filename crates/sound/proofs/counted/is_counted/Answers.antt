-- `sound::counted::is_counted` meets its contract: both rows have the counts of links (`entry`), and three numbers are read (`simp` with
-- Bools).
use mathlib.Core.Path.{◌≡◌, ◌∙◌}
use native.Mathlib.Omega.{arith}
use Rattle.session.specs.Table.{read}
use Rattle.rules.specs.Reading.{links_from, delivered_from}
use Rattle.sound.specs.Sources.{is_made_by, served_by}
use Rattle.sound.proofs.Bools.{bools}
use Rattle.sound.proofs.counted.is_counted.Goals as goal

pub returns : goal.returns
unfolding is_made_by served_by
returns c =
    let s = read c.args.s.now in
    let e = c.args.e in
    let made : c.from-made.result ≡ links_from s e =
    c.from-made.ensures ∙ c.requires.noted.made.entry e (omega arith) in
    let served : c.from-served.result ≡ delivered_from s e = c.from-served.ensures ∙ c.requires.noted.served.entry e (omega arith) in
    simp (
      made,
      served,
      c.of_object.ensures,
      c.of_object-gone.ensures,
      c.of_object-count.ensures,
      bools,
    )
