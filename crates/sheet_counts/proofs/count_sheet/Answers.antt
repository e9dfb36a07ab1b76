-- `sheet_counts::count_sheet` meets its contract: a kept session is tidy, so that it is renewed, and what is left in the first words is
-- left in the memory (`wrote_first`).
use native.Mathlib.Omega.{arith}
use Rattle.session.specs.First.{read_first, wrote_first}
use Rattle.session.specs.TableLaws.{wrote_then}
use Rattle.laws.specs.ByName.{kept-sound}
use Rattle.laws.specs.SoundTidy.{sound_tidy}
use Rattle.sheet_counts.proofs.count_sheet.Goals as goal

pub renew-requires : goal.renew-requires
renew-requires c =
    (omega arith, sound_tidy _ (kept-sound _ (rw (c.in-Some.ensures.cases.same, read_first c.args.memory.now) c.requires.1)))

pub returns : goal.returns
returns c =
    let ws = c.args.memory.now in
    let w = wrote_then c.renew.ensures c.count_on_fresh.ensures.session in
    record { counts = c.count_on_fresh.ensures.counts; session = wrote_first ws _ _ c.requires.0 (rw c.in-Some.ensures.cases.same at w) }
