-- `sound::counted::are_counted` meets its contract: with no counted event there is nothing to ask (`right`); else the rows, from zeros
-- (`row_zero`), have what `is_counted` wants.
use mathlib.Core.Path.{refl}
use Rattle.session.specs.Names.{object_places}
use Rattle.reading.specs.TestLaws.{right, no}
use Rattle.sound.specs.Row.{row_zero}
use Rattle.sound.proofs.counted.are_counted.Goals as goal

pub returns-then-not-is_any_counted : goal.returns-then-not-is_any_counted
returns-then-not-is_any_counted c = right _ (λ e b x. absurd (no _ c.is_any_counted.ensures c.if-not-is_any_counted.true (e, b, x)))

pub note_sources-requires : goal.note_sources-requires
note_sources-requires c =
    let zeros = row_zero object_places (λ e. 0) (λ e b. refl) in
    (zeros, zeros)
