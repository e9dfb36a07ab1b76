-- `sheet_counts::count_on_fresh` meets its contract: one refused answer where the first number is refused, and else the records.
use mathlib.Core.Path.{ap, sym, ◌∙◌}
use Rattle.record.specs.RecordReading.{place_told}
use Rattle.sheet_counts.specs.FreshSheet.{fresh_keeps, whole-refused, whole-behind}
use Rattle.sheet_counts.proofs.count_on_fresh.Goals as goal

pub count_records-requires : goal.count_records-requires
count_records-requires c =
    fresh_keeps _ c.requires

pub returns-in-Ok : goal.returns-in-Ok
returns-in-Ok c =
    let x = whole-behind _ _ c.requires _ (sym c.read_head.ensures ∙ ap place_told c.in-Ok.is) in
    record { counts = c.count_records.ensures.counts ∙ x.0; session = rw (← x.1) c.count_records.ensures.session }

pub returns-in-Err : goal.returns-in-Err
returns-in-Err c =
    let x = whole-refused _ _ c.requires _ (sym c.read_head.ensures ∙ ap place_told c.in-Err.is) in
    record { counts = c.with_dropped.ensures ∙ x.0; session = x.1 }
