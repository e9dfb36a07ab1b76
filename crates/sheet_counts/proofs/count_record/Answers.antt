-- `sheet_counts::count_record` meets its contract: a record is refused as it is read, or its operation is run.
use mathlib.Core.Path.{ap, sym, ◌∙◌}
use native.Mathlib.Omega.{arith}
use Rattle.rules.specs.Refusals.{number_some}
use Rattle.record.specs.RecordReading.{record_told}
use Rattle.laws.specs.ByName.{kept-sound}
use Rattle.sheet_counts.specs.CountingRun.{goes_stopped, goes_on}
use Rattle.sheet_counts.proofs.count_record.Goals as goal

pub count_operation-requires : goal.count_operation-requires
count_operation-requires c =
    kept-sound _ c.requires.0

pub returns-in-Ok : goal.returns-in-Ok
returns-in-Ok c =
    let e = sym (ap record_told c.in-Ok.is) ∙ (rw c.requires.2 at c.read_record.ensures) in
    let operation = ap (λ r. r.operation) e in
    let w = c.count_operation.ensures in
    rw (w.counts, ap (λ r. r.next) e, operation) (goes_on c.args.sheet.now c.args.at c.args.memory.now c.requires.1 c.requires.0 _
    (sym (ap (λ r. r.refused) e)) (rw operation at w.session))

pub returns-in-Err : goal.returns-in-Err
returns-in-Err c =
    let e = sym (ap record_told c.in-Err.is) ∙ (rw c.requires.2 at c.read_record.ensures) in
    goes_stopped c.args.sheet.now c.args.at c.args.memory.now c.requires.1 c.requires.0
    (λ z. omega (arith, ap (λ r. r.refused) e, z, number_some c.in-Err.field-0))
