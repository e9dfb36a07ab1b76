-- `number::reader::group_fits` meets its contract: weight 0 (`fits-spoilt`), a value above the limit, or the quotient.
use mathlib.Core.Path.{sym}
use native.Mathlib.Omega.{arith}
use Rattle.number.specs.FedCases.{fits-spoilt, fits-above, fits_quotient}
use Rattle.number.proofs.reader.group_fits.Goals as goal

pub returns-then-weight-eq0 : goal.returns-then-weight-eq0
returns-then-weight-eq0 c = sym (fits-spoilt _ _ _ c.if-weight-eq0.true)

pub returns-then-limit-value : goal.returns-then-limit-value
returns-then-limit-value c = sym (fits-above _ _ _ (omega arith))

pub returns : goal.returns
returns c =
    let a = c.args in
    rw c.group.ensures (fits_quotient a.limit a.reader a.byte (omega arith) (omega arith))
