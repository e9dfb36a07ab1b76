-- `number::reader::feed` meets its contract. Where the group fits, neither the product nor the sum is above the limit.
use mathlib.Core.Path.{sym, ap, ◌∙◌}
use native.Mathlib.Omega.{arith}
use Rattle.number.specs.Fed.{spoilt}
use Rattle.number.specs.FedCases.{fits-only}
use Rattle.number.specs.FedCases.{fed_bad, fed_on, onward_bad, onward_heavy, onward-next}
use Rattle.number.specs.declared.reader.Fed.TheVariants.{More}
use Rattle.number.proofs.reader.feed.Goals as goal

pub returns-then-byte-lt128 : goal.returns-then-byte-lt128
returns-then-byte-lt128 c =
    let f = sym c.group_fits.ensures ∙ c.if-not-group_fits.true in
    sym (fed_bad _ _ _ c.if-byte-lt128.true f)

pub returns-then-not-group_fits : goal.returns-then-not-group_fits
unfolding spoilt
returns-then-not-group_fits c =
    let f = sym c.group_fits.ensures ∙ c.if-not-group_fits.true in
    sym (fed_on _ _ _ c.if-byte-lt128.false ∙ ap More (onward_bad _ _ _ f))

pub overflow_mul-value : goal.overflow_mul-value
overflow_mul-value c =
    let a = c.args in
    let f = sym c.group_fits.ensures ∙ c.if-not-group_fits.false in
    rw c.group.ensures (omega (arith, fits-only a.limit a.reader a.byte f))

pub overflow_add-value : goal.overflow_add-value
overflow_add-value c =
    let a = c.args in
    let f = sym c.group_fits.ensures ∙ c.if-not-group_fits.false in
    rw c.group.ensures (omega (arith, fits-only a.limit a.reader a.byte f))

pub returns-then-limit-weight : goal.returns-then-limit-weight
unfolding spoilt
returns-then-limit-weight c =
    sym (fed_on _ _ _ c.if-byte-lt128-2.false ∙ ap More (onward_heavy _ _ _ (omega arith)))

pub returns : goal.returns
returns c =
    let a = c.args in
    let f = sym c.group_fits.ensures ∙ c.if-not-group_fits.false in
    rw c.group.ensures
    (sym (fed_on a.limit a.reader a.byte c.if-byte-lt128-2.false ∙ ap More (onward-next _ _ _ f (omega arith))))
