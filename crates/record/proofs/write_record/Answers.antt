-- `record::write_record` meets its contract, by the first check that fails.
use mathlib.Core.Path.{◌≡◌, ap, sym, ◌∙◌}
use Prim.Native.Nat.{◌≤◌}
use native.Mathlib.Omega.{arith}
use lib.ListN.{length}
use borrow.Author.Rules.{rules}
use Rattle.std.specs.Prelude.{Err}
use Rattle.rules.specs.Arity.{is_edition, fields_few}
use Rattle.rules.specs.FormulaLaws.{passed, failed}
use Rattle.rules.specs.declared.refusals.Refusal.TheVariants.{UnknownCode}
use Rattle.record.specs.RecordCases.{arity_known, arity_unknown}
use Rattle.record.proofs.WriteSteps.{no_room, no_edition, code-above, code-unknown, field_above, bytes_fit, written}
use Rattle.record.proofs.WriteSteps.{front_within, within_front, front_bytes}
use Rattle.record.proofs.write_record.Goals as goal

pub returns-then-saturating_sub-lt-RECORD_ROOM : goal.returns-then-saturating_sub-lt-RECORD_ROOM
returns-then-saturating_sub-lt-RECORD_ROOM c =
    let a = c.args in
    let both = no_room a.edition a.op a.out.now a.used (λ h. omega arith) in
    record { answer = both.0; bytes = both.1 }

pub returns-then-not-is_edition : goal.returns-then-not-is_edition
returns-then-not-is_edition c =
    let a = c.args in
    let both =
    no_edition a.edition a.op a.out.now a.used (omega arith)
    (failed _ (sym c.is_edition.ensures ∙ c.if-not-is_edition.true)) in
    record { answer = both.0; bytes = both.1 }

pub returns-then-op-gt-LIMIT_32 : goal.returns-then-op-gt-LIMIT_32
returns-then-op-gt-LIMIT_32 c =
    let told = passed (is_edition c.args.edition) (sym c.is_edition.ensures ∙ c.if-not-is_edition.false) in
    let a = c.args in
    let both = code-above a.edition a.op a.out.now a.used (omega arith) told c.if-op-gt-LIMIT_32.true in
    record { answer = both.0; bytes = both.1 }

pub returns-in_err-n : goal.returns-in_err-n
returns-in_err-n c =
    let edition = passed (is_edition c.args.edition) (sym c.is_edition.ensures ∙ c.if-not-is_edition.false) in
    let a = c.args in
    let none = c.in_err-n.ensures.ok_part in
    let told : c.from_residual.result ≡ Err UnknownCode = search rules in
    let both =
    code-unknown a.edition a.op a.out.now a.used (omega arith) edition (omega arith)
    (arity_unknown _ _ (sym c.arity_of.ensures ∙ none)) in
    record { answer = rw told both.0; bytes = both.1 }

pub shared_ref_as_front-fields : goal.shared_ref_as_front-fields
shared_ref_as_front-fields c =
    let known = arity_known _ _ _ (sym c.arity_of.ensures ∙ c.in_ok-n.ensures.ok_part) in
    rw known.1 (fields_few _ known.0.0)

pub returns-then-not-all_within : goal.returns-then-not-all_within
returns-then-not-all_within c =
    let told = passed (is_edition c.args.edition) (sym c.is_edition.ensures ∙ c.if-not-is_edition.false) in
    let known = arity_known _ _ _ (sym c.arity_of.ensures ∙ c.in_ok-n.ensures.ok_part) in
    let a = c.args in
    let few : c.in_ok-n.n ≤ length a.op.fields = omega (arith, fields_few _ known.0.0) in
    let both =
    field_above a.edition a.op a.out.now a.used (omega arith) told (omega arith) known.0 _ known.1
    (λ w. failed _ (sym c.all_within.ensures ∙ c.if-not-all_within.true) (within_front c.in_ok-n.n a.op.fields few w)) in
    record { answer = both.0; bytes = both.1 }

pub write_numbers-requires : goal.write_numbers-requires
write_numbers-requires c =
    let told = passed (is_edition c.args.edition) (sym c.is_edition.ensures ∙ c.if-not-is_edition.false) in
    let known = arity_known _ _ _ (sym c.arity_of.ensures ∙ c.in_ok-n.ensures.ok_part) in
    let a = c.args in
    let few : c.in_ok-n.n ≤ length a.op.fields = omega (arith, fields_few _ known.0.0) in
    let within = front_within c.in_ok-n.n a.op.fields few (passed _ (sym c.all_within.ensures ∙ c.if-not-all_within.false)) in
    let fit = bytes_fit a.edition a.op a.out.now a.used (omega arith) told (omega arith) known.0 _ known.1 within in
    omega (arith, fit, ap length (front_bytes c.in_ok-n.n a.op.fields few a.op.code))

pub returns : goal.returns
returns c =
    let told = passed (is_edition c.args.edition) (sym c.is_edition.ensures ∙ c.if-not-is_edition.false) in
    let known = arity_known _ _ _ (sym c.arity_of.ensures ∙ c.in_ok-n.ensures.ok_part) in
    let a = c.args in
    let few : c.in_ok-n.n ≤ length a.op.fields = omega (arith, fields_few _ known.0.0) in
    let within = front_within c.in_ok-n.n a.op.fields few (passed _ (sym c.all_within.ensures ∙ c.if-not-all_within.false)) in
    let same = front_bytes c.in_ok-n.n a.op.fields few a.op.code in
    let w = c.write_numbers.ensures in
    let both =
    written a.edition a.op a.out.now a.used (omega arith) told (omega arith) known.0 _ known.1 within _ _
    (rw same at w.place) (rw same at w.bytes) in
    record { answer = both.0; bytes = both.1 }
