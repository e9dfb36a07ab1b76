-- `record::read_record` meets its contract, by the cases of the code.
use mathlib.Core.Path.{◌≡◌, sym, ◌∙◌}
use borrow.Author.Rules.{rules}
use Rattle.std.specs.Prelude.{Err}
use Rattle.rules.specs.Arity.{fields_few}
use Rattle.rules.specs.Refusals.{number_some}
use Rattle.rules.specs.declared.refusals.Refusal.TheVariants.{UnknownCode}
use Rattle.record.specs.RecordCases.{arity_known, arity_unknown, record_unread, record_unknown, record_known}
use Rattle.record.proofs.read_record.Goals as goal

pub returns-in_err-code : goal.returns-in_err-code
returns-in_err-code c =
    let told : c.from_residual.result ≡ Err c.in_err-code.field-0.0 = search rules in
    rw told (sym (record_unread _ _ _ _ (number_some _) c.in_err-code.ensures))

pub returns-in_err-n : goal.returns-in_err-n
returns-in_err-n c =
    let none = c.in_err-n.ensures.ok_part in
    let told : c.from_residual-in_err-n.result ≡ Err UnknownCode = search rules in
    rw told (sym (record_unknown _ _ _ _ _ c.in_ok-code.ensures (arity_unknown _ _ (sym c.arity_of.ensures ∙ none))))

pub read_fields-requires : goal.read_fields-requires
read_fields-requires c =
    let known = arity_known _ _ _ (sym c.arity_of.ensures ∙ c.in_ok-n.ensures.ok_part) in
    rw known.1 (fields_few _ known.0.0)

pub returns : goal.returns
returns c =
    let known = arity_known _ _ _ (sym c.arity_of.ensures ∙ c.in_ok-n.ensures.ok_part) in
    c.read_fields.ensures ∙ rw known.1 (sym (record_known _ _ _ _ _ c.in_ok-code.ensures known.0))
