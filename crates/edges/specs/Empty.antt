-- P7 "empty sheet: `0 3 0`, then `1 0 0`": its first number is cut short, and a fresh session has one live task and nothing else.
use Rattle.std.specs.Prelude.{[], ◌∷◌, ◌++◌, ◌≡◌, refl}
use Rattle.std.proofs.Common.{ap, ◌∙◌, arith}
use Rattle.number.specs.Number.{more, value, last_byte, shortest, judged, read_first, read_at, refusal_of, value_of}
use Rattle.decimal.specs.Decimal.{decimal, decimal_in}
use Rattle.lines.specs.Line.{line, marked}
use Rattle.session.specs.Table.{put}
use Rattle.rules.specs.Formula.{test, count}
use Rattle.rules.specs.Checks.{refusal}
use Rattle.rules.specs.Effects.{new}
use Rattle.rules.specs.Step.{fresh_session}
use Rattle.rules.specs.LastLine.{live_tasks, undelivered_links}
use Rattle.record.specs.Sheet.{head_refusal}
use Rattle.laws.specs.FreshKept.{fresh_kept}
use Rattle.laws.specs.ByName.{kept-sound}
use Rattle.sheet.specs.Run.{last_line}
use Rattle.sheet.specs.SheetPrinted.{Printed, output}
use Rattle.sheet.specs.PrintLaws.{print_head}

cut_short : head_refusal [] ≡ 3
unfolding refusal test refusal_of value_of read_at read_first judged shortest last_byte value more
cut_short = refl

pub empty_sheet : output [] ≡ 48 ∷ 32 ∷ 51 ∷ 32 ∷ 48 ∷ 10 ∷ 49 ∷ 32 ∷ 48 ∷ 32 ∷ 48 ∷ 10 ∷ []
unfolding output last_line line marked decimal decimal_in live_tasks undelivered_links count test put new fresh_session
empty_sheet =
    let e = print_head [] fresh_session (kept-sound fresh_session fresh_kept) (λ z. let c = cut_short in omega arith) in
    ap (λ (p : Printed). p.text ++ last_line p.session) e ∙ rw cut_short
