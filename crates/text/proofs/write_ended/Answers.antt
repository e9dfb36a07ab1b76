-- `text::write_ended` meets its contract: the value of a word that does not go on is written, and else nothing.
use mathlib.Core.Bool.{true, false}
use mathlib.Core.Path.{◌≡◌, ap, ◌∙◌}
use native.Mathlib.Omega.{arith}
use lib.ListN.{length}
use Rattle.text.specs.Text.{is_word, ended, encode_all}
use Rattle.text.specs.TextLaws.{put_none, encode_all-one, ended_on, ended_word, ended_none, not_word}
use Rattle.text.specs.declared.Mode.{Mode}
use Rattle.text.proofs.write_ended.Goals as goal
use Rattle.text.proofs.write_ended.Goals.{in-Word-matches, in_default-matches}

pub write_number-requires : goal.write_number-requires
write_number-requires c =
    let over : is_word c.args.then ≡ false =
    elim c.match-matches.branch [ in-Word-matches w ↦ cc | in_default-matches w ↦ not_word _ w.in_default-matches.not-Word ] in
    let e = ap encode_all (ap (λ (m : Mode). ended m c.args.then) c.in-Word.is ∙ ended_word _ c.args.then over) ∙ encode_all-one c.in-Word.v in
    omega (arith, c.requires, ap length e)

pub returns-in_default : goal.returns-in_default
returns-in_default c =
    let a = c.args in
    let both = put_none (ended a.mode a.then) (ended_none a.mode a.then c.in_default.not-Word) a.out.now a.used in
    record { answer = both.0; bytes = both.1 }

pub returns-then-matches : goal.returns-then-matches
unfolding is_word
returns-then-matches c =
    let a = c.args in
    let on : is_word a.then ≡ true =
    elim c.match-matches.branch [ in-Word-matches w ↦ ap is_word w.in-Word-matches.is | in_default-matches w ↦ cc ] in
    let both =
    put_none (ended a.mode a.then) (ap (λ (m : Mode). ended m a.then) c.in-Word.is ∙ ended_on _ a.then on) a.out.now a.used in
    record { answer = both.0; bytes = both.1 }

pub returns : goal.returns
returns c =
    let a = c.args in
    let over : is_word a.then ≡ false =
    elim c.match-matches.branch [ in-Word-matches w ↦ cc | in_default-matches w ↦ not_word _ w.in_default-matches.not-Word ] in
    let e =
    ap encode_all (ap (λ (m : Mode). ended m a.then) c.in-Word.is ∙ ended_word _ a.then over) ∙ encode_all-one c.in-Word.v in
    let w = c.write_number.ensures in
    rw e record { answer = w.answer; bytes = w.bytes }
