-- `class_words::words_of` meets its contract: word by word.
use mathlib.Core.Path.{refl, ap, ◌∙◌}
use mir.Val.{bool_byte}
use Rattle.class_words.specs.Words.{words_of, held_told, sheet_told}
use Rattle.class_words.proofs.words_of.Goals as goal

pub returns : goal.returns
unfolding words_of
returns c =
    let pending = c.args.report.pending in
    rw (
      c.code_of.ensures,
      c.from.ensures ∙ ap bool_byte c.is_some.ensures ∙ held_told pending,
      c.unwrap_or-sheet.ensures ∙ sheet_told pending,
    )
    refl
