-- `ancestors::mark_live` meets its contract: a live task adds those above it (`shows_more`), another adds none (`shows_skip`).
use mathlib.Core.Path.{sym, ◌∙◌}
use Rattle.session.specs.Table.{read}
use Rattle.rules.specs.Formula.{Holds}
use Rattle.rules.specs.FormulaLaws.{passed, failed}
use Rattle.rules.specs.Reading.{is_live}
use Rattle.ancestors.specs.Above.{shows_closed, shows_more, shows_skip}
use Rattle.ancestors.proofs.mark_live.Goals as goal

pub mark_above-requires : goal.mark_above-requires
mark_above-requires c =
    let p = c.requires in
    let s = read c.args.s.now in
    (p.0, p.1, p.2, shows_closed s p.1 c.args.marks.now c.args.h p.0 p.2 p.3)

pub returns-then-is_live : goal.returns-then-is_live
returns-then-is_live c =
    let s = read c.args.s.now in
    let live : Holds (is_live s c.args.h) =
    passed _ (sym c.is_live.ensures ∙ c.if-is_live.true) in
    shows_more s c.requires.1 c.args.marks.now _ c.args.h live c.requires.3 c.mark_above.ensures

pub returns-else-is_live : goal.returns-else-is_live
returns-else-is_live c =
    let s = read c.args.s.now in
    shows_skip s c.args.marks.now c.args.h (failed _ (sym c.is_live.ensures ∙ c.if-is_live.false)) c.requires.3
