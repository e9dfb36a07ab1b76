-- `retiring::children::is_busy` meets its contract: without a child there is no descendant (`childless_idle`); else `is_busy_above`
-- decides.
use mathlib.Core.Path.{sym, ◌∙◌}
use Rattle.session.specs.Table.{read}
use Rattle.rules.specs.FormulaLaws.{failed, fails}
use Rattle.retiring.specs.Children.{childless_idle, no_child}
use Rattle.retiring.proofs.children.is_busy.Goals as goal

pub returns-else-has_child : goal.returns-else-has_child
returns-else-has_child c =
    let s = read c.args.s.now in
    let none = failed _ (sym c.has_child.ensures ∙ c.if-has_child.false) in
    c.if-has_child.false ∙ sym (fails _ (childless_idle s c.requires.0 c.args.a (no_child s c.requires.0 c.args.a none)))
