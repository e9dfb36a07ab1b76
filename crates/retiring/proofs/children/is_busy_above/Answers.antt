-- `retiring::children::is_busy_above` meets its contract: a live child decides (`live_child`), and else `has_live_below`.
use mathlib.Core.Path.{sym, ◌∙◌}
use Rattle.session.specs.Table.{read}
use Rattle.rules.specs.FormulaLaws.{passed, passes}
use Rattle.retiring.specs.Children.{live_child}
use Rattle.retiring.proofs.children.is_busy_above.Goals as goal

pub returns-then-has_child : goal.returns-then-has_child
returns-then-has_child c =
    let child = passed _ (sym c.has_child.ensures ∙ c.if-has_child.true) in
    c.if-has_child.true ∙ sym (passes _ (live_child (read c.args.s.now) c.requires.0 c.args.a c.requires.1 child))
