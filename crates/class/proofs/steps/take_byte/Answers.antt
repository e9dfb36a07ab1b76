-- `class::steps::take_byte` meets its contract: by what feeding the byte gives.
use mathlib.Core.Path.{sym, ◌∙◌}
use native.Mathlib.Omega.{arith}
use Rattle.class.specs.Steps.{numbered}
use Rattle.class.specs.Stepped.{byte_none, byte_some}
use Rattle.class.proofs.steps.take_byte.Goals as goal

pub returns-in_default : goal.returns-in_default
returns-in_default c =
    let a = c.args in
    c.stopped.ensures ∙ byte_none a.report a.report.stage a.bytes.now (omega arith)

pub returns-in-More : goal.returns-in-More
unfolding numbered
returns-in-More c =
    let a = c.args in
    let f = sym c.in-More.is ∙ c.feed.ensures in
    c.at_stage.ensures ∙ byte_some a.report a.report.stage a.bytes.now _ (omega arith) f

pub returns-in-Whole : goal.returns-in-Whole
unfolding numbered
returns-in-Whole c =
    let a = c.args in
    let f = sym c.in-Whole.is ∙ c.feed.ensures in
    c.with_value.ensures ∙ byte_some a.report a.report.stage a.bytes.now _ (omega arith) f

pub returns-in-Bad : goal.returns-in-Bad
unfolding numbered
returns-in-Bad c =
    let a = c.args in
    let f = sym c.in-Bad.is ∙ c.feed.ensures in
    c.stopped-in-Bad.ensures ∙ byte_some a.report a.report.stage a.bytes.now _ (omega arith) f
