-- `checks::task_refusal` meets its contract: the tests of its checks in turn, of which 7 is three.
use Rattle.checks.specs.RefusalLaws.{Left, skip, stops}
use Rattle.reading.specs.TestLaws.{no, yes}
use Rattle.rules.specs.Checks.{task_checks}
use Rattle.session.specs.Table.{read}
use mathlib.Core.Path.{◌∙◌}
use Rattle.checks.proofs.task_refusal.Goals as goal

pub returns-then-not-is_made : goal.returns-then-not-is_made
returns-then-not-is_made c =
    let past_7 : Left (task_checks (read c.args.s.now) c.args.caller c.args.template c.args.n c.args.finish c.args.output) 7 =
    skip _ _ _ (c.if-n-gt-UNKNOWN_COUNT.false, (c.if-finish-gt1.false, c.if-output-gt1.false)) in
    let past_8 : Left (task_checks (read c.args.s.now) c.args.caller c.args.template c.args.n c.args.finish c.args.output) 8 =
    past_7 ∙ skip _ _ _ (yes _ c.is_running.ensures c.if-not-is_running.false) in
    stops _ _ _ past_8 (no _ c.is_made.ensures c.if-not-is_made.true)
