-- `engine::operations::task` meets its contract: the first check that fails, or what the effect makes.
use mathlib.Core.Path.{sym}
use Rattle.session.specs.Table.{read}
use Rattle.rules.specs.Checks.{task_checks}
use Rattle.rules.specs.Step.{task_rule}
use Rattle.laws.specs.Met.{all_met_lem}
use Rattle.engine.specs.Played.{played_err, played_accepted}
use Rattle.engine.proofs.operations.task.Goals as goal

pub returns-in_err-task_refusal : goal.returns-in_err-task_refusal
returns-in_err-task_refusal c = played_err task_rule _ _ _ _ c.in_err-task_refusal.ensures c.from_residual.ensures.1

pub task-requires : goal.task-requires
task-requires c = (c.requires, all_met_lem (task_checks (read c.args.s.now) c.args.caller c.args.tm c.args.n c.args.finish c.args.out) tt (sym c.in_ok-task_refusal.ensures))

pub returns : goal.returns
returns c = played_accepted task_rule _ _ _ _ (sym c.in_ok-task_refusal.ensures) c.task.ensures.answer c.task.ensures.wrote
