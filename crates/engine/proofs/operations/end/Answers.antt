-- `engine::operations::end` meets its contract: the first check that fails, or what the effect makes.
use mathlib.Core.Path.{sym}
use native.Mathlib.Omega.{arith}
use Rattle.session.specs.Table.{read}
use Rattle.rules.specs.Checks.{end_checks}
use Rattle.rules.specs.Step.{end_rule}
use Rattle.laws.specs.Met.{all_met_lem}
use Rattle.engine.specs.Played.{played_err, played_accepted}
use Rattle.engine.proofs.operations.end.Goals as goal

pub returns-in_err-end_refusal : goal.returns-in_err-end_refusal
returns-in_err-end_refusal c = played_err end_rule _ _ _ _ c.in_err-end_refusal.ensures c.from_residual.ensures.1

pub end-requires : goal.end-requires
end-requires c = (omega arith, c.requires, all_met_lem (end_checks (read c.args.s.now) c.args.t c.args.b) tt (sym c.in_ok-end_refusal.ensures))

pub returns : goal.returns
returns c = played_accepted end_rule _ _ _ _ (sym c.in_ok-end_refusal.ensures) c.end.ensures.answer c.end.ensures.wrote
