-- `engine::operations::destroy` meets its contract: the first check that fails, or what the effect makes.
use mathlib.Core.Path.{sym}
use native.Mathlib.Omega.{arith}
use Rattle.session.specs.Table.{read}
use Rattle.rules.specs.Checks.{destroy_checks}
use Rattle.rules.specs.Step.{destroy_rule}
use Rattle.laws.specs.Met.{all_met_lem}
use Rattle.engine.specs.Played.{played_err, played_accepted}
use Rattle.engine.proofs.operations.destroy.Goals as goal

pub returns-in_err-destroy_refusal : goal.returns-in_err-destroy_refusal
returns-in_err-destroy_refusal c = played_err destroy_rule _ _ _ _ c.in_err-destroy_refusal.ensures c.from_residual.ensures.1

pub destroy-requires : goal.destroy-requires
destroy-requires c = (omega arith, c.requires, all_met_lem (destroy_checks (read c.args.s.now) c.args.caller c.args.h) tt (sym c.in_ok-destroy_refusal.ensures))

pub returns : goal.returns
returns c = played_accepted destroy_rule _ _ _ _ (sym c.in_ok-destroy_refusal.ensures) c.destroy.ensures.answer c.destroy.ensures.wrote
