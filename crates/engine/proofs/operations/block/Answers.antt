-- `engine::operations::block` meets its contract: the first check that fails, or what the effect makes.
use mathlib.Core.Path.{sym}
use Rattle.session.specs.Table.{read}
use Rattle.rules.specs.Checks.{block_checks}
use Rattle.rules.specs.Step.{block_rule}
use Rattle.laws.specs.Met.{all_met_lem}
use Rattle.engine.specs.Played.{played_err, played_accepted}
use Rattle.engine.proofs.operations.block.Goals as goal

pub returns-in_err-block_refusal : goal.returns-in_err-block_refusal
returns-in_err-block_refusal c = played_err block_rule _ _ _ _ c.in_err-block_refusal.ensures c.from_residual.ensures.1

pub block-requires : goal.block-requires
block-requires c = (c.requires, all_met_lem (block_checks (read c.args.s.now) c.args.caller c.args.hold) tt (sym c.in_ok-block_refusal.ensures))

pub returns : goal.returns
returns c = played_accepted block_rule _ _ _ _ (sym c.in_ok-block_refusal.ensures) c.block.ensures.answer c.block.ensures.wrote
