-- `engine::operations::counted` meets its contract: the first check that fails, or what the effect makes.
use mathlib.Core.Path.{sym}
use Rattle.session.specs.Table.{read}
use Rattle.rules.specs.Checks.{counted_checks}
use Rattle.rules.specs.Step.{counted_rule}
use Rattle.laws.specs.Met.{all_met_lem}
use Rattle.engine.specs.Played.{played_err, played_accepted}
use Rattle.engine.proofs.operations.counted.Goals as goal

pub returns-in_err-counted_refusal : goal.returns-in_err-counted_refusal
returns-in_err-counted_refusal c = played_err counted_rule _ _ _ _ c.in_err-counted_refusal.ensures c.from_residual.ensures.1

pub counted-requires : goal.counted-requires
counted-requires c = (c.requires, all_met_lem (counted_checks (read c.args.s.now) c.args.caller c.args.n) tt (sym c.in_ok-counted_refusal.ensures))

pub returns : goal.returns
returns c = played_accepted counted_rule _ _ _ _ (sym c.in_ok-counted_refusal.ensures) c.counted.ensures.answer c.counted.ensures.wrote
