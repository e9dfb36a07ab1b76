-- `engine::operations::start` meets its contract: the first check that fails, or what the effect makes.
use mathlib.Core.Path.{refl, sym}
use Rattle.session.specs.Table.{read}
use Rattle.rules.specs.Checks.{start_checks}
use Rattle.rules.specs.Step.{start_rule}
use Rattle.laws.specs.Met.{all_met_lem}
use Rattle.engine.specs.Played.{played_err, played_accepted}
use Rattle.engine.proofs.operations.start.Goals as goal

pub returns-in_err-start_refusal : goal.returns-in_err-start_refusal
returns-in_err-start_refusal c = played_err start_rule _ _ _ _ c.in_err-start_refusal.ensures c.from_residual.ensures.1

pub start-requires : goal.start-requires
start-requires c = (c.requires, all_met_lem (start_checks (read c.args.s.now) c.args.t) tt (sym c.in_ok-start_refusal.ensures))

pub returns : goal.returns
returns c = played_accepted start_rule _ _ _ _ (sym c.in_ok-start_refusal.ensures) refl c.start.ensures
