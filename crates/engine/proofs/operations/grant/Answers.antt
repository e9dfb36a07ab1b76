-- `engine::operations::grant` meets its contract: the first check that fails, or what the effect makes.
use mathlib.Core.Path.{refl, sym}
use Rattle.session.specs.Table.{read}
use Rattle.rules.specs.Checks.{grant_checks}
use Rattle.rules.specs.Step.{grant_rule}
use Rattle.laws.specs.Met.{all_met_lem}
use Rattle.engine.specs.Played.{played_err, played_accepted}
use Rattle.engine.proofs.operations.grant.Goals as goal

pub returns-in_err-grant_refusal : goal.returns-in_err-grant_refusal
returns-in_err-grant_refusal c = played_err grant_rule _ _ _ _ c.in_err-grant_refusal.ensures c.from_residual.ensures.1

pub grant-requires : goal.grant-requires
grant-requires c = (c.requires, all_met_lem (grant_checks (read c.args.s.now) c.args.t) tt (sym c.in_ok-grant_refusal.ensures))

pub returns : goal.returns
returns c = played_accepted grant_rule _ _ _ _ (sym c.in_ok-grant_refusal.ensures) refl c.grant.ensures
