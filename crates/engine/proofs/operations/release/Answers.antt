-- `engine::operations::release` meets its contract: the first check that fails, or what the effect makes.
use mathlib.Core.Path.{refl, sym}
use Rattle.session.specs.Table.{read}
use Rattle.rules.specs.Checks.{release_checks}
use Rattle.rules.specs.Step.{release_rule}
use Rattle.laws.specs.Met.{all_met_lem}
use Rattle.engine.specs.Played.{played_err, played_accepted}
use Rattle.engine.proofs.operations.release.Goals as goal

pub returns-in_err-release_refusal : goal.returns-in_err-release_refusal
returns-in_err-release_refusal c = played_err release_rule _ _ _ _ c.in_err-release_refusal.ensures c.from_residual.ensures.1

pub release-requires : goal.release-requires
release-requires c = (c.requires, all_met_lem (release_checks (read c.args.s.now) c.args.caller c.args.b) tt (sym c.in_ok-release_refusal.ensures))

pub returns : goal.returns
returns c = played_accepted release_rule _ _ _ _ (sym c.in_ok-release_refusal.ensures) refl c.release.ensures
