-- `engine::operations::dependence` meets its contract: the first check that fails, or what the effect makes.
use mathlib.Core.Path.{sym}
use Rattle.session.specs.Table.{read}
use Rattle.rules.specs.Checks.{dependence_checks}
use Rattle.rules.specs.Step.{dependence_rule}
use Rattle.laws.specs.Met.{all_met_lem}
use Rattle.effects.specs.Made.{link_made}
use Rattle.engine.specs.Played.{played_err, played_accepted}
use Rattle.engine.proofs.operations.dependence.Goals as goal

pub returns-in_err-dependence_refusal : goal.returns-in_err-dependence_refusal
returns-in_err-dependence_refusal c = played_err dependence_rule _ _ _ _ c.in_err-dependence_refusal.ensures c.from_residual.ensures.1

pub dependence-requires : goal.dependence-requires
dependence-requires c = (c.requires, all_met_lem (dependence_checks (read c.args.s.now) c.args.caller c.args.source c.args.d c.args.j c.args.mode) tt (sym c.in_ok-dependence_refusal.ensures))

pub returns : goal.returns
unfolding link_made
returns c = played_accepted dependence_rule _ _ _ _ (sym c.in_ok-dependence_refusal.ensures) c.dependence.ensures.answer c.dependence.ensures.wrote
