-- `engine::operations::deliver` meets its contract: the first check that fails, or what the effect makes.
use mathlib.Core.Path.{refl, sym}
use Rattle.session.specs.Table.{read}
use Rattle.rules.specs.Checks.{deliver_checks}
use Rattle.rules.specs.Step.{deliver_rule}
use Rattle.laws.specs.Met.{all_met_lem}
use Rattle.engine.specs.Played.{played_err, played_accepted}
use Rattle.engine.proofs.operations.deliver.Goals as goal

pub returns-in_err-deliver_refusal : goal.returns-in_err-deliver_refusal
returns-in_err-deliver_refusal c = played_err deliver_rule _ _ _ _ c.in_err-deliver_refusal.ensures c.from_residual.ensures.1

pub deliver-requires : goal.deliver-requires
deliver-requires c = (c.requires, all_met_lem (deliver_checks (read c.args.s.now) c.args.l) tt (sym c.in_ok-deliver_refusal.ensures))

pub returns : goal.returns
returns c = played_accepted deliver_rule _ _ _ _ (sym c.in_ok-deliver_refusal.ensures) refl c.deliver.ensures
