-- `engine::operations::satisfy` meets its contract: the first check that fails, or what the effect makes.
use mathlib.Core.Path.{refl, sym}
use Rattle.session.specs.Table.{read}
use Rattle.rules.specs.Checks.{satisfy_checks}
use Rattle.rules.specs.Step.{satisfy_rule}
use Rattle.laws.specs.Met.{all_met_lem}
use Rattle.engine.specs.Played.{played_err, played_accepted}
use Rattle.engine.proofs.operations.satisfy.Goals as goal

pub returns-in_err-satisfy_refusal : goal.returns-in_err-satisfy_refusal
returns-in_err-satisfy_refusal c = played_err satisfy_rule _ _ _ _ c.in_err-satisfy_refusal.ensures c.from_residual.ensures.1

pub satisfy-requires : goal.satisfy-requires
satisfy-requires c = (c.requires, all_met_lem (satisfy_checks (read c.args.s.now) c.args.caller c.args.e c.args.b c.args.j) tt (sym c.in_ok-satisfy_refusal.ensures))

pub returns : goal.returns
returns c = played_accepted satisfy_rule _ _ _ _ (sym c.in_ok-satisfy_refusal.ensures) refl c.satisfy.ensures
