-- `engine::operations::template` meets its contract: the first check that fails, or what the effect makes.
use mathlib.Core.Path.{sym}
use Rattle.session.specs.Table.{read}
use Rattle.rules.specs.Checks.{template_checks}
use Rattle.rules.specs.Step.{template_rule}
use Rattle.laws.specs.Met.{all_met_lem}
use Rattle.engine.specs.Played.{played_err, played_accepted}
use Rattle.engine.proofs.operations.template.Goals as goal

pub returns-in_err-template_refusal : goal.returns-in_err-template_refusal
returns-in_err-template_refusal c = played_err template_rule _ _ _ _ c.in_err-template_refusal.ensures c.from_residual.ensures.1

pub template-requires : goal.template-requires
template-requires c = (c.requires, all_met_lem (template_checks (read c.args.s.now) c.args.caller c.args.n) tt (sym c.in_ok-template_refusal.ensures))

pub returns : goal.returns
returns c = played_accepted template_rule _ _ _ _ (sym c.in_ok-template_refusal.ensures) c.template.ensures.answer c.template.ensures.wrote
