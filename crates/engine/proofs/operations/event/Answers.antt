-- `engine::operations::event` meets its contract: the first check that fails, or what the effect makes.
use mathlib.Core.Path.{sym}
use Rattle.session.specs.Table.{read}
use Rattle.rules.specs.Checks.{event_checks}
use Rattle.rules.specs.Step.{event_rule}
use Rattle.laws.specs.Met.{all_met_lem}
use Rattle.engine.specs.Played.{played_err, played_accepted}
use Rattle.engine.proofs.operations.event.Goals as goal

pub returns-in_err-event_refusal : goal.returns-in_err-event_refusal
returns-in_err-event_refusal c = played_err event_rule _ _ _ _ c.in_err-event_refusal.ensures c.from_residual.ensures.1

pub event-requires : goal.event-requires
event-requires c = (c.requires, all_met_lem (event_checks (read c.args.s.now) c.args.caller c.args.ty) tt (sym c.in_ok-event_refusal.ensures))

pub returns : goal.returns
returns c = played_accepted event_rule _ _ _ _ (sym c.in_ok-event_refusal.ensures) c.event.ensures.answer c.event.ensures.wrote
