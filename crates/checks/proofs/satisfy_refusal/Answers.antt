-- `checks::satisfy_refusal` meets its contract: that only an event of a user's is asked for its slot, check 10 says.
use Rattle.reading.specs.TestLaws.{yes}
use Rattle.checks.proofs.satisfy_refusal.Goals as goal

pub has_event_slot-requires : goal.has_event_slot-requires
has_event_slot-requires c = yes _ c.is_user_event.ensures c.if-not-is_user_event.false
