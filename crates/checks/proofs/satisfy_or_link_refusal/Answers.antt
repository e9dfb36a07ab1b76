-- `checks::satisfy_or_link_refusal` meets its contract: a sound session's count of links is in range.
use Rattle.laws.specs.Rows.Name.{counts}
use Rattle.laws.specs.ByName.{sound_by_name}
use Rattle.checks.proofs.satisfy_or_link_refusal.Goals as goal

pub has_its_count-requires : goal.has_its_count-requires
has_its_count-requires c = (sound_by_name _ c.requires counts).1.1
