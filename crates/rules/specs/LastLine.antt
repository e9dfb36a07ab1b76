-- What the last line of a sheet's output counts (document 01, "Sheets and lines"). The crate `sheet` has the code.
use Rattle.std.specs.Prelude.{ℕ, ◌+◌}
use Rattle.session.specs.Table.{Session}
use Rattle.session.specs.declared.Field.TheVariants.{Objects, Links, Dropped}
use Rattle.rules.specs.Formula.{count}
use Rattle.rules.specs.Reading.{is_live, is_undelivered}

-- "The last line .. gives live tasks, undelivered links, dropped."
module _ (s : Session) where
  unfoldable pub live_tasks : ℕ
  live_tasks = count (s Objects 0 + 1) (is_live s)

  unfoldable pub undelivered_links : ℕ
  undelivered_links = count (s Links 0 + 1) (is_undelivered s)

  abbrev pub dropped_count : ℕ
  dropped_count = s Dropped 0
