-- How many links lead from each event, and how many of these are delivered, kept in two rows: so links from an event need not be
-- looked for.
use Rattle.std.specs.Prelude.{ℕ, ◌+◌, ◌≤◌, ◌<◌, ◌≡◌, List, set, get_or}
use Rattle.std.proofs.Math.Path.{refl}
use Rattle.std.proofs.Common.{arith}
use Rattle.session.specs.Table.{Session}
use Rattle.session.specs.declared.Field.TheVariants.{LinkSource, LinkState}
use Rattle.session.specs.Names.{object_places, delivered}
use Rattle.rules.specs.Formula.{Formula, Holds, count}
use Rattle.rules.specs.Reading.{leads_from, served_from}
use Rattle.laws.specs.Counting.{count_most, count_next_yes, count_next_no}
use Rattle.reading.specs.Loops.{count_none}
use Rattle.sound.specs.Row.{Row, row-set, row_same}

-- of the first l links, how many are f of each event
abbrev counted_by : (ℕ → ℕ → Formula) → ℕ → ℕ → ℕ
counted_by f l e = count l (f e)

-- how many of the first l links lead from e, and how many of these are delivered
unfoldable pub is_made_by : Session → ℕ → ℕ → ℕ
is_made_by s = counted_by (leads_from s)

unfoldable pub served_by : Session → ℕ → ℕ → ℕ
served_by s = counted_by (served_from s)

-- the two rows, of the first l links
pub record Noted (s : Session) (a b : List ℕ) (l : ℕ) : Type 0 where
  pub made : Row a object_places (is_made_by s l)
  pub served : Row b object_places (served_by s l)

module _ (f : ℕ → ℕ → Formula) (a : List ℕ) where
  -- no link yet
  row_none : Row a object_places (λ e. 0) → Row a object_places (counted_by f 0)
  row_none r = row_same a object_places (λ e. 0) (counted_by f 0) r (λ e q. count_none (f e))

  module _ (l : ℕ) (r : Row a object_places (counted_by f l)) where
    -- link l is f of event k alone
    row_one : (k : ℕ) → k < object_places → Holds (f k l) → ((e : ℕ) → Holds (f e l) → k ≡ e)
        → Row (set a k (get_or a k 0 + 1)) object_places (counted_by f (l + 1))
    row_one k b x only =
        row-set a object_places (counted_by f l) (counted_by f (l + 1)) k (get_or a k 0 + 1) r b
        (let e = r.entry k b in omega (arith, count_next_yes l (f k) x))
        (λ p q n. count_next_no l (f p) (λ y. n (only p y)))

    -- or of none
    row_skip : ((e : ℕ) → e < object_places → Holds (f e l) → ⊥) → Row a object_places (counted_by f (l + 1))
    row_skip none = row_same a object_places (counted_by f l) (counted_by f (l + 1)) r (λ p q. count_next_no l (f p) (none p q))

    row_few : (k : ℕ) → k < object_places → get_or a k 0 ≤ l
    row_few k b = let e = r.entry k b in let m = count_most l (f k) in omega arith

module _ (s : Session) (a : List ℕ) where
  pub none_made : Row a object_places (λ e. 0) → Row a object_places (is_made_by s 0)
  unfolding is_made_by
  none_made = row_none (leads_from s) a

  pub none_served : Row a object_places (λ e. 0) → Row a object_places (served_by s 0)
  unfolding served_by
  none_served = row_none (served_from s) a

  -- a row's numbers are no larger than the links passed
  pub few_made : (l : ℕ) → Row a object_places (is_made_by s l) → (k : ℕ) → k < object_places → get_or a k 0 ≤ l
  unfolding is_made_by
  few_made = row_few (leads_from s) a

  pub few_served : (l : ℕ) → Row a object_places (served_by s l) → (k : ℕ) → k < object_places → get_or a k 0 ≤ l
  unfolding served_by
  few_served = row_few (served_from s) a

  -- link l, noted at its source
  pub one-made : (l : ℕ) → Row a object_places (is_made_by s l) → s LinkSource l < object_places
      → Row (set a (s LinkSource l) (get_or a (s LinkSource l) 0 + 1)) object_places (is_made_by s (l + 1))
  unfolding is_made_by
  one-made l r b = row_one (leads_from s) a l r (s LinkSource l) b refl (λ e x. x)

  pub one_served : (l : ℕ) → Row a object_places (served_by s l) → s LinkSource l < object_places → s LinkState l ≡ delivered
      → Row (set a (s LinkSource l) (get_or a (s LinkSource l) 0 + 1)) object_places (served_by s (l + 1))
  unfolding served_by
  one_served l r b d = row_one (served_from s) a l r (s LinkSource l) b (refl, d) (λ e x. x.0)

  -- or at none: its source has no place, or it is not delivered
  pub skip_made : (l : ℕ) → Row a object_places (is_made_by s l) → (s LinkSource l < object_places → ⊥)
      → Row a object_places (is_made_by s (l + 1))
  unfolding is_made_by
  skip_made l r n = row_skip (leads_from s) a l r (λ e b x. n (rw x b))

  pub skip_served : (l : ℕ) → Row a object_places (served_by s l) → (s LinkSource l < object_places → s LinkState l ≡ delivered → ⊥)
      → Row a object_places (served_by s (l + 1))
  unfolding served_by
  skip_served l r n = row_skip (served_from s) a l r (λ e b x. n (rw x.0 b) x.1)
