-- The entries of a class file: as many as are announced or fewer, no sheet too long, and no learner lower than the one before.
use Rattle.std.specs.Prelude.{ℕ, ◌≤◌, List, [], ◌∷◌, ◌≡◌, refl, length, Ok, Err}
use Rattle.number.specs.Number.{Reading}
use Rattle.number.specs.declared.Unread.TheVariants.{Bad, CutShort}
use Rattle.class_rules.specs.Report.{Entry, Class, stopped, most_bytes, met}

-- what holds at both stops and of what follows a number holds of what is met
pub met_case : (P : Class → Type 0) (r : Reading) (g : ℕ → ℕ → Class) → P (stopped 3) → P (stopped 4)
    → ((v n : ℕ) → r ≡ Ok (v, n) → P (g v n))
    → P (met r stopped g)
unfolding met
met_case P (Ok (v, n)) g three four so = so v n refl
met_case P (Err (Bad n)) g three four so = four
met_case P (Err CutShort) g three four so = three

-- learners that do not fall, from one on, and sheets that are not too long
abbrev pub InOrder : ℕ → List Entry → Type 0
InOrder before [] = Unit {0}
InOrder before (e ∷ more) = (before ≤ e.learner) × (length e.sheet ≤ most_bytes) × InOrder e.learner more

-- so many entries or fewer, in order from a learner on
pub record Read (left before : ℕ) (c : Class) : Type 0 where
  pub few : length c.entries ≤ left
  pub ordered : InOrder before c.entries
