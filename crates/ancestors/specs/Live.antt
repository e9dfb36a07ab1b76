-- Looking for live tasks from a handle down.
use Rattle.std.specs.Prelude.{ℕ, ◌+◌, ◌-◌, ◌≤◌, ◌<◌, ◌≡◌, Option, MatchOption}
use Rattle.std.proofs.Common.{subst, arith}
use Rattle.std.proofs.Math.Decide.{dec_lt}
use Rattle.session.specs.Table.{Session}
use Rattle.session.specs.Names.{task, running}
use Rattle.session.specs.declared.Field.TheVariants.{Objects, Kind, TaskState}
use Rattle.rules.specs.Formula.{Formula, Holds, Formula.◌≼◌, Formula.◌and◌, Formula.some}
use Rattle.rules.specs.Reading.{is_live}
use Rattle.laws.specs.Places.{Places, places, Places.one, Places.two}

-- a task has a state
abbrev pub Stated : Session → Type 0
Stated s = (h : ℕ) → h ≤ s Objects 0 → s Kind h ≡ task → 1 ≤ s TaskState h

-- the state at h is a live task's
abbrev pub live_state : Session → ℕ → Formula
live_state s h = 1 ≼ s TaskState h and s TaskState h ≼ running

-- from the handle above r up to high there is no live task
pub record Dead (s : Session) (high r : ℕ) : Type 0 where
  pub down : r ≤ high
  pub none : (i : ℕ) → r < i → i ≤ high → Holds (is_live s i) → ⊥

-- the last live task up to high, or 0
pub record LastLive (s : Session) (high r : ℕ) : Type 0 where
  pub passed : Dead s high r
  pub here : 1 ≤ r → Holds (is_live s r)

-- it, or that there is none
abbrev pub LastOf : Session → ℕ → Option ℕ → Type 0
LastOf s high r = MatchOption r (LastLive s high 0) (λ q. LastLive s high q × (1 ≤ q))

module _ (s : Session) (high : ℕ) where
  pub dead_none : Dead s high high
  dead_none = record { down = omega arith; none = λ i l h. absurd (less i l h) }
    where
      less : (i : ℕ) → high < i → i ≤ high → ⊥
      less i l h = omega arith

  -- one more passed, and eight more
  pub dead_one : (r : ℕ) → 1 ≤ r → Dead s high r → (Holds (is_live s r) → ⊥) → Dead s high (r - 1)
  dead_one r m d n = record { down = let b = d.down in omega arith; none = λ i l h live. go i l h live (places i r) }
    where
      go : (i : ℕ) → r - 1 < i → i ≤ high → Holds (is_live s i) → Places i r → ⊥
      go i l h live (one e) = n (subst (λ (k : ℕ). Holds (is_live s k)) e live)
      go i l h live (two e) = d.none i (omega arith) h live

  pub dead_eight : Stated s → high ≤ s Objects 0 → (r : ℕ) → 8 ≤ r → Dead s high r
      → (Holds (some 8 (λ k. live_state s (r - 7 + k))) → ⊥) → Dead s high (r - 8)
  dead_eight stated b r m d n = record { down = let e = d.down in omega arith; none = λ i l h live. go i l h live (dec_lt r i) }
    where
      back : (i : ℕ) → r - 8 < i → r - 7 + (i - (r - 7)) ≡ i
      back i l = omega arith

      go : (i : ℕ) → r - 8 < i → i ≤ high → Holds (is_live s i) → Dec (r < i) → ⊥
      go i l h live (yes e) = d.none i e h live
      go i l h live (no e) =
          n (i - (r - 7), omega arith, rw (back i l) (stated i (omega arith) live.0, live.1))
