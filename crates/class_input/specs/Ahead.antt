-- What may have been read of standard input ahead of what is asked for: no more than
-- is sure to come, unless the report stops. So no byte after the last sheet is read.
use Rattle.std.specs.Prelude.{ℕ, zero, suc, ◌+◌, ◌*◌, ◌-◌, ◌≤◌, ◌≡◌, refl, length, Option, None, Some}
use mathlib.Core.List.{List, [], ◌∷◌}
use native.Mathlib.Omega.{arith}
use Rattle.number.specs.Number.{limit32}
use Rattle.number.specs.Fed.{fed}
use Rattle.number.specs.declared.reader.Fed.{Fed}
use Rattle.number.specs.declared.reader.Fed.TheVariants.{More, Whole, Bad}
use Rattle.rules.specs.Formula.{Formula.◌≼◌}
use Rattle.rules.specs.FormulaLaws.{choose_case}
use Rattle.session.specs.Table.{Session}
use Rattle.sheet_counts.specs.declared.Tally.{Tally}
use Rattle.class_rules.specs.Report.{most_bytes, fits}
use Rattle.class.specs.declared.Report.{Report}
use Rattle.class.specs.declared.Turned.{Turned}
use Rattle.class.specs.declared.Stage.{Stage}
use Rattle.class.specs.declared.Stage.TheVariants.{Head, Count, Learner, Turn, Length, Sheet, Line, Last, Nothing}
use Rattle.class.specs.Steps.{begun, entry_or_line, going, valued, numbered, byte, Did, closed, after, taken, sheet_taken, asks_at}
use Rattle.class.specs.Steps.{asks, does_at, does}

-- the entries behind this one have three numbers each, and a number has a byte at least
abbrev pub behind : ℕ → ℕ
behind left = 3 * (left - 1)

-- So many bytes may have been read and not be handed yet: of this entry and of those behind it. Before the sums there are none.
module _ (left size stop n : ℕ) where
  unfoldable pub ahead_at : Stage → Type 0
  ahead_at Head = (left ≡ 0) × (n ≡ 0)
  ahead_at Count = (left ≡ 0) × (n ≤ 1)
  ahead_at Learner = n ≤ 3 + behind left
  ahead_at Turn = n ≤ 2 + behind left
  ahead_at Length = n ≤ 1 + behind left
  ahead_at Sheet = n ≤ size + behind left
  ahead_at Line = stop ≡ 0 → n ≡ 0
  ahead_at Last = stop ≡ 0 → n ≡ 0
  ahead_at Nothing = stop ≡ 0 → n ≡ 0

abbrev pub Ahead : Report → ℕ → Type 0
Ahead r n = ahead_at r.left r.length r.stop n r.stage

pub ahead_begun : Ahead begun 0
unfolding begun ahead_at
ahead_begun = (refl, refl)

-- Where the sums have been printed, all that was read has been handed.
pub none_ahead : (r : Report) (n : ℕ) → r.stage ≡ Nothing → r.stop ≡ 0 → Ahead r n → n ≡ 0
unfolding ahead_at
none_ahead r n over sums a = rw over at a sums

fewer_at : (left size stop n m : ℕ) → m ≤ n → (stage : Stage) → ahead_at left size stop n stage → ahead_at left size stop m stage
unfolding ahead_at
fewer_at left size stop n m few Head a = (a.0, omega (arith, a.1))
fewer_at left size stop n m few Count a = (a.0, omega (arith, a.1))
fewer_at left size stop n m few Learner a = omega arith
fewer_at left size stop n m few Turn a = omega arith
fewer_at left size stop n m few Length a = omega arith
fewer_at left size stop n m few Sheet a = omega arith
fewer_at left size stop n m few Line a = λ s. omega (arith, a s)
fewer_at left size stop n m few Last a = λ s. omega (arith, a s)
fewer_at left size stop n m few Nothing a = λ s. omega (arith, a s)

asked-at : (r : Report) (n : ℕ) (stage : Stage) → (asks_at r stage ≡ 0 → ⊥) → ahead_at r.left r.length r.stop n stage
    → ahead_at r.left r.length r.stop (asks_at r stage + behind r.left) stage
unfolding ahead_at asks_at
asked-at r n Head some a = absurd (some refl)
asked-at r n Count some a = (a.0, omega (arith, a.0))
asked-at r n Learner some a = omega arith
asked-at r n Turn some a = omega arith
asked-at r n Length some a = omega arith
asked-at r n Sheet some a =
    choose_case (λ k. k + behind r.left ≤ r.length + behind r.left) (r.length ≼ most_bytes) r.length 0
    (λ _. omega arith) (λ _. omega arith)
asked-at r n Line some a = absurd (some refl)
asked-at r n Last some a = absurd (some refl)
asked-at r n Nothing some a = absurd (some refl)

-- fewer bytes; and as many as are asked for, with those of the entries behind
module _ (r : Report) (n : ℕ) (a : Ahead r n) where
  pub fewer_ahead : (m : ℕ) → m ≤ n → Ahead r m
  fewer_ahead m few = fewer_at r.left r.length r.stop n m few r.stage a

  pub asked_ahead : (m : ℕ) → (asks r ≡ 0 → ⊥) → m ≤ asks r + behind r.left → Ahead r m
  asked_ahead m some few =
      fewer_at r.left r.length r.stop (asks r + behind r.left) m few r.stage (asked-at r n r.stage some a)

going_ahead : (left : ℕ) (pending : Option Turned) (tally : Tally) (n : ℕ) → n ≤ 3 * left → Ahead (going left pending tally) n
unfolding going entry_or_line ahead_at
going_ahead zero pending tally n few = λ s. omega arith
going_ahead (suc left) pending tally n few = omega arith

-- A step leaves no more of what was read than may lie there then.
module _ (r : Report) (n : ℕ) where
  abbrev At : ℕ → Stage → Type 0
  At m stage = ahead_at r.left r.length r.stop m stage

  byte_ahead : (stage : Stage) (bytes : List ℕ) → At (length bytes + n) stage
      → ((v : ℕ) → At (1 + n) stage → Ahead (valued r stage v) n)
      → Ahead (byte r stage bytes) n
  unfolding byte numbered ahead_at
  byte_ahead stage [] a next = λ s. omega arith
  byte_ahead stage (b ∷ more) a next = go (fed limit32 r.number b)
    where
      one : At (1 + n) stage
      one = fewer_at r.left r.length r.stop (length (b ∷ more) + n) (1 + n) (omega arith) stage a

      go : (f : Fed) → Ahead (numbered r stage f) n
      go (More m) = fewer_at r.left r.length r.stop (1 + n) n (omega arith) stage one
      go (Whole v) = next v one
      go Bad = λ s. omega arith

  module _ (room : List ℕ) (at : ℕ) (bytes : List ℕ) (s : Session) where
    taken_ahead : (pending : Option Turned) → n ≤ behind r.left → Ahead (taken room r s at pending).report n
    unfolding taken after ahead_at
    taken_ahead None few = going_ahead (r.left - 1) _ _ n few
    taken_ahead (Some p) few =
        choose_case (λ (d : Did). Ahead d.report n) _ _ _
        (λ _. choose_case (λ (d : Did). Ahead d.report n) _ _ _ (λ _. going_ahead (r.left - 1) _ _ n few)
        (λ _. going_ahead (r.left - 1) _ _ n few))
        (λ _ e. omega arith)

    closed_ahead : (pending : Option Turned) → (r.stop ≡ 0 → n ≡ 0) → Ahead (closed room r s pending).report n
    unfolding closed ahead_at
    closed_ahead None a = a
    closed_ahead (Some p) a = a

    step-at : (stage : Stage) → At (length bytes + n) stage → Ahead (does_at room at bytes r s stage).report n
    unfolding does_at ahead_at sheet_taken valued
    step-at Head a = (a.0, omega (arith, a.1))
    step-at Count a = byte_ahead Count bytes a (λ v one. going_ahead v r.pending r.tally n (omega (arith, one.1)))
    step-at Learner a = byte_ahead Learner bytes a (λ v one. omega arith)
    step-at Turn a = byte_ahead Turn bytes a (λ v one. omega arith)
    step-at Length a = byte_ahead Length bytes a (λ v one. omega arith)
    step-at Sheet a =
        choose_case (λ (d : Did). Ahead d.report n) (fits bytes 0 r.length) _ _
        (λ f. taken_ahead r.pending (omega (arith, f.1))) (λ _ e. omega arith)
    step-at Line a = closed_ahead r.pending (λ e. omega (arith, a e))
    step-at Last a = λ e. omega (arith, a e)
    step-at Nothing a = λ e. omega (arith, a e)

    pub step_ahead : Ahead r (length bytes + n) → Ahead (does room at bytes r s).report n
    step_ahead a = step-at r.stage a
