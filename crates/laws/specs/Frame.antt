-- A formula that reads none of the fields that a change writes lasts. A table is a set of formulas with names, each with the
-- fields that it reads: after a change, only those that read what it writes need to be shown, by name, and the others are left
-- out.
use Rattle.std.specs.Prelude.{ℕ, ◌≡◌, refl, Bool, true, false, List}
use Rattle.session.specs.Table.{Session}
use Rattle.session.specs.declared.Field.{Field}
use Rattle.session.specs.declared.Field.TheVariants.{Kind}
use Rattle.rules.specs.Formula.{Formula, Holds, Formula.each}
use Rattle.laws.specs.Tables.{meets_of, only_of, alike}
pub use Rattle.laws.specs.Tables.{unwritten}
use Rattle.laws.specs.Outside.{fields, Outside}
use Rattle.laws.specs.Shape.{Sort, kind_of, fields_of, None, Extent, reach, Words, Shape}
use Rattle.laws.specs.Shape.Shape.{any_shape, each_object}

-- the session with these fields, and the others 0
abbrev pub only : List Field → Session → Session
only fs s = only_of fields fs s

-- some field of the second list is in the first
abbrev pub meets : List Field → List Field → Bool
meets ws fs = meets_of fields ws fs

-- what has to be shown: a clause for a name that need not be is none, and one that is missing is named by the check
pub data Shown : Bool → Type 0 where
  due : Shown true

-- a formula of a session, with the fields that it reads: it says the same of a session with no others
pub record Row : Type 0 where
  pub says : Session → Formula
  pub reads : List Field
  pub enough : (s : Session) → says (only reads s) ≡ says s
  pub shape : Shape says

abbrev pub over : (fs : List Field) (f : Session → Formula) → ((s : Session) → f (only fs s) ≡ f s) → Row
over fs f e = record { says = f; reads = fs; enough = e; shape = any_shape }

-- A formula that says `one` of each object. It is about those of kind k; of the others it is true.
abbrev pub over_each : (k : Sort) (p : Extent) (fs : List Field) (f : Session → Formula) {one : Session → ℕ → Formula}
    → ((s : Session) → f (only fs s) ≡ f s) → ((s : Session) → f s ≡ each (reach p s) (one s))
    → ((s : Session) (h : ℕ) → (s Kind h ≡ kind_of k → ⊥) → None (fields_of k) s h → Holds (one s h))
    → Words one → Row
over_each k p fs f {one} e parted others w =
    record { says = f; reads = fs; enough = e; shape = each_object k p one parted others w }

-- A table is a row for each of some names. All that it says:
abbrev pub AllOf : {N : Type 0} → (N → Row) → Session → Type 0
AllOf row s = (n : _) → Holds ((row n).says s)

-- and its rows that read a field written
abbrev pub DueOf : {N : Type 0} → (N → Row) → List Field → N → Type 0
DueOf row ws n = Shown (meets ws (row n).reads)

pub row_lasts : {s q : Session} {ws : List Field} → Outside s q ws → (r : Row) → meets ws r.reads ≡ false
    → Holds (r.says s) → Holds (r.says q)
row_lasts {s = s} {q = q} o r e h = rw (← r.enough q, alike o r.reads e, r.enough s) h

pub lasts : {N : Type 0} {s q : Session} {ws : List Field} (row : N → Row) → Outside s q ws → AllOf row s
    → ((n : N) → DueOf row ws n → Holds ((row n).says q)) → AllOf row q
lasts {q = q} {ws = ws} row o h shows n = go (meets ws (row n).reads) refl
  where
    go : (b : Bool) → meets ws (row n).reads ≡ b → Holds ((row n).says q)
    go true e = shows n (rw e due)
    go false e = row_lasts o (row n) e (h n)
