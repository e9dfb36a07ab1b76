-- What an operation keeps of the rules: all of them, or all but some that it mends later.
use Rattle.std.specs.Prelude.{◌≡◌, refl, Bool, true, false, List, [], ◌∷◌}
use Rattle.session.specs.Table.{Session, pick}
use Rattle.session.specs.declared.Field.{Field}
use Rattle.rules.specs.Formula.{Holds}
use Rattle.laws.specs.Outside.{Outside}
use Rattle.laws.specs.Frame.{meets, Shown, Shown.due, row_lasts}
use Rattle.laws.specs.Rows.{Name, row, says, same_name}
use Rattle.laws.specs.Rows.Name.{settled}

abbrev pub excepted : Name → List Name → Bool
excepted n [] = false
excepted n (m ∷ ms) = elim (same_name m n) [ yes e ↦ true | no e ↦ excepted n ms ]

-- the rules but some: of `h : Kept s`, which is all of them, `h slots` is what the rule of the slots says
abbrev pub But : List Name → Session → Type 0
But xs s = (n : Name) → pick (excepted n xs) (Unit {0}) (Holds (says n s))

-- all rules: a kept session
abbrev pub Kept : Session → Type 0
Kept s = But [] s

-- all but `settled`, which `kept` adds: a sound session
abbrev pub Sound : Session → Type 0
Sound s = But (settled ∷ []) s

-- the rules that an operation shows: they read a field that it writes, and are none of the excepted
abbrev pub Due : List Field → List Name → Name → Type 0
Due ws xs n = Shown (pick (excepted n xs) false (meets ws (row n).reads))

pub kept_by : {s q : Session} {ws : List Field} (xs : List Name) → Outside s q ws → But xs s
    → ((n : Name) → Due ws xs n → Holds (says n q)) → But xs q
kept_by {s = s} {q = q} {ws = ws} xs o h shows n = go (excepted n xs) refl (meets ws (row n).reads) refl (h n)
  where
    go : (x : Bool) → excepted n xs ≡ x → (b : Bool) → meets ws (row n).reads ≡ b
        → pick x (Unit {0}) (Holds (says n s)) → pick x (Unit {0}) (Holds (says n q))
    go true e b f h = tt
    go false e true f h = shows n (rw (e, f) due)
    go false e false f h = row_lasts o (row n) f h

-- a rule that is due is none of the excepted
pub due_held : (s : Session) (ws : List Field) (xs : List Name) → But xs s → (n : Name) → Due ws xs n → Holds (says n s)
due_held s ws xs h n d = go (excepted n xs) d (h n)
  where
    go : (x : Bool) → Shown (pick x false (meets ws (row n).reads)) → pick x (Unit {0}) (Holds (says n s)) → Holds (says n s)
    go false d h = h
    go true d h = elim d [ ]

-- some rules fewer
pub but : {s : Session} (xs : List Name) → But [] s → But xs s
but {s = s} xs h n = go (excepted n xs)
  where
    go : (x : Bool) → pick x (Unit {0}) (Holds (says n s))
    go true = tt
    go false = h n

-- and those again
abbrev pub Excepted : List Name → Name → Type 0
Excepted xs n = Shown (excepted n xs)

pub all : {s : Session} (xs : List Name) → But xs s → ((n : Name) → Excepted xs n → Holds (says n s)) → But [] s
all {s = s} xs h shows n = go (excepted n xs) refl (h n)
  where
    go : (x : Bool) → excepted n xs ≡ x → pick x (Unit {0}) (Holds (says n s)) → Holds (says n s)
    go true e h = shows n (rw e due)
    go false e h = h
