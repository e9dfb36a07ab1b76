-- What stands in a session's memory past its objects and links: nothing. So only what is used has to be cleared.
use Rattle.std.specs.Prelude.{ℕ, ◌+◌, ◌≤◌, ◌≡◌, List, [], ◌∷◌, ltb}
use Rattle.session.specs.Table.{Session, Wrote, read, sweep, pick, places_of, class, size, base, code}
use Rattle.session.specs.declared.Field.{Field}
use Rattle.session.specs.declared.Field.TheVariants.{Objects, Links}

-- How many places of a field may be in use: handles 0 to Objects, sixteen slots for each of these, links 0 to Links.
abbrev pub used : Session → Field → ℕ
used s f = places_of (s Objects 0 + 1) (s Links 0 + 1) (class f)

-- the places of some fields for so many handles and links
abbrev pub places_in : (handles links : ℕ) → List Field → List ℕ
places_in handles links [] = []
places_in handles links (f ∷ fs) = places_of handles links (class f) ∷ places_in handles links fs

-- "unused parts zero": the counts fit the layout, and every field is zero past its used places
unfoldable pub Tidy : Session → Type 0
Tidy s = (f : Field) → (used s f ≤ size f) × ((i : ℕ) → used s f ≤ i → s f i ≡ 0)

-- the session with zeros at the places, for so many handles and links, of the fields whose number is below n
unfoldable pub cleared : Session → (handles links n : ℕ) → Session
cleared s handles links n f i =
    pick (ltb (code f) n) (pick (ltb i (places_of handles links (class f))) 0 (s f i)) (s f i)

-- n words from a word on were made zero: places of whichever field begins there
abbrev pub Zeroed : (before after : List ℕ) (start n : ℕ) → Type 0
Zeroed before after start n = (f : Field) → start ≡ base f → n ≤ size f → Wrote before after (sweep (read before) f n (λ i. 0))
