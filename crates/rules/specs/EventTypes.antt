-- The types of event (document 01), a row for each. What the rules say of a type is read off the rows: nothing compares codes by
-- order. A type more is a row here, its code in `session` and a test in the functions of src/event_types.rt that it is true of.
use Rattle.std.specs.Prelude.{ℕ, Bool, true, false, List, [], ◌∷◌, leb}
use Rattle.session.specs.Table.{pick}
use Rattle.session.specs.Names.{once, idempotent, sticky, latch, output, counted, most_count}
use Rattle.rules.specs.Formula.{Formula, Formula.◌≐◌, Formula.◌≼◌, Formula.◌and◌, Formula.◌or◌, Formula.never}

-- What a satisfaction does to an open event: it fires it; or is counted; or there is none, as nobody may satisfy it.
pub data First : Type 0 where
  fires counts none : First

-- What a fired event does with a further satisfaction: it "counts as gone as soon as fired"; or accepts it "and does nothing"; or
-- refuses it, by check 14.
pub data Further : Type 0 where
  gone nothing refused : Further

pub record TypeRow : Type 0 where
  pub code : ℕ
  -- operation 3 makes it: "type 1..4"
  pub offered : Bool
  -- a call may name it: "event of type 1 to 4"
  pub named : Bool
  pub first : First
  pub further : Further
  -- its slots are 0 to slots - 1, two at the most
  pub slots : ℕ

abbrev row : ℕ → Bool → Bool → First → Further → ℕ → TypeRow
row c o n f g k = record { code = c; offered = o; named = n; first = f; further = g; slots = k }

-- "Event: type 1 once, 2 idempotent, 3 sticky, 4 latch, 5 output". "Slots: types 1 to 3 have slot 0; a latch has 0 (decrement) and 1
-- (increment)." "Once, latch and output count as gone as soon as fired". "A second satisfaction of idempotent is accepted and does
-- nothing." "A latch counts". 14: "The sticky event has fired." Document 02, E4: "of type 6. It has slot 0, takes one satisfaction as
-- sticky does .. It may be source, destination, satisfied or destroyed wherever types 1 to 4 may." The columns are those of TypeRow.
abbrev pub event_types : List TypeRow
event_types =
    row once true true First.fires Further.gone 1
    ∷ row idempotent true true First.fires Further.nothing 1
    ∷ row sticky true true First.fires Further.refused 1
    ∷ row latch true true First.counts Further.gone 2
    ∷ row output false false First.none Further.gone 0
    ∷ row counted false true First.fires Further.refused 1 ∷ []

abbrev pub among : List TypeRow → (TypeRow → Bool) → ℕ → Formula
among [] which ty = never
among (r ∷ rs) which ty = pick (which r) (ty ≐ r.code or among rs which ty) (among rs which ty)

-- ty is the code of a row that is picked
unfoldable pub of_type : (TypeRow → Bool) → ℕ → Formula
of_type which ty = among event_types which ty

-- The columns as Booleans.
abbrev pub any : TypeRow → Bool
any r = true

abbrev pub is_offered : TypeRow → Bool
is_offered r = r.offered

abbrev pub is_named : TypeRow → Bool
is_named r = r.named

abbrev pub value_at_first : TypeRow → Bool
value_at_first r = elim r.first [ fires ↦ true | counts ↦ false | none ↦ false ]

abbrev pub is_gone_fired : TypeRow → Bool
is_gone_fired r = elim r.further [ gone ↦ true | nothing ↦ false | refused ↦ false ]

abbrev pub is_left_fired : TypeRow → Bool
is_left_fired r = elim r.further [ gone ↦ false | nothing ↦ true | refused ↦ true ]

abbrev pub is_refusing : TypeRow → Bool
is_refusing r = elim r.further [ gone ↦ false | nothing ↦ false | refused ↦ true ]

-- What the rules ask of the code of a type.
abbrev pub is_event_type : ℕ → Formula
is_event_type = of_type any

-- "3 event (caller, type 1..4)"
abbrev pub is_offered_type : ℕ → Formula
is_offered_type = of_type is_offered

-- "event of type 1 to 4", and a counted one
abbrev pub is_user_type : ℕ → Formula
is_user_type = of_type is_named

-- the first satisfaction fires it: "an event of type 1 to 3 keeps its first"; "demand 3's book treats type 6 as it does a sticky"
abbrev pub fires_at_first : ℕ → Formula
fires_at_first = of_type value_at_first

-- "Once, latch and output count as gone as soon as fired"
abbrev pub gone_when_fired : ℕ → Formula
gone_when_fired = of_type is_gone_fired

-- it stays for later links, destroyed or not: "of type 2 or 3", and type 6, which "stays for later links"
abbrev pub stays_when_fired : ℕ → Formula
stays_when_fired = of_type is_left_fired

-- 14: "The sticky event has fired."; of type 6 "a second call gives 14"
abbrev pub refuses_further : ℕ → Formula
refuses_further = of_type is_refusing

-- the counts that a counted event may have: "count 1..16"
abbrev pub is_link_count : ℕ → Formula
is_link_count n = 1 ≼ n and n ≼ most_count

-- "types 1 to 3 have slot 0; a latch has 0 (decrement) and 1 (increment)"
abbrev pub has_type_slot : ℕ → ℕ → Formula
has_type_slot ty j = j ≐ 0 and of_type (λ r. leb 1 r.slots) ty or j ≐ 1 and of_type (λ r. leb 2 r.slots) ty
