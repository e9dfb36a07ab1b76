-- What a change of the book writes: the steps of an entry, each with its column.
use Rattle.std.specs.Prelude.{ℕ, ◌≡◌, refl, Bool, List, [], ◌∷◌, T, eqb, get_or}
use Rattle.std.proofs.Common.{sym, ap, ◌∙◌, eqb→eq}
use Rattle.std.proofs.Math.Path.{fun_ext}
use Rattle.std.proofs.lemmas.Bool.{eqb-false}
use Rattle.rules.specs.Formula.{test}
use Rattle.rules.specs.FormulaLaws.{choose_no}
use Rattle.rules.specs.Book.{Book, enter, strike, column, Column}
use Rattle.rules.specs.Book.Column.{Objects, Links, Kind, EventType, Maker, Count, Finish, Output, Times, Brought, Satisfied}
use Rattle.rules.specs.Book.Column.{Has, Starts, Ended, Destroyed, LinkSource, LinkTarget, LinkSlot, Struck}
use Rattle.laws.specs.Tables.{Keys, among_of, neither, OutsideOf}

-- the columns by their numbers
abbrev numbered : List Column
numbered =
    Objects ∷ Links ∷ Kind ∷ EventType ∷ Maker ∷ Count ∷ Finish ∷ Output ∷ Times ∷ Brought ∷ Satisfied ∷ Has ∷ Starts ∷ Ended
    ∷ Destroyed ∷ LinkSource ∷ LinkTarget ∷ LinkSlot ∷ Struck ∷ []

listed : (c : Column) → get_or numbered (column c) Objects ≡ c
listed Objects = refl
listed Links = refl
listed Kind = refl
listed EventType = refl
listed Maker = refl
listed Count = refl
listed Finish = refl
listed Output = refl
listed Times = refl
listed Brought = refl
listed Satisfied = refl
listed Has = refl
listed Starts = refl
listed Ended = refl
listed Destroyed = refl
listed LinkSource = refl
listed LinkTarget = refl
listed LinkSlot = refl
listed Struck = refl

abbrev same_column : Column → Column → Bool
same_column c d = eqb (column c) (column d)

pub one-column : (c d : Column) → T (same_column c d) → c ≡ d
one-column c d t =
    sym (listed c) ∙ ap (λ (n : ℕ). get_or numbered n Objects) (eqb→eq (column c) (column d) t) ∙ listed d

abbrev pub columns : Keys Column
columns = record { is = same_column; one = one-column }

-- d is b but in the columns entered
abbrev pub OutsideBook : Book → Book → List Column → Type 0
OutsideBook b d cs = OutsideOf columns b d cs

pub outside_enter : {b d : Book} {c : Column} {cs : List Column} (i v : ℕ) → OutsideBook b d cs
    → OutsideBook b (enter d c i v) (c ∷ cs)
unfolding enter test
outside_enter {d = d} {c = c} {cs = cs} i v o =
    record {
      as_was =
          λ g e. let n = neither (same_column c g) (among_of columns g cs) e in
          fun_ext (λ j. rw n.0 refl) ∙ o.as_was g n.1;
    }

pub outside_strike : {b d : Book} {cs : List Column} (e : ℕ) → OutsideBook b d cs → OutsideBook b (strike d e) (Struck ∷ cs)
unfolding strike
outside_strike {d = d} {cs = cs} e o =
    record {
      as_was =
          λ g q. let n = neither (same_column Struck g) (among_of columns g cs) q in
          fun_ext (λ j. choose_no _ 1 (d g j) (λ x. eqb-false (column Struck) (column g) n.0 (sym x.0)))
          ∙ o.as_was g n.1;
    }
