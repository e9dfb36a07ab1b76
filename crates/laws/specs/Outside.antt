-- What a change of a session writes: the steps of an effect, each with its field.
use Rattle.std.specs.Prelude.{ℕ, refl, Bool, List, ◌∷◌}
use Rattle.std.proofs.Common.{◌∙◌}
use Rattle.std.proofs.Math.Path.{fun_ext}
use Rattle.session.specs.Table.{Session, same, put, change}
use Rattle.session.specs.TableLaws.{same_eq}
use Rattle.session.specs.declared.Field.{Field}
use Rattle.laws.specs.Tables.{Keys, among_of, OutsideOf}
pub use Rattle.laws.specs.Tables.{neither, outside_same, outside_then, outside_within}

abbrev pub fields : Keys Field
fields = record { is = same; one = same_eq }

-- a field is one of these
abbrev pub among : Field → List Field → Bool
among f fs = among_of fields f fs

-- q is s but in the fields written
abbrev pub Outside : Session → Session → List Field → Type 0
Outside s q ws = OutsideOf fields s q ws

pub outside_put : {s q : Session} {f : Field} {ws : List Field} (i v : ℕ) → Outside s q ws → Outside s (put q f i v) (f ∷ ws)
unfolding put
outside_put {q = q} {f = f} {ws = ws} i v o =
    record { as_was = λ g e. let n = neither (same f g) (among g ws) e in fun_ext (λ j. rw n.0 refl) ∙ o.as_was g n.1 }

pub outside_change : {s q : Session} {f : Field} {ws : List Field} (new : ℕ → ℕ) → Outside s q ws
    → Outside s (change q f new) (f ∷ ws)
unfolding change
outside_change {q = q} {f = f} {ws = ws} new o =
    record { as_was = λ g e. let n = neither (same f g) (among g ws) e in fun_ext (λ j. rw n.0 refl) ∙ o.as_was g n.1 }
