-- A session in the first words of a longer memory: what they say is what the memory says.
use Rattle.std.specs.Prelude.{ℕ, ◌+◌, ◌≤◌, ◌<◌, ◌≡◌, List, ◌++◌, length, get_or, take, drop, Bool}
use Rattle.std.proofs.Math.Path.{refl, fun_ext}
use Rattle.std.proofs.Math.Bool.{true, false}
use Rattle.std.proofs.Math.Dec.{ltb, ltb→lt}
use Rattle.std.proofs.Math.ListN.{get_or-append}
use Rattle.std.proofs.Common.{◌∙◌}
use Rattle.std.proofs.lemmas.List.{get_or-take, length-append, length-drop, length-take-le}
use Rattle.std.proofs.lemmas.Slice.{drop-append-drop}
use native.Mathlib.Omega.{arith}
use Rattle.session.specs.declared.Field.{Field}
use Rattle.session.specs.Table.{Session, Wrote, read, pick, size, base, words}
use Rattle.session.specs.TableLaws.{inside}

pub read_first : (ws : List ℕ) → read (take words ws) ≡ read ws
unfolding read
read_first ws = fun_ext (λ f. fun_ext (λ i. go f i (ltb i (size f)) refl))
  where
    go : (f : Field) (i : ℕ) (b : Bool) → ltb i (size f) ≡ b
        → pick b (get_or (take words ws) (base f + i) 0) 0 ≡ pick b (get_or ws (base f + i) 0) 0
    go f i true e =
        let h : i < size f = ltb→lt i (size f) (rw e tt) in
        get_or-take words ws (base f + i) 0 (omega (arith, inside f))
    go f i false e = refl

pub read_front : (ws rest : List ℕ) → length ws ≡ words → read (ws ++ rest) ≡ read ws
unfolding read
read_front ws rest long = fun_ext (λ f. fun_ext (λ i. go f i (ltb i (size f)) refl))
  where
    go : (f : Field) (i : ℕ) (b : Bool) → ltb i (size f) ≡ b
        → pick b (get_or (ws ++ rest) (base f + i) 0) 0 ≡ pick b (get_or ws (base f + i) 0) 0
    go f i true e =
        let h : i < size f = ltb→lt i (size f) (rw e tt) in
        get_or-append ws rest 0 (base f + i) (omega (arith, inside f))
    go f i false e = refl

-- What was written into the first words was written into the memory.
pub wrote_first : (ws ws' : List ℕ) (q : Session) → words ≤ length ws → Wrote (take words ws) ws' q
    → Wrote ws (ws' ++ drop words ws) q
wrote_first ws ws' q long w =
    let short : length ws' ≡ words = w.same_length ∙ length-take-le words ws long in
    record {
      same_length = length-append ws' (drop words ws) ∙ omega (arith, length-drop words ws);
      reading = read_front ws' (drop words ws) short ∙ w.reading;
      past = drop-append-drop words ws ws' words (omega arith) short;
    }
