-- Entries whose numbers are read at once, and further turns of the
-- learner whose sheet is pending: the steps over them are passed.
use Prim.Native.Nat.{ℕ, zero, suc, ◌+◌, ◌-◌, ◌≤◌, ◌<◌}
use mathlib.Core.List.{List, [], ◌∷◌, ◌++◌, append-nil}
use Rattle.std.specs.Prelude.{true, false, T, Ok, Err, Option, None, Some}
use Rattle.std.specs.Result.{result_ok}
use Rattle.std.proofs.Math.Path.{◌≡◌, refl, ap, sym, subst}
use Rattle.std.proofs.Common.{◌∙◌, drop-drop}
use native.Mathlib.Omega.{arith}
use Rattle.std.proofs.Math.ListN.{length, take, drop, length-drop}
use Rattle.std.proofs.Math.Seq.{length-take-le}
use Rattle.number.specs.Number.{limit32, read_at, Reading}
use Rattle.number.specs.Fed.{start, fed, feeds}
use Rattle.number.specs.FedLaws.{feeds_reads}
use Rattle.number.specs.NumberCases.{same_read}
use Rattle.number.specs.NumberRoundTrip.{value-next}
use Rattle.number.specs.declared.Unread.TheVariants.{CutShort, Bad as BadNumber}
use Rattle.number.specs.declared.reader.Reader.{Reader}
use Rattle.number.specs.declared.reader.Fed.{Fed}
use Rattle.number.specs.declared.reader.Fed.TheVariants.{More, Whole, Bad}
use Rattle.session.specs.Table.{Session}
use Rattle.rules.specs.Formula.{Holds, Formula.◌≐◌, Formula.◌≼◌}
use Rattle.rules.specs.FormulaLaws.{passes, choose_yes}
use Rattle.sheet_counts.specs.declared.Tally.{Tally}
use Rattle.sheet_counts.specs.Answers.{no_counts}
use Rattle.class_rules.specs.Report.{most_bytes, met, fits, sheet_at}
use Rattle.class.specs.declared.Report.{Report}
use Rattle.class.specs.declared.Turned.{Turned}
use Rattle.class.specs.declared.Stage.{Stage}
use Rattle.class.specs.declared.Stage.TheVariants.{Learner, Turn, Length, Sheet}
use Rattle.class.specs.Steps.{entry_or_line, entry_next, going, entry_to, valued, numbered, byte, fed_to, Did, did, superseded, after}
use Rattle.class.specs.Steps.{taken, sheet_taken, asks_at, does_at, does, handed}
use Rattle.class.specs.Chains.{State, state, onward, step_of, Went, further, steps_left, no_more, sheet_fewer}

-- The numbers of the entry at a place, from its length on, from its turn on
-- and from its learner on: the sheet as it was turned in, if they can be read.
unfoldable pub length_at : List ℕ → ℕ → ℕ → ℕ → Option Turned
length_at file learner turn at =
    met (read_at limit32 file at) (λ _. None)
    (λ size next. Some (record { learner = learner; turn = turn; place = next; length = size }))

unfoldable pub turn_at : List ℕ → ℕ → ℕ → Option Turned
turn_at file learner at = met (read_at limit32 file at) (λ _. None) (length_at file learner)

unfoldable pub header_at : List ℕ → ℕ → Option Turned
header_at file at = met (read_at limit32 file at) (λ _. None) (turn_at file)

-- what follows a number, where it is there
abbrev number_then : Option (ℕ × ℕ) → (ℕ → ℕ → Option Turned) → Option Turned
number_then None g = None
number_then (Some (v, n)) g = g v n

met_then : (r : Reading) (g : ℕ → ℕ → Option Turned) → met r (λ _. None) g ≡ number_then (result_ok r) g
unfolding met
met_then (Ok (v, n)) g = refl
met_then (Err (BadNumber n)) g = refl
met_then (Err CutShort) g = refl

pub read_then : (file : List ℕ) (at : ℕ) (g : ℕ → ℕ → Option Turned) (r : Reading) (o q : Option (ℕ × ℕ))
    → r ≡ read_at limit32 file at → o ≡ result_ok r → o ≡ q
    → met (read_at limit32 file at) (λ _. None) g ≡ number_then q g
read_then file at g r o q a b c =
    ap (λ (x : Reading). met x (λ _. None) g) (sym a) ∙ met_then r g ∙ ap (λ (x : Option (ℕ × ℕ)). number_then x g) (sym b ∙ c)

module _ (file : List ℕ) where
  -- Steps that print nothing lead from one place and report to others.
  unfoldable pub Leads : ℕ → Report → ℕ → Report → Type 0
  Leads at r next q =
      (x : State) (bytes : List ℕ) (s : Session) → Went file x bytes (state at r s) → Went file x bytes (state next q s)

  leads_on : (at b c : ℕ) (r p q : Report) → Leads at r b p → Leads b p c q → Leads at r c q
  unfolding Leads
  leads_on at b c r p q f g x bytes s w = g x bytes s (f x bytes s w)

  -- one step
  step-leads : (at : ℕ) (r : Report) (bytes : List ℕ) (q : Report) → handed file at r ≡ bytes
      → ((s : Session) → does file at bytes r s ≡ did q [] s)
      → Leads at r (at + length bytes) q
  unfolding Leads
  step-leads at r bytes q h d x text s w =
      let is : step_of file at r s ≡ did q [] s = ap (λ (l : List ℕ). does file at l r s) h ∙ d s in
      let there : onward file (state at r s) ≡ state (at + length bytes) q s =
      λ i. state (at + length (h i)) (is i).report (is i).session in
      subst (Went file x text) there
      (subst (λ (l : List ℕ). Went file x l (onward file (state at r s))) (ap (λ (y : Did). text ++ y.text) is ∙ append-nil text)
      (further text (state at r s) w))

  -- A stage in which a byte of a number is taken, and what a number that was begun before is worth.
  record Takes (stage : Stage) : Type 0 where
    one : (r : Report) → asks_at r stage ≡ 1
    takes : (at : ℕ) (bytes : List ℕ) (r : Report) (s : Session) → does_at file at bytes r s stage ≡ did (byte r stage bytes) [] s
    same : (r : Report) (next : Reader) (v : ℕ) → valued (fed_to r stage next) stage v ≡ valued r stage v

  learner_takes : Takes Learner
  unfolding asks_at does_at valued
  learner_takes = record { one = λ r. refl; takes = λ at bytes r s. refl; same = λ r next v. refl }

  turn_takes : Takes Turn
  unfolding asks_at does_at valued
  turn_takes = record { one = λ r. refl; takes = λ at bytes r s. refl; same = λ r next v. refl }

  length_takes : Takes Length
  unfolding asks_at does_at valued
  length_takes = record { one = λ r. refl; takes = λ at bytes r s. refl; same = λ r next v. refl }

  -- A number that can be read leads to what comes behind it.
  feeds-leads : (stage : Stage) → Takes stage → (rest : List ℕ) (at : ℕ) (r : Report) (reader : Reader) (v n : ℕ)
      → drop at file ≡ rest
      → feeds limit32 reader rest at ≡ Ok (v, n) → Leads at (fed_to r stage reader) n (valued r stage v)
  unfolding feeds byte numbered
  feeds-leads stage t [] at r reader v n d e = absurd (unread e)
    where
      unread : ◌≡◌ {A = Reading} (Err CutShort) (Ok (v, n)) → ⊥
      unread e = let z : ◌≡◌ {A = ℕ} 0 1 = cc in omega arith
  feeds-leads stage t (b ∷ bs) at r reader v n d e =
      go (fed limit32 reader b) refl e (λ next. feeds-leads stage t bs (at + 1) r next v n next-bytes)
    where
      next-bytes : drop (at + 1) file ≡ bs
      next-bytes = sym (drop-drop 1 at file) ∙ ap (drop 1) d

      there : Report
      there = fed_to r stage reader

      one : handed file at there ≡ b ∷ []
      one = rw (t.one there, d) refl

      first : (q : Report) → byte there stage (b ∷ []) ≡ q → Leads at there (at + 1) q
      first q is = step-leads at there (b ∷ []) q one (λ s. t.takes at (b ∷ []) there s ∙ ap (λ (p : Report). did p [] s) is)

      go : (f : Fed) → fed limit32 reader b ≡ f
          → ◌≡◌ {A = Reading}
          (elim f [ More next ↦ feeds limit32 next bs (at + 1) | Whole w ↦ Ok (w, at + 1) | Bad ↦ Err (BadNumber (at + 1)) ])
          (Ok (v, n))
          → ((next : Reader) → feeds limit32 next bs (at + 1) ≡ Ok (v, n)
          → Leads (at + 1) (fed_to r stage next) n (valued r stage v))
          → Leads at there n (valued r stage v)
      go (More next) f e ih =
          leads_on at (at + 1) n there (fed_to r stage next) (valued r stage v) (first (fed_to r stage next) (rw f refl))
          (ih next e)
      go (Whole w) f e ih =
          let same = same_read w (at + 1) v n e in
          subst (λ (k : ℕ). Leads at there k (valued r stage v)) same.1
          (first (valued r stage v) (rw f (t.same r reader w ∙ ap (valued r stage) same.0)))
      go Bad f e ih = absurd (bad e)
        where
          bad : ◌≡◌ {A = Reading} (Err (BadNumber (at + 1))) (Ok (v, n)) → ⊥
          bad e = let z : ◌≡◌ {A = ℕ} 0 1 = cc in omega arith

  -- a number that stands at a place
  number-leads : (stage : Stage) → Takes stage → (at : ℕ) (r : Report) (v n : ℕ) → read_at limit32 file at ≡ Ok (v, n)
      → Leads at (fed_to r stage start) n (valued r stage v)
  number-leads stage t at r v n e = feeds-leads stage t (drop at file) at r start v n refl (feeds_reads limit32 file at ∙ e)

  -- Numbers that can be read lead to the entry's sheet.
  module _ (at l : ℕ) (q : Option Turned) (t : Tally) where
    abbrev from : Report
    from = going (suc l) q t

    unfoldable pub Heads : Option Turned → Type 0
    Heads None = Unit {0}
    Heads (Some e) =
        Leads at from e.place (entry_to from Sheet e.learner e.turn e.length) × (at < e.place)
        × (e.place ≤ length file)

    length_heads : (learner turn b : ℕ) → at ≤ b → Leads at from b (entry_to from Length learner turn 0)
        → Heads (length_at file learner turn b)
    unfolding Heads length_at met valued
    length_heads learner turn b up w = go (read_at limit32 file b) refl
      where
        here : Report
        here = entry_to from Length learner turn 0

        go : (r : Reading) → read_at limit32 file b ≡ r
            → Heads
            (met r (λ _. None)
            (λ size next. Some (record { learner = learner; turn = turn; place = next; length = size })))
        go (Ok (size, c)) e =
            let n = value-next limit32 file b size c e in (
              leads_on at b c from here (entry_to from Sheet learner turn size) w
                  (number-leads Length length_takes b here size c e),
              omega (arith, n.1),
              n.2,
            )
        go (Err (BadNumber n)) e = tt
        go (Err CutShort) e = tt

    turn_heads : (learner a : ℕ) → at ≤ a → Leads at from a (entry_to from Turn learner 0 0) → Heads (turn_at file learner a)
    unfolding Heads turn_at met valued
    turn_heads learner a up w = go (read_at limit32 file a) refl
      where
        here : Report
        here = entry_to from Turn learner 0 0

        go : (r : Reading) → read_at limit32 file a ≡ r → Heads (met r (λ _. None) (length_at file learner))
        go (Ok (turn, b)) e =
            let n = value-next limit32 file a turn b e in
            length_heads learner turn b (omega (arith, n.1))
            (leads_on at a b from here (entry_to from Length learner turn 0) w (number-leads Turn turn_takes a here turn b e))
        go (Err (BadNumber n)) e = tt
        go (Err CutShort) e = tt

    pub heads : Heads (header_at file at)
    unfolding Heads header_at met going entry_or_line valued
    heads = go (read_at limit32 file at) refl
      where
        go : (r : Reading) → read_at limit32 file at ≡ r → Heads (met r (λ _. None) (turn_at file))
        go (Ok (learner, a)) e =
            let n = value-next limit32 file at learner a e in
            turn_heads learner a (omega (arith, n.1)) (number-leads Learner learner_takes at from learner a e)
        go (Err (BadNumber n)) e = tt
        go (Err CutShort) e = tt

  -- The sheet of another turn of the pending learner: the one that supersedes is pending behind it.
  sheet_leads : (l : ℕ) (p e : Turned) (t : Tally) → e.learner ≡ p.learner → Holds (fits file e.place e.length)
      → Leads e.place (entry_to (going (suc l) (Some p) t) Sheet e.learner e.turn e.length) (e.place + e.length)
      (going l (Some (superseded file p e)) t)
  unfolding asks_at does_at sheet_taken taken after going
  sheet_leads l p e t same h =
      let at = e.place in
      let size = e.length in
      let r = entry_to (going (suc l) (Some p) t) Sheet e.learner e.turn size in
      let bytes = sheet_at file at size in
      let next = going l (Some (superseded file p e)) t in
      let n : length bytes ≡ size = length-take-le size (drop at file) h.1 in
      let handed-is : handed file at r ≡ bytes =
      ap (λ (k : ℕ). take k (drop at file)) (choose_yes (size ≼ most_bytes) size 0 h.0) in
      let one : suc l - 1 ≡ l = omega arith in
      let does-is : (s : Session) → does file at bytes r s ≡ did next [] s = λ s.
      rw (
        passes (fits bytes 0 size) (h.0, omega arith),
        passes (p.learner ≼ e.learner) (omega arith),
        passes (p.learner ≐ e.learner) (sym same),
        one,
      ) refl in
      subst (λ (k : ℕ). Leads at r (at + k) next) n (step-leads at r bytes next handed-is does-is)

  -- Steps that were passed over at once: they print nothing, and fewer are left.
  pub record Passed (at : ℕ) (r : Report) (next : ℕ) (q : Report) : Type 0 where
    pub leads : Leads at r next q
    pub inside : next ≤ length file
    pub fewer : steps_left file next q ≤ steps_left file at r

  pub passed_none : (at : ℕ) (r : Report) → at ≤ length file → Passed at r at r
  unfolding Leads
  passed_none at r h = record { leads = λ x bytes s w. w; inside = h; fewer = omega arith }

  pub passed_then : (at b c : ℕ) (r p q : Report) → Passed at r b p → Passed b p c q → Passed at r c q
  passed_then at b c r p q v w = record {
    leads = leads_on at b c r p q v.leads w.leads;
    inside = w.inside;
    fewer = omega (arith, v.fewer, w.fewer);
  }

  -- One turn more.
  pub passed_more : (at : ℕ) (r : Report) (next more : ℕ) (p e : Turned) (t : Tally) → 1 < more
      → Passed at r next (going more (Some p) t)
      → header_at file next ≡ Some e → e.learner ≡ p.learner → Holds (fits file e.place e.length)
      → Passed at r (e.place + e.length) (going (more - 1) (Some (superseded file p e)) t)
  unfolding Heads going entry_or_line
  passed_more at r next zero p e t h w is same f = absurd (omega arith)
  passed_more at r next (suc zero) p e t h w is same f = absurd (omega arith)
  passed_more at r next (suc (suc l)) p e t h w is same f =
      let n = subst (Heads next (suc l) (Some p) t) is (heads next (suc l) (Some p) t) in
      let was = going (suc (suc l)) (Some p) t in
      let q = going (suc l) (Some (superseded file p e)) t in
      let end = e.place + e.length in
      let one : suc (suc l) - 1 ≡ suc l = omega arith in
      let leads = leads_on next e.place end was _ q n.0 (sheet_leads (suc l) p e t same f) in
      let passed : Passed at r end q = record {
        leads = leads_on at next end r was q w.leads leads;
        inside = omega (arith, f.1, length-drop e.place file, n.2);
        fewer = omega (arith, w.fewer, no_more file next end was q (omega (arith, n.1)) refl);
      } in
      subst (λ (k : ℕ). Passed at r end (going k (Some (superseded file p e)) t)) (sym one) passed

  -- where its numbers were read its sheet lies inside the file
  pub header_inside : (at : ℕ) (e : Turned) → header_at file at ≡ Some e → e.place ≤ length file
  unfolding Heads
  header_inside at e is = (subst (Heads at 0 None no_counts) is (heads at 0 None no_counts)).2

  -- The numbers of an entry.
  pub passed_numbers : (at : ℕ) (r : Report) (next left : ℕ) (q : Option Turned) (t : Tally) (e : Turned) → 1 ≤ left
      → Passed at r next (going left q t)
      → header_at file next ≡ Some e
      → Passed at r e.place (entry_to (going left q t) Sheet e.learner e.turn e.length)
  unfolding Heads going entry_or_line
  passed_numbers at r next zero q t e h w is = absurd (omega arith)
  passed_numbers at r next (suc l) q t e h w is =
      let n = subst (Heads next l q t) is (heads next l q t) in
      let was = going (suc l) q t in
      let there = entry_to was Sheet e.learner e.turn e.length in
      record {
        leads = leads_on at next e.place r was there w.leads n.0;
        inside = n.2;
        fewer = omega (arith, w.fewer, sheet_fewer file next e.place was there n.1 n.2 refl refl);
      }

-- A report that stands at the start of an entry.
pub begins : (r : Report) → r.stage ≡ Learner → r.number.value ≡ 0 → r.number.weight ≡ 1 → (r.left ≡ 0 → ⊥)
    → r.learner ≡ 0 → r.turn ≡ 0 → r.length ≡ 0 → r.stop ≡ 0 → r ≡ going r.left r.pending r.tally
unfolding going start
begins r stage value weight left learner turn length stop i = record {
  stage = (stage ∙ entry_next r.left left) i;
  number = record { value = value i; weight = weight i };
  left = r.left;
  learner = learner i;
  turn = turn i;
  length = length i;
  stop = stop i;
  pending = r.pending;
  tally = r.tally;
}

-- a test that failed did not pass
pub not_so : {A : Type 0} → false ≡ true → A
not_so e = absurd (subst T (sym e) tt)
