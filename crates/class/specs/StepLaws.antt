-- A step prints what comes next: what it prints, and what is printed from where the report then stands, is what was printed from
-- where it stood.
use Prim.Native.Nat.{ℕ, zero, suc, ◌+◌, ◌-◌}
use mathlib.Core.List.{List, [], ◌∷◌, ◌++◌, append-nil, append_assoc}
use Rattle.std.specs.Prelude.{◌≡◌, Ok, Err, Option, None, Some}
use Rattle.std.proofs.Math.Path.{refl, ap, sym}
use Rattle.std.proofs.Common.{◌∙◌, drop-drop}
use native.Mathlib.Omega.{arith}
use Rattle.std.proofs.Math.Nat.{add-zero}
use Rattle.std.proofs.Math.ListN.{length, take, drop, length-take}
use Rattle.std.proofs.Math.Seq.{length-take-le}
use Rattle.number.specs.Number.{limit32, Reading}
use Rattle.number.specs.declared.Unread.TheVariants.{CutShort, Bad as BadNumber}
use Rattle.number.specs.Fed.{start, fed, feeds}
use Rattle.number.specs.FedLaws.{feeds_reads}
use Rattle.number.specs.declared.reader.Reader.{Reader}
use Rattle.number.specs.declared.reader.Fed.{Fed}
use Rattle.number.specs.declared.reader.Fed.TheVariants.{More, Whole, Bad}
use Rattle.session.specs.Table.{Session}
use Rattle.rules.specs.Formula.{choose, Holds, Formula.◌≐◌, Formula.◌≼◌}
use Rattle.rules.specs.FormulaLaws.{Case, decide, passes, fails, choose_yes, choose_no, Case.it_does, Case.it_does_not}
use Rattle.sheet_counts.specs.declared.Tally.{Tally}
use Rattle.sheet_counts.specs.Answers.{counts_of}
use Rattle.tally.specs.Raise.{raise}
use Rattle.class.specs.declared.Report.{Report}
use Rattle.class.specs.declared.Turned.{Turned}
use Rattle.class.specs.declared.Stage.{Stage}
use Rattle.class.specs.declared.Stage.TheVariants.{Head, Count, Learner, Turn, Length, Sheet, Line, Last, Nothing}
use Rattle.turns.specs.MemoryPlaces.{drop-least}
use Rattle.class_rules.specs.Report.{Entry, most_bytes, met, fits, sheet_at, entry_line, entry_lines, last_line}
use Rattle.class_rules.specs.OnePass.{learner_of, superseding, printed, kept}
use Rattle.class_rules.specs.Totals.{raised_by}
use Rattle.class.specs.StillPrinted.{end_text, sheet_text, length_text, turn_text, learner_text, entries_text, count_text, text_at}
use Rattle.class.specs.StillPrinted.{report_from}
use Rattle.class.specs.Steps.{stopping, entry_or_line, going, valued, numbered, byte, Did, turned_in, sheet_of, entry_of}
use Rattle.class.specs.Steps.{pending_in, closed, superseded, after, taken, sheet_taken, asks_at, does_at, does, handed}

module _ (file : List ℕ) where
  -- with so many entries left, a pending sheet and a tally, the lines of those and the last line are printed
  going-text : (at left : ℕ) (p : Option Turned) (t : Tally)
      → report_from file at (going left p t) ≡ entries_text file left at (pending_in file p) t
  unfolding report_from going entry_or_line entries_text
  going-text at zero p t = refl
  going-text at (suc left) p t =
      let one : suc left - 1 ≡ left = omega arith in
      ap (λ (n : ℕ). learner_text file (entries_text file n) (pending_in file p) t (feeds limit32 start (drop at file) at)) one
      ∙ ap (learner_text file (entries_text file left) (pending_in file p) t) (feeds_reads limit32 file at)

  -- What a step prints, and what is printed from where it leads.
  abbrev Prints : ℕ → Did → List ℕ → Type 0
  Prints next d x = d.text ++ report_from file next d.report ≡ x

  stop_prints : (r : Report) (n next : ℕ)
      → report_from file next (stopping r n) ≡ end_text (pending_in file r.pending) r.tally n
  unfolding report_from
  stop_prints r n next = refl

  -- What a number's stage prints of what is read there: a stop, or what comes behind the number.
  record Reads (r : Report) (stage : Stage) (prints : Reading → List ℕ) : Type 0 where
    cut : prints (Err CutShort) ≡ end_text (pending_in file r.pending) r.tally 3
    bad : (n : ℕ) → prints (Err (BadNumber n)) ≡ end_text (pending_in file r.pending) r.tally 4
    whole : (v n : ℕ) → report_from file n (valued r stage v) ≡ prints (Ok (v, n))
    more : (next : Reader) (n : ℕ)
        → report_from file n (numbered r stage (More next)) ≡ prints (feeds limit32 next (drop n file) n)

  number_step : (at : ℕ) (r : Report) (stage : Stage) (prints : Reading → List ℕ) → Reads r stage prints → (rest : List ℕ)
      → drop at file ≡ rest
      → report_from file (at + length (take 1 rest)) (byte r stage (take 1 rest)) ≡ prints (feeds limit32 r.number rest at)
  unfolding byte feeds numbered
  number_step at r stage prints x [] e = stop_prints r 3 _ ∙ sym x.cut
  number_step at r stage prints x (b ∷ bs) e = go (fed limit32 r.number b)
    where
      next-bytes : drop (at + 1) file ≡ bs
      next-bytes = sym (drop-drop 1 at file) ∙ ap (drop 1) e

      go : (f : Fed)
          → report_from file (at + 1) (numbered r stage f)
          ≡ prints (elim f [ More next ↦ feeds limit32 next bs (at + 1) | Whole v ↦ Ok (v, at + 1) | Bad ↦ Err (BadNumber (at + 1)) ])
      go (More next) = x.more next (at + 1) ∙ rw next-bytes refl
      go (Whole v) = x.whole v (at + 1)
      go Bad = stop_prints r 4 _ ∙ sym (x.bad (at + 1))

  -- Of two entries of one learner the one that supersedes lies where it is said to.
  superseded-is : (p e : Turned) → entry_of file (superseded file p e) ≡ superseding (entry_of file p) (entry_of file e)
  unfolding superseded superseding
  superseded-is p e = go (decide (p.turn ≼ e.turn))
    where
      go : Case (p.turn ≼ e.turn) → entry_of file (superseded file p e) ≡ superseding (entry_of file p) (entry_of file e)
      go (it_does h) =
          ap (entry_of file) (choose_yes (p.turn ≼ e.turn) e _ h)
          ∙ sym (choose_yes (p.turn ≼ e.turn) (entry_of file e) (entry_of file p) h)
      go (it_does_not n) =
          ap (entry_of file) (choose_no (p.turn ≼ e.turn) e _ n)
          ∙ ap (λ (l : List ℕ). record { learner = p.learner; turn = p.turn; sheet = take p.length l })
          (drop-least p.place file)
          ∙ sym (choose_no (p.turn ≼ e.turn) (entry_of file e) (entry_of file p) n)

  module _ (r : Report) where
    count_reads : Reads r Count (count_text file (pending_in file r.pending) r.tally)
    unfolding count_text met valued numbered report_from
    count_reads =
        record { cut = refl; bad = λ n. refl; whole = λ v n. going-text n v r.pending r.tally; more = λ next n. refl }

    learner_reads : Reads r Learner (learner_text file (entries_text file (r.left - 1)) (pending_in file r.pending) r.tally)
    unfolding learner_text met valued numbered report_from
    learner_reads = record {
      cut = refl;
      bad = λ n. refl;
      whole =
          λ v n. ap (turn_text file (entries_text file (r.left - 1)) (pending_in file r.pending) v r.tally)
          (feeds_reads limit32 file n);
      more = λ next n. refl;
    }

    turn_reads : Reads r Turn
        (turn_text file (entries_text file (r.left - 1)) (pending_in file r.pending) r.learner r.tally)
    unfolding turn_text met valued numbered report_from
    turn_reads = record {
      cut = refl;
      bad = λ n. refl;
      whole =
          λ v n. ap (length_text file (entries_text file (r.left - 1)) (pending_in file r.pending) r.learner v r.tally)
          (feeds_reads limit32 file n);
      more = λ next n. refl;
    }

    length_reads : Reads r Length
        (length_text file (entries_text file (r.left - 1)) (pending_in file r.pending) r.learner r.turn r.tally)
    unfolding length_text met valued numbered report_from
    length_reads = record { cut = refl; bad = λ n. refl; whole = λ v n. refl; more = λ next n. refl }

    -- what an entry's sheet that is all there prints, with a pending entry before it, and what comes behind it
    follow_text : List Entry → Entry → ℕ → List ℕ
    follow_text pending e next =
        choose (learner_of pending ≼ e.learner)
        (entry_lines (printed pending e)
        ++ entries_text file (r.left - 1) next (kept pending e ∷ []) (raised_by r.tally (printed pending e)))
        (end_text pending r.tally 23)

    after-prints : (s : Session) (at next : ℕ) (p : Turned) → r.pending ≡ Some p
        → Prints next (after file r s at p) (follow_text (entry_of file p ∷ []) (entry_of file (turned_in r at)) next)
    unfolding after follow_text learner_of printed kept entry_lines raised_by
    after-prints s at next p e = go (decide (p.learner ≼ r.learner)) (decide (p.learner ≐ r.learner))
      where
        go : Case (p.learner ≼ r.learner) → Case (p.learner ≐ r.learner)
            → Prints next (after file r s at p) (follow_text (entry_of file p ∷ []) (entry_of file (turned_in r at)) next)
        go (it_does_not n) _ =
            rw (fails (p.learner ≼ r.learner) n)
            (stop_prints r 23 next ∙ ap (λ (q : Option Turned). end_text (pending_in file q) r.tally 23) e)
        go (it_does h) (it_does same) =
            rw (passes (p.learner ≼ r.learner) h, passes (p.learner ≐ r.learner) same)
            (going-text next (r.left - 1) (Some (superseded file p (turned_in r at))) r.tally
            ∙ ap (λ (x : Entry). entries_text file (r.left - 1) next (x ∷ []) r.tally) (superseded-is p (turned_in r at)))
        go (it_does h) (it_does_not other) =
            let counts = counts_of (sheet_of file p) in
            let line = entry_line p.learner p.turn counts in
            rw (passes (p.learner ≼ r.learner) h, fails (p.learner ≐ r.learner) other)
            (ap (λ (l : List ℕ). line ++ l) (going-text next (r.left - 1) (Some (turned_in r at)) (raise r.tally counts))
            ∙ sym (append_assoc line [] _))

    taken-prints : (s : Session) (at next : ℕ) (p : Option Turned) → r.pending ≡ p
        → Prints next (taken file r s at p) (follow_text (pending_in file p) (entry_of file (turned_in r at)) next)
    unfolding taken follow_text learner_of printed kept entry_lines raised_by
    taken-prints s at next None e =
        going-text next (r.left - 1) (Some (turned_in r at)) r.tally
        ∙ sym (choose_yes (0 ≼ r.learner) _ (end_text [] r.tally 23) (omega arith))
    taken-prints s at next (Some p) e = after-prints s at next p e

    -- the pending sheet's line, if there is one, and the last line
    closed-prints : (s : Session) (at : ℕ) (p : Option Turned)
        → Prints at (closed file r s p) (end_text (pending_in file p) r.tally r.stop)
    unfolding closed report_from end_text entry_lines raised_by
    closed-prints s at None = refl
    closed-prints s at (Some p) = sym (append_assoc (entry_line p.learner p.turn (counts_of (sheet_of file p))) [] _)

    -- a sheet is taken if all of it is handed; else it is 22
    sheet_prints : Session → ℕ → List ℕ → Type 0
    sheet_prints s at bytes =
        Prints (at + length bytes) (sheet_taken file r s at bytes)
        (sheet_text file (entries_text file (r.left - 1)) (pending_in file r.pending) r.learner r.turn r.tally
        r.length at)

    sheet_whole : (s : Session) (at : ℕ) → Holds (fits file at r.length) → sheet_prints s at (sheet_at file at r.length)
    unfolding sheet_prints sheet_text sheet_taken follow_text
    sheet_whole s at h =
        let size = r.length in
        let sheet = sheet_at file at size in
        let n : length sheet ≡ size = length-take-le size (drop at file) h.1 in
        rw (passes (fits file at size) h, passes (fits sheet 0 size) (h.0, omega arith), n)
        (taken-prints s at (at + size) r.pending refl)

    sheet_not : (s : Session) (at : ℕ) (bytes : List ℕ) → (Holds (fits file at r.length) → ⊥)
        → (Holds (fits bytes 0 r.length) → ⊥) → sheet_prints s at bytes
    unfolding sheet_prints sheet_text sheet_taken
    sheet_not s at bytes n m =
        rw (fails (fits file at r.length) n, fails (fits bytes 0 r.length) m) (stop_prints r 22 (at + length bytes))

    sheet_step : (s : Session) (at : ℕ) → sheet_prints s at (take (asks_at r Sheet) (drop at file))
    unfolding asks_at
    sheet_step s at = go (decide (fits file at r.length)) (decide (r.length ≼ most_bytes))
      where
        go : Case (fits file at r.length) → Case (r.length ≼ most_bytes)
            → sheet_prints s at (take (choose (r.length ≼ most_bytes) r.length 0) (drop at file))
        go (it_does h) _ = rw (choose_yes (r.length ≼ most_bytes) r.length 0 h.0) (sheet_whole s at h)
        go (it_does_not n) (it_does l) =
            rw (choose_yes (r.length ≼ most_bytes) r.length 0 l)
            (sheet_not s at (sheet_at file at r.length) n
            (λ m. n (l, omega (arith, m.1, length-take r.length (drop at file)))))
        go (it_does_not n) (it_does_not l) =
            rw (choose_no (r.length ≼ most_bytes) r.length 0 l) (sheet_not s at [] n (λ m. l m.0))

    -- the step at each stage
    step-at : (s : Session) (at : ℕ) (stage : Stage) → let bytes = take (asks_at r stage) (drop at file) in
        Prints (at + length bytes) (does_at file at bytes r s stage) (text_at file at r stage)
    unfolding asks_at does_at report_from sheet_prints
    step-at s at Head = rw (add-zero, feeds_reads limit32 file at) refl
    step-at s at Count = number_step at r Count _ count_reads (drop at file) refl
    step-at s at Learner = number_step at r Learner _ learner_reads (drop at file) refl
    step-at s at Turn = number_step at r Turn _ turn_reads (drop at file) refl
    step-at s at Length = number_step at r Length _ length_reads (drop at file) refl
    step-at s at Sheet = sheet_step s at
    step-at s at Line = rw add-zero (closed-prints s at r.pending)
    step-at s at Last = append-nil (last_line r.tally r.stop)
    step-at s at Nothing = refl

  pub step-prints : (at : ℕ) (r : Report) (s : Session) → let d = does file at (handed file at r) r s in
      d.text ++ report_from file (at + length (handed file at r)) d.report ≡ report_from file at r
  unfolding report_from
  step-prints at r s = step-at r s at r.stage
