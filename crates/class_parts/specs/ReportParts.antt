-- A part of a report: what lent line memory holds of it, and where the next part goes on.
use Rattle.std.specs.Prelude.{ℕ, ◌+◌, ◌-◌, ◌≤◌, ◌<◌, List, [], ◌++◌, ◌≡◌, ◌⊎◌, Result, Ok, Err, min, length, take, drop}
use Rattle.std.proofs.Math.Path.{refl}
use Rattle.std.proofs.Common.{ap, sym, ◌∙◌, arith, length-take, length-drop, length-take-le, le-leb}
use borrow.Rule.Slice.PartMut.{put_mid, mid_of}
use Rattle.number.specs.Splice.{splice_to}
use Rattle.lines.specs.LineLaws.{splice_tail}
use Rattle.session.specs.TableLaws.{wrote_none, wrote_then}
use Rattle.session.specs.Table.{Wrote, read, words}
use Rattle.session.specs.First.{read_front, wrote_first}
use Rattle.session.specs.Fresh.{Leaves, fresh_session}
use Rattle.rules.specs.declared.refusals.Refusal.{Refusal}
use Rattle.rules.specs.declared.refusals.Refusal.TheVariants.{NoRoom}
use Rattle.rules.specs.Formula.{Formula, choose, Holds, Formula.◌≼◌, Formula.◌and◌}
use Rattle.rules.specs.FormulaLaws.{passes, fails, choose_case}
use Rattle.rules.specs.Sound.{kept}
use Rattle.laws.specs.FreshKept.{fresh_kept}
use Rattle.text.specs.Put.{Put, put_none, put_then}
use Rattle.turns.specs.MemoryPlaces.{least, take-least}
use Rattle.class_parts.specs.declared.Part.{Part}
use Rattle.class.specs.declared.Step.{Step}
use Rattle.class.specs.declared.Report.{Report}
use Rattle.class.specs.declared.Stage.TheVariants.{Nothing}
use Rattle.class.specs.StillPrinted.{report_from}
use Rattle.class.specs.Steps.{asks, handed}
use Rattle.class.specs.Stepped.{Took}
use Rattle.class_parts.specs.Passing.{Leads, Passed}
use Rattle.class.specs.Chains.{state, step_of, said, onward, Went, still, further, went_prints, steps_left, steps_fewer}

-- "Check 1": a line of a report takes at most this many bytes
abbrev pub report_room : ℕ
report_room = 128

-- A step on a file in memory: its line stands behind the lines already there.
pub record SteppedOn (file : List ℕ) (at : ℕ) (r : Report) (before after lines lines' : List ℕ) (used : ℕ)
    (p : Part) : Type 0 where
  pub place : p.place ≡ at + length (handed file at r)
  pub report : p.report ≡ (step_of file at r (read before)).report
  pub line : Put lines used (step_of file at r (read before)).text p.used lines'
  pub short : p.used ≤ used + report_room
  pub session : Wrote before after (step_of file at r (read before)).session
  pub keeps : Holds (kept (read after))

-- A part: steps from where the report stood, as long as there was room for a line. The lines at the start of the memory are what
-- they print; the session is what they leave; the rest of both memories is as it was.
pub record Reported (file : List ℕ) (at : ℕ) (r : Report) (before after lines lines' : List ℕ) (p : Part) : Type 0 where
  pub text : List ℕ
  pub went : Went file (state at r fresh_session) text (state p.place p.report (read after))
  pub line : Put lines 0 text p.used lines'
  pub long : length lines' ≡ length lines
  pub fits : p.used ≤ length lines'
  pub session : Wrote before after (read after)
  pub ends : (p.report.stage ≡ Nothing) ⊎ (length lines' < p.used + report_room)

pub min-least : (a b : ℕ) → min a b ≡ least a b
min-least a b = choose_case (λ (n : ℕ). min a b ≡ n) (a ≼ b) a b (λ h. omega arith) (λ h. omega arith)

-- what the code hands to a step, and where it ends
pub handed-bytes : (file : List ℕ) (at : ℕ) (r : Report) (n : ℕ) → n ≡ least (asks r) (length file - at) → n ≤ length file - at
    → at ≤ length file
    → (take (at + n - at) (drop at file) ≡ handed file at r) × (at + n ≡ at + length (handed file at r))
handed-bytes file at r n e few h =
    let d : length (drop at file) ≡ length file - at = length-drop at file in
    let k : at + n - at ≡ n = omega arith in
    let t : take n (drop at file) ≡ handed file at r =
    ap (λ (x : ℕ). take x (drop at file)) (e ∙ ap (least (asks r)) (sym d)) ∙ take-least (asks r) (drop at file) in (
      ap (λ (x : ℕ). take x (drop at file)) k ∙ t,
      ap (λ (x : ℕ). at + x) (sym (length-take-le n (drop at file) (omega arith)) ∙ ap length t),
    )

-- a step of the code, on the free tail of the line memory
pub stepped_on : (file : List ℕ) (at : ℕ) (r : Report) (bytes before after lines tail : List ℕ) (used end : ℕ) (x : Step)
    (p : Part)
    → used ≤ length lines
    → p ≡ record { used = used + x.used; place = end; report = x.report }
    → bytes ≡ handed file at r
    → end ≡ at + length (handed file at r)
    → Took r file at bytes before after (mid_of used (length lines - used) lines) tail x
    → SteppedOn file at r before after lines (put_mid used (length lines - used) lines tail) used p
stepped_on file at r bytes before after lines tail used end x p h is same place t =
    let u = (rw same at t).moved in
    record {
      place = ap (λ (q : Part). q.place) is ∙ place;
      report = ap (λ (q : Part). q.report) is ∙ u.told.report;
      line = record {
        place = ap (λ (q : Part). q.used) is ∙ omega (arith, u.told.line.place);
        written =
            ap (put_mid used (length lines - used) lines) u.told.line.written
            ∙ splice_tail lines used (step_of file at r (read before)).text h;
      };
      short = omega (arith, ap (λ (q : Part). q.used) is, u.told.short);
      session = u.session;
      keeps = t.keeps;
    }

-- where something is left, a step leaves less
pub stepped_fewer : (file : List ℕ) (at : ℕ) (r : Report) (before after lines lines' : List ℕ) (used : ℕ) (p : Part)
    → SteppedOn file at r before after lines lines' used p → (r.stage ≡ Nothing → ⊥)
    → steps_left file p.place p.report < steps_left file at r
stepped_fewer file at r before after lines lines' used p x n = rw (x.place, x.report) (steps_fewer file at r (read before) n)

-- Check 1 is met, or nothing changes.
abbrev pub lends : List ℕ → List ℕ → Formula
lends memory lines = report_room ≼ length lines and words ≼ length memory

unfoldable pub Parted : List ℕ → ℕ → Report → List ℕ → List ℕ → List ℕ → List ℕ → Result Part Refusal → Type 0
Parted file place r before after lines lines' x =
    choose (lends before lines)
    ((p : Part) × (x ≡ Ok p) × Reported file (least place (length file)) r before after lines lines' p)
    ((after ≡ before) × (lines' ≡ lines) × (x ≡ Err NoRoom))

-- The bytes of the lines, and what is printed from where the next part goes on, are what is printed from where this one began.
pub part-prints : (file : List ℕ) (at : ℕ) (r : Report) (before after lines lines' : List ℕ) (p : Part)
    → Reported file at r before after lines lines' p
    → take p.used lines' ++ report_from file p.place p.report ≡ report_from file at r
part-prints file at r before after lines lines' p x =
    let y = x.line in
    let t : take p.used lines' ≡ x.text =
    rw (y.place, y.written) (splice_to lines 0 x.text (omega (arith, x.fits, x.long, y.place))) in
    ap (λ (l : List ℕ). l ++ report_from file p.place p.report) t ∙ went_prints file _ _ _ x.went

-- While the steps go: those so far, what they printed, and the session that they left.
pub record Going (file : List ℕ) (at : ℕ) (r : Report) (before now-memory lines now-lines : List ℕ) (place : ℕ) (q : Report)
    (used : ℕ) : Type 0 where
  pub text : List ℕ
  pub went : Went file (state at r fresh_session) text (state place q (read now-memory))
  pub line : Put lines 0 text used now-lines
  pub session : Wrote before now-memory (read now-memory)
  pub keeps : Holds (kept (read now-memory))
  pub inside : place ≤ length file
  pub fits : used ≤ length now-lines
  pub long : length now-lines ≡ length lines

-- no step as yet
pub going-first : (file : List ℕ) (at : ℕ) (r : Report) (memory lines : List ℕ) → read memory ≡ fresh_session → at ≤ length file
    → Going file at r memory memory lines lines at r 0
going-first file at r memory lines e h = record {
  text = [];
  went = rw e still;
  line = put_none lines 0;
  session = wrote_none memory;
  keeps = rw e fresh_kept;
  inside = h;
  fits = omega arith;
  long = refl;
}

module _ (file : List ℕ) (at : ℕ) (r : Report) (before memory lines now-lines : List ℕ) (place : ℕ) (q : Report) (used : ℕ)
    (g : Going file at r before memory lines now-lines place q used)
  where
    -- turns that were passed over
    pub going_along : (next : ℕ) (p : Report) → Passed file place q next p
        → Going file at r before memory lines now-lines next p used
    unfolding Leads
    going_along next p w = record {
      text = g.text;
      went = w.leads _ _ _ g.went;
      line = g.line;
      session = g.session;
      keeps = g.keeps;
      inside = w.inside;
      fits = g.fits;
      long = g.long;
    }

    -- one step more
    pub going_on : (memory' lines' : List ℕ) (p : Part) → used + report_room ≤ length now-lines → length lines' ≡ length now-lines
        → SteppedOn file place q memory memory' now-lines lines' used p
        → Going file at r before memory' lines lines' p.place p.report p.used
    going_on memory' lines' p room long x =
        let w : Went file (state at r fresh_session) (g.text ++ said file (state place q (read memory)))
        (onward file (state place q (read memory))) =
        further g.text _ g.went in
        record {
          text = g.text ++ said file (state place q (read memory));
          went = rw (x.place, x.report, x.session.reading) w;
          line = put_then (omega (arith, g.line.place, g.fits, g.long)) g.line x.line;
          session = record {
            same_length = x.session.same_length ∙ g.session.same_length;
            reading = refl;
            past = x.session.past ∙ g.session.past;
          };
          keeps = x.keeps;
          inside = omega (arith, x.place, length-take (asks q) (drop place file), length-drop place file, g.inside);
          fits = omega (arith, x.short);
          long = long ∙ g.long;
        }

    -- nothing is left, or there is no room for a line
    pub going_ends : (q.stage ≡ Nothing) ⊎ (length now-lines < used + report_room)
        → Reported file at r before memory lines now-lines (record { used = used; place = place; report = q })
    going_ends e = record {
      text = g.text;
      went = g.went;
      line = g.line;
      long = g.long;
      fits = g.fits;
      session = g.session;
      ends = e;
    }

module _ (file : List ℕ) (place : ℕ) (r : Report) (before lines : List ℕ) where
  -- memory that is not lent stays as it was
  pub parted_not : (Holds (lends before lines) → ⊥) → Parted file place r before before lines lines (Err NoRoom)
  unfolding Parted
  parted_not n = rw (fails (lends before lines) n) (refl, refl, refl)

  pub fresh-read : (fresh : List ℕ) → Holds (lends before lines) → Leaves before fresh fresh_session
      → (words ≤ length fresh) × (read fresh ≡ fresh_session)
  fresh-read fresh h w =
      let v : Wrote before fresh fresh_session = rw (le-leb words (length before) h.1) at w in
      (omega (arith, h.1, v.same_length), v.reading)

  pub parted_fresh : (fresh after lines' : List ℕ) (at : ℕ) (p : Part)
      → Holds (lends before lines) → Leaves before fresh fresh_session → at ≡ least place (length file)
      → Reported file at r fresh after lines lines' p → Parted file place r before after lines lines' (Ok p)
  unfolding Parted
  parted_fresh fresh after lines' at p h w e x =
      let v : Wrote before fresh fresh_session = rw (le-leb words (length before) h.1) at w in
      let y = rw e at x in
      rw (passes (lends before lines) h) (
        p,
        refl,
        record {
          text = y.text;
          went = y.went;
          line = y.line;
          long = y.long;
          fits = y.fits;
          session = wrote_then v y.session;
          ends = y.ends;
        },
      )

  -- memory of whose first words a fresh session was made
  pub parted_first : (fresh after lines' : List ℕ) (at : ℕ) (p : Part)
      → Holds (lends before lines) → Wrote (take words before) fresh fresh_session → at ≡ least place (length file)
      → Reported file at r fresh after lines lines' p
      → Parted file place r before (after ++ drop words before) lines lines' (Ok p)
  unfolding Parted
  parted_first fresh after lines' at p h w e x =
      let y = rw e at x in
      let v = wrote_then w y.session in
      let long : length after ≡ words = v.same_length ∙ length-take-le words before h.1 in
      let same : read (after ++ drop words before) ≡ read after = read_front after (drop words before) long in
      rw (passes (lends before lines) h) (
        p,
        refl,
        record {
          text = y.text;
          went = rw same y.went;
          line = y.line;
          long = y.long;
          fits = y.fits;
          session = rw same (wrote_first before after (read after) h.1 v);
          ends = y.ends;
        },
      )
