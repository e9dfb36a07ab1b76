-- Printing a sheet part by part.
use Rattle.std.specs.Prelude.{ℕ, ◌≤◌, ◌<◌, List, [], ◌++◌, ◌≡◌, refl, length, take}
use Rattle.std.proofs.Common.{ap, ◌∙◌}
use native.Mathlib.Omega.{arith}
use Rattle.session.specs.Table.{read, words}
use Rattle.session.specs.Fresh.{fresh_session, Leaves}
use Rattle.rules.specs.Formula.{Holds, test}
use Rattle.rules.specs.Sound.{kept}
use Rattle.sheet.specs.declared.Next.{Next}
use Rattle.sheet.specs.declared.Next.TheVariants.{At, LastLine, Nothing}
use Rattle.sheet.specs.declared.Part.{Part}
use Rattle.sheet.specs.Run.{line_room}
use Rattle.sheet.specs.Going.{lines_of, lent}
use Rattle.sheet.specs.WholeSheet.{fresh-lent}
use Rattle.sheet.specs.SheetPrinted.{Printed, prints, after, print_sheet, print_at, print_next, output, output-start}
use Rattle.sheet.specs.PartOf.{parts_left, PartOf}

-- A chain of parts on one memory, each from where the one before said to go on, until nothing is left; with the bytes of their
-- lines, one behind the other, and the memory after them.
pub data Chain (sheet : List ℕ) : Next → List ℕ → List ℕ → List ℕ → Type 0 where
  done : (memory : List ℕ) → Chain sheet Nothing memory [] memory
  more : (from : Next) (before after' lines lines' : List ℕ) (p : Part) (bytes last : List ℕ)
      → PartOf sheet from before after' lines lines' p
      → Chain sheet p.next after' bytes last
      → Chain sheet from before (take p.used lines' ++ bytes) last

pub chain_printed : (sheet : List ℕ) (from : Next) (memory bytes last : List ℕ) → Chain sheet from memory bytes last
    → prints bytes (read last) ≡ print_next sheet from (read memory)
unfolding print_next
chain_printed sheet Nothing memory _ _ (done _) = refl
chain_printed sheet from memory _ last (more _ _ after' lines lines' p bytes _ x c) =
    ap (after (take p.used lines')) (chain_printed sheet p.next after' bytes last c) ∙ x.printed

-- The theorem: the parts of a sheet from a fresh session are its output, and they leave the session that the sheet leaves.
pub chain_output : (sheet memory bytes last : List ℕ) → read memory ≡ fresh_session → Chain sheet (At 0 0) memory bytes last
    → (bytes ≡ output sheet) × (read last ≡ (print_sheet sheet fresh_session).session)
unfolding print_next print_at test
chain_output sheet memory bytes last fresh c =
    let e = chain_printed sheet (At 0 0) memory bytes last c ∙ ap (print_next sheet (At 0 0)) fresh in
    (ap (λ (p : Printed). p.text) e ∙ output-start sheet, ap (λ (p : Printed). p.session) e)

-- What a program that prints parts has shown before each: check 1 is met, and the session is kept.
pub record Ready (memory lines : List ℕ) : Type 0 where
  pub lends : Holds (lent memory (lines_of lines 0))
  pub keeps : Holds (kept (read memory))

pub ready-fresh : (before memory lines : List ℕ) → words ≤ length before → line_room ≤ length lines
    → Leaves before memory fresh_session → Ready memory lines
ready-fresh before memory lines long room w =
    let x = fresh-lent before memory long w (lines_of lines 0) room in
    record { lends = x.0; keeps = x.1 }

module _ (sheet : List ℕ) (from : Next) (memory after' lines lines' : List ℕ) (p : Part)
    (x : PartOf sheet from memory after' lines lines' p) where
  pub ready-next : Ready memory lines → length lines' ≡ length lines → Ready after' lines'
  ready-next g n =
      record { lends = (rw x.session.same_length g.lends.0, rw n g.lends.1); keeps = x.keeps g.keeps }

  -- where something is left, it is less than before
  pub parts_fewer : (p.next ≡ Nothing → ⊥) → parts_left sheet p.next < parts_left sheet from
  unfolding parts_left
  parts_fewer f = omega (arith, x.further, some p.next f)
    where
      some : (n : Next) → (n ≡ Nothing → ⊥) → 1 ≤ parts_left sheet n
      some (At at k) h = omega arith
      some LastLine h = omega arith
      some Nothing h = absurd (h refl)
