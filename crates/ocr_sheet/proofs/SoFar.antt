-- What the sheet program has written so far, and what is printed from where it goes on, are the sheet's output.
use Rattle.std.proofs.Common.{ℕ, List, [], ◌++◌, ◌≡◌, ap, sym, ◌∙◌, append_assoc, append-nil, take, subst}
use Rattle.std.specs.Prelude.{Option}
use Rattle.std.specs.Io.KnownBytes.{Appends}
use Rattle.std.proofs.KnownBytes.{Appends-trans}
use Rattle.session.specs.Table.{read}
use Rattle.session.specs.Fresh.{fresh_session}
use Rattle.sheet.specs.declared.Next.{Next}
use Rattle.sheet.specs.declared.Next.TheVariants.{At, Nothing}
use Rattle.sheet.specs.declared.Part.{Part}
use Rattle.sheet.specs.PartOf.{PartOf}
use Rattle.sheet.specs.SheetPrinted.{Printed, print_next, output, output_from, output-start}

abbrev pub SoFar : List ℕ → List ℕ → Next → List ℕ → Type 0
SoFar sheet written next memory = written ++ output_from sheet next (read memory) ≡ output sheet

pub so_far_begins : (sheet memory : List ℕ) → read memory ≡ fresh_session → SoFar sheet [] (At 0 0) memory
so_far_begins sheet memory fresh = ap (output_from sheet (At 0 0)) fresh ∙ output-start sheet

pub so_far_goes_on : (sheet written : List ℕ) (from : Next) (memory memory' lines lines' : List ℕ) (p : Part)
    → PartOf sheet from memory memory' lines lines' p → SoFar sheet written from memory
    → SoFar sheet (written ++ take p.used lines') p.next memory'
so_far_goes_on sheet written from memory memory' lines lines' p x s =
    append_assoc written (take p.used lines') (output_from sheet p.next (read memory'))
    ∙ ap (λ (l : List ℕ). written ++ l) (ap (λ (q : Printed). q.text) x.printed) ∙ s

so_far_ends : (sheet written : List ℕ) (next : Next) (memory : List ℕ) → next ≡ Nothing → SoFar sheet written next memory
    → written ≡ output sheet
unfolding print_next
so_far_ends sheet written next memory e s =
    sym (append-nil written) ∙ ap (λ (n : Next). written ++ output_from sheet n (read memory)) (sym e) ∙ s

-- where nothing is left, what was written is the output
pub output_written : (old mid new : Option (List ℕ)) (sheet written : List ℕ) (from : Next) (memory memory' lines lines' : List ℕ)
    (p : Part) → PartOf sheet from memory memory' lines lines' p → SoFar sheet written from memory → p.next ≡ Nothing
    → Appends old mid written → Appends mid new (take p.used lines') → Appends old new (output sheet)
output_written old mid new sheet written from memory memory' lines lines' p x s e before last =
    let whole = so_far_ends sheet (written ++ take p.used lines') p.next memory' e
    (so_far_goes_on sheet written from memory memory' lines lines' p x s) in
    subst (λ (l : List ℕ). Appends old new l) whole (Appends-trans old mid new written (take p.used lines') before last)
