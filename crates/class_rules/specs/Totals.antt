-- The sums are the totals over the printed sheets, no count past its width's largest.
use Rattle.std.specs.Prelude.{List, [], ◌∷◌, ◌++◌, ◌≡◌, refl}
use Rattle.std.proofs.Common.{append_assoc, sym}
use Rattle.sheet_counts.specs.declared.Tally.{Tally}
use Rattle.sheet_counts.specs.Answers.{counts_of}
use Rattle.tally.specs.Raise.{raise}
use Rattle.class_rules.specs.Report.{Entry, entry_line, entry_lines}

-- A tally that is raised by each of the entries.
unfoldable pub raised_by : Tally → List Entry → Tally
raised_by t [] = t
raised_by t (e ∷ more) = raised_by (raise t (counts_of e.sheet)) more

-- Some entries and then others raise it one after the other, and their lines stand so.
pub raised_more : (t : Tally) (a b : List Entry) → raised_by t (a ++ b) ≡ raised_by (raised_by t a) b
unfolding raised_by
raised_more t [] b = refl
raised_more t (e ∷ a) b = raised_more (raise t (counts_of e.sheet)) a b

pub lines_more : (a b : List Entry) → entry_lines (a ++ b) ≡ entry_lines a ++ entry_lines b
unfolding entry_lines
lines_more [] b = refl
lines_more (e ∷ a) b =
    rw (lines_more a b)
    (sym (append_assoc (entry_line e.learner e.turn (counts_of e.sheet)) (entry_lines a) (entry_lines b)))
