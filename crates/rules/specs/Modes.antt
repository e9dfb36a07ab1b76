-- The mode rule (of OCR's access modes) in the words of the pocket card, as formulas on the codes of two modes.
use Rattle.std.specs.Prelude.{ℕ}
use Rattle.session.specs.Names.{mode_ro, mode_ew, mode_const}
use Rattle.rules.specs.Formula.{Formula, not, Formula.◌≐◌, Formula.◌≼◌, Formula.◌and◌, Formula.◌or◌}

-- "Modes: 1 RO, 2 RW, 3 EW, 4 CONST."
abbrev pub is_mode : ℕ → Formula
is_mode a = mode_ro ≼ a and a ≼ mode_const

-- "Two holds by different tasks conflict if neither is RO, and they differ or both are EW": two such holds are not sound.
abbrev pub conflict : ℕ → ℕ → Formula
conflict a b = not (a ≐ mode_ro) and not (b ≐ mode_ro) and (not (a ≐ b) or a ≐ mode_ew and b ≐ mode_ew)

-- "A hold of another task conflicts": a hold in the second mode stops a grant that asks for the first. The same rule, for now.
abbrev pub stopped_by : ℕ → ℕ → Formula
stopped_by asked held = conflict asked held
