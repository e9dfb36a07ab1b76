-- `reading::of_slot_at` meets its contract: too high a handle or slot is past the field (`read_past`); else as `of_slot` answers.
use Rattle.session.specs.TableLaws.{read_past}
use mathlib.Core.Path.{sym}
use native.Mathlib.Omega.{arith}
use Rattle.reading.proofs.of_slot_at.Goals as goal

pub returns-then-h-gt-MOST_OBJECTS : goal.returns-then-h-gt-MOST_OBJECTS
returns-then-h-gt-MOST_OBJECTS c = sym (read_past _ _ _ (omega arith))

pub returns-then-j : goal.returns-then-j
returns-then-j c = sym (read_past _ _ _ (omega arith))
