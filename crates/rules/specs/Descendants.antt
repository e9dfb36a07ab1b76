-- Which tasks descend from which, whether one of them is live (document 01, "Operations"), and how far an end climbs (document 02,
-- E5). The crates `ancestors` and `retiring` have the code.
use Rattle.std.specs.Prelude.{ℕ, zero, suc, ◌+◌}
use Rattle.session.specs.Table.{Session}
use Rattle.session.specs.declared.Field.TheVariants.{Objects, TaskCreator}
use Rattle.rules.specs.Formula.{Formula, not, choose, Formula.◌≐◌, Formula.◌≼◌, Formula.◌and◌, Formula.◌or◌, Formula.never}
use Rattle.rules.specs.Formula.{Formula.some}
use Rattle.rules.specs.Reading.{is_live}

-- "Descendants follow creators: the creator's handle is always the lower one." By the creators given, a is the creator of h,
-- or of its creator, and so on, n steps at the most.
unfoldable pub under : (ℕ → ℕ) → ℕ → ℕ → ℕ → Formula
under creator zero h a = never
under creator (suc n) h a = 1 ≼ creator h and (creator h ≐ a or under creator n (creator h) a)

-- some descendant of task a is live
abbrev pub busy : Session → ℕ → Formula
busy s a = some (s Objects 0 + 1) (λ h. is_live s h and under (s TaskCreator) h h a)

-- "the task stood on has neither itself nor a descendant live"
abbrev pub is_over : Session → ℕ → Formula
is_over s h = not (is_live s h) and not (busy s h)

-- "from that task, move to the creator as long as the task stood on has neither itself nor a descendant live; main is the top": the
-- moves from h, n at the most, by the creators given and who of the tasks is over. Main alone has no creator. What is bound by
-- `let` is computed only where there is a move.
unfoldable pub climb : (ℕ → ℕ) → (ℕ → Formula) → ℕ → ℕ → ℕ
climb creator over zero h = 0
climb creator over (suc n) h = let moved = 1 + climb creator over n (creator h) in choose (1 ≼ creator h and over h) moved 0

-- "the steps climbed": the creator's handle is the lower one, so there are no more moves than the handle
abbrev pub climbed : Session → ℕ → ℕ
climbed s t = climb (s TaskCreator) (is_over s) t t

-- "the task's ancestors": its creator, that one's creator and so on, n at the most
unfoldable pub creators_above : (ℕ → ℕ) → ℕ → ℕ → ℕ
creators_above creator zero h = 0
creators_above creator (suc n) h = let more = 1 + creators_above creator n (creator h) in choose (1 ≼ creator h) more 0

abbrev pub ancestors : Session → ℕ → ℕ
ancestors s t = creators_above (s TaskCreator) t t
