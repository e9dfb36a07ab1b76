-- What a step of the class program keeps.
use Rattle.std.specs.Prelude.{ℕ, ◌+◌, ◌-◌, ◌≤◌, List, ◌≡◌, ◌⊎◌, length}
use Rattle.std.proofs.Common.{sym, subst, arith}
use Rattle.session.specs.Table.{read}
use Rattle.class_rules.specs.Report.{most_bytes}
use Rattle.class.specs.declared.Report.{Report}
use Rattle.class.specs.Steps.{Did, does}
use Rattle.class.specs.Halves.{free_half, InHalf, free_half_lem, does_half}
use Rattle.class_input.specs.Ahead.{Ahead, step_ahead}
use Rattle.class_input.specs.Window.{part}
use Rattle.class_input.specs.WindowLaws.{part_length}

-- the step on what lies between two places of the memory
abbrev pub step_on : List ℕ → ℕ → ℕ → Report → List ℕ → Did
step_on room place end r memory = does room place (part room place end) r (read memory)

-- A step leaves the pending sheet in a half, and no more read than may lie there then.
module _ (room : List ℕ) (place end : ℕ) (r next : Report) (memory : List ℕ)
    (e : next ≡ (step_on room place end r memory).report) where
  pub step_half : length room ≡ 65536 → place ≡ free_half r.pending → InHalf r.pending → InHalf next.pending
  step_half long is h =
      let half = subst (λ (n : ℕ). (n ≡ 0) ⊎ (n ≡ most_bytes)) (sym is) (free_half_lem r.pending) in
      subst (λ (x : Report). InHalf x.pending) (sym e)
      (does_half room place (part room place end) r (read memory) (omega arith) half h)

  pub stepped_ahead : (n : ℕ) → end ≤ length room → Ahead r (end - place + n) → Ahead next n
  stepped_ahead n inside a =
      subst (λ (x : Report). Ahead x n) (sym e)
      (step_ahead r n room place (part room place end) (read memory) (rw (part_length room place end inside) a))
