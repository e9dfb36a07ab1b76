-- Parts of the checks, under names of their own.
use Rattle.std.specs.Prelude.{ℕ, List}
use Rattle.session.specs.Table.{Session}
use Rattle.session.specs.declared.Field.TheVariants.{TemplateCount}
use Rattle.session.specs.Names.{unknown_count}
use Rattle.rules.specs.Formula.{Formula, Formula.◌≐◌, Formula.◌≼◌, Formula.◌and◌, Formula.◌or◌}
use Rattle.rules.specs.Checks.{Check, dependence_checks, task_slots}
use Rattle.checks.specs.RefusalLaws.{after}

-- check 12 of a task: "A template with a known count admits only that count or 17; 17 under an unknown count is refusal 12."
abbrev pub is_count : Session → ℕ → ℕ → Formula
is_count s tm n = task_slots s tm n ≼ 16 and (s TemplateCount tm ≐ unknown_count or s TemplateCount tm ≐ task_slots s tm n)

-- the checks of a dependence after 13, which speak neither of the caller nor of the mode
abbrev pub satisfy_or_link_checks : Session → ℕ → ℕ → ℕ → List Check
satisfy_or_link_checks s source d j = after 13 (dependence_checks s 0 source d j 0)
