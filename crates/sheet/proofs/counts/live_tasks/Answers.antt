-- `sheet::counts::live_tasks` meets its contract: a count of objects past 512 is read as 512 (`live_within`).
use mathlib.Core.Path.{◌≡◌, ap, ◌∙◌}
use native.Mathlib.Omega.{arith}
use Rattle.std.specs.Prelude.{ℕ, min}
use Rattle.std.proofs.Math.Nat.{min-le_right}
use Rattle.session.specs.Names.{most_objects}
use Rattle.session.specs.Table.{read}
use Rattle.session.specs.declared.Field.TheVariants.{Objects}
use Rattle.rules.specs.Reading.{is_live}
use Rattle.sheet.specs.Closing.{live_within}
use Rattle.std.proofs.Common.{rules}
use Rattle.sheet.proofs.counts.live_tasks.Goals as goal

pub returns : goal.returns
returns c =
    let s = read c.args.s.now in
    let n = c.count_below.ensures in
    let last : c.min-last.result ≡ min (s Objects 0) most_objects =
    c.min-last.ensures ∙ ap (λ (n : ℕ). min n most_objects) c.get.ensures in
    record {
      answer = n.answer (is_live s) (search rules) ∙ rw last (live_within c.args.s.now);
      few = omega (arith, n.few, last, min-le_right (s Objects 0) most_objects);
    }
