-- `sheet::counts::undelivered_links` meets its contract: a count of links past 2048 is read as 2048 (`undelivered_within`).
use mathlib.Core.Path.{◌≡◌, ap, ◌∙◌}
use native.Mathlib.Omega.{arith}
use Rattle.std.specs.Prelude.{ℕ, min}
use Rattle.std.proofs.Math.Nat.{min-le_right}
use Rattle.session.specs.Names.{most_links}
use Rattle.session.specs.Table.{read}
use Rattle.session.specs.declared.Field.TheVariants.{Links}
use Rattle.rules.specs.Reading.{is_undelivered}
use Rattle.sheet.specs.Closing.{undelivered_within}
use Rattle.std.proofs.Common.{rules}
use Rattle.sheet.proofs.counts.undelivered_links.Goals as goal

pub returns : goal.returns
returns c =
    let s = read c.args.s.now in
    let n = c.count_below.ensures in
    let last : c.min-last.result ≡ min (s Links 0) most_links =
    c.min-last.ensures ∙ ap (λ (n : ℕ). min n most_links) c.get.ensures in
    record {
      answer = n.answer (is_undelivered s) (search rules) ∙ rw last (undelivered_within c.args.s.now);
      few = omega (arith, n.few, last, min-le_right (s Links 0) most_links);
    }
