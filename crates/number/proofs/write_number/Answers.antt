-- `number::write_number` meets its contract: where there is room for its bytes a value is written (`written-fits`, `memory-fits`).
use mathlib.Core.Path.{ap, ◌∙◌}
use Rattle.std.specs.Prelude.{unwrap_or}
use Rattle.number.specs.Splice.{written-fits, memory-fits}
use Rattle.number.proofs.write_number.Goals as goal

pub returns : goal.returns
returns c =
    let a = c.args in
    let w = c.write.ensures in
    record {
      answer = c.unwrap_or.ensures ∙ ap (λ x. unwrap_or x a.at) (w.answer ∙ written-fits a.v a.out.now a.at c.requires);
      bytes = w.bytes ∙ memory-fits a.v a.out.now a.at c.requires;
    }
