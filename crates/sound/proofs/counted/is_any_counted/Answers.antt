-- `sound::counted::is_any_counted` meets its contract: not every event fails to be counted (`none_each`).
use Rattle.std.specs.Prelude.{◌+◌}
use Rattle.std.proofs.Common.{rules}
use Rattle.std.proofs.Math.Bool.{not-not}
use Rattle.session.specs.Table.{read}
use Rattle.rules.specs.Formula.{not}
use Rattle.rules.specs.Reading.{is_counted}
use Rattle.rules.specs.Bools.{test-not, test_eq}
use Rattle.sound.specs.Held.{none_each}
use Rattle.sound.proofs.counted.is_any_counted.Goals as goal

pub returns : goal.returns
returns c =
    let s = read c.args.v.now.s.now in
    let e = c.all_below.ensures (λ e. not (is_counted s e)) (λ i r l p. rw (test-not, test_eq) (search rules)) in
    rw (e, none_each (c.args.v.now.objects + 1) (is_counted s), c.args.v.now.counted.objects) (not-not _)
