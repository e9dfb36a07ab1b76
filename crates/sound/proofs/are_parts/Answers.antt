-- `sound::are_parts` meets its contract: four rules' answers, with the null object's kind, joined by `test-both`.
use Prim.Native.Nat.{◌+◌}
use mathlib.Core.Path.{sym, ◌∙◌}
use Rattle.session.specs.declared.Field.TheVariants.{Kind, Objects}
use Rattle.session.specs.Table.{read}
use Rattle.rules.specs.Sound.{objects, roots, creators, unused, object}
use Rattle.rules.specs.Formula.{Formula.◌≐◌, Formula.◌and◌, Formula.each}
use Rattle.rules.specs.Bools.{test-both, test_eq}
use Rattle.sound.proofs.are_parts.Goals as goal

pub returns : goal.returns
returns c =
    let s = read c.args.v.now.s.now in
    rw (
      c.are_roots.ensures,
      c.are_objects.ensures,
      c.is_rest_unused.ensures,
      c.are_creators.ensures,
      c.of_object-null.ensures,
    )
    (sym (test-both (objects s) (roots s and creators s and unused s)
    ∙ rw (
      test-both (s Kind 0 ≐ 0) (each (s Objects 0 + 1) (object s)),
      test-both (roots s) (creators s and unused s),
      test-both
          (creators s) (unused s),
      test_eq (s Kind 0) 0,
    )))
