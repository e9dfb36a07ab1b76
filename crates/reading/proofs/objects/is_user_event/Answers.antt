-- `reading::objects::is_user_event` meets its contract: kind and type are read, `is_user_type` judges it (`simp` with Bools).
use Rattle.rules.specs.Bools.{test-both, test_eq}
use Rattle.reading.proofs.objects.is_user_event.Goals as goal

pub returns : goal.returns
returns c =
    simp (
      c.is_user_type.ensures,
      c.of_object-2.ensures,
      c.of_object.ensures,
      test-both,
      test_eq,
    )
