-- `checks::handles::is_user_event` meets its contract: kind and type are read, and in a sound session tell it (`user_tested`).
use Rattle.checks.specs.UserEvents.{user_tested}
use Rattle.checks.proofs.handles.is_user_event.Goals as goal

pub returns : goal.returns
returns c =
    rw (c.of_object-2.ensures, c.of_object.ensures) (user_tested c.args.s.now c.args.h c.requires)
