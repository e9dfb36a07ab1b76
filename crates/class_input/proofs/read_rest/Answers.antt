-- `class_input::read_rest` meets its contract: nothing changes but what lies between the two places.
use Rattle.class_input.specs.WindowLaws.{apart_read}
use Rattle.class_input.proofs.read_rest.Goals as goal

pub returns-in_err-n-clause-apart : goal.returns-in_err-n-clause-apart
returns-in_err-n-clause-apart g c =
    apart_read c.args.room.now c.read_full.new.memory c.args.from c.args.to c.requires.0 c.requires.1 c.read_full.auto.memory

pub returns-clause-apart : goal.returns-clause-apart
returns-clause-apart g c =
    apart_read c.args.room.now c.read_full.new.memory c.args.from c.args.to c.requires.0 c.requires.1 c.read_full.auto.memory
