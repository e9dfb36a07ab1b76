-- `record::refusal_of` meets its contract, by the cases of what was not read.
use mathlib.Core.Path.{ap, sym}
use Rattle.std.specs.Prelude.{Err}
use Rattle.number.specs.Number.{refusal_of}
use Rattle.number.specs.declared.Unread.{Unread}
use Rattle.record.proofs.refusal_of.Goals as goal

pub returns-in-Bad : goal.returns-in-Bad
unfolding refusal_of
returns-in-Bad c = sym (ap (λ (why : Unread). refusal_of (Err why)) c.in-Bad.is)

pub returns-in-CutShort : goal.returns-in-CutShort
unfolding refusal_of
returns-in-CutShort c = sym (ap (λ (why : Unread). refusal_of (Err why)) c.in-CutShort.is)
