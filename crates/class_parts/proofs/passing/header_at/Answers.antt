-- `class_parts::passing::header_at` meets its contract: by what is read, number by number.
use mathlib.Core.Path.{sym, ◌∙◌}
use Rattle.std.specs.Prelude.{Some, None}
use Rattle.class_parts.specs.Passing.{length_at, turn_at, header_at, read_then}
use Rattle.class_parts.proofs.passing.header_at.Goals as goal

pub returns-in_err-learner : goal.returns-in_err-learner
unfolding header_at
returns-in_err-learner c =
    let f = c.args.file.now in
    c.from_residual.ensures
    ∙ sym (read_then f c.args.place (turn_at f) _ _ None c.read.ensures c.ok.ensures.value c.in_err-learner.was)

pub returns-in_err-turn : goal.returns-in_err-turn
unfolding header_at turn_at
returns-in_err-turn c =
    let f = c.args.file.now in
    let learner = c.in_ok-learner in
    c.from_residual-in_err-turn.ensures
    ∙ sym
    (read_then f c.args.place (turn_at f) _ _ _ c.read.ensures c.ok.ensures.value learner.was
    ∙ read_then f learner.place (length_at f learner.learner) _ _ None c.read-2.ensures c.ok-2.ensures.value c.in_err-turn.was)

pub returns-in_err-length : goal.returns-in_err-length
unfolding header_at turn_at length_at
returns-in_err-length c =
    let f = c.args.file.now in
    let learner = c.in_ok-learner in
    let turn = c.in_ok-turn in
    c.from_residual-in_err-length.ensures
    ∙ sym
    (read_then f c.args.place (turn_at f) _ _ _ c.read.ensures c.ok.ensures.value learner.was
    ∙ read_then f learner.place (length_at f learner.learner) _ _ _ c.read-2.ensures c.ok-2.ensures.value turn.was
    ∙ read_then f turn.place
    (λ size next. Some (record { learner = learner.learner; turn = turn.turn; place = next; length = size })) _ _ None
    c.read-3.ensures c.ok-3.ensures.value c.in_err-length.was)

pub returns : goal.returns
unfolding header_at turn_at length_at
returns c =
    let f = c.args.file.now in
    let learner = c.in_ok-learner in
    let turn = c.in_ok-turn in
    sym
    (read_then f c.args.place (turn_at f) _ _ _ c.read.ensures c.ok.ensures.value learner.was
    ∙ read_then f learner.place (length_at f learner.learner) _ _ _ c.read-2.ensures c.ok-2.ensures.value turn.was
    ∙ read_then f turn.place
    (λ size next. Some (record { learner = learner.learner; turn = turn.turn; place = next; length = size })) _ _ _
    c.read-3.ensures c.ok-3.ensures.value c.in_ok-length.was)
