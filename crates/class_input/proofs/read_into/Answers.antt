-- `class_input::read_into` meets its contract: nothing asked (`given_unread`), or the window's bytes and the rest (`given_came`).
use Rattle.std.proofs.Common.{◌+◌, ◌-◌, ◌<◌, arith, inl, inr, refl, sym, ◌∙◌, rules}
use Rattle.class.specs.Halves.{free_most}
use Rattle.class.specs.Steps.{asks}
use Rattle.class_input.specs.Window.{size_of}
use Rattle.class_input.specs.WindowLaws.{least-both, least_some, apart_same, given_unread, given-read, came_none, filled_grows, given_came}
use Rattle.class_input.proofs.read_into.Goals as goal

pub returns-then-n-eq0-clause-given : goal.returns-then-n-eq0-clause-given
returns-then-n-eq0-clause-given g c =
    let a = c.args in
    given_unread _ a.report a.window a.place a.input.now a.room.now (sym c.asks-n.ensures.told ∙ c.if-n-eq0.true)
    (omega arith) c.requires.half.1 c.requires.inside.0 c.requires.inside.1

pub hand-k-requires : goal.hand-k-requires
hand-k-requires g c =
    (c.in_ok-full.ensures.filled.0.inside, omega (arith, free_most c.args.report.pending, c.asks-n.ensures.most))

pub overflow_add-first : goal.overflow_add-first
overflow_add-first g c =
    let full = c.in_ok-full.full in
    omega (
      arith,
      c.hand-k.ensures.told,
      least-both c.asks-n.result (full.to - full.from),
      c.asks-n.ensures.most,
      c.requires.half.1,
      free_most c.args.report.pending,
    )

pub overflow_add-place : goal.overflow_add-place
overflow_add-place g c = omega (arith, c.asks-n.ensures.most, c.requires.half.1, free_most c.args.report.pending)

pub read_rest-requires : goal.read_rest-requires
read_rest-requires g c =
    let full = c.in_ok-full.full in (
      omega (arith, c.hand-k.ensures.told, least-both c.asks-n.result (full.to - full.from)),
      omega (arith, c.hand-k.auto.room, c.asks-n.ensures.most, free_most c.args.report.pending),
    )

pub returns-then-k-eq0-clause-given : goal.returns-then-k-eq0-clause-given
returns-then-k-eq0-clause-given g c =
    let a = c.args in
    let full = c.in_ok-full in
    let n = c.asks-n in
    let k = c.hand-k in
    let fits = least-both n.result (full.full.to - full.full.from) in
    given_came a.report a.window full.full a.place n.result k.result _ a.input.now _ a.room.now _
    n.ensures.told (λ z. c.if-n-eq0.false z) n.ensures.most (omega arith) c.requires.half.0 c.requires.half.1
    c.requires.inside.1 full.ensures.filled.0 k.ensures.told (apart_same _ k.new.room _ _ k.ensures.put) (omega arith)
    (omega (arith, k.ensures.told, fits)) (inl refl) _ _ _ full.ensures.filled.1 (came_none _ k.new.room _)

pub returns-clause-given : goal.returns-clause-given
returns-clause-given g c =
    let a = c.args in
    let full = c.in_ok-full in
    let n = c.asks-n in
    let k = c.hand-k in
    let rest = c.in_ok-end.ensures in
    given_came a.report a.window full.full a.place n.result k.result c.in_ok-end.end a.input.now _ a.room.now _
    n.ensures.told (λ z. c.if-n-eq0.false z) n.ensures.most (omega arith) c.requires.half.0 c.requires.half.1
    c.requires.inside.1 full.ensures.filled.0 k.ensures.told (rw k.ensures.put at rest.apart) rest.lower_bound.0
    rest.lower_bound.1 (inr (λ z. c.if-k-n.false z)) _ _ _ full.ensures.filled.1 rest.came

pub returns-in_err-end-clause-needed : goal.returns-in_err-end-clause-needed
returns-in_err-end-clause-needed g c =
    let full = c.in_ok-full.full in
    let grows = filled_grows _ _ _ _ full c.requires.inside.0 c.in_ok-full.ensures.filled.0 in
    let fits = least_some c.asks-n.result (full.to - full.from) c.hand-k.result c.hand-k.ensures.told (λ z. c.if-k-n.false z) in
    let few : size_of c.args.window < asks c.args.report = omega (arith, grows, fits, c.asks-n.ensures.told) in
    search rules

pub returns-in_err-end-clause-stays : goal.returns-in_err-end-clause-stays
returns-in_err-end-clause-stays g c =
    let a = c.args in
    let full = c.in_ok-full in
    let n = c.asks-n in
    let k = c.hand-k in
    let fits = least-both n.result (full.full.to - full.full.from) in
    let stays =
    given-read a.report a.window full.full a.place n.result k.result (a.place + k.result) a.input.now _ a.room.now c.read_rest.new.room
    n.ensures.told (λ z. c.if-n-eq0.false z) n.ensures.most (omega arith) c.requires.half.0 c.requires.half.1
    c.requires.inside.1 full.ensures.filled.0 k.ensures.told (rw k.ensures.put at c.in_err-end.ensures.apart) (omega arith)
    (omega (arith, k.ensures.told, fits)) (inl refl) in
    let input_long = c.fill.auto.input in
    let room_long = stays.long in
    let pending = stays.stays in
    search rules
