-- `checks::granting::is_unstopped` meets its contract: each slot before j is free, and for slot j no hold before number q clashes; a
-- claim scanned to the end is free (`free_scanned`), no claim is free (`free_unclaimed`), and a clash decides against (`taken`).
use Prim.Native.Nat.{◌/◌, ◌≤◌}
use Rattle.checks.specs.GrantChecks.{slot_at}
use Rattle.checks.specs.Scan.{free_scanned, free_unclaimed, record_count, record_slot, scan_more}
use Rattle.checks.specs.Scan.{scan_same, taken, through-more, through_none}
use Rattle.checks.specs.HolderList.{listed_few, place_few, place-first}
use Rattle.checks.specs.SoundParts.{few_objects, sound_few_slots}
use Rattle.reading.specs.TestLaws.{no, right, wrong, yes}
use Rattle.rules.specs.Formula.{Holds}
use Rattle.rules.specs.Sound.{sound}
use Rattle.session.specs.Names.{most_objects}
use Rattle.session.specs.Table.{Session, at, read}
use Rattle.session.specs.declared.Field.TheVariants.{Objects, TaskSlots}
use native.Mathlib.Omega.{arith}
use Rattle.checks.proofs.granting.is_unstopped.Goals as goal

few : (s : Session) (t : _) → Holds (sound s) → t ≤ s Objects 0 → (t ≤ most_objects) × (s TaskSlots t ≤ 16)
few s t h l = let o = few_objects s h in (omega arith, sound_few_slots s h t l)

pub has_claim-requires : goal.has_claim-requires
has_claim-requires c = few _ c.args.t c.requires.0 c.requires.1

pub returns-then-not-has_claim : goal.returns-then-not-has_claim
returns-then-not-has_claim c = right _ (λ j m. free_unclaimed _ _ _ (λ x. no _ c.has_claim.ensures c.if-not-has_claim.true (j, m, x)))

pub task_at-task-requires : goal.task_at-task-requires
task_at-task-requires c = (few _ c.args.t c.requires.0 c.requires.1).0

pub loop-j-init : goal.loop-j-init
loop-j-init c = (c.new-holders.ensures _, through_none _)

pub loop-j-preserved-then-not-is_claim : goal.loop-j-preserved-then-not-is_claim
loop-j-preserved-then-not-is_claim c =
    let i = c.loop-j.invariant in
    let n = record_count _ _ _ c.task_at-task.ensures in
    let f = few _ c.args.t c.requires.0 c.requires.1 in
    let e = record_slot _ _ _ c.task_at-task.ensures c.loop-j.j (omega arith) in
    (i.0, through-more _ _ i.1 (free_unclaimed _ _ _ (rw e at (no _ c.is_claim.ensures c.if-not-is_claim.true))))

pub loop-q-init : goal.loop-q-init
loop-q-init c =
    let i = c.loop-j.invariant in
    (i.0, omega arith, (λ l. let m = i.0.some in absurd (omega arith)), through_none _)

pub place_at-requires : goal.place_at-requires
place_at-requires c =
    let i = c.loop-q.invariant in
    ((let f = listed_few _ _ _ i.0 in omega (arith, c.places.ensures)), i.0.low (c.loop-q.q / 16) (omega (arith, c.places.ensures)))

pub hold_clashes-stopped-requires : goal.hold_clashes-stopped-requires
hold_clashes-stopped-requires c =
    let few = place_few _ _ _ c.loop-q.invariant.0 c.loop-q.q (omega (arith, c.places.ensures)) in
    omega (arith, c.place_at.ensures)

pub offset_bounds-task-j : goal.offset_bounds-task-j
offset_bounds-task-j c =
    let n = record_count _ _ _ c.task_at-task.ensures in
    let f = few _ c.args.t c.requires.0 c.requires.1 in omega arith

pub bounds-task-j : goal.bounds-task-j
bounds-task-j c =
    let n = record_count _ _ _ c.task_at-task.ensures in
    let f = few _ c.args.t c.requires.0 c.requires.1 in omega arith

pub find_more-requires : goal.find_more-requires
find_more-requires c = (few_objects _ c.requires.0, c.loop-q.invariant.0, c.next_place-q.ensures.0, omega arith)

pub loop-q-preserved : goal.loop-q-preserved
loop-q-preserved c =
    let n = record_count _ _ _ c.task_at-task.ensures in
    let b = few _ c.args.t c.requires.0 c.requires.1 in
    let p = c.next_place-q.ensures in
    let i = c.loop-q.invariant in
    let f = c.find_more.ensures in
    let e = record_slot _ _ _ c.task_at-task.ensures c.loop-j.j (omega arith) in
    let apart = rw (e, c.place_at.ensures) at (no _ c.hold_clashes-stopped.ensures c.if-stopped.false) in
    let s = read c.args.s.now in
    let slot = slot_at s (at c.args.t c.loop-j.j) in
    let g = c.loop-q.holders.handles in
    let more = scan_more s c.args.t slot g c.loop-q.q _ i.3 apart (place-first _ _ _ i.0) p.1 in
    (f.listed, omega (arith, p.0, f.up), f.done, scan_same s c.args.t slot g _ _ _ f.same p.0 more)

pub loop-j-preserved : goal.loop-j-preserved
loop-j-preserved c =
    let n = record_count _ _ _ c.task_at-task.ensures in
    let b = few _ c.args.t c.requires.0 c.requires.1 in
    let k = c.loop-q.invariant in
    let e = record_slot _ _ _ c.task_at-task.ensures c.loop-j.j (omega arith) in
    let claim = rw e at (yes _ c.is_claim.ensures c.if-not-is_claim.false) in
    let end = rw c.places.ensures at c.loop-q-test.false in (
      k.0,
      through-more _ _ c.loop-j.invariant.1
          (free_scanned _ _ _ c.requires.0 _ _ k.0 c.loop-q.q (k.2 end) end k.3 claim),
    )

pub returns-after-loop-j : goal.returns-after-loop-j
returns-after-loop-j c =
    let n = record_count _ _ _ c.task_at-task.ensures in
    right _ (λ j m. c.loop-j.invariant.1.all j (omega arith))

pub returns-then-stopped : goal.returns-then-stopped
returns-then-stopped c =
    let n = record_count _ _ _ c.task_at-task.ensures in
    let b = few _ c.args.t c.requires.0 c.requires.1 in
    let e = record_slot _ _ _ c.task_at-task.ensures c.loop-j.j (omega arith) in
    let claim = rw e at (yes _ c.is_claim.ensures c.if-not-is_claim.false) in
    let hit = rw (e, c.place_at.ensures) at (yes _ c.hold_clashes-stopped.ensures c.if-stopped.true) in
    wrong _ (λ f. taken _ _ _ c.requires.0 _ _ c.loop-q.invariant.0 c.requires.2 c.loop-q.q (omega (arith, c.places.ensures)) claim hit
    (f c.loop-j.j (omega arith)))
