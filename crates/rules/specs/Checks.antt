-- Why an operation is turned down (document 01): the checks from 7 on, in order, for each operation. Check 6 and the order of
-- the operations are in Step.
use Rattle.std.specs.Prelude.{ℕ, ◌+◌, ◌*◌, ◌/◌, List, [], ◌∷◌}
use Rattle.session.specs.Table.{Session}
use Rattle.session.specs.declared.Field.TheVariants.{Objects, Links, TemplateCount, TaskState, TaskSlots, BlockState}
use Rattle.session.specs.declared.Field.TheVariants.{BlockCreator, BlockHeld, SlotMode, SlotMark, SlotPayload, LinkState}
use Rattle.session.specs.Names.{most_objects, most_links, template, task, event, block, unknown_count, resolved, granted, running}
use Rattle.session.specs.Names.{ready, held, block_destroyed, mode_rw}
use Rattle.rules.specs.Formula.{Formula, not, choose, Formula.◌≐◌, Formula.◌≼◌, Formula.◌and◌, Formula.◌or◌, Formula.◌then◌}
use Rattle.rules.specs.Formula.{Formula.each, Formula.some}
use Rattle.rules.specs.Reading.{at, made, is_kind, is_user_event, is_running, is_gone, has_slot, holds_block, overflows}
use Rattle.rules.specs.Reading.{is_fired_sticky, has_its_count}
use Rattle.rules.specs.Modes.{is_mode, stopped_by}
use Rattle.rules.specs.EventTypes.{is_offered_type, is_link_count}

-- a check: its number, and what the operation must meet
pub record Check : Type 0 where
  pub number : ℕ
  pub rule : Formula

abbrev pub check : ℕ → Formula → Check
check n f = record { number = n; rule = f }

-- the largest number of a check
abbrev pub last_refusal : ℕ
last_refusal = 24

-- "Each check covers all fields before the next check": the number of the first that fails, 0 if none does.
unfoldable pub refusal : List Check → ℕ
refusal [] = 0
refusal (c ∷ cs) = choose c.rule (refusal cs) c.number

module _ (s : Session) where
  -- "block or 0", "0, a block or an event"
  abbrev pub or_null : (ℕ → Formula) → ℕ → Formula
  or_null f h = h ≐ 0 or f h

  -- not check 11's "An object named is gone"
  abbrev pub remains : ℕ → Formula
  remains h = not (is_gone s h)

  -- "The objects would pass 512."
  abbrev pub room : ℕ → Check
  room n = check 20 (s Objects 0 + n ≼ most_objects)

  -- "1 template (caller, count 0..17)."
  abbrev pub template_checks : ℕ → ℕ → List Check
  template_checks caller n = check 7 (n ≼ unknown_count) ∷ check 8 (is_running s caller) ∷ room 1 ∷ []

  -- "Count 17 takes the template's."
  abbrev pub task_slots : ℕ → ℕ → ℕ
  task_slots tm n = choose (n ≐ unknown_count) (s TemplateCount tm) n

  -- "2 task (caller, template, count 0..17, finish 0..1, output 0..1). .. A template with a known count admits only that count
  -- or 17; 17 under an unknown count is refusal 12. With output, an event of type 5 gets the next handle."
  abbrev pub task_checks : ℕ → ℕ → ℕ → ℕ → ℕ → List Check
  task_checks caller tm n finish out =
      check 7 (n ≼ unknown_count and finish ≼ 1 and out ≼ 1) ∷ check 8 (is_running s caller) ∷ check 9 (made s tm)
      ∷ check 10 (is_kind s template tm) ∷ check 11 (remains tm)
      ∷ check 12 (task_slots tm n ≼ 16 and (s TemplateCount tm ≐ unknown_count or s TemplateCount tm ≐ task_slots tm n)) ∷ room (1 + out) ∷ []

  -- "3 event (caller, type 1..4)."
  abbrev pub event_checks : ℕ → ℕ → List Check
  event_checks caller ty = check 7 (is_offered_type ty) ∷ check 8 (is_running s caller) ∷ room 1 ∷ []

  -- "Operation 13 (caller, count 1..16) makes one, of type 6."
  abbrev pub counted_checks : ℕ → ℕ → List Check
  counted_checks caller n = check 7 (is_link_count n) ∷ check 8 (is_running s caller) ∷ room 1 ∷ []

  -- "4 block (caller, hold 0..1)."
  abbrev pub block_checks : ℕ → ℕ → List Check
  block_checks caller hold = check 7 (hold ≼ 1) ∷ check 8 (is_running s caller) ∷ room 1 ∷ []

  -- "Source 0 or block satisfies the slot now, with that payload. An event makes a link"
  abbrev pub makes_link : ℕ → Formula
  makes_link source = is_kind s event source

  -- "5 dependence (caller, source, destination, slot, mode 1..4). Source: 0, a block or an event. Destination: a task or an
  -- event of type 1 to 4." "Checks 14 and 19 concern only calls that satisfy now, not one that makes a link." "24, one more link from a
  -- counted event that already has its count, checked after 14."
  abbrev pub dependence_checks : ℕ → ℕ → ℕ → ℕ → ℕ → List Check
  dependence_checks caller source d j mode =
      check 7 (is_mode mode) ∷ check 8 (is_running s caller) ∷ check 9 (or_null (made s) source and made s d)
      ∷ check 10 (or_null (λ h. is_kind s block h or is_kind s event h) source and (is_kind s task d or is_user_event s d))
      ∷ check 11 (or_null remains source and remains d)
      ∷ check 12 (has_slot s d j)
      ∷ check 13 (is_kind s task d then s SlotMode (at d j) ≐ 0)
      ∷ check 14 (makes_link source or not (is_fired_sticky s d))
      ∷ check 24 (makes_link source then not (has_its_count s source))
      ∷ check 19 (makes_link source or not (overflows s d j))
      ∷ check 21 (makes_link source then s Links 0 + 1 ≼ most_links) ∷ []

  -- "6 satisfy (caller, event of type 1 to 4, block or 0, slot)."
  abbrev pub satisfy_checks : ℕ → ℕ → ℕ → ℕ → List Check
  satisfy_checks caller e b j =
      check 8 (is_running s caller) ∷ check 9 (made s e and or_null (made s) b)
      ∷ check 10 (is_user_event s e and or_null (is_kind s block) b) ∷ check 11 (remains e and or_null remains b)
      ∷ check 12 (has_slot s e j) ∷ check 14 (not (is_fired_sticky s e)) ∷ check 19 (not (overflows s e j)) ∷ []

  -- "7 release (caller, block)": check 11 has "doomed (but for release)", check 15 "The caller does not hold the block."
  abbrev pub release_checks : ℕ → ℕ → List Check
  release_checks caller b =
      check 8 (is_running s caller) ∷ check 9 (made s b) ∷ check 10 (is_kind s block b)
      ∷ check 11 (not (s BlockState b ≐ block_destroyed)) ∷ check 15 (holds_block s caller b) ∷ []

  -- "8 destroy (caller, template, task, event of type 1 to 4, or block)"; 16: "destroy waiting or resolved".
  abbrev pub destroy_checks : ℕ → ℕ → List Check
  destroy_checks caller h =
      check 8 (is_running s caller) ∷ check 9 (made s h) ∷ check 10 (is_kind s event h then is_user_event s h)
      ∷ check 11 (remains h) ∷ check 16 (is_kind s task h then s TaskState h ≼ resolved) ∷ []

  -- "9 deliver (link)"; 16: "deliver ready".
  abbrev pub deliver_checks : ℕ → List Check
  deliver_checks l = check 9 (1 ≼ l and l ≼ s Links 0) ∷ check 16 (s LinkState l ≐ ready) ∷ []

  -- slot k holds, for another task than t, the block that slot i asks for, in a mode that stops it
  abbrev pub slot_stops : ℕ → ℕ → ℕ → Formula
  slot_stops t i k =
      not (k / 16 ≐ t) and s SlotMark k ≐ held and s SlotPayload k ≐ s SlotPayload i
      and stopped_by (s SlotMode i) (s SlotMode k)

  -- "A hold of another task conflicts": none stops what slot i of task t asks for
  abbrev pub slot_free : ℕ → ℕ → Formula
  slot_free t i =
      s SlotPayload i ≐ 0
      or not (some (16 * (s Objects 0 + 1)) (slot_stops t i))
      and not (s BlockHeld (s SlotPayload i) ≐ 1 and not (s BlockCreator (s SlotPayload i) ≐ t) and stopped_by (s SlotMode i) mode_rw)

  -- "10 grant (task)"; 16: "grant resolved"; 17: "A pre-slot's block is doomed or destroyed"; 18: slotFree.
  abbrev pub grant_checks : ℕ → List Check
  grant_checks t =
      check 9 (made s t) ∷ check 10 (is_kind s task t) ∷ check 11 (remains t) ∷ check 16 (s TaskState t ≐ resolved)
      ∷ check 17 (each (s TaskSlots t) (λ j. or_null remains (s SlotPayload (at t j))))
      ∷ check 18 (each (s TaskSlots t) (λ j. slot_free t (at t j))) ∷ []

  -- "11 start (task)"; 16: "start granted".
  abbrev pub start_checks : ℕ → List Check
  start_checks t = check 9 (made s t) ∷ check 10 (is_kind s task t) ∷ check 11 (remains t) ∷ check 16 (s TaskState t ≐ granted) ∷ []

  -- "12 end (task, block or 0)"; 16: "end running".
  abbrev pub end_checks : ℕ → ℕ → List Check
  end_checks t b =
      check 9 (made s t and or_null (made s) b) ∷ check 10 (is_kind s task t and or_null (is_kind s block) b)
      ∷ check 11 (remains t and or_null remains b) ∷ check 16 (s TaskState t ≐ running) ∷ []
