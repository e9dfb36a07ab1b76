-- Making a block keeps the rules: two are about blocks, their part of the objects and who holds them. Its creator is running,
-- so it may hold it.
use Rattle.std.specs.Prelude.{ℕ, ◌≤◌, ◌≡◌}
use Rattle.std.proofs.Math.Path.{refl}
use Rattle.std.proofs.Common.{◌∙◌, eq-eqb}
use Rattle.std.proofs.Math.Logic.{inr}
use native.Mathlib.Omega.{arith}
use Rattle.session.specs.Table.{Session, put}
use Rattle.session.specs.declared.Field.TheVariants.{Kind, TaskState, BlockState, BlockCreator, BlockHeld}
use Rattle.rules.specs.Formula.{Holds}
use Rattle.session.specs.Names.{block, running, fresh, most_objects}
use Rattle.rules.specs.Reading.{is_running}
use Rattle.rules.specs.Checks.{block_checks}
use Rattle.rules.specs.Effects.{new, new_block}
use Rattle.laws.specs.Keeping.{Kept}
use Rattle.laws.specs.Met.{Checked}
use Rattle.laws.specs.Outside.{outside_within}
use Rattle.laws.specs.Writes.{block_writes}
use Rattle.laws.specs.Shape.Sort.{a_block}
use Rattle.laws.specs.Frame.{Shown.due}
use Rattle.laws.specs.Rows.{Name}
use Rattle.laws.specs.Rows.Name.{block_parts, blocks}
use Rattle.laws.specs.Conjuncts.{Block, block_says, block_of}
use Rattle.laws.specs.Conjuncts.Block.{is_block, state_low, state_high, held_flag_lem, has_creator}
use Rattle.laws.specs.Grown.{next, Built, Built.counted, Built.written}
use Rattle.laws.specs.Born.{Born, was}
use Rattle.laws.specs.Making.{New, says_of}
use Rattle.laws.specs.MakingOutputs.{plain_keeps}

module _ (s : Session) (caller hold : ℕ) where
  abbrev after : Session
  after = new_block s caller hold

  built : Built s (next s) after
  unfolding new_block new
  built =
      written _ BlockHeld hold refl
      (written _ BlockCreator caller refl (written _ BlockState fresh refl (written _ Kind block refl counted)))

  kind : after Kind (next s) ≡ block
  unfolding new_block new put
  kind = rw (eq-eqb (next s) (next s) refl) refl

  maker : after BlockCreator (next s) ≡ caller
  unfolding new_block new put
  maker = rw (eq-eqb (next s) (next s) refl) refl

  state : after BlockState (next s) ≡ fresh
  unfolding new_block new put
  state = rw (eq-eqb (next s) (next s) refl) refl

  holding : after BlockHeld (next s) ≡ hold
  unfolding new_block new put
  holding = rw (eq-eqb (next s) (next s) refl) refl

  born : next s ≤ most_objects → Born s after a_block
  born l = record { room = l; built = built; writes = outside_within (block_writes s caller hold) refl; kind = kind }

  module _ (flag : hold ≤ 1) (runs : Holds (is_running s caller)) (room : next s ≤ most_objects) where
    conjuncts : (n : Block) → Holds (block_says (next s) n after)
    unfolding new_block new put
    conjuncts is_block = kind
    conjuncts state_low = let e = state in omega arith
    conjuncts state_high = let e = state in omega arith
    conjuncts held_flag_lem = rw holding flag
    conjuncts has_creator =
        let m = runs.0 in
        inr (rw maker ((m.0, omega arith), was (born room) Kind refl caller m.1 ∙ runs.1.0))

    shows : (n : Name) → New a_block n → Holds (says_of n after (next s))
    shows block_parts due = block_of (next s) after conjuncts
    shows blocks due =
        let e = state in
        let still : after TaskState caller ≡ running = was (born room) TaskState refl caller runs.0.1 ∙ runs.1.1 in
        λ _. ((λ _. rw maker (runs.0.0, still)), ((λ d. absurd (omega arith)), λ d. absurd (omega arith)))
    shows Rattle.laws.specs.Rows.counts x' = elim x' [ ]
    shows Rattle.laws.specs.Rows.kinds x'' = elim x'' [ ]
    shows Rattle.laws.specs.Rows.template_parts x3 = elim x3 [ ]
    shows Rattle.laws.specs.Rows.task_parts x4 = elim x4 [ ]
    shows Rattle.laws.specs.Rows.event_parts x5 = elim x5 [ ]
    shows Rattle.laws.specs.Rows.roots x6 = elim x6 [ ]
    shows Rattle.laws.specs.Rows.creators x7 = elim x7 [ ]
    shows Rattle.laws.specs.Rows.outputs x8 = elim x8 [ ]
    shows Rattle.laws.specs.Rows.slots x9 = elim x9 [ ]
    shows Rattle.laws.specs.Rows.links x10 = elim x10 [ ]
    shows Rattle.laws.specs.Rows.one_link x11 = elim x11 [ ]
    shows Rattle.laws.specs.Rows.states x12 = elim x12 [ ]
    shows Rattle.laws.specs.Rows.compatible x13 = elim x13 [ ]
    shows Rattle.laws.specs.Rows.latches x14 = elim x14 [ ]
    shows Rattle.laws.specs.Rows.counted_events x15 = elim x15 [ ]
    shows Rattle.laws.specs.Rows.dropped x16 = elim x16 [ ]
    shows Rattle.laws.specs.Rows.free_slots x17 = elim x17 [ ]
    shows Rattle.laws.specs.Rows.free_links x18 = elim x18 [ ]
    shows Rattle.laws.specs.Rows.settled x19 = elim x19 [ ]

pub block_keeps : (s : Session) (caller hold : ℕ) → Checked (block_checks s caller hold) → Kept s → Kept (new_block s caller hold)
block_keeps s caller hold m h =
    let k = kind s caller hold in
    let l = m 20 in
    let new = shows s caller hold (m 7) (m 8) l in
    plain_keeps (born s caller hold l) (λ e. omega arith) (λ e. absurd (omega arith)) new h
