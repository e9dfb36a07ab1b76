-- The destroying of a block keeps a session: the caller lets go of it, and then it is doomed where somebody still holds
-- it and destroyed where nobody does. The second step writes one field, which two of the rules read.
use Rattle.std.specs.Prelude.{ℕ, ◌≤◌, ◌≡◌, refl, [], ◌∷◌}
use Rattle.std.proofs.Common.{sym, subst, ◌∙◌, arith}
use Rattle.session.specs.Table.{Session, put}
use Rattle.session.specs.declared.Field.TheVariants.{Kind, BlockState}
use Rattle.session.specs.Names.{block, doomed, block_destroyed}
use Rattle.rules.specs.Formula.{Holds, choose, Formula.◌≐◌}
use Rattle.rules.specs.FormulaLaws.{Case, decide, choose_yes, choose_no, Case.it_does, Case.it_does_not}
use Rattle.rules.specs.Reading.{is_held, is_kind, is_running}
use Rattle.rules.specs.Effects.{destroy_block, release}
use Rattle.rules.specs.Sound.{block_part}
use Rattle.laws.specs.Outside.{Outside, outside_same, outside_put}
use Rattle.laws.specs.Writes.{release-writes}
use Rattle.laws.specs.Frame.{DueOf, Shown.due}
use Rattle.laws.specs.Rows.{Name, says}
use Rattle.laws.specs.Rows.Name.{block_parts, blocks}
use Rattle.laws.specs.Keeping.{Due, kept_by, Kept}
use Rattle.laws.specs.Conjuncts.{Block, block_row, block_says, block_lasts, Block.state_low, Block.state_high}
use Rattle.laws.specs.Places.{Places, places, put-here, put_there, Places.one, Places.two}
use Rattle.laws.specs.LettingGo.{let_go_keeps}

-- block b, destroyed or, while it is held, doomed
condemn : Session → ℕ → Session
condemn s b = put s BlockState b (choose (is_held s b) doomed block_destroyed)

data After (s : Session) (b h : ℕ) : Type 0 where
  same : condemn s b BlockState h ≡ s BlockState h → After s b h
  dooms : b ≡ h → Holds (is_held s h) → condemn s b BlockState h ≡ doomed → After s b h
  destroys : b ≡ h → (Holds (is_held s h) → ⊥) → condemn s b BlockState h ≡ block_destroyed → After s b h

after_condemn : (s : Session) (b h : ℕ) → After s b h
unfolding condemn
after_condemn s b h = go (places b h) (decide (is_held s b))
  where
    v : ℕ
    v = choose (is_held s b) doomed block_destroyed

    IsHeld : ℕ → Type 0
    IsHeld n = Holds (is_held s n)

    go : Places b h → Case (is_held s b) → After s b h
    go (one e) (it_does x) =
        dooms e (subst IsHeld e x) (put-here s BlockState b h v e ∙ choose_yes (is_held s b) doomed block_destroyed x)
    go (one e) (it_does_not n) =
        destroys e (λ x. n (subst IsHeld (sym e) x))
        (put-here s BlockState b h v e ∙ choose_no (is_held s b) doomed block_destroyed n)
    go (two n) (it_does x) = same (put_there s BlockState b h v n)
    go (two n) (it_does_not m) = same (put_there s BlockState b h v n)

module _ (s : Session) (b : ℕ) (kind : s Kind b ≡ block) (r : Kept s) where
  writes : Outside s (condemn s b) (BlockState ∷ [])
  unfolding condemn
  writes = outside_put b _ (outside_same s)

  condemn_block_part : (h : ℕ) → Holds (block_part s h) → Holds (block_part (condemn s b) h)
  unfolding condemn put
  condemn_block_part h x = go (after_condemn s b h)
    where
      condemned : b ≡ h → 1 ≤ condemn s b BlockState h → condemn s b BlockState h ≤ block_destroyed
          → Holds (block_part (condemn s b) h)
      condemned p low high = block_lasts h writes (rw (← p) kind) x shows
        where
          shows : (n : Block) → DueOf (block_row h) (BlockState ∷ []) n → Holds (block_says h n (condemn s b))
          shows state_low due = low
          shows state_high due = high
          shows Rattle.laws.specs.Conjuncts.is_block x'' = elim x'' [ ]
          shows Rattle.laws.specs.Conjuncts.held_flag_lem x3 = elim x3 [ ]
          shows Rattle.laws.specs.Conjuncts.has_creator x4 = elim x4 [ ]

      go : After s b h → Holds (block_part (condemn s b) h)
      go (same e) = rw e x
      go (dooms p y e) = condemned p (omega arith) (omega arith)
      go (destroys p n e) = condemned p (omega arith) (omega arith)

  condemn_blocks : Holds (says blocks (condemn s b))
  unfolding condemn put
  condemn_blocks h l k =
      let x = r blocks h l k in
      (x.0, (λ e. lasting x.1.0 e (after_condemn s b h), λ e. gone x.1.1 e (after_condemn s b h)))
    where
      lasting : (s BlockState h ≡ doomed → Holds (is_held s h)) → condemn s b BlockState h ≡ doomed → After s b h
          → Holds (is_held s h)
      lasting f e (same q) = f (sym q ∙ e)
      lasting f e (dooms p y q) = y
      lasting f e (destroys p n q) = absurd (omega arith)

      gone : (s BlockState h ≡ block_destroyed → Holds (is_held s h) → ⊥) → condemn s b BlockState h ≡ block_destroyed → After s b h
          → Holds (is_held s h) → ⊥
      gone f e (same q) = f (sym q ∙ e)
      gone f e (dooms p y q) = absurd (omega arith)
      gone f e (destroys p n q) = n

  shows : (n : Name) → Due (BlockState ∷ []) [] n → Holds (says n (condemn s b))
  shows block_parts due = λ h l. condemn_block_part h (r block_parts h l)
  shows blocks due = condemn_blocks
  shows Rattle.laws.specs.Rows.counts x' = elim x' [ ]
  shows Rattle.laws.specs.Rows.kinds x'' = elim x'' [ ]
  shows Rattle.laws.specs.Rows.template_parts x3 = elim x3 [ ]
  shows Rattle.laws.specs.Rows.task_parts x4 = elim x4 [ ]
  shows Rattle.laws.specs.Rows.event_parts x5 = elim x5 [ ]
  shows Rattle.laws.specs.Rows.roots x6 = elim x6 [ ]
  shows Rattle.laws.specs.Rows.creators x7 = elim x7 [ ]
  shows Rattle.laws.specs.Rows.outputs x8 = elim x8 [ ]
  shows Rattle.laws.specs.Rows.slots x9 = elim x9 [ ]
  shows Rattle.laws.specs.Rows.links x10 = elim x10 [ ]
  shows Rattle.laws.specs.Rows.one_link x11 = elim x11 [ ]
  shows Rattle.laws.specs.Rows.states x12 = elim x12 [ ]
  shows Rattle.laws.specs.Rows.compatible x13 = elim x13 [ ]
  shows Rattle.laws.specs.Rows.latches x14 = elim x14 [ ]
  shows Rattle.laws.specs.Rows.counted_events x15 = elim x15 [ ]
  shows Rattle.laws.specs.Rows.dropped x16 = elim x16 [ ]
  shows Rattle.laws.specs.Rows.free_slots x17 = elim x17 [ ]
  shows Rattle.laws.specs.Rows.free_links x18 = elim x18 [ ]
  shows Rattle.laws.specs.Rows.settled x19 = elim x19 [ ]

  condemn_keeps : Kept (condemn s b)
  condemn_keeps = kept_by [] writes r shows

pub destroy_block_keeps : (s : Session) (caller b : ℕ) → Holds (is_running s caller) → Holds (is_kind s block b) → Kept s
    → Kept (destroy_block s caller b)
unfolding destroy_block condemn release
destroy_block_keeps s caller b run kind r =
    condemn_keeps (release s caller b) b (rw ((release-writes s caller b).as_was Kind refl) kind)
    (let_go_keeps s caller (λ h. h ≐ b) run r)
