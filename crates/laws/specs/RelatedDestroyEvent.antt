-- The destroying of an event: the session cuts its open links, the book strikes out all unless the event is idempotent or
-- sticky and was satisfied. The two agree: the links of an open event are open, and of those that may be destroyed after they
-- fired only those two types are left.
use Rattle.std.specs.Prelude.{ℕ, ◌≤◌, ◌≡◌, refl, [], ◌∷◌}
use Rattle.std.proofs.Common.{ap, sym, subst, ◌∙◌, inl}
use native.Mathlib.Omega.{arith}
use Rattle.session.specs.Table.{Session, put, change}
use Rattle.session.specs.declared.Field.TheVariants.{Objects, Links, Kind, EventState, LinkSource, LinkState}
use Rattle.session.specs.Names.{event, event_open, destroyed_unfired, link_open, delivered}
use Rattle.rules.specs.Formula.{Formula, Holds, not, test, Formula.◌≐◌, Formula.◌≼◌, Formula.◌and◌}
use Rattle.rules.specs.EventTypes.{stays_when_fired}
use Rattle.rules.specs.FormulaLaws.{Case, decide, choose_yes, choose_no, Case.it_does, Case.it_does_not}
use Rattle.rules.specs.Effects.{destroy_event}
use Rattle.rules.specs.Sound.{links}
use Rattle.rules.specs.Book.{Book, enter, strike, column, Column}
use Rattle.laws.specs.DestroyEvent.{EventAfter, event-after, EventAfter.gone_fired, EventAfter.gone_unfired}
use Rattle.laws.specs.DestroyEvent.{EventAfter.stays, LinkAfter, link_after, LinkAfter.cut_now, LinkAfter.as_was}
use Rattle.laws.specs.Outside.{outside_same}
use Rattle.laws.specs.Writes.{destroy_event-writes}
use Rattle.laws.specs.BookEntries.{outside_enter, outside_strike}
use Rattle.laws.specs.Frame.{Shown.due}
use Rattle.laws.specs.Relation.{Blank, Marks, HadFired, StruckAgree, Clause, says, Related, Due, related_by}
use Rattle.laws.specs.Relation.Clause.{same_links, same_sources, tasks_destroyed, blocks_destroyed, fired_has, open_has}
use Rattle.laws.specs.Relation.Clause.{satisfied_agree, struck_agree, blank_destroyed, blank_struck}
use Rattle.laws.specs.Column.{blank-set, marks_beside, unfired}
use Rattle.laws.specs.Conjuncts.{open_with, Linked.agreeing}
use Rattle.laws.specs.Standing.{link_at_lem}

-- the book spares the links of an event of type 2 or 3 that was satisfied
abbrev pub spared : Book → ℕ → Formula
spared b e = stays_when_fired (b Column.EventType e) and (b Column.Satisfied e ≐ 1)

-- link l is struck out with e
abbrev struck_with : Book → ℕ → ℕ → Formula
struck_with b e l =
    (column Column.Struck ≐ column Column.Struck) and (1 ≼ l) and (l ≼ b Column.Links 0) and (b Column.LinkSource l ≐ e)
    and not (spared b e)

-- the mark of a link after
data StruckAfter (b : Book) (e l : ℕ) : Type 0 where
  struck_now : l ≤ b Column.Links 0 → b Column.LinkSource l ≡ e → (Holds (spared b e) → ⊥) → strike b e Column.Struck l ≡ 1
      → StruckAfter b e l
  as_before : (Holds (struck_with b e l) → ⊥) → strike b e Column.Struck l ≡ b Column.Struck l → StruckAfter b e l

struck_after : (b : Book) (e l : ℕ) → StruckAfter b e l
unfolding strike
struck_after b e l = go (decide (struck_with b e l))
  where
    go : Case (struck_with b e l) → StruckAfter b e l
    go (it_does (some, (low, (high, (from, unspared))))) =
        struck_now high from unspared
        (choose_yes (struck_with b e l) 1 (b Column.Struck l) (some, (low, (high, (from, unspared)))))
    go (it_does_not n) = as_before n (choose_no (struck_with b e l) 1 (b Column.Struck l) n)

-- what is said of events after one was destroyed
module _ (s : Session) (e : ℕ) where
  had_fired_lem : (i : ℕ) → HadFired (destroy_event s e EventState i) → HadFired (s EventState i)
  had_fired_lem i h = go (event-after s e i)
    where
      go : EventAfter s e i → HadFired (s EventState i)
      go (gone_fired p f q) = inl f
      go (gone_unfired p n q) = absurd (unfired destroyed_unfired (omega arith) (omega arith) (subst HadFired q h))
      go (stays n q) = subst HadFired q h

  was_open : (i : ℕ) → destroy_event s e EventState i ≡ event_open → s EventState i ≡ event_open
  was_open i h = go (event-after s e i)
    where
      go : EventAfter s e i → s EventState i ≡ event_open
      go (gone_fired p f q) = absurd (omega arith)
      go (gone_unfired p n q) = absurd (omega arith)
      go (stays n q) = sym q ∙ h

module _ (s : Session) (b : Book) (e : ℕ) (made : e ≤ s Objects 0) (kind : s Kind e ≡ event) (l-links : Holds (links s))
    (opens : (Holds (spared b e) → ⊥) → s EventState e ≡ event_open)
    (shuts : Holds (spared b e) → s EventState e ≡ event_open → ⊥) (r : Related s b) where
  entry : Book
  entry = strike (enter b Column.Destroyed e 1) e

  -- a link from an open event is open, and the other way round
  link_open_lem : (l : ℕ) → 1 ≤ l → l ≤ s Links 0 → s LinkSource l ≡ e → s EventState e ≡ event_open → s LinkState l ≡ link_open
  link_open_lem l a c q o = (open_with _ _ (link_at_lem s l l-links (a, c) agreeing)).1 (ap (s EventState) q ∙ o)

  source_open : (l : ℕ) → 1 ≤ l → l ≤ s Links 0 → s LinkSource l ≡ e → s LinkState l ≡ link_open → s EventState e ≡ event_open
  source_open l a c q o = ap (s EventState) (sym q) ∙ (open_with _ _ (link_at_lem s l l-links (a, c) agreeing)).0 o

  struck_agrees : StruckAgree (s Links 0) (destroy_event s e LinkState) (entry Column.Struck)
  unfolding entry enter test
  struck_agrees l a c = go (link_after s e l) (struck_after (enter b Column.Destroyed e 1) e l)
    where
      ends : 3 ≤ 4
      ends = omega arith

      not_spared : (Holds (struck_with b e l) → ⊥) → s LinkSource l ≡ e → Case (spared b e) → Holds (spared b e)
      not_spared n q (it_does y) = y
      not_spared n q (it_does_not m) =
          absurd (n (refl, (a, ((let w = r same_links in omega arith), (r same_sources l ∙ q, m)))))

      go : LinkAfter s e l → StruckAfter (enter b Column.Destroyed e 1) e l
          → Marks (delivered ≤ destroy_event s e LinkState l) (entry Column.Struck l)
      go (cut_now q o x) (struck_now m p n y) = rw (x, y) (λ d. refl, λ d. absurd (d ends))
      go (cut_now q o x) (as_before n y) = absurd (shuts (not_spared n q (decide (spared b e))) (source_open l a c q o))
      go (as_was m x) (struck_now w p n y) =
          let from = sym (r same_sources l) ∙ p in
          absurd (m from (link_open_lem l a c from (opens n)))
      go (as_was m x) (as_before n y) = rw (x, y) (r struck_agree l a c)

  struck_blank : Blank (s Links 0) (entry Column.Struck)
  unfolding entry enter test
  struck_blank l m = go (struck_after (enter b Column.Destroyed e 1) e l)
    where
      go : StruckAfter (enter b Column.Destroyed e 1) e l → entry Column.Struck l ≡ 0
      go (struck_now w p n y) = let q = r same_links in absurd (omega arith)
      go (as_before n y) = y ∙ r blank_struck l m

  pub related-destroy_event : Related (destroy_event s e) (strike (enter b Column.Destroyed e 1) e)
  unfolding destroy_event put change strike enter test entry
  related-destroy_event =
      related_by (destroy_event-writes s e) (outside_strike e (outside_enter {c = Column.Destroyed} e 1 (outside_same b))) r shows
    where
      shows : (c : Clause) → Due (LinkState ∷ EventState ∷ []) (Column.Struck ∷ Column.Destroyed ∷ []) c
          → says c (destroy_event s e) (strike (enter b Column.Destroyed e 1) e)
      shows tasks_destroyed due =
          λ i k. marks_beside (s Kind) (b Column.Destroyed) kind k (λ q. omega arith) (r tasks_destroyed i k)
      shows blocks_destroyed due =
          λ i k. marks_beside (s Kind) (b Column.Destroyed) kind k (λ q. omega arith) (r blocks_destroyed i k)
      shows fired_has due = λ i f. r fired_has i (had_fired_lem s e i f)
      shows open_has due = λ i o. r open_has i (was_open s e i o)
      shows satisfied_agree due =
          λ i l. (λ o. (r satisfied_agree i l).0 (was_open s e i o), λ f. (r satisfied_agree i l).1 (had_fired_lem s e i f))
      shows struck_agree due = struck_agrees
      shows blank_destroyed due = blank-set e 1 made (r blank_destroyed)
      shows blank_struck due = struck_blank
      shows Rattle.laws.specs.Relation.same_objects x' = elim x' [ ]
      shows same_links x'' = elim x'' [ ]
      shows Rattle.laws.specs.Relation.same_kinds x3 = elim x3 [ ]
      shows Rattle.laws.specs.Relation.same_types x4 = elim x4 [ ]
      shows Rattle.laws.specs.Relation.same_makers x5 = elim x5 [ ]
      shows Rattle.laws.specs.Relation.same_finishes x6 = elim x6 [ ]
      shows Rattle.laws.specs.Relation.same_outputs x7 = elim x7 [ ]
      shows same_sources x8 = elim x8 [ ]
      shows Rattle.laws.specs.Relation.same_targets x9 = elim x9 [ ]
      shows Rattle.laws.specs.Relation.same_slots x10 = elim x10 [ ]
      shows Rattle.laws.specs.Relation.task_counts x11 = elim x11 [ ]
      shows Rattle.laws.specs.Relation.template_counts x12 = elim x12 [ ]
      shows Rattle.laws.specs.Relation.slots_agree x13 = elim x13 [ ]
      shows Rattle.laws.specs.Relation.ended_agree x14 = elim x14 [ ]
      shows Rattle.laws.specs.Relation.starts_agree x15 = elim x15 [ ]
      shows Rattle.laws.specs.Relation.blank_kinds x16 = elim x16 [ ]
      shows Rattle.laws.specs.Relation.blank_times x17 = elim x17 [ ]
      shows Rattle.laws.specs.Relation.blank_satisfied x18 = elim x18 [ ]
      shows Rattle.laws.specs.Relation.blank_has x19 = elim x19 [ ]
      shows Rattle.laws.specs.Relation.blank_starts x20 = elim x20 [ ]
      shows Rattle.laws.specs.Relation.blank_ended x21 = elim x21 [ ]
