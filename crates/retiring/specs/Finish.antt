-- The finish events that fire: marked first, then their states and the states of their links.
use Rattle.std.specs.Prelude.{ℕ, ◌+◌, ◌-◌, ◌<◌, ◌≡◌, List}
use Rattle.std.proofs.Math.Path.{sym, ap}
use Rattle.std.proofs.Common.{subst, ◌∙◌, arith}
use Rattle.std.proofs.Math.ListN.{get_or}
use Rattle.session.specs.Table.{Session, put, change, sweep}
use Rattle.session.specs.TableLaws.{sweep-change}
use Rattle.session.specs.declared.Field.{Field}
use Rattle.session.specs.declared.Field.TheVariants.{Objects, Links, Kind, TaskState, TaskFinish, EventState, EventType}
use Rattle.session.specs.declared.Field.TheVariants.{EventPayload, LinkSource, LinkState}
use Rattle.session.specs.Names.{event, ended, event_open, fired, output, link_open, ready}
use Rattle.rules.specs.Formula.{Formula, Holds, choose, test, Formula.◌≐◌, Formula.◌and◌}
use Rattle.rules.specs.FormulaLaws.{Case, decide, choose_yes, choose_no, passes, fails, choose-same, Case.it_does}
use Rattle.rules.specs.FormulaLaws.{Case.it_does_not}
use Rattle.rules.specs.Reading.{is_kind}
use Rattle.rules.specs.Effects.{finishes, fire, fire_one, fire_finished}
use Rattle.rules.specs.Descendants.{busy}
use Rattle.laws.specs.Conjuncts.{Finishes, finishes_by_name, finishes_of}
use Rattle.laws.specs.Puts.{put_same}
use Rattle.effects.specs.OpenLinks.{NoMoreLinks}
use Rattle.holding.specs.SweepRows.{row, rows, change-same, change_idle}
use Rattle.retiring.specs.TidyUnderWay.{Tidy}

-- firing by marks
unfoldable pub fire_row : List ℕ → ℕ → (Field → ℕ) → ℕ
fire_row m e r = choose (get_or m e 0 ≐ 1) fired (r EventState)

unfoldable pub states_fired : Session → List ℕ → Session
unfolding fire_row
states_fired s m = change s EventState (rows (fire_row m) s)

pub fire_yes : (s : Session) (m : List ℕ) (e : ℕ) → get_or m e 0 ≡ 1 → fire_row m e (row s e) ≡ fired
unfolding fire_row
fire_yes s m e q = choose_yes (get_or m e 0 ≐ 1) fired (s EventState e) q

pub fire_no : (s : Session) (m : List ℕ) (e : ℕ) → (get_or m e 0 ≡ 1 → ⊥) → put s EventState e (fire_row m e (row s e)) ≡ s
unfolding fire_row
fire_no s m e n = ap (put s EventState e) (choose_no (get_or m e 0 ≐ 1) fired (s EventState e) n) ∙ put_same s EventState e

-- no mark past the count of objects
abbrev pub Within : List ℕ → ℕ → Type 0
Within m n = (e : ℕ) → n < e → get_or m e 0 ≡ 1 → ⊥

pub fired-end : (s : Session) (m : List ℕ) (n : ℕ) → Within m (s Objects 0) → n ≡ s Objects 0 + 1
    → sweep s EventState n (rows (fire_row m) s) ≡ states_fired s m
unfolding states_fired fire_row
fired-end s m n w q =
    rw q
    (sweep-change s EventState (s Objects 0 + 1) (rows (fire_row m) s)
    (λ e l. choose_no (get_or m e 0 ≐ 1) fired (s EventState e) (w e (omega arith))))

-- links by marks
unfoldable pub ready_row : List ℕ → ℕ → (Field → ℕ) → ℕ
ready_row m l r = choose ((r LinkState ≐ link_open) and (get_or m (r LinkSource) 0 ≐ 1)) ready (r LinkState)

unfoldable pub links_ready : Session → List ℕ → Session
unfolding ready_row
links_ready s m = change s LinkState (rows (ready_row m) s)

pub ready_yes : (s : Session) (m : List ℕ) (l : ℕ) → s LinkState l ≡ link_open → get_or m (s LinkSource l) 0 ≡ 1
    → ready_row m l (row s l) ≡ ready
unfolding ready_row
ready_yes s m l p q = choose_yes ((s LinkState l ≐ link_open) and (get_or m (s LinkSource l) 0 ≐ 1)) ready (s LinkState l) (p, q)

pub ready_no : (s : Session) (m : List ℕ) (l : ℕ) → ((s LinkState l ≡ link_open) × (get_or m (s LinkSource l) 0 ≡ 1) → ⊥)
    → put s LinkState l (ready_row m l (row s l)) ≡ s
unfolding ready_row
ready_no s m l n =
    ap (put s LinkState l) (choose_no ((s LinkState l ≐ link_open) and (get_or m (s LinkSource l) 0 ≐ 1)) ready (s LinkState l) n)
    ∙ put_same s LinkState l

pub ready-end : (s : Session) (m : List ℕ) (n : ℕ) → NoMoreLinks s → n ≡ s Links 0 + 1
    → sweep s LinkState n (rows (ready_row m) s) ≡ links_ready s m
unfolding links_ready ready_row
ready-end s m n none q =
    rw q
    (sweep-change s LinkState (s Links 0 + 1) (rows (ready_row m) s)
    (λ l h. choose_no ((s LinkState l ≐ link_open) and (get_or m (s LinkSource l) 0 ≐ 1)) ready (s LinkState l)
    (λ x. let z = none l (omega arith) in let o = x.0 in omega arith)))

-- firing goes by what its formula says at each place
fire-same : (s : Session) (f g : ℕ → Formula) (p : ℕ → ℕ) → ((e : ℕ) → Holds (f e) → Holds (g e))
    → ((e : ℕ) → Holds (g e) → Holds (f e)) → fire s f p ≡ fire s g p
unfolding fire
fire-same s f g p to from =
    change-same _ LinkState _ _
    (λ l. choose-same ((s LinkState l ≐ link_open) and f (s LinkSource l))
    ((s LinkState l ≐ link_open) and g (s LinkSource l)) ready (s LinkState l) (λ y. (y.0, to (s LinkSource l) y.1))
    (λ y. (y.0, from (s LinkSource l) y.1)))
    ∙ ap (λ (r : Session). change r LinkState
    (λ l. choose ((s LinkState l ≐ link_open) and g (s LinkSource l)) ready (s LinkState l)))
    (change-same _ EventPayload _ _ (λ e. choose-same (f e) (g e) (p e) (s EventPayload e) (to e) (from e))
    ∙ ap (λ (r : Session). change r EventPayload (λ e. choose (g e) (p e) (s EventPayload e)))
    (change-same s EventState _ _ (λ e. choose-same (f e) (g e) fired (s EventState e) (to e) (from e))))

-- where e alone finishes, it alone fires
pub one_fires : (s : Session) (e : ℕ) → Holds (finishes s e) → ((k : ℕ) → Holds (finishes s k) → k ≡ e)
    → fire_one s e 0 ≡ fire_finished s
unfolding fire_one fire_finished
one_fires s e f alone =
    fire-same s (λ k. k ≐ e) (finishes s) (λ k. 0) (λ k q. subst (λ (i : ℕ). Holds (finishes s i)) (sym q) f) alone

-- the marks say of each handle whether it finishes
pub record Marks (s : Session) (m : List ℕ) : Type 0 where
  pub sure : (e : ℕ) → get_or m e 0 ≡ 1 → Holds (finishes s e)
  pub all : (e : ℕ) → Holds (finishes s e) → get_or m e 0 ≡ 1

module _ (s : Session) (m : List ℕ) (t : Tidy s) (x : Marks s m) where
  -- no mark is past the count
  pub marks-within : Within m (s Objects 0)
  marks-within e l q = let z = t.frame.unmade e l in let k = (x.sure e q).0 in omega arith

  -- firing by marks fires what finishes: its payload is 0 already
  pub finished_fire : links_ready (states_fired s m) m ≡ fire_finished s
  unfolding links_ready ready_row states_fired fire_row fire_finished fire change
  finished_fire =
      ap (λ (r : Session). change r LinkState (rows (ready_row m) s))
      (sym (change_idle (states_fired s m) EventPayload (λ e. choose (get_or m e 0 ≐ 1) 0 (s EventPayload e))
      (λ e. empty e (decide (get_or m e 0 ≐ 1)))))
      ∙ fire-same s (λ e. get_or m e 0 ≐ 1) (finishes s) (λ e. 0) x.sure x.all
    where
      empty : (e : ℕ) → Case (get_or m e 0 ≐ 1) → choose (get_or m e 0 ≐ 1) 0 (s EventPayload e) ≡ s EventPayload e
      empty e (it_does q) =
          let f = finishes_by_name s e (x.sure e q) in
          choose_yes (get_or m e 0 ≐ 1) 0 (s EventPayload e) q ∙ sym (t.open_empty e f.kind f.unfired)
      empty e (it_does_not n) = choose_no (get_or m e 0 ≐ 1) 0 (s EventPayload e) n

-- what a mark of 0, and any other, says
pub mark_no : (f : Formula) (m : ℕ) → m ≡ choose f 1 0 → m ≡ 0 → Holds f → ⊥
mark_no f m e z h = let y : ◌≡◌ {A = ℕ} 0 1 = sym z ∙ e ∙ choose_yes f 1 0 h in omega arith

pub mark_yes : (f : Formula) (m : ℕ) → m ≡ choose f 1 0 → (m ≡ 0 → ⊥) → Holds f
mark_yes f m e n = go (decide f)
  where
    go : Case f → Holds f
    go (it_does h) = h
    go (it_does_not x) = absurd (n (e ∙ choose_no f 1 0 x))

-- firing leaves a session tidy
pub tidy_fired : (s : Session) (m : List ℕ) → Tidy s → Tidy (states_fired s m)
unfolding states_fired fire_row change
tidy_fired s m t =
    record {
      frame = t.frame;
      no_more = t.no_more;
      open_empty = λ e k o. after e k o (decide (get_or m e 0 ≐ 1));
      states = t.states;
    }
  where
    after : (e : ℕ) → s Kind e ≡ event → choose (get_or m e 0 ≐ 1) fired (s EventState e) ≡ event_open → Case (get_or m e 0 ≐ 1)
        → s EventPayload e ≡ 0
    after e k o (it_does q) =
        let z : fired ≡ event_open = sym (choose_yes (get_or m e 0 ≐ 1) fired (s EventState e) q) ∙ o in absurd (omega arith)
    after e k o (it_does_not n) = t.open_empty e k (sym (choose_no (get_or m e 0 ≐ 1) fired (s EventState e) n) ∙ o)

-- task h is finish and ended, and the next handle its open output event: it fires once no descendant is live
abbrev pub waits : Session → ℕ → Formula
waits s h =
    is_kind s event (h + 1) and s EventType (h + 1) ≐ output and s EventState
    (h + 1) ≐ event_open and s TaskFinish h ≐ 1 and s TaskState h ≐ ended

pub waits_of : (s : Session) (h : ℕ) → Holds (finishes s (h + 1)) → Holds (waits s h)
waits_of s h x =
    let back : h + 1 - 1 ≡ h = omega arith in
    let f = finishes_by_name s (h + 1) x in
    (f.kind, (f.type, (f.unfired, (rw back at f.finish, rw back at f.over))))

pub finishes-waits : (s : Session) (h : ℕ) → (Holds (busy s h) → ⊥) → test (waits s h) ≡ test (finishes s (h + 1))
finishes-waits s h idle = go (decide (waits s h))
  where
    go : Case (waits s h) → test (waits s h) ≡ test (finishes s (h + 1))
    go (it_does x) = passes (waits s h) x ∙ sym (passes (finishes s (h + 1)) (finishes_of s (h + 1) (all x)))
      where
        back : h + 1 - 1 ≡ h
        back = omega arith

        all : Holds (waits s h) → Finishes s (h + 1)
        all (kind, (type, (unfired, (finish, over)))) =
            record { kind = kind; type = type; unfired = unfired; finish = rw back finish; over = rw back over; idle = rw back idle }
    go (it_does_not n) = fails (waits s h) n ∙ sym (fails (finishes s (h + 1)) (λ x. n (waits_of s h x)))

-- where nothing finishes nothing fires
pub fires_nothing : (s : Session) → ((e : ℕ) → Holds (finishes s e) → ⊥) → fire_finished s ≡ s
unfolding fire_finished fire change
fires_nothing s n =
    change_idle (change (change s EventState states) EventPayload payloads) LinkState links
    (λ l. choose_no ((s LinkState l ≐ link_open) and finishes s (s LinkSource l)) ready (s LinkState l)
    (λ x. n (s LinkSource l) x.1))
    ∙ change_idle (change s EventState states) EventPayload payloads (λ e. choose_no (finishes s e) 0 (s EventPayload e) (n e))
    ∙ change_idle s EventState states (λ e. choose_no (finishes s e) fired (s EventState e) (n e))
  where
    states : ℕ → ℕ
    states e = choose (finishes s e) fired (s EventState e)

    payloads : ℕ → ℕ
    payloads e = choose (finishes s e) 0 (s EventPayload e)

    links : ℕ → ℕ
    links l = choose ((s LinkState l ≐ link_open) and finishes s (s LinkSource l)) ready (s LinkState l)
