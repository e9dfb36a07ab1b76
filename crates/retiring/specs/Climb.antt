-- Who can be done once a task has ended or was destroyed: the task itself, and those above it that are reached over tasks that
-- are not live. Of any other the output event fired when it should have.
use Rattle.std.specs.Prelude.{ℕ, zero, suc, ◌+◌, ◌-◌, ◌≤◌, ◌<◌, ◌≡◌, refl, List, ◌⊎◌, length, get_or, set, replicate}
use Rattle.std.specs.Prelude.{Option, Some, None}
use Rattle.std.proofs.Common.{sym, subst, ap, ◌∙◌, inl, inr, arith, get_or-set_same, get_or-set_other}
use Rattle.std.proofs.Math.Decide.{dec_lt}
use Rattle.std.proofs.lemmas.List.{get_or-replicate, length-replicate}
use Rattle.std.proofs.Math.ListN.{get_or-eq_default}
use Rattle.session.specs.Table.{Session, put, change}
use Rattle.session.specs.declared.Field.TheVariants.{Objects, Kind, TaskState, TaskCreator, TaskFinish, TaskOutput, EventState}
use Rattle.session.specs.declared.Field.TheVariants.{EventType}
use Rattle.session.specs.Names.{event, running, ended, fired, destroyed_fired, destroyed_unfired}
use Rattle.session.specs.Names.{object_places}
use Rattle.rules.specs.Formula.{Holds, choose, Formula.◌≐◌, Formula.◌≼◌, Formula.◌and◌}
use Rattle.rules.specs.FormulaLaws.{Case, decide, choose_yes, choose_no, Case.it_does, Case.it_does_not, choose_case}
use Rattle.rules.specs.Reading.{made}
use Rattle.rules.specs.Sound.{outputs}
use Rattle.rules.specs.Effects.{finishes, let_go, bury_doomed, fire, fire_one, fire_finished, destroy_event}
use Rattle.rules.specs.Descendants.{under, busy}
use Rattle.laws.specs.Places.{Places, places, put_there, Places.one, Places.two}
use Rattle.laws.specs.Under.{under-made, under_down, under-through}
use Rattle.laws.specs.Conjuncts.{finishes_by_name, output_by_name, Output.fires_with}
use Rattle.retiring.specs.declared.climbing.Found.{Found}
use Rattle.retiring.specs.declared.climbing.Found.TheVariants.{Nothing, One, Several}
use Rattle.retiring.specs.TidyUnderWay.{Tidy}
use Rattle.retiring.specs.Finish.{Marks, one_fires, fires_nothing}
use Rattle.retiring.specs.RetiringParts.{output_destroyed, output_fired, ending}
use Rattle.retiring.specs.Children.{Childless}

-- a is h, or stands above it by the creators given
abbrev pub Reached : (ℕ → ℕ) → ℕ → ℕ → Type 0
Reached c h a = (1 ≤ h) × ((h ≡ a) ⊎ Holds (under c h h a))

-- no output event finishes but those of h, which is at most the last handle, and of the tasks above it
pub record OnlyAbove (s : Session) (h : ℕ) : Type 0 where
  pub known : h ≤ s Objects 0
  pub reached : (e : ℕ) → Holds (finishes s e) → Reached (s TaskCreator) h (e - 1)

-- no output event finishes but e
abbrev pub OnlyOne : Session → ℕ → Type 0
OnlyOne s e = (k : ℕ) → Holds (finishes s k) → k ≡ e

-- what the marks are where so much was found: none, that of one event, or several
abbrev pub Marked : List ℕ → Found → Type 0
Marked m Nothing = (e : ℕ) → get_or m e 0 ≡ 1 → ⊥
Marked m (One e) = (get_or m e 0 ≡ 1) × ((k : ℕ) → get_or m k 0 ≡ 1 → k ≡ e)
Marked m Several = Unit {0}

-- A climb has come to h: what is marked finishes, and what finishes is marked or reached from h.
pub record Climbed (s : Session) (m : List ℕ) (found : Found) (h : ℕ) : Type 0 where
  pub known : h ≤ s Objects 0
  pub sure : (e : ℕ) → get_or m e 0 ≡ 1 → Holds (finishes s e)
  pub reached : (e : ℕ) → Holds (finishes s e) → (get_or m e 0 ≡ 1) ⊎ Reached (s TaskCreator) h (e - 1)
  pub marked : Marked m found

-- an event is made
pub event-made : (s : Session) → Tidy s → (e : ℕ) → s Kind e ≡ event → Holds (made s e)
event-made s x e k = (some (dec_lt 0 e), low (dec_lt (s Objects 0) e))
  where
    some : Dec (0 < e) → 1 ≤ e
    some (yes l) = l
    some (no n) = let i : e ≡ 0 = omega arith in let z : s Kind e ≡ 0 = rw i x.frame.null in absurd (omega arith)

    low : Dec (s Objects 0 < e) → e ≤ s Objects 0
    low (yes l) = let z = x.frame.unmade e l in absurd (omega arith)
    low (no n) = omega arith

-- the creator of h, or 0 if it is live
unfoldable pub done_creator : Session → ℕ → ℕ
done_creator s h = choose (s TaskState (s TaskCreator h) ≼ running) 0 (s TaskCreator h)

pub creator-live : (s : Session) (h : ℕ) → s TaskState (s TaskCreator h) ≤ running → done_creator s h ≡ 0
unfolding done_creator
creator-live s h l = choose_yes (s TaskState (s TaskCreator h) ≼ running) 0 (s TaskCreator h) l

pub creator-done : (s : Session) (h : ℕ) → (s TaskState (s TaskCreator h) ≤ running → ⊥) → done_creator s h ≡ s TaskCreator h
unfolding done_creator
creator-done s h n = choose_no (s TaskState (s TaskCreator h) ≼ running) 0 (s TaskCreator h) n

-- as the code reads it: a creator whose state is live counts as 0
pub live_creator_read : (s : Session) (h c v : ℕ) → c ≡ s TaskCreator h → v ≡ s TaskState c → v ≤ running → 0 ≡ done_creator s h
live_creator_read s h c v e f l = sym (creator-live s h (let g : v ≡ s TaskState (s TaskCreator h) = rw e at f in omega arith))

pub creator_none : (s : Session) (h : ℕ) → s TaskCreator h ≡ 0 → done_creator s h ≡ 0
creator_none s h z = go (decide (s TaskState (s TaskCreator h) ≼ running))
  where
    go : Case (s TaskState (s TaskCreator h) ≼ running) → done_creator s h ≡ 0
    go (it_does live) = creator-live s h live
    go (it_does_not n) = creator-done s h n ∙ z

-- a handle, if there is one: the rules have 0 where there is none
abbrev pub handle : ℕ → Option ℕ
handle zero = None
handle (suc n) = Some (suc n)

pub handle_some : (c : ℕ) → (c ≡ 0 → ⊥) → handle c ≡ Some c
handle_some zero n = absurd (n refl)
handle_some (suc c) n = refl

pub none_handle : (c : ℕ) → handle c ≡ None → c ≡ 0
none_handle zero e = refl
none_handle (suc c) e = cc

pub some_handle : (c k : ℕ) → handle c ≡ Some k → (c ≡ k) × (1 ≤ k)
some_handle zero k e = cc
some_handle (suc c) k e = let q : suc c ≡ k = cc in (q, omega arith)

-- a live creator is none that is done, as the code reads it
pub live_creator_none : (s : Session) (h c v : ℕ) → c ≡ s TaskCreator h → v ≡ s TaskState c → v ≤ running
    → None ≡ handle (done_creator s h)
live_creator_none s h c v e f l = ap handle (live_creator_read s h c v e f l)

module _ (s : Session) (x : Tidy s) (h : ℕ) (l : h ≤ s Objects 0) where
  abbrev c : ℕ → ℕ
  c = s TaskCreator

  -- so whoever stands above a busy task is busy
  pub busy-above : (a : ℕ) → Holds (busy s h) → Reached c h a → Holds (busy s a)
  busy-above a b y = go y.1
    where
      go : (h ≡ a) ⊎ Holds (under c h h a) → Holds (busy s a)
      go (inl e) = subst (λ (i : ℕ). Holds (busy s i)) e b
      go (inr u) =
          let n = b.1 in
          (b.0, n, (b.2.0, under-through s x.frame.falls b.0 b.0 h a (omega arith) b.2.1 u))

  pub creator-made : c h ≤ s Objects 0
  creator-made = go (dec_lt 0 (c h))
    where
      go : Dec (0 < c h) → c h ≤ s Objects 0
      go (yes p) = let f = x.frame.falls h l p in omega arith
      go (no n) = omega arith

  pub done_low : done_creator s h ≤ s Objects 0
  done_low = go (decide (s TaskState (c h) ≼ running))
    where
      go : Case (s TaskState (c h) ≼ running) → done_creator s h ≤ s Objects 0
      go (it_does live) = rw (creator-live s h live) (omega arith)
      go (it_does_not n) = rw (creator-done s h n) creator-made

  pub done_lower : 1 ≤ h → done_creator s h < h
  done_lower m = go (decide (s TaskState (c h) ≼ running)) (dec_lt 0 (c h))
    where
      go : Case (s TaskState (c h) ≼ running) → Dec (0 < c h) → done_creator s h < h
      go (it_does live) d = rw (creator-live s h live) m
      go (it_does_not n) (yes p) = rw (creator-done s h n) (x.frame.falls h l p)
      go (it_does_not n) (no q) = rw (creator-done s h n) (omega arith)

  -- nothing that finishes is a live task or stands above one
  live_stops : (a : ℕ) → s TaskState (c h) ≤ running → s TaskState a ≡ ended → (Holds (busy s a) → ⊥) → Reached c (c h) a → ⊥
  live_stops a live e idle y = go y.1
    where
      go : (c h ≡ a) ⊎ Holds (under c (c h) (c h) a) → ⊥
      go (inl q) = let z : s TaskState (c h) ≡ ended = rw q e in omega arith
      go (inr u) = idle (c h, (let b = creator-made in omega arith), ((x.frame.makers h l y.0, live), u))

  -- what finishes and is reached from h is the event of h, of which something else may be known, or is reached from one step up
  pub step : {B : Type 0} (e : ℕ) → Holds (finishes s e) → Reached c h (e - 1) → (e ≡ h + 1 → B)
      → B ⊎ Reached c (done_creator s h) (e - 1)
  step {B} e f r own = go r.1
    where
      up : Reached c (c h) (e - 1) → Case (s TaskState (c h) ≼ running) → Reached c (done_creator s h) (e - 1)
      up y (it_does live) = let n = finishes_by_name s e f in absurd (live_stops (e - 1) live n.over n.idle y)
      up y (it_does_not d) = rw (creator-done s h d) y

      above : Holds (under c h h (e - 1)) → Reached c (c h) (e - 1)
      above u = (under-made c h (e - 1) u, under_down s x.frame.falls h (e - 1) l u)

      go : (h ≡ e - 1) ⊎ Holds (under c h h (e - 1)) → B ⊎ Reached c (done_creator s h) (e - 1)
      go (inl q) = let m = r.0 in inl (own (omega arith))
      go (inr u) = inr (up (above u) (decide (s TaskState (c h) ≼ running)))

  module _ (m : List ℕ) (found : Found) (some : 1 ≤ h) (y : Climbed s m found h) where
    -- nothing above a busy task finishes
    pub climbed-busy : Holds (busy s h) → Climbed s m found 0
    climbed-busy b = record {
      known = omega arith;
      sure = y.sure;
      reached = λ e f. go e f (y.reached e f);
      marked = y.marked;
    }
      where
        go : (e : ℕ) → Holds (finishes s e) → (get_or m e 0 ≡ 1) ⊎ Reached c h (e - 1)
            → (get_or m e 0 ≡ 1) ⊎ Reached c 0 (e - 1)
        go e f (inl q) = inl q
        go e f (inr r) = absurd ((finishes_by_name s e f).idle (busy-above (e - 1) b r))

    -- one step up where the event of h does not finish
    pub climbed_past : (Holds (finishes s (h + 1)) → ⊥) → Climbed s m found (done_creator s h)
    climbed_past n = record {
      known = let d = done_lower some in let k = y.known in omega arith;
      sure = y.sure;
      reached = λ e f. go e f (y.reached e f);
      marked = y.marked;
    }
      where
        go : (e : ℕ) → Holds (finishes s e) → (get_or m e 0 ≡ 1) ⊎ Reached c h (e - 1)
            → (get_or m e 0 ≡ 1) ⊎ Reached c (done_creator s h) (e - 1)
        go e f (inl q) = inl q
        go e f (inr r) = step e f r (λ q. absurd (n (subst (λ (i : ℕ). Holds (finishes s i)) q f)))

    -- one step up where it does, and is marked
    pub climbed-mark : Holds (finishes s (h + 1)) → length m ≡ object_places → (v : Found)
        → ((found ≡ Nothing) × (v ≡ One (h + 1))) ⊎ (v ≡ Several) → Climbed s (set m (h + 1) 1) v (done_creator s h)
    climbed-mark f len v w = record {
      known = let d = done_lower some in let k = y.known in omega arith;
      sure = λ e q. sure e q (places (h + 1) e);
      reached = λ e g. go e g (places (h + 1) e) (y.reached e g);
      marked = marked w;
    }
      where
        here : get_or (set m (h + 1) 1) (h + 1) 0 ≡ 1
        here = get_or-set_same m (h + 1) 1 0 (let o = (event-made s x (h + 1) f.0).1 in omega (arith, o, len, x.frame.few))

        before : (e : ℕ) → (h + 1 ≡ e → ⊥) → get_or (set m (h + 1) 1) e 0 ≡ get_or m e 0
        before e n = get_or-set_other m (h + 1) e 1 0 (λ q. n (sym q))

        sure : (e : ℕ) → get_or (set m (h + 1) 1) e 0 ≡ 1 → Places (h + 1) e → Holds (finishes s e)
        sure e q (one p) = subst (λ (i : ℕ). Holds (finishes s i)) p f
        sure e q (two n) = y.sure e (sym (before e n) ∙ q)

        go : (e : ℕ) → Holds (finishes s e) → Places (h + 1) e → (get_or m e 0 ≡ 1) ⊎ Reached c h (e - 1)
            → (get_or (set m (h + 1) 1) e 0 ≡ 1) ⊎ Reached c (done_creator s h) (e - 1)
        go e g (one p) r = inl (subst (λ (i : ℕ). get_or (set m (h + 1) 1) i 0 ≡ 1) p here)
        go e g (two n) (inl q) = inl (before e n ∙ q)
        go e g (two n) (inr r) = step e g r (λ q. absurd (n (sym q)))

        alone : Marked m Nothing → (e : ℕ) → get_or (set m (h + 1) 1) e 0 ≡ 1 → Places (h + 1) e → e ≡ h + 1
        alone none e q (one p) = sym p
        alone none e q (two n) = absurd (none e (sym (before e n) ∙ q))

        marked : ((found ≡ Nothing) × (v ≡ One (h + 1))) ⊎ (v ≡ Several) → Marked (set m (h + 1) 1) v
        marked (inl z) =
            let none = subst (λ (k : Found). Marked m k) z.0 y.marked in
            subst (λ (k : Found). Marked (set m (h + 1) 1) k) (sym z.1) (here, λ e q. alone none e q (places (h + 1) e))
        marked (inr z) = subst (λ (k : Found). Marked (set m (h + 1) 1) k) (sym z) tt

-- before the climb nothing is marked
pub climbed_none : (s : Session) (t : ℕ) → OnlyAbove s t → Climbed s (replicate object_places 0) Nothing t
climbed_none s t o = record {
  known = o.known;
  sure = λ e q. absurd (none e q (dec_lt e object_places));
  reached = λ e f. inr (o.reached e f);
  marked = λ e q. none e q (dec_lt e object_places);
}
  where
    zeros : List ℕ
    zeros = replicate object_places 0

    long : length zeros ≡ object_places
    long = length-replicate {A = ℕ} object_places 0

    none : (e : ℕ) → get_or zeros e 0 ≡ 1 → Dec (e < object_places) → ⊥
    none e q (yes l) = let z : get_or zeros e 0 ≡ 0 = get_or-replicate object_places e 0 0 l in omega arith
    none e q (no n) = let z : get_or zeros e 0 ≡ 0 = get_or-eq_default zeros 0 {n = e} (omega (arith, long)) in omega arith

module _ (s : Session) (m : List ℕ) (found : Found) (y : Climbed s m found 0) where
  -- after it everything that finishes is
  pub climbed_all : Marks s m
  climbed_all = record { sure = y.sure; all = λ e f. go e (y.reached e f) }
    where
      go : (e : ℕ) → (get_or m e 0 ≡ 1) ⊎ Reached (s TaskCreator) 0 (e - 1) → get_or m e 0 ≡ 1
      go e (inl q) = q
      go e (inr r) = let z = r.0 in absurd (omega arith)

  -- nothing fires where nothing was found
  pub found_none : found ≡ Nothing → fire_finished s ≡ s
  found_none z =
      let none = subst (λ (k : Found). Marked m k) z y.marked in
      fires_nothing s (λ e f. none e (climbed_all.all e f))

  -- one event where one was found
  pub found_one : (e : ℕ) → found ≡ One e → Holds (finishes s e) × (fire_one s e 0 ≡ fire_finished s)
  found_one e z =
      let one = subst (λ (k : Found). Marked m k) z y.marked in
      let f = y.sure e one.0 in
      (f, one_fires s e f (λ k g. one.1 k (climbed_all.all k g)))

-- of what `finishes` reads, r is s but for the states of task t and of its output event
pub record OnlyOwn (s r : Session) (t : ℕ) : Type 0 where
  pub count : r Objects 0 ≡ s Objects 0
  pub kinds : (h : ℕ) → r Kind h ≡ s Kind h
  pub types : (e : ℕ) → r EventType e ≡ s EventType e
  pub creators : r TaskCreator ≡ s TaskCreator
  pub tasks : (u : ℕ) → (t ≡ u → ⊥) → r TaskState u ≡ s TaskState u
  pub events : (e : ℕ) → (t + 1 ≡ e → ⊥) → r EventState e ≡ s EventState e

module _ (s r : Session) (t : ℕ) (x : Tidy s) (o : Holds (outputs s)) (own : OnlyOwn s r t) where
  -- who does not stand above t is as busy as before
  idle_before : (a : ℕ) → (Holds (under (s TaskCreator) t t a) → ⊥) → (Holds (busy r a) → ⊥) → Holds (busy s a) → ⊥
  idle_before a n idle b = go (places t b.0)
    where
      go : Places t b.0 → ⊥
      go (one q) = n (subst (λ (h : ℕ). Holds (under (s TaskCreator) h h a)) (sym q) b.2.1)
      go (two m) =
          idle (
            b.0,
            rw own.count b.1,
            ((own.kinds b.0 ∙ b.2.0.0, rw (own.tasks b.0 m) b.2.0.1), rw own.creators b.2.1),
          )

  -- so its output event had fired
  fired_before : (e : ℕ) → (t ≡ e - 1 → ⊥) → (Holds (under (s TaskCreator) t t (e - 1)) → ⊥) → Holds (finishes r e)
      → s EventState e ≡ fired
  fired_before e other u f =
      let n = finishes_by_name r e f in
      let k : s Kind e ≡ event = sym (own.kinds e) ∙ n.kind in
      let lo = (event-made s x e k).0 in
      let hi = (event-made s x e k).1 in
      let of = (o e (omega arith)).1 (k, sym (own.types e) ∙ n.type) in
      let out = (o (e - 1) (omega arith)).0 of in
      let back : e - 1 + 1 ≡ e = omega arith in
      rw back at ((output_by_name (e - 1) s out fires_with).1
      (sym (own.tasks (e - 1) other) ∙ n.over, inr (idle_before (e - 1) u n.idle)))

  pub only_above : Holds (made s t) → OnlyAbove r t
  only_above m =
      record {
        known = rw own.count m.1;
        reached = λ e f.
            (m.0, go e f (places t (e - 1)) (decide (under (s TaskCreator) t t (e - 1))));
      }
    where
      go : (e : ℕ) → Holds (finishes r e) → Places t (e - 1) → Case (under (s TaskCreator) t t (e - 1))
          → (t ≡ e - 1) ⊎ Holds (under (r TaskCreator) t t (e - 1))
      go e f (one q) d = inl q
      go e f (two n) (it_does u) = inr (rw own.creators u)
      go e f (two n) (it_does_not u) =
          let was : s EventState e ≡ fired = fired_before e n u f in
          let stays : r EventState e ≡ s EventState e = own.events e (λ q. n (omega arith)) in
          let unfired = (finishes_by_name r e f).unfired in
          absurd (omega arith)

-- and who made no task made none in r
pub childless_own : (s r : Session) (t : ℕ) → OnlyOwn s r t → Childless s t → Childless r t
childless_own s r t own none d l e = none d (rw own.count at l) (rw own.creators at e)

-- what an end and the destroying of a task write before that
module _ (s : Session) (t : ℕ) where
  pub own-state : (v : ℕ) → OnlyOwn s (put s TaskState t v) t
  unfolding put
  own-state v =
      record {
        count = refl;
        kinds = λ h. refl;
        types = λ e. refl;
        creators = refl;
        tasks = λ u n. put_there s TaskState t u v n;
        events = λ e n. refl;
      }

  pub own-ending : OnlyOwn s (ending s t) t
  unfolding put let_go bury_doomed change
  own-ending =
      record {
        count = refl;
        kinds = λ h. refl;
        types = λ e. refl;
        creators = refl;
        tasks = λ u n. put_there s TaskState t u ended n;
        events = λ e n. refl;
      }

  module _ (r : Session) (own : OnlyOwn s r t) where
    own-fire_one : (b : ℕ) → OnlyOwn s (fire_one r (t + 1) b) t
    unfolding fire_one fire change
    own-fire_one b = record {
      count = own.count;
      kinds = own.kinds;
      types = own.types;
      creators = own.creators;
      tasks = own.tasks;
      events = λ e n. choose_no (e ≐ t + 1) fired (r EventState e) (λ q. n (sym q)) ∙ own.events e n;
    }

    own-destroy_event : OnlyOwn s (destroy_event r (t + 1)) t
    unfolding destroy_event put change
    own-destroy_event = record {
      count = own.count;
      kinds = own.kinds;
      types = own.types;
      creators = own.creators;
      tasks = own.tasks;
      events =
          λ e n. put_there r EventState (t + 1) e (choose (r EventState (t + 1) ≐ fired) destroyed_fired destroyed_unfired) n
          ∙ own.events e n;
    }

    pub own-fired : (b : ℕ) → OnlyOwn s (output_fired r t b) t
    unfolding output_fired
    own-fired b =
        choose_case (λ q. OnlyOwn s q t) (r TaskOutput t ≐ 1 and r TaskFinish t ≐ 0) (fire_one r (t + 1) b) r (λ _. own-fire_one b)
        (λ _. own)

    pub own_destroyed : OnlyOwn s (output_destroyed r t) t
    unfolding output_destroyed
    own_destroyed =
        choose_case (λ q. OnlyOwn s q t) (r TaskOutput t ≐ 1) (destroy_event r (t + 1)) r (λ _. own-destroy_event) (λ _. own)
