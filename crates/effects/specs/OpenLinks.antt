-- Firing one event is two words and a change of the links.
use Rattle.std.specs.Prelude.{ℕ, ◌+◌, ◌-◌, ◌≤◌, ◌<◌, ◌≡◌, refl}
use Rattle.std.proofs.Common.{ap, sym, ◌∙◌, arith}
use Rattle.session.specs.Table.{Session, put, change, sweep}
use Rattle.session.specs.TableLaws.{sweep-more, sweep_past, sweep_beside, sweep-change}
use Rattle.session.specs.declared.Field.TheVariants.{Links, EventState, EventPayload, LinkSource, LinkState}
use Rattle.session.specs.Names.{fired, link_open, ready}
use Rattle.rules.specs.Formula.{Formula, Holds, choose, Formula.◌≐◌, Formula.◌and◌, Formula.some}
use Rattle.rules.specs.FormulaLaws.{choose_yes, choose_no}
use Rattle.rules.specs.Effects.{fire, fire_one}
use Rattle.laws.specs.Puts.{put_same, change-one, sweep_skip}

-- the state of link l once the open links of event e have the state v
unfoldable pub link_set : Session → ℕ → ℕ → ℕ → ℕ
link_set s e v l = choose ((s LinkState l ≐ link_open) and (s LinkSource l ≐ e)) v (s LinkState l)

-- every link
unfoldable pub open_links_set : Session → ℕ → ℕ → Session
unfolding link_set
open_links_set s e v = change s LinkState (link_set s e v)

-- past the count of links no link stands
abbrev pub NoMoreLinks : Session → Type 0
NoMoreLinks s = (l : ℕ) → s Links 0 < l → s LinkState l ≡ 0

-- r is at most eight past l, and no link from l up to r is from e
pub record Passed (s : Session) (e l r : ℕ) : Type 0 where
  pub onward : l ≤ r
  pub near : r ≤ l + 8
  pub others : (i : ℕ) → l ≤ i → i < r → s LinkSource i ≡ e → ⊥

-- no link passed yet
pub passed_none : (s : Session) (e l r : ℕ) → r ≡ l → Passed s e l r
passed_none s e l r q = record { onward = omega arith; near = omega arith; others = λ i a b. absurd (none i a b) }
  where
    none : (i : ℕ) → l ≤ i → i < r → ⊥
    none i a b = omega arith

-- one of the eight links from l on is from e
abbrev pub link_near : Session → ℕ → ℕ → Formula
link_near s e l = some 8 (λ k. s LinkSource (l + k) ≐ e)

pub passed_eight : (s : Session) (e l : ℕ) → (Holds (link_near s e l) → ⊥) → Passed s e l (l + 8)
passed_eight s e l n =
    record { onward = omega arith; near = omega arith; others = λ i a b q. n (i - l, omega arith, rw (back i a) q) }
  where
    back : (i : ℕ) → l ≤ i → l + (i - l) ≡ i
    back i a = omega arith

module _ (s : Session) (e v : ℕ) where
  -- an open link of e has the state v
  pub set_yes : (l : ℕ) → s LinkSource l ≡ e → s LinkState l ≡ link_open → link_set s e v l ≡ v
  unfolding link_set
  set_yes l p q = choose_yes ((s LinkState l ≐ link_open) and (s LinkSource l ≐ e)) v (s LinkState l) (q, p)

  -- any other stays
  set_stays : (l : ℕ) → ((s LinkSource l ≡ e) × (s LinkState l ≡ link_open) → ⊥) → link_set s e v l ≡ s LinkState l
  unfolding link_set
  set_stays l n = choose_no ((s LinkState l ≐ link_open) and (s LinkSource l ≐ e)) v (s LinkState l) (λ x. n (x.1, x.0))

  -- and needs no store
  pub set_no : (l : ℕ) → ((s LinkSource l ≡ e) × (s LinkState l ≡ link_open) → ⊥) → put s LinkState l (link_set s e v l) ≡ s
  set_no l n = ap (put s LinkState l) (set_stays l n) ∙ put_same s LinkState l

  -- one more link
  pub set_more : (r : Session) (l : ℕ) → r ≡ sweep s LinkState l (link_set s e v)
      → put r LinkState l (link_set r e v l) ≡ sweep s LinkState (l + 1) (link_set s e v)
  unfolding link_set
  set_more r l p =
      let g = link_set s e v in
      let a : r LinkSource l ≡ s LinkSource l = rw (p, sweep_beside s LinkState l g LinkSource l refl) in
      let b : r LinkState l ≡ s LinkState l = rw (p, sweep_past s LinkState l g LinkState l (omega arith)) in
      rw (a, b, p) (sweep-more s LinkState l g)

  -- links from others are passed
  pub set_pass : (r : Session) (l m : ℕ) → r ≡ sweep s LinkState l (link_set s e v) → Passed r e l m
      → sweep s LinkState l (link_set s e v) ≡ sweep s LinkState m (link_set s e v)
  set_pass r l m p q =
      let g = link_set s e v in
      sweep_skip s LinkState l m g q.onward
      (λ j a b. set_stays j (λ x. q.others j a b (rw (p, sweep_beside s LinkState l g LinkSource j refl) x.0)))

  -- past the count every link stays
  pub set-end : (l : ℕ) → NoMoreLinks s → s Links 0 < l → sweep s LinkState l (link_set s e v) ≡ open_links_set s e v
  unfolding open_links_set
  set-end l none h =
      sweep-change s LinkState l (link_set s e v)
      (λ j g. set_stays j (λ x. let z = none j (omega arith) in let o = x.1 in omega arith))

-- the words that firing e writes before the links
abbrev pub fired_words : Session → ℕ → ℕ → Session
fired_words s e p = put (put s EventState e fired) EventPayload e p

words-change : (s : Session) (e p : ℕ)
    → fired_words s e p ≡ change (change s EventState (λ k. choose (k ≐ e) fired (s EventState k))) EventPayload
    (λ k. choose (k ≐ e) p (s EventPayload k))
unfolding put
words-change s e p =
    sym (change-one (put s EventState e fired) EventPayload e p)
    ∙ ap (λ (r : Session). change r EventPayload (λ k. choose (k ≐ e) p (s EventPayload k)))
    (sym (change-one s EventState e fired))

-- firing one event
pub fire_one-words : (s : Session) (e p : ℕ) → open_links_set (fired_words s e p) e ready ≡ fire_one s e p
unfolding open_links_set link_set fire_one fire put
fire_one-words s e p = ap (λ (r : Session). change r LinkState (link_set s e ready)) (words-change s e p)
