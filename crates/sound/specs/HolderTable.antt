-- Which task holds a block in a mode: 0 if none does, a task, or a number past every handle if more than one do.
-- So conflicts are found in one pass.
use Rattle.std.specs.Prelude.{ℕ, ◌+◌, ◌*◌, ◌/◌, ◌-◌, ◌≤◌, ◌<◌, ◌≡◌, refl, List, Bool, true, false, ◌&&◌, ◌||◌, not, set, get_or, length, eqb}
use Rattle.std.proofs.Common.{sym, ◌∙◌, subst, ap, inl, inr, arith, length-set, get_or-set_same, get_or-set_other, eq-eqb, ne_eqb, below_none, below_more}
use Rattle.session.specs.Table.{Session, pick}
use Rattle.session.specs.declared.Field.TheVariants.{SlotMode, SlotMark, SlotPayload}
use Rattle.session.specs.Names.{held, mode_ro, most_objects, object_places}
use Rattle.rules.specs.Formula.{Formula, Holds, test, Formula.◌≐◌, Formula.◌and◌, Formula.◌or◌, Formula.each, Formula.some}
use Rattle.rules.specs.Formula as formula
use Rattle.rules.specs.FormulaLaws.{passes, fails, test-same}
use Rattle.rules.specs.Modes.{conflict, is_mode}
use Rattle.rules.specs.ModeLaws.{conflict_not_ro}
use Rattle.laws.specs.Places.{Places, places, Places.one, Places.two}
use Rattle.rules.specs.Bools.{test-both, test_either}
use Rattle.rules.specs.Sound.{clash}
use Rattle.sound.specs.Held.{some_skip, some_keep, none_each}

-- the place of block b and mode c + 1
abbrev pub cell : ℕ → ℕ → ℕ
cell b c = b * 4 + c

abbrev pub cells : ℕ
cells = object_places * 4

-- by the holder noted, a task other than t holds
abbrev pub is_other : ℕ → ℕ → Bool
is_other w t = not (eqb w 0) && not (eqb w t)

-- the holder noted once task u holds too
unfoldable pub joined : ℕ → ℕ → ℕ
joined w u = pick (eqb w 0) u (pick (eqb w u) u object_places)

joined-other : (w u t : ℕ) → 1 ≤ u → u ≤ most_objects → t ≤ most_objects → is_other (joined w u) t ≡ (not (eqb u t) || is_other w t)
unfolding joined
joined-other w u t o b q = go (places w 0) (places w u) (places w t)
  where
    most : eqb object_places t ≡ false
    most = ne_eqb object_places t (λ e. omega arith)

    go : Places w 0 → Places w u → Places w t → is_other (joined w u) t ≡ (not (eqb u t) || is_other w t)
    go (one e) x y = rw (eq-eqb w 0 e, ne_eqb u 0 (λ z. omega arith)) (fin (eqb u t))
      where
        fin : (a : Bool) → not a ≡ (not a || false)
        fin true = refl
        fin false = refl
    go (two n) (one e) y = rw (ne_eqb w 0 n, eq-eqb w u e, ne_eqb u 0 (λ z. omega arith)) (rw (sym e) (fin (eqb w t)))
      where
        fin : (a : Bool) → not a ≡ (not a || not a)
        fin true = refl
        fin false = refl
    go (two n) (two m) (one e) = rw (ne_eqb w 0 n, ne_eqb w u m, most, ne_eqb u t (λ z. m (e ∙ sym z)))
    go (two n) (two m) (two k) = rw (ne_eqb w 0 n, ne_eqb w u m, most, ne_eqb w t k) (fin (eqb u t))
      where
        fin : (a : Bool) → true ≡ (not a || true)
        fin true = refl
        fin false = refl

module _ (s : Session) where
  -- slot k holds block b in mode c, for another task than t
  abbrev pub other_at : ℕ → ℕ → ℕ → ℕ → Formula
  other_at b c t k = s SlotMark k ≐ held and formula.not (k / 16 ≐ t) and s SlotPayload k ≐ b and s SlotMode k ≐ c

  abbrev pub other : ℕ → ℕ → ℕ → ℕ → Formula
  other i b c t = some i (other_at b c t)

  -- if slot k holds, it holds in a mode
  abbrev HasMode : ℕ → Type 0
  HasMode k = s SlotMark k ≡ held → Holds (is_mode (s SlotMode k))

  -- the row has the holders among the first i slots, whose modes have a place in it
  pub record Holders (a : List ℕ) (i : ℕ) : Type 0 where
    pub size : length a ≡ cells
    pub modes : (k : ℕ) → k < i → HasMode k
    pub says : (b c t : ℕ) → b < object_places → c < 4 → t ≤ most_objects
        → is_other (get_or a (cell b c) 0) t ≡ test (other i b (c + 1) t)

  pub holders_none : (a : List ℕ) → length a ≡ cells → ((p : ℕ) → p < cells → get_or a p 0 ≡ 0) → Holders a 0
  holders_none a l z =
      record {
        size = l;
        modes = below_none (λ (k : ℕ). HasMode k);
        says = λ b c t p q r. rw (z (cell b c) (omega arith))
            (sym (fails (other 0 b (c + 1) t) (λ x. let y = x.1 in omega arith)));
      }

  -- a slot that holds nothing of that kind adds nothing
  other-same : (i b c t : ℕ) → (Holds (other_at b c t i) → ⊥) → test (other (i + 1) b c t) ≡ test (other i b c t)
  other-same i b c t n =
      test-same (other (i + 1) b c t) (other i b c t) (some_skip i (other_at b c t) n) (some_keep i (other_at b c t))

  pub holders_skip : (a : List ℕ) (i : ℕ) → Holders a i → (s SlotMark i ≡ held → ⊥) → Holders a (i + 1)
  holders_skip a i h n =
      record {
        size = h.size;
        modes = below_more (λ (k : ℕ). HasMode k) i h.modes (λ e. absurd (n e));
        says = λ b c t p q r. h.says b c t p q r ∙ sym (other-same i b (c + 1) t (λ x. n x.0));
      }

  cell_same : (b c d e : ℕ) → c < 4 → e < 4 → cell b c ≡ cell d e → (b ≡ d) × (c ≡ e)
  cell_same b c d e p q x = (omega arith, omega arith)

  -- slot i holds: its task is noted
  pub holders_more : (a : List ℕ) (i : ℕ) → Holders a i → s SlotMark i ≡ held → s SlotPayload i < object_places
      → 1 ≤ s SlotMode i → s SlotMode i ≤ 4 → 1 ≤ i / 16 → i / 16 ≤ most_objects
      → Holders (set a (cell (s SlotPayload i) (s SlotMode i - 1))
      (joined (get_or a (cell (s SlotPayload i) (s SlotMode i - 1)) 0) (i / 16))) (i + 1)
  holders_more a i h m pl lo hi tl th =
      record {
        size = length-set a _ _ ∙ h.size;
        modes = below_more (λ (k : ℕ). HasMode k) i h.modes (λ e. (lo, hi));
        says = λ b c t p q r. go b c t p q r (places (cell (s SlotPayload i) (s SlotMode i - 1)) (cell b c));
      }
    where
      x : ℕ
      x = cell (s SlotPayload i) (s SlotMode i - 1)

      v : ℕ
      v = joined (get_or a x 0) (i / 16)

      one_more : (b c t : ℕ) → s SlotPayload i ≡ b → s SlotMode i ≡ c + 1
          → test (other (i + 1) b (c + 1) t) ≡ (not (eqb (i / 16) t) || test (other i b (c + 1) t))
      one_more b c t e d = at-task (places (i / 16) t)
        where
          at-task : Places (i / 16) t → test (other (i + 1) b (c + 1) t) ≡ (not (eqb (i / 16) t) || test (other i b (c + 1) t))
          at-task (one w) = rw (eq-eqb (i / 16) t w) (other-same i b (c + 1) t (λ y. y.1.0 w))
          at-task (two w) = rw (ne_eqb (i / 16) t w) (passes (other (i + 1) b (c + 1) t) (i, omega arith, (m, (w, (e, d)))))

      go : (b c t : ℕ) → b < object_places → c < 4 → t ≤ most_objects → Places x (cell b c)
          → is_other (get_or (set a x v) (cell b c) 0) t ≡ test (other (i + 1) b (c + 1) t)
      go b c t p q r (one w) =
          let y = cell_same (s SlotPayload i) (s SlotMode i - 1) b c (omega arith) q w in
          let g : get_or (set a x v) (cell b c) 0 ≡ v = rw (← w) (get_or-set_same a x v 0 (omega (arith, h.size))) in
          let k : is_other (get_or a x 0) t ≡ test (other i b (c + 1) t) = rw w (h.says b c t p q r) in
          rw g (joined-other (get_or a x 0) (i / 16) t tl th r ∙ rw k (sym (one_more b c t y.0 (let z = y.1 in omega arith))))
      go b c t p q r (two w) =
          rw (get_or-set_other a x (cell b c) v 0 (λ z. w (sym z)))
          (h.says b c t p q r ∙ sym
          (other-same i b (c + 1) t
          (λ y. w (elsewhere y))))
        where
          elsewhere : Holds (other_at b (c + 1) t i) → x ≡ cell b c
          elsewhere (mark, (owner, (e, d))) = rw (e, d) (ap (λ (n : ℕ). cell b n) (omega arith))

  -- an earlier slot conflicts with slot i
  abbrev pub clashes : ℕ → Formula
  clashes i = some i (clash s i)

  -- by the mode in which another task holds its block
  abbrev pub clashes_by : ℕ → Formula
  clashes_by i =
      conflict (s SlotMode i) 2 and other i (s SlotPayload i) 2 (i / 16) or conflict (s SlotMode i) 3 and other i
      (s SlotPayload i) 3 (i / 16)
      or conflict (s SlotMode i) 4 and other i (s SlotPayload i) 4 (i / 16)

  pub clashes-same : (i : ℕ) → ((k : ℕ) → k < i → HasMode k) → test (clashes_by i) ≡ test (clashes i)
  clashes-same i m = test-same (clashes_by i) (clashes i) to from
    where
      one_way : (c : ℕ) → Holds (conflict (s SlotMode i) c and other i (s SlotPayload i) c (i / 16)) → Holds (clashes i)
      one_way c (conflicts, (k, b, (mark, (apart, (block, mode))))) =
          (k, b, (mark, (apart, (block, subst (λ (n : ℕ). Holds (conflict (s SlotMode i) n)) (sym mode) conflicts))))

      to : Holds (clashes_by i) → Holds (clashes i)
      to (inl x) = one_way 2 x
      to (inr (inl x)) = one_way 3 x
      to (inr (inr x)) = one_way 4 x

      back : (k c : ℕ) → k < i → Holds (clash s i k) → s SlotMode k ≡ c
          → Holds (conflict (s SlotMode i) c and other i (s SlotPayload i) c (i / 16))
      back k c b (mark, (apart, (block, conflicts))) e =
          (subst (λ (n : ℕ). Holds (conflict (s SlotMode i) n)) e conflicts, (k, b, (mark, (apart, (block, e)))))

      modes : (k : ℕ) → Holds (clash s i k) → Holds (conflict (s SlotMode i) (s SlotMode k))
      modes k (mark, (apart, (block, conflicts))) = conflicts

      from : Holds (clashes i) → Holds (clashes_by i)
      from y = go (places (s SlotMode k) 2) (places (s SlotMode k) 3)
        where
          k : ℕ
          k = y.0

          mode : Holds (is_mode (s SlotMode k))
          mode = m k y.1 y.2.0

          writes : s SlotMode k ≡ mode_ro → ⊥
          writes = conflict_not_ro (s SlotMode i) (s SlotMode k) (modes k y.2)

          go : Places (s SlotMode k) 2 → Places (s SlotMode k) 3 → Holds (clashes_by i)
          go (one e) z = inl (back k 2 y.1 y.2 e)
          go (two n) (one e) = inr (inl (back k 3 y.1 y.2 e))
          go (two n) (two o) =
              inr (inr (back k 4 y.1 y.2 (let l = mode.0 in let h = mode.1 in let w = writes in omega arith)))

  -- as code finds it from the row
  pub clashes_found : (i : ℕ) (x y z : Bool) → ((k : ℕ) → k < i → HasMode k) → x ≡ test (other i (s SlotPayload i) 2 (i / 16))
      → y ≡ test (other i (s SlotPayload i) 3 (i / 16)) → z ≡ test (other i (s SlotPayload i) 4 (i / 16))
      → ((test (conflict (s SlotMode i) 2) && x) ||
      ((test (conflict (s SlotMode i) 3) && y) || (test (conflict (s SlotMode i) 4) && z))) ≡ test (clashes i)
  clashes_found i x y z m p q r =
      rw (p, q, r)
      (sym (sym (clashes-same i m)
      ∙ test_either (conflict (s SlotMode i) 2 and other i (s SlotPayload i) 2 (i / 16))
      (conflict (s SlotMode i) 3 and other i (s SlotPayload i) 3 (i / 16) or conflict (s SlotMode i) 4 and other i
      (s SlotPayload i) 4 (i / 16))
      ∙ rw (
        test_either (conflict (s SlotMode i) 3 and other i (s SlotPayload i) 3 (i / 16))
            (conflict (s SlotMode i) 4 and other i (s SlotPayload i) 4 (i / 16)),
        test-both (conflict (s SlotMode i) 2) (other i (s SlotPayload i) 2 (i / 16)),
        test-both (conflict (s SlotMode i) 3) (other i (s SlotPayload i) 3 (i / 16)),
        test-both (conflict (s SlotMode i) 4) (other i (s SlotPayload i) 4 (i / 16)),
      )))

  -- no slot conflicts exactly if none of them does
  pub none_clashes : (i : ℕ) → test (each i (λ k. formula.not (clash s i k))) ≡ not (test (clashes i))
  none_clashes i = none_each i (clash s i)
