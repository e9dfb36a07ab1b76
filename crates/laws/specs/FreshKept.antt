-- The fresh session is kept: the rules of what is in use by computing, the rule of the places not in use by its definition.
use Rattle.std.specs.Prelude.{ℕ, ◌<◌, ◌≡◌, true}
use Rattle.std.proofs.Math.Path.{refl}
use Rattle.std.proofs.Math.Logic.{inr}
use Rattle.std.proofs.Common.{arith}
use borrow.Author.Tests.{ne_eqb}
use Rattle.session.specs.Table.{put}
use Rattle.rules.specs.Formula.{Holds, test, count}
use Rattle.rules.specs.FormulaLaws.{passed}
use Rattle.rules.specs.Reading.{at, is_kind}
use Rattle.rules.specs.Effects.{new}
use Rattle.rules.specs.Sound.{kept, sound_used, unused, settled, template_part, task_part, event_part, block_part, no_slot}
use Rattle.rules.specs.Step.{fresh_session}
use Rattle.rules.specs.Descendants.{under}
use Rattle.laws.specs.ByName.{kept_from_used}

used : test (sound_used fresh_session) ≡ true
unfolding sound_used fresh_session new put test count under
used = refl

links-settled : test (settled fresh_session) ≡ true
unfolding fresh_session new put test
links-settled = refl

-- past the main task nothing stands
module _ (h : ℕ) (past : 2 < h) where
  no_kind : Holds (is_kind fresh_session 0 h)
  unfolding fresh_session new put
  no_kind = rw (ne_eqb 2 h (λ e. omega arith), ne_eqb 1 h (λ e. omega arith)) refl

  no_template : Holds (template_part fresh_session h)
  unfolding fresh_session new put
  no_template = inr ((λ e. let k = no_kind in omega arith), (refl, refl))

  no_task : Holds (task_part fresh_session h)
  unfolding fresh_session new put
  no_task =
      rw (ne_eqb 2 h (λ e. omega arith), ne_eqb 1 h (λ e. omega arith))
      (inr ((λ e. omega arith), (refl, (refl, (refl, (refl, refl))))))

  no_event : Holds (event_part fresh_session h)
  unfolding fresh_session new put
  no_event = inr ((λ e. let k = no_kind in omega arith), (refl, (refl, (refl, (refl, refl)))))

  no_block : Holds (block_part fresh_session h)
  unfolding fresh_session new put
  no_block =
      rw (ne_eqb 2 h (λ e. omega arith), ne_eqb 1 h (λ e. omega arith)) (inr ((λ e. omega arith), (refl, (refl, refl))))

  no_slot_lem : (j : ℕ) → j < 16 → Holds (no_slot fresh_session (at h j))
  unfolding fresh_session new put
  no_slot_lem j _ = rw (ne_eqb 32 (at h j) (λ e. omega arith)) (refl, (refl, refl))

fresh-unused : Holds (unused fresh_session)
unfolding fresh_session new put
fresh-unused = (
  (refl, (refl, (refl, refl))),
  (
    λ h _ l. (no_kind h l, (no_template h l, (no_task h l, (no_event h l, (no_block h l, no_slot_lem h l))))),
    λ l _ _. (refl, (refl, (refl, refl))),
  ),
)

pub fresh_kept : Holds (kept fresh_session)
fresh_kept =
    kept_from_used fresh_session (passed (sound_used fresh_session) used) fresh-unused (passed (settled fresh_session) links-settled)
