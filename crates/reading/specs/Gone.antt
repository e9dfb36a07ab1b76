-- Whether an object is gone, by its kind.
use Rattle.std.specs.Prelude.{ℕ, ◌≤◌, ◌≡◌}
use Rattle.std.proofs.Common.{inl, inr, arith}
use Rattle.session.specs.Table.{Session}
use Rattle.session.specs.declared.Field.TheVariants.{Kind, TemplateState, TaskState, EventState, EventType, BlockState}
use Rattle.session.specs.Names.{template, task, event, block, template_destroyed, ended, fired, destroyed_unfired, doomed}
use Rattle.rules.specs.EventTypes.{gone_when_fired}
use Rattle.rules.specs.Formula.{Formula, Holds, test, Formula.◌≐◌, Formula.◌≼◌, Formula.◌and◌, Formula.◌or◌}
use Rattle.rules.specs.Reading.{is_gone}
use Rattle.rules.specs.FormulaLaws.{test-same}

module _ (s : Session) where
  -- an event that is destroyed, or has fired and is of a type that is then gone
  abbrev pub is_spent : ℕ → Formula
  is_spent e = destroyed_unfired ≼ s EventState e or s EventState e ≐ fired and gone_when_fired (s EventType e)

  -- what is gone, of each kind
  pub record ByKind (h : ℕ) : Type 0 where
    pub templates : s Kind h ≡ template → template_destroyed ≤ s TemplateState h
    pub tasks : s Kind h ≡ task → ended ≤ s TaskState h
    pub events : s Kind h ≡ event → Holds (is_spent h)
    pub blocks : s Kind h ≡ block → doomed ≤ s BlockState h
    pub lowest : 1 ≤ s Kind h
    pub highest : s Kind h ≤ 4

  pub gone_by : (h : ℕ) → Holds (is_gone s h) → ByKind h
  gone_by h (inl x) =
      let k : s Kind h ≡ template = x.0 in
      record {
        templates = λ e. x.1;
        tasks = λ e. absurd (omega arith);
        events = λ e. absurd (omega arith);
        blocks = λ e. absurd
            (omega arith);
        lowest = omega arith;
        highest = omega arith;
      }
  gone_by h (inr (inl x)) =
      let k : s Kind h ≡ task = x.0 in
      record {
        templates = λ e. absurd (omega arith);
        tasks = λ e. x.1;
        events = λ e. absurd (omega arith);
        blocks = λ e. absurd
            (omega arith);
        lowest = omega arith;
        highest = omega arith;
      }
  gone_by h (inr (inr (inl x))) =
      let k : s Kind h ≡ event = x.0 in
      record {
        templates = λ e. absurd (omega arith);
        tasks = λ e. absurd (omega arith);
        events = λ e. x.1;
        blocks = λ e. absurd
            (omega arith);
        lowest = omega arith;
        highest = omega arith;
      }
  gone_by h (inr (inr (inr x))) =
      let k : s Kind h ≡ block = x.0 in
      record {
        templates = λ e. absurd (omega arith);
        tasks = λ e. absurd (omega arith);
        events = λ e. absurd
            (omega arith);
        blocks = λ e. x.1;
        lowest = omega arith;
        highest = omega arith;
      }

  pub template-gone : (h : ℕ) → s Kind h ≡ template → test (template_destroyed ≼ s TemplateState h) ≡ test (is_gone s h)
  template-gone h k =
      test-same (template_destroyed ≼ s TemplateState h) (is_gone s h) (λ x. inl (k, x)) (λ g. (gone_by h g).templates k)

  pub task-gone : (h : ℕ) → s Kind h ≡ task → test (ended ≼ s TaskState h) ≡ test (is_gone s h)
  task-gone h k = test-same (ended ≼ s TaskState h) (is_gone s h) (λ x. inr (inl (k, x))) (λ g. (gone_by h g).tasks k)

  pub event-gone : (h : ℕ) → s Kind h ≡ event → test (is_spent h) ≡ test (is_gone s h)
  event-gone h k = test-same (is_spent h) (is_gone s h) (λ x. inr (inr (inl (k, x)))) (λ g. (gone_by h g).events k)

  pub block-gone : (h : ℕ) → s Kind h ≡ block → test (doomed ≼ s BlockState h) ≡ test (is_gone s h)
  block-gone h k = test-same (doomed ≼ s BlockState h) (is_gone s h) (λ x. inr (inr (inr (k, x)))) (λ g. (gone_by h g).blocks k)
