-- The output event of a finish task has fired exactly if the task is done in the book; and as it stays fired, it fires in the
-- call that first leaves the task done.
use Rattle.std.specs.Prelude.{ℕ, ◌+◌, ◌≤◌, ◌<◌, ◌≡◌, ◌⊎◌}
use Rattle.std.proofs.Common.{sym, ◌∙◌, inl, inr, arith}
use Rattle.std.proofs.Math.Decide.{dec_lt}
use Rattle.session.specs.Table.{Session}
use Rattle.session.specs.declared.Field.TheVariants.{Objects, Kind, TaskState, TaskFinish, TaskOutput, EventState}
use Rattle.session.specs.Names.{task, ended, fired, object_places}
use Rattle.rules.specs.Formula.{Holds}
use Rattle.rules.specs.Reading.{made}
use Rattle.rules.specs.Sound.{kept}
use Rattle.rules.specs.Book.{Book, done}
use Rattle.rules.specs.Descendants.{busy}
use Rattle.laws.specs.Frame.{AllOf}
use Rattle.laws.specs.Rows.Name.{counts, kinds, event_parts, outputs}
use Rattle.laws.specs.Keeping.{Kept}
use Rattle.laws.specs.ByName.{by_name}
use Rattle.laws.specs.Conjuncts.{output_row, output_by_name, no_event}
use Rattle.laws.specs.Conjuncts.Output.{output_made, fires_with, stands}
use Rattle.laws.specs.Lasting.{Later, HadFired, later_then}
use Rattle.laws.specs.Relation.{Related}
use Rattle.laws.specs.Relation.Clause.{blank_ended}
use Rattle.laws.specs.Living.{done-here, done_there}

-- t is a finish task with output
pub record Finish (s : Session) (t : ℕ) : Type 0 where
  pub exists : Holds (made s t)
  pub kind : s Kind t ≡ task
  pub finish : s TaskFinish t ≡ 1
  pub output : s TaskOutput t ≡ 1

module _ (s : Session) (k : Holds (kept s)) (t : ℕ) (f : Finish s t) where
  -- what the rule says of its output event
  output_event : AllOf (output_row t) s
  output_event = output_by_name t s ((by_name s k outputs t (let h = f.exists.1 in omega arith)).0 (f.kind, f.output))

  module _ (b : Book) (x : Related s b) where
    pub fired-done : s EventState (t + 1) ≡ fired → Holds (done b t)
    fired-done e = done-here s b k x t (w.0, quiet w.1)
      where
        w : (s TaskState t ≡ ended) × (s TaskFinish t ≡ 0 ⊎ (Holds (busy s t) → ⊥))
        w = (output_event fires_with).0 e

        quiet : s TaskFinish t ≡ 0 ⊎ (Holds (busy s t) → ⊥) → Holds (busy s t) → ⊥
        quiet (inl z) = let g = f.finish in absurd (omega arith)
        quiet (inr n) = n

    pub done-fired : Holds (done b t) → s EventState (t + 1) ≡ fired
    done-fired d = let w = done_there s b k x t d in (output_event fires_with).1 (w.0, inr w.1)

-- of a finish task of a later session: it was one already if it was made
earlier : (s r : Session) (t : ℕ) → Later s r → Finish r t → t ≤ s Objects 0 → Finish s t
earlier s r t l f h =
    record {
      exists = (f.exists.0, h);
      kind = sym (l.lasts Kind t h) ∙ f.kind;
      finish = sym (l.lasts TaskFinish t h) ∙ f.finish;
      output = sym (l.lasts TaskOutput t h) ∙ f.output;
    }

-- it is made if it is done in the book
done-made : (s : Session) (b : Book) → Related s b → (t : ℕ) → Holds (done b t) → t ≤ s Objects 0
done-made s b x t d = go (dec_lt (s Objects 0) t)
  where
    go : Dec (s Objects 0 < t) → t ≤ s Objects 0
    go (yes l) = let z = x blank_ended t l in let e = d.0 in absurd (omega arith)
    go (no n) = omega arith

-- what fired as an output has not been destroyed since
still-fired : (s r : Session) (t : ℕ) → Later s r → Holds (kept s) → Holds (kept r) → Finish s t → Finish r t
    → s EventState (t + 1) ≡ fired → r EventState (t + 1) ≡ fired
still-fired s r t l k m f g e = go ((l.lasts EventState (t + 1) (output_event s k t f output_made).1).0 (inl e))
  where
    go : HadFired (r EventState (t + 1)) → r EventState (t + 1) ≡ fired
    go (inl q) = q
    go (inr q) = absurd (output_event r m t g stands q)

-- done at an earlier time: it had fired before
pub done_before : (s q r : Session) (b : Book) (t : ℕ) → Holds (kept s) → Holds (kept q) → Related s b → Later s q
    → Later q r → Finish r t → Holds (done b t) → q EventState (t + 1) ≡ fired
done_before s q r b t ks kq x l m f d = still-fired s q t l ks kq first second (done-fired s ks t first b x d)
  where
    known : t ≤ s Objects 0
    known = done-made s b x t d

    first : Finish s t
    first = earlier s r t (later_then l m) f known

    second : Finish q t
    second = earlier q r t m f (let h = l.lasts Objects 0 in let g = known in omega arith)

-- fired before: it was done before. A task that was not made had no output event.
pub fired_before : (q r : Session) (b : Book) (t : ℕ) → Holds (kept q) → Holds (kept r) → Related q b → Later q r → Finish r t
    → q EventState (t + 1) ≡ fired → Holds (done b t)
fired_before q r b t kq kr x m f e = go (dec_lt (q Objects 0) t)
  where
    h : Kept q
    h = by_name q kq

    low : t + 1 < object_places
    low =
        let top = by_name r kr counts in
        let last = output_event r kr t f output_made in
        omega arith

    -- past the objects there is no event
    unmade : q Objects 0 < t → q EventState (t + 1) ≡ 0
    unmade l =
        let z = (h kinds).1.1 (t + 1) low (omega arith) in
        (no_event q (t + 1) (λ k. omega arith) (h event_parts (t + 1) low)).no_state

    go : Dec (q Objects 0 < t) → Holds (done b t)
    go (no n) = fired-done q kq t (earlier q r t m f (omega arith)) b x e
    go (yes l) = let z = unmade l in absurd (omega arith)
