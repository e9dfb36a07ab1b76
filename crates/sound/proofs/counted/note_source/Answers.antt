-- `sound::counted::note_source` meets its contract: a source with a place has one link more (`one-made`), and one delivered more if it
-- is (`one_served`); else the rows stay (`skip_made`, `skip_served`).
use mathlib.Core.Path.{sym, ◌∙◌}
use native.Mathlib.Omega.{arith}
use Rattle.session.specs.Table.{read}
use Rattle.sound.specs.Sources.{few_made, few_served, one-made, one_served, skip_made, skip_served}
use Rattle.sound.proofs.counted.note_source.Goals as goal

pub overflow_add-sources : goal.overflow_add-sources
overflow_add-sources c =
    let few = few_made (read c.args.s.now) c.args.sources.now.made c.args.l c.requires.noted.made c.of_link-source.result in
    omega (arith, few (omega arith), c.requires.few)

pub overflow_add-sources-then-state-eq-DELIVERED : goal.overflow_add-sources-then-state-eq-DELIVERED
overflow_add-sources-then-state-eq-DELIVERED c =
    let source = c.of_link-source.result in
    let few = few_served (read c.args.s.now) c.args.sources.now.served c.args.l c.requires.noted.served source in
    omega (arith, few (omega arith), c.requires.few)

pub returns-then-state-eq-DELIVERED : goal.returns-then-state-eq-DELIVERED
returns-then-state-eq-DELIVERED c =
    let a = c.args in
    let s = read a.s.now in
    let e = c.of_link-source.ensures in
    let low = rw e at c.if-source-le-MOST_OBJECTS.true in
    let d = sym c.of_link-state.ensures ∙ c.if-state-eq-DELIVERED.true in
    record {
      made = rw e (one-made s a.sources.now.made a.l c.requires.noted.made (omega arith));
      served = rw e (one_served s a.sources.now.served a.l c.requires.noted.served (omega arith) d);
    }

pub returns-else-state-eq-DELIVERED : goal.returns-else-state-eq-DELIVERED
returns-else-state-eq-DELIVERED c =
    let a = c.args in
    let s = read a.s.now in
    let e = c.of_link-source.ensures in
    let low = rw e at c.if-source-le-MOST_OBJECTS.true in
    let state = c.of_link-state.ensures in
    record {
      made = rw e (one-made s a.sources.now.made a.l c.requires.noted.made (omega arith));
      served = skip_served s a.sources.now.served a.l c.requires.noted.served (λ b d. c.if-state-eq-DELIVERED.false (state ∙ d));
    }

pub returns-else-source-le-MOST_OBJECTS : goal.returns-else-source-le-MOST_OBJECTS
returns-else-source-le-MOST_OBJECTS c =
    let a = c.args in
    let s = read a.s.now in
    let e = c.of_link-source.ensures in
    record {
      made = skip_made s a.sources.now.made a.l c.requires.noted.made (λ b. omega (arith, e, b, c.if-source-le-MOST_OBJECTS.false));
      served = skip_served s a.sources.now.served a.l c.requires.noted.served (λ b d. omega (arith, e, b, c.if-source-le-MOST_OBJECTS.false));
    }
