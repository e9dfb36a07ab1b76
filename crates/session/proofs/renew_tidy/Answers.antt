-- `session::renew_tidy` meets its contract: tidy and cleared where used is empty (`used-cleared`); then as a fresh one (`wrote_then`).
use native.Mathlib.Omega.{arith}
use mathlib.Core.Path.{◌∙◌}
use Rattle.session.specs.Table.{read}
use Rattle.session.specs.TableLaws.{wrote_then}
use Rattle.session.specs.RenewLaws.{tidy_objects, tidy_links, used-cleared}
use Rattle.session.proofs.renew_tidy.Goals as goal

pub overflow_add-handles : goal.overflow_add-handles
overflow_add-handles c =
    omega (arith, c.get.ensures, tidy_objects (read c.args.s.now) c.requires)

pub overflow_add-links : goal.overflow_add-links
overflow_add-links c =
    omega (arith, c.get-2.ensures, tidy_links (read c.args.s.now) c.requires)

pub clear_used-requires : goal.clear_used-requires
clear_used-requires c =
    let s = read c.args.s.now in
    let tidy = c.requires in (
      omega (arith, c.get.ensures, tidy_objects s tidy),
      omega
          (arith, c.get-2.ensures, tidy_links s tidy),
    )

pub put_first_objects-requires : goal.put_first_objects-requires
put_first_objects-requires c =
    let e = c.clear_used.ensures.reading in
    (rw (c.get.ensures, c.get-2.ensures) at e) ∙ used-cleared (read c.args.s.now) c.requires

pub returns : goal.returns
returns c =
    wrote_then c.clear_used.ensures (wrote_then c.put_first_objects.ensures c.satisfy_main.ensures)
