-- `ocr_sheet::print`: each part lies within its lines, and fewer are left after it.
use Rattle.std.proofs.Common.{[]}
use Rattle.std.proofs.KnownBytes.{Appends-nil, Appends-trans}
use Rattle.sheet.specs.Printing.{ready-next, parts_fewer}
use Rattle.ocr_sheet.proofs.SoFar.{so_far_begins, so_far_goes_on, output_written}
use Rattle.ocr_sheet.proofs.print.Goals as goal

pub loop-next-init : goal.loop-next-init
loop-next-init g c = record {
  ready = c.requires.ready;
  so_far = ([], Appends-nil _, so_far_begins _ _ c.requires.fresh);
}

pub returns-in-Nothing : goal.returns-in-Nothing
returns-in-Nothing g c =
    let (written, appended, so_far) = c.loop-next.invariant.so_far in
    output_written _ _ _ _ written _ _ _ _ _ _ c.run_part_from-part.ensures so_far c.in-Nothing.is appended
    c.in_ok-write_all.ensures.bytes

pub loop-next-smaller : goal.loop-next-smaller
loop-next-smaller g c = parts_fewer _ _ _ _ _ _ _ c.run_part_from-part.ensures c.in_default.not-Nothing

pub loop-next-preserved : goal.loop-next-preserved
loop-next-preserved g c =
    let (written, appended, so_far) = c.loop-next.invariant.so_far in
    record {
      ready = ready-next _ _ _ _ _ _ _ c.run_part_from-part.ensures c.loop-next.invariant.ready c.run_part_from-part.auto.lines;
      so_far = (
        _,
        Appends-trans _ _ _ written _ appended c.in_ok-write_all.ensures.bytes,
        so_far_goes_on _ written _ _ _ _ _ _ c.run_part_from-part.ensures so_far,
      );
    }
