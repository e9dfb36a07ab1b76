-- `text::write_bad_line` meets its contract: its three parts, one behind the other.
use native.Mathlib.Omega.{arith}
use Rattle.text.specs.TextPrinted.{line_text}
use Rattle.text.specs.PrintedLaws.{line-length}
use Rattle.text.specs.Put.{put_then}
use Rattle.text.proofs.printed.write_bad_line.Goals as goal

pub write_bytes-number-requires : goal.write_bytes-number-requires
write_bytes-number-requires c = let a = c.args in omega (arith, line-length a.line)

pub write-end-requires : goal.write-end-requires
write-end-requires c =
    let a = c.args in omega (arith, line-length a.line)

pub write_bytes-requires : goal.write_bytes-requires
write_bytes-requires c =
    let a = c.args in
    omega (arith, line-length a.line)

pub returns : goal.returns
unfolding line_text
returns c =
    let long = line-length c.args.line in
    put_then (omega arith)
    (put_then (omega arith) c.write_bytes-number.ensures
    (record { place = c.write-end.ensures.answer; written = c.write-end.ensures.bytes }))
    c.write_bytes.ensures
