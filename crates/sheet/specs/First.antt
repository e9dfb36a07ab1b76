-- A run and a part of a session in the first words of a longer memory: what they leave there they leave in the memory.
use Rattle.std.specs.Prelude.{ℕ, ◌≤◌, ◌≡◌, List, ◌++◌, length, take, drop}
use Rattle.std.proofs.Common.{◌∙◌}
use Rattle.std.proofs.lemmas.List.{length-take-le}
use Rattle.session.specs.Table.{words}
use Rattle.session.specs.First.{read_first, read_front, wrote_first}
use Rattle.sheet.specs.declared.Next.{Next}
use Rattle.sheet.specs.declared.Part.{Part}
use Rattle.sheet.specs.Told.{Ended}
use Rattle.sheet.specs.Run.{Run}
use Rattle.sheet.specs.Going.{Ends}
use Rattle.sheet.specs.PartOf.{PartOf}

pub ends_first : (ws ws' lines : List ℕ) (e : Ended) (r : Run) → words ≤ length ws → Ends (take words ws) ws' lines e r
    → Ends ws (ws' ++ drop words ws) lines e r
ends_first ws ws' lines e r long x =
    record {
      session = wrote_first ws ws' r.session long x.session;
      bytes = x.bytes;
      used = x.used;
      place = x.place;
      number = x.number;
      ending = x.ending;
    }

pub part_first : (sheet : List ℕ) (from : Next) (ws ws' lines lines' : List ℕ) (p : Part) → words ≤ length ws
    → PartOf sheet from (take words ws) ws' lines lines' p
    → PartOf sheet from ws (ws' ++ drop words ws) lines lines' p
part_first sheet from ws ws' lines lines' p long x =
    let short : length ws' ≡ words = x.session.same_length ∙ length-take-le words ws long in
    let left = read_front ws' (drop words ws) short in
    record {
      session = wrote_first ws ws' _ long (rw (read_first ws) at x.session);
      tells = rw (read_first ws) at x.tells;
      printed = rw left (rw (read_first ws) at x.printed);
      fits = x.fits;
      keeps = λ k. rw left (x.keeps (rw (read_first ws) k));
      further = x.further;
    }
