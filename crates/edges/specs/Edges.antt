-- "Edges, marked P" (document 01), and its false roads, and document 02's counted events and climbs: one table and one theorem that all
-- of it holds.
use Rattle.std.specs.Prelude.{[], ◌∷◌, ◌≡◌, Ok}
use Rattle.number.specs.Number.{limit32, read_at, refusal_of}
use Rattle.rules.specs.Edges.{p1, p2, p3, p4, p8, p8_then, p9, p10, ready_stays, grant_whole, first_claim}
use Rattle.rules.specs.Edges.{counted_goes, counted_stays, counted_stays_then, climbs_none, climbs_on, climbs_to_main}
use Rattle.sheet.specs.SheetPrinted.{output}
use Rattle.edges.specs.Single.{Met}
use Rattle.edges.specs.Filled.{p5}

-- "P1 to P10 are shown of the rules as one tabled statement", with the false roads: each is a list of single calls from a fresh
-- session, P6 a number's bytes, P7 a sheet's lines.
pub record Edges : Type 0 where
  -- latch: one decrement, then one increment fires
  pub P1 : Met p1
  -- increment, increment, decrement: open
  pub P2 : Met p2
  -- fresh latch: open; so "firing a latch at creation" is a false road
  pub P3 : Met p3
  -- pre-slot 15 of 16 exists, 16 gives 12
  pub P4 : Met p4
  -- handle 512 is made, the next gives 20
  pub P5 : Met p5
  -- bytes 128 0: refusal 4; 128 1 is 128
  pub P6 : (refusal_of (read_at limit32 (128 ∷ 0 ∷ []) 0) ≡ 4) × (read_at limit32 (128 ∷ 1 ∷ []) 0 ≡ Ok (128, 2))
  -- empty sheet: `0 3 0`, then `1 0 0`
  pub P7 : output [] ≡ 48 ∷ 32 ∷ 51 ∷ 32 ∷ 48 ∷ 10 ∷ 49 ∷ 32 ∷ 48 ∷ 32 ∷ 48 ∷ 10 ∷ []
  -- finish task ends with a live grandchild: not fired; but it fires
  -- as the grandchild ends ("treating only children as descendants")
  pub P8 : Met p8
  pub p8_then_met : Met p8_then
  -- two RW holds stand
  pub P9 : Met p9
  -- link from a fired sticky is ready
  pub P10 : Met p10
  -- "dropping ready links when their event goes"
  pub ready_stays_met : Met ready_stays
  -- "granting block by block"
  pub grant_whole_met : Met grant_whole
  -- "a second claim replacing the first"
  pub first_claim_met : Met first_claim
  -- document 02, E4: a counted event goes with the last of its count of links, and gives 24 and 14 until then; fired it stays for later
  -- links, and a delivery that is dropped counts
  pub counted_goes_met : Met counted_goes
  pub counted_stays_met : Met counted_stays
  pub counted_stays_then_met : Met counted_stays_then
  -- document 02, E5: no step while a task that it made is live; then as far as a live task, or one with a live descendant, stands,
  -- and no further than main
  pub climbs_none_met : Met climbs_none
  pub climbs_on_met : Met climbs_on
  pub climbs_to_main_met : Met climbs_to_main
