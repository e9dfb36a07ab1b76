-- A satisfaction (operation 6) keeps a session kept.
use Rattle.std.specs.Prelude.{ℕ}
use Rattle.std.proofs.Common.{inl, inr}
use Rattle.session.specs.Table.{Session}
use Rattle.rules.specs.Formula.{Holds}
use Rattle.session.specs.Names.{block}
use Rattle.rules.specs.Reading.{made, is_kind}
use Rattle.rules.specs.Checks.{satisfy_checks, or_null}
use Rattle.rules.specs.Effects.{satisfy_event}
use Rattle.rules.specs.Sound.{is_payload}
use Rattle.laws.specs.Keeping.{Kept}
use Rattle.laws.specs.Met.{Checked}
use Rattle.laws.specs.SatisfyEvent.{satisfy_event_keeps}

-- 0, or made and a block
pub payload_of : (s : Session) (b : ℕ) → Holds (or_null s (made s) b) → Holds (or_null s (is_kind s block) b) → Holds (is_payload s b)
payload_of s b (inl z) k = inl z
payload_of s b (inr m) (inl z) = inl z
payload_of s b (inr m) (inr k) = inr (m, k)

pub satisfy_keeps : (s : Session) (caller e b j : ℕ) → Checked (satisfy_checks s caller e b j) → Kept s
    → Kept (satisfy_event s e j b)
satisfy_keeps s caller e b j m k =
    let named = m 9 in
    let kinds = m 10 in
    let there = m 11 in
    let slot = m 12 in
    let fits = m 19 in
    satisfy_event_keeps s e j b named.0 kinds.0 there.0 slot fits (payload_of s b named.1 kinds.1) k
