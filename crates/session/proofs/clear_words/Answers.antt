-- `session::clear_words` meets its contract: what was filled is zero at the places of whichever field begins there (`zeroed`).
use Prim.Native.Nat.{ℕ, ◌+◌, ◌-◌}
use mathlib.Core.Path.{◌≡◌, ◌∙◌, sym}
use native.Mathlib.Omega.{arith}
use lib.ListN.{replicate}
use borrow.Rule.Slice.PartMut.{mid_len}
use Rattle.std.proofs.lemmas.List.{length-replicate}
use Rattle.std.proofs.lemmas.Slice.{put_mid-paste}
use Rattle.session.specs.RenewLaws.{zeroed}
use Rattle.session.proofs.clear_words.Goals as goal

less : (m n : ℕ) → m + n - m ≡ n
less m n = omega arith

pub returns : goal.returns
returns c =
    let a = c.args in
    let many = mid_len a.start (a.start + a.n) a.s.now (omega arith) ∙ less a.start a.n in
    let zeros : c.fill.new.self ≡ replicate a.n 0 = rw many at (c.fill.ensures.after (λ y e. e)) in
    rw (put_mid-paste a.start _ a.s.now c.fill.new.self (replicate a.n 0) a.n zeros (sym (less a.start a.n)) (sym (length-replicate {A = ℕ} a.n 0)))
    (zeroed a.s.now a.start a.n (omega arith) c.requires)
