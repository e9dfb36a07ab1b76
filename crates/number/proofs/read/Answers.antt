-- `number::read` meets its contract: the first byte without the high bit is the number's last.
use Prim.Native.Nat.{◌<◌, ◌≤◌}
use mathlib.Core.Path.{◌≡◌, refl, ◌∙◌}
use native.Mathlib.Omega.{arith}
use borrow.Author.Rules.{rules}
use borrow.Author.Tests.{tests}
use lib.ListN.{length, drop, length-drop}
use Rattle.std.specs.Prelude.{Err}
use Rattle.std.proofs.lemmas.Iterator.{IsFirst-from_position, YieldsList-from_slice}
use Rattle.std.proofs.lemmas.Grind.{common_steps}
use Rattle.number.specs.declared.Unread.TheVariants.{CutShort}
use Rattle.number.proofs.Steps.{last_found, read_last, read_none}
use Rattle.number.proofs.read.Goals as goal

pub returns-in_err-rest : goal.returns-in_err-rest
returns-in_err-rest c =
    let a = c.args in
    let none = rw c.in_err-rest.ensures.ok_part at c.get.ensures.lookup in
    let past : length a.bytes.now < a.at = grind (arith, none) in
    let told : c.from_residual.result ≡ Err CutShort = search rules in
    told ∙ read_none a.limit a.bytes.now a.at _ refl (omega (arith, length-drop a.at a.bytes.now))

pub returns-in_err-last : goal.returns-in_err-last
returns-in_err-last c =
    let a = c.args in
    let rest = c.in_ok-rest.rest.now in
    let some = rw c.in_ok-rest.ensures.ok_part at c.get.ensures.lookup in
    let all : drop a.at a.bytes.now ≡ rest = grind (arith, common_steps, some) in
    let found = last_found rest c.position.result (IsFirst-from_position _ _ _ (λ b. b < 128) (λ b. 128 ≤ b) c.position.ensures.ran (YieldsList-from_slice rest cc) (λ x q k. search (rules, tests)) (λ x q k. search (rules, tests))) in
    let told : c.from_residual-in_err-last.result ≡ Err CutShort = search rules in
    told ∙ read_none a.limit a.bytes.now a.at rest all (rw c.in_err-last.ensures.ok_part at found)

pub returns : goal.returns
returns c =
    let a = c.args in
    let rest = c.in_ok-rest.rest.now in
    let some = rw c.in_ok-rest.ensures.ok_part at c.get.ensures.lookup in
    let all : drop a.at a.bytes.now ≡ rest = grind (arith, common_steps, some) in
    let found = last_found rest c.position.result (IsFirst-from_position _ _ _ (λ b. b < 128) (λ b. 128 ≤ b) c.position.ensures.ran (YieldsList-from_slice rest cc) (λ x q k. search (rules, tests)) (λ x q k. search (rules, tests))) in
    let at_last = rw c.in_ok-last.ensures.ok_part at found in
    c.judge.ensures ∙ read_last a.limit a.bytes.now a.at rest all c.in_ok-last.last at_last.0 at_last.1
