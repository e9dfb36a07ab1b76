-- What an operation makes in the first words of a memory it makes in the memory.
use Rattle.std.specs.Prelude.{ℕ, ◌≤◌, List, ◌++◌, length, take, drop}
use Rattle.session.specs.Table.{Session, words}
use Rattle.session.specs.First.{wrote_first}
use Rattle.effects.specs.Made.{Made}

pub made_first : (ws : List ℕ) {ws' : List ℕ} {q : Session} {m r : ℕ} → words ≤ length ws → Made (take words ws) ws' q m r
    → Made ws (ws' ++ drop words ws) q m r
made_first ws {ws'} {q} long made = record { wrote = wrote_first ws ws' q long made.wrote; answer = made.answer }
