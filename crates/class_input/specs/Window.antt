-- The window of the class program: bytes that it read and has not handed on yet. What is handed comes from it first.
use Rattle.std.specs.Prelude.{ℕ, ◌+◌, ◌-◌, ◌≤◌, List, ◌++◌, ◌≡◌, ◌⊎◌, length, take, drop}
use Rattle.class.specs.declared.Report.{Report}
use Rattle.class.specs.Steps.{pending_in, asks}
use Rattle.class_input.specs.declared.Window.{Window}
use Rattle.class_input.specs.declared.Handed.{Handed}
use Rattle.class_input.specs.Ahead.{behind, Ahead}

-- what lies in a memory from one place to another
abbrev pub part : List ℕ → ℕ → ℕ → List ℕ
part room from to = take (to - from) (drop from room)

-- the bytes that were read and are not handed yet, and how many
abbrev pub bytes_of : Window → List ℕ → List ℕ
bytes_of w input = part input w.from w.to

abbrev pub size_of : Window → ℕ
size_of w = w.to - w.from

abbrev pub Inside : Window → List ℕ → Type 0
Inside w input = (w.from ≤ w.to) × (w.to ≤ length input)

-- The bytes that came lie behind those that were there: no more than may be read where one is asked for.
pub record Filled (w : Window) (left : ℕ) (input input' : List ℕ) (w' : Window) : Type 0 where
  pub inside : Inside w' input'
  pub came : List ℕ
  pub order : bytes_of w' input' ≡ bytes_of w input ++ came
  pub few : (size_of w' ≡ size_of w) ⊎ (size_of w' ≤ 1 + behind left)

-- As many bytes as are asked for are handed, or all that are there. They and those still
-- to be handed are those that were there and, behind them, those that came: none is left
-- out, and none comes twice. No more have been read than may be. The pending sheet stays.
pub record Given (r : Report) (w : Window) (place : ℕ) (input input' room room' : List ℕ) (h : Handed) : Type 0 where
  pub long : length room' ≡ length room
  pub from : place ≤ h.end
  pub inside : h.end ≤ length room'
  pub window : Inside h.window input'
  pub most : h.end - place ≤ asks r
  pub all : (h.end - place ≡ asks r) ⊎ (size_of h.window ≡ 0)
  pub came : List ℕ
  pub order : part room' place h.end ++ bytes_of h.window input' ≡ bytes_of w input ++ came
  pub few : Ahead r (h.end - place + size_of h.window)
  pub stays : pending_in room' r.pending ≡ pending_in room r.pending
