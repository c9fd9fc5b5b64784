-- How a game stands that is new.
use Rattle.std.specs.Prelude.{ℕ, Bool, List}
use Rattle.dip_map.specs.Boards.{opening}
use Rattle.dip_map.specs.Charts.{Chart}
use Rattle.dip_desk_state.specs.Records.{Public, Running}

-- the public part of a new game
abbrev pub opening_public : Chart → List ℕ → ℕ → ℕ → (grey intent : Bool) → Public
opening_public m game due period grey intent = record {
  game = game;
  board = record (opening m) { intent = intent };
  status = Running;
  due = due;
  period = period;
  grey = grey;
  papers = 1;
}
