-- What contracts see of a keeper in memory.
use Rattle.std.specs.Prelude.{◌≡◌, []}
use Rattle.dip_desk_keeper.specs.Keeping.{Book}
use Rattle.dip_desk_memory.specs.Stored.{games}
use Rattle.dip_desk_memory.specs.declared.memory.MemoryKeeper.{MemoryKeeper}
use Rattle.dip_desk_state.specs.ChangeRows as desk_rows
use Rattle.dip_desk_state.specs.State as s

-- the desk's state that it has
abbrev pub state : MemoryKeeper → s.State
state k = record { desk = desk_rows.desk k.desk; games = games k.games.entries }

-- what contracts see of it: it never fails, and nothing of it outlives it
abbrev pub book : Book MemoryKeeper
book = record {
  content = λ m k. state k;
  may_leave = λ m k left. left ≡ state k;
  again = λ m k. Unit {0};
  map_sum = λ _. [];
  faults = λ _. 0;
  told = λ _. 0;
  honest = λ _. Unit {0};
  shows = λ _. Unit {0};
  sound = λ m k. Unit {0};
}
