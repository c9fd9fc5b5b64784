-- What the master sees of a game, by what its command is handed.
use Rattle.std.specs.Prelude.{Bool, true, false, Option, None, Some}
use Rattle.dip_desk_machine.specs.Machine.{Sees, NoGame, AGame, ThePublic, TheWhole, ASeat}
use Rattle.dip_desk_state.specs.Records.{Public, Whole}

-- whether there is a game
abbrev pub game_seen : Bool → Sees
game_seen true = AGame
game_seen false = NoGame

-- its public part
abbrev pub public_seen : Option Public → Sees
public_seen None = NoGame
public_seen (Some public) = ThePublic public

-- all of it
abbrev pub whole_seen : Option Whole → Sees
whole_seen None = NoGame
whole_seen (Some whole) = TheWhole whole

-- whether a power has a seat in it
abbrev pub seating_seen : Option Bool → Sees
seating_seen None = NoGame
seating_seen (Some is_there) = ASeat is_there
