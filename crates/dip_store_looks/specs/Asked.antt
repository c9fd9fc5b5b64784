-- What is asked of the tables as they stand, and calls that read on after others.
use Rattle.std.specs.Prelude.{◌≡◌, ℕ, ◌+◌, ◌-◌, List, Option, None, Some, map, filter, option_map, Result, Ok}
use Rattle.std.specs.List.{find}
use Rattle.sqlite.specs.declared.error.Error.{Error}
use Rattle.sqlite.specs.Store.{Ghosts}
use Rattle.sqlite.specs.Held.{Held}
use Rattle.dip_map.specs.Charts.{Chart}
use Rattle.dip_desk_state.specs.Records.{Item, Own, Public, Whole}
use Rattle.dip_store_sql.specs.Calls.{Selects}
use Rattle.dip_store_tables.specs.Looking.{is_within}
use Rattle.dip_store_tables.specs.Reading.{item_of, own_of, public_of}
use Rattle.dip_store_tables.specs.Tables.{BoxRow, GameRow, SeatRow, Tables, is_box, is_named, is_seat_in}

-- of a seat's inbox the items from a number on, at most so many; the first has the number 1, and from 0 on are those from 1 on
abbrev pub page_in : List BoxRow → ℕ → ℕ → SeatRow → List Item
page_in boxes first most s =
    map item_of (filter (λ b. is_within (1 + (first - 1)) most b.number) (filter (is_box s.game s.power) boxes))

-- the own parts of all seats of a game
abbrev pub owns_in : Chart → Tables → List ℕ → List Own
owns_in m t name = map (own_of m t.pending t.ballots) (filter (is_seat_in name) t.seats)

-- a game with the own parts of its seats
abbrev pub whole_in : Chart → Tables → GameRow → Whole
whole_in m t g = record {
  public = public_of m t.units t.centres t.choices g;
  seats = owns_in m t g.name;
}

-- what is known of a game's public part is what the tables say
abbrev pub IsPartKnown : Option Public → Chart → List ℕ → Tables → Type 0
IsPartKnown None m name t = Unit {0}
IsPartKnown (Some p) m name t = Some p ≡ option_map (public_of m t.units t.centres t.choices) (find (is_named name) t.games)

-- a call that is made after one that read and went well: what both come to
abbrev pub SelectsOn : {S X E : Type 0} → Ghosts S → Held S → Held S → Result X E → Type 0
SelectsOn {S} {X} {E} g old new r =
    (first : Held S) → Selects {S = S} {X = Unit {0}} {E = Error} g first old (Ok tt) → Selects g first new r
