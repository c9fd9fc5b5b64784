-- Which changes have place, and which rows can be read before one is made.
use Rattle.std.specs.Prelude.{◌≡◌, ◌<◌, ◌^◌, ℕ, List, filter, length}
use Rattle.std.specs.List.{AllByRecursion}
use Rattle.sqlite.specs.Order.{Row}
use Rattle.dip_map.specs.Charts.{Chart}
use Rattle.dip_desk_state.specs.Bounds.{most_items}
use Rattle.dip_desk_state.specs.State.{Author, Effect, Nothing, Pending, Votes, Delivers, Opens, Publishes, Seats, Change}
use Rattle.dip_store_tables.specs.Changing.{is_reader}
use Rattle.dip_store_tables.specs.Counting.{CountsOn}
use Rattle.dip_store_tables.specs.Coding.{IsSeatOf}
use Rattle.dip_store_tables.specs.Tables.{SeatRow, Tables}
use Rattle.dip_store_tables.specs.Legible.{IsSeatLegible}
use Rattle.dip_store_tables.specs.Written.{IsSeatWritten}
use Rattle.dip_store_tables.specs.Room.{HasRoom, SentHasRoom}
use Rattle.dip_store_sql.specs.Showing.{show_listed, show_seat}

-- the change's paper has the next number of its game, and there is room in the counts that it raises
pub record HasPlace (m : Chart) (c : Change) (t : Tables) : Type 0 where
  pub paper : CountsOn c.game c.effect t.games
  pub room : HasRoom m c.author c.game c.effect t

-- a seat of the map whose counts have 32 bits, as it is listed
pub record IsListed (m : Chart) (r : Row) : Type 0 where
  pub seat : SeatRow
  pub shown : r ≡ show_listed seat
  pub of_map : IsSeatOf m seat
  pub items : seat.items < 2 ^ 32

-- a seat's row that a keeper wrote, and that can be read back; and as it is found
abbrev pub IsSeatKept : SeatRow → Type 0
IsSeatKept s = IsSeatWritten s × IsSeatLegible s

pub record IsSeatShown (r : Row) : Type 0 where
  pub seat : SeatRow
  pub shown : r ≡ show_seat seat
  pub digest : length seat.digest ≡ 32
  pub sent : seat.sent < 2 ^ 32
  pub items : seat.items < 2 ^ 32

-- a letter of press counts in its author's row
abbrev pub PressHasRoom : Chart → Author → List ℕ → Effect → List SeatRow → Type 0
PressHasRoom m who name Nothing ss = Unit {0}
PressHasRoom m who name (Pending orders) ss = Unit {0}
PressHasRoom m who name (Votes vote) ss = Unit {0}
PressHasRoom m who name (Delivers powers item) ss = SentHasRoom m who name ss
PressHasRoom m who name (Opens public paper seats) ss = Unit {0}
PressHasRoom m who name (Publishes public paper played) ss = Unit {0}
PressHasRoom m who name (Seats seat) ss = Unit {0}

-- the inbox of each reader of press has room for one item more
abbrev pub InboxesHaveRoom : Chart → List ℕ → Effect → List SeatRow → Type 0
InboxesHaveRoom m name Nothing ss = Unit {0}
InboxesHaveRoom m name (Pending orders) ss = Unit {0}
InboxesHaveRoom m name (Votes vote) ss = Unit {0}
InboxesHaveRoom m name (Delivers powers item) ss =
    AllByRecursion (λ s. s.items < most_items) (filter (is_reader m name powers) ss)
InboxesHaveRoom m name (Opens public paper seats) ss = Unit {0}
InboxesHaveRoom m name (Publishes public paper played) ss = Unit {0}
InboxesHaveRoom m name (Seats seat) ss = Unit {0}
