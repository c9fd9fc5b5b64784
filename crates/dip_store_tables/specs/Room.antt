-- The counts that a change raises have room for one more.
use Rattle.std.specs.Prelude.{◌≡◌, ◌<◌, true, List, ℕ, filter}
use Rattle.std.specs.List.{AllByRecursion}
use Rattle.dip_map.specs.Charts.{Chart}
use Rattle.dip_store_tables.specs.Boards.{power_name}
use Rattle.dip_desk_state.specs.Bounds.{most_items, most_sent}
use Rattle.dip_desk_state.specs.State.{Author, Nobody, TheMaster, Seat, Effect, Nothing, Pending, Votes, Delivers, Opens, Publishes, Seats}
use Rattle.dip_store_tables.specs.Changing.{is_reader}
use Rattle.dip_store_rows.specs.Tables.{SeatRow, Tables, is_seat}

-- an author who is a seat may send one more letter of press
abbrev pub SentHasRoom : Chart → Author → List ℕ → List SeatRow → Type 0
SentHasRoom m Nobody name seats = Unit {0}
SentHasRoom m TheMaster name seats = Unit {0}
SentHasRoom m (Seat p) name seats = AllByRecursion (λ s. is_seat name (power_name m p) s ≡ true → s.sent < most_sent) seats

-- press counts in its author's row and in those of its readers
abbrev pub HasRoom : Chart → Author → List ℕ → Effect → Tables → Type 0
HasRoom m who name Nothing t = Unit {0}
HasRoom m who name (Pending orders) t = Unit {0}
HasRoom m who name (Votes vote) t = Unit {0}
HasRoom m who name (Delivers powers item) t =
    SentHasRoom m who name t.seats × AllByRecursion (λ s. s.items < most_items) (filter (is_reader m name powers) t.seats)
HasRoom m who name (Opens public paper seats) t = Unit {0}
HasRoom m who name (Publishes public paper played) t = Unit {0}
HasRoom m who name (Seats seat) t = Unit {0}
