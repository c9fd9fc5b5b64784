-- Press in its readers' inboxes, one reader after the other.
use Rattle.std.specs.Prelude.{◌≡◌, ℕ, ◌+◌, List, [], ◌∷◌, ◌++◌}
use Rattle.dip_store_tables.specs.Lists.{update_where}
use Rattle.dip_map.specs.Charts.{Chart}
use Rattle.dip_store_tables.specs.Boards.{power_name}
use Rattle.dip_desk_state.specs.Records.{Item}
use Rattle.dip_store_tables.specs.Changing.{delivering_each, with_items}
use Rattle.dip_store_tables.specs.Tables.{BoxRow, SeatRow, Tables, is_seat}
use Rattle.dip_store_tables.specs.Writing.{box_row}
use Rattle.dip_store_counts.specs.Counts.{AreSeats}
use Rattle.dip_store_counts.specs.declared.readers.Reader.{Reader}

-- a reader's seat counts the item, and its inbox has it
abbrev pub putting : List ℕ → List ℕ → BoxRow → ℕ → Tables → Tables
putting game power row n t = record t {
  seats = update_where (is_seat game power) (with_items n) t.seats;
  boxes = t.boxes ++ row ∷ [];
}

-- the rows of an item, by a power's name and a number, to each reader in turn
abbrev pub delivering_to : Chart → List ℕ → (List ℕ → ℕ → BoxRow) → Reader → Tables → Tables
delivering_to m game row r t =
    putting game (power_name m r.power) (row (power_name m r.power) (r.items + 1)) (r.items + 1) t

abbrev pub delivering_rows : Chart → List ℕ → (List ℕ → ℕ → BoxRow) → List Reader → Tables → Tables
delivering_rows m game row [] t = t
delivering_rows m game row (r ∷ rs) t = delivering_rows m game row rs (delivering_to m game row r t)

-- press to its readers: each seat counts the item, and its inbox has it
abbrev pub delivering_all : Chart → List ℕ → Item → List Reader → Tables → Tables
delivering_all m game item rs t = delivering_rows m game (λ power n. box_row game power n item) rs t

-- what is delivered to readers is delivered to each of their seats
abbrev pub ReadersAreSeats : Chart → Type 0
ReadersAreSeats m = (game : List ℕ) (item : Item) (ss : List SeatRow) (rs : List Reader) (t : Tables)
    → AreSeats m game ss rs → delivering_all m game item rs t ≡ delivering_each item ss t
