-- The row of a letter's author, whose other columns are handed over.
use Rattle.std.specs.Prelude.{◌≡◌, ℕ, true, List, Option, None, Some, codes}
use Rattle.std.specs.List.{AllByRecursion}
use Rattle.dip_map.specs.Charts.{Chart}
use Rattle.dip_store_tables.specs.Boards.{power_name}
use Rattle.dip_desk_state.specs.Records.{Kept}
use Rattle.dip_desk_state.specs.State.{Author, Nobody, TheMaster, Seat, Effect}
use Rattle.dip_store_tables.specs.Changing.{noting}
use Rattle.dip_store_tables.specs.Tables.{SeatRow, Tables, is_seat}
use Rattle.dip_store_tables.specs.Writing.{as_printed, desk_noted, seat_effect}
use Rattle.dip_store_sql.specs.TablesAfter.{on_desk, on_seat, seat_with}
use Rattle.dip_store_counts.specs.Knowing.{row_of}
use Rattle.dip_store_counts.specs.declared.known.AuthorRow.{AuthorRow}

-- a seat's row with a last letter, and these columns
abbrev pub row_noted : AuthorRow → Kept → SeatRow → SeatRow
row_noted r k = seat_with r.digest k.number k.sum k.reply r.sent r.items

-- where there is none, nothing is written
abbrev pub on_row : Option AuthorRow → List ℕ → List ℕ → Kept → Tables → Tables
on_row None game power k t = t
on_row (Some r) game power k t = on_seat game power (row_noted r k) t

abbrev pub noting_row : Option AuthorRow → Chart → Author → List ℕ → Kept → Tables → Tables
noting_row row m Nobody name k t = t
noting_row row m TheMaster name k t = on_desk (desk_noted (as_printed name (codes "master") k)) t
noting_row row m (Seat power) name k t =
    on_row row name (power_name m power) (as_printed name (power_name m power) k) t

-- the columns are those of the seat's row after a letter of this effect
abbrev pub IsNext : Option AuthorRow → Effect → List ℕ → List ℕ → SeatRow → Type 0
IsNext row e name power s = is_seat name power s ≡ true → row ≡ Some (row_of (seat_effect e s))

abbrev pub NextRowsAreNoted : Chart → Type 0
NextRowsAreNoted m =
    (row : Option AuthorRow) (power : ℕ) (name : List ℕ) (k : Kept) (e : Effect) (t : Tables)
    → AllByRecursion (IsNext row e name (power_name m power)) t.seats
    → noting_row row m (Seat power) name k t ≡ noting m (Seat power) name k e t
