-- What is known, or found, of the row of a letter's author and of its game's papers.
use Rattle.std.specs.Prelude.{◌≡◌, ◌<◌, ◌==◌, ℕ, ◌+◌, Bool, true, false, List, [], Option, None, Some, length, filter, option_map, if◌then◌else◌}
use Rattle.std.specs.List.{find}
use Rattle.sqlite.specs.Order.{Row, bytes, column}
use Rattle.sqlite.specs.Store.{Ghosts}
use Rattle.sqlite.specs.Held.{Held}
use Rattle.dip_map.specs.Charts.{Chart}
use Rattle.dip_desk_state.specs.Bounds.{most_sent}
use Rattle.dip_desk_state.specs.Records.{Own}
use Rattle.dip_desk_state.specs.State.{Author, Nobody, TheMaster, Seat, Effect, Nothing, Pending, Votes, Delivers, Opens, Publishes, Seats, Change}
use Rattle.dip_store_tables.specs.Boards.{power_name}
use Rattle.dip_store_tables.specs.Tables.{GameRow, PendingRow, SeatRow, Tables, is_named, is_pending, is_seat}
use Rattle.dip_store_sql.specs.Calls.{IsKept, tables_in}
use Rattle.dip_store_sql.specs.Rows.{number_in}
use Rattle.dip_store_counts.specs.declared.known.AuthorRow.{AuthorRow}
use Rattle.dip_store_counts.specs.declared.known.KnownAuthor.{KnownAuthor}
use Rattle.dip_store_counts.specs.declared.known.KnownBefore.{KnownBefore}

-- of a seat's row, of an own part, and of the row as it is found
abbrev pub row_of : SeatRow → AuthorRow
row_of s = record { digest = s.digest; sent = s.sent; items = s.items }

abbrev pub own_row : Own → AuthorRow
own_row o = record { digest = o.digest; sent = o.sent; items = o.items }

abbrev pub shown_row : Row → AuthorRow
shown_row r = record { digest = bytes (column r 0); sent = number_in (column r 5); items = number_in (column r 6) }

-- the seat of a letter's author, if it has one
abbrev pub author_seat : Chart → Author → List ℕ → List SeatRow → Option SeatRow
author_seat m Nobody name seats = None
author_seat m TheMaster name seats = None
author_seat m (Seat power) name seats = find (is_seat name (power_name m power)) seats

abbrev pub author_row : Chart → Author → List ℕ → List SeatRow → Option AuthorRow
author_row m who name seats = option_map row_of (author_seat m who name seats)

-- what is known of the author's row is what it says
abbrev pub IsKnown : Option AuthorRow → Chart → Author → List ℕ → List SeatRow → Type 0
IsKnown None m who name seats = Unit {0}
IsKnown (Some row) m who name seats = Some row ≡ author_row m who name seats

-- how many papers the game of that name has, by its row
abbrev pub papers_in : List ℕ → List GameRow → Option ℕ
papers_in name games = option_map (λ g. g.papers) (find (is_named name) games)

-- what is known of it is what its row says
abbrev pub ArePapersKnown : Option ℕ → List ℕ → List GameRow → Type 0
ArePapersKnown None name games = Unit {0}
ArePapersKnown (Some n) name games = Some n ≡ papers_in name games

-- tables that a keeper has written, of which this is known
abbrev pub IsKeptAs : {S : Type 0} → Ghosts S → Option AuthorRow → Option ℕ → Chart → Change → Held S → Type 0
IsKeptAs g known papers m c h =
    IsKept g h × (IsKnown known m c.author c.game (tables_in g h).seats × ArePapersKnown papers c.game (tables_in g h).games)

-- the orders of a letter's author that stand
abbrev pub orders_by : Chart → Author → List ℕ → List PendingRow → List PendingRow
orders_by m Nobody name ps = []
orders_by m TheMaster name ps = []
orders_by m (Seat power) name ps = filter (is_pending name (power_name m power)) ps

-- where it is known that none stands, none does
abbrev pub IsUnordered : Bool → Chart → Author → List ℕ → List PendingRow → Type 0
IsUnordered none m who name ps = none ≡ true → orders_by m who name ps ≡ []

-- of what is known of a letter's author: its row, and whether none of its orders stands
abbrev pub row_known : Option KnownAuthor → Option AuthorRow
row_known None = None
row_known (Some a) = Some a.row

abbrev pub is_unordered : Option KnownAuthor → Bool
is_unordered None = false
is_unordered (Some a) = a.unordered

-- what an own part says of it
abbrev pub known_own : Own → KnownAuthor
known_own o = record { row = own_row o; unordered = length o.pending == 0 }

-- what is known before a change is what the tables say: of its author's row, of the author's orders, and of the papers of its game
abbrev pub IsKnownBefore : KnownBefore → Chart → Change → Tables → Type 0
IsKnownBefore known m c t =
    IsKnown (row_known known.author) m c.author c.game t.seats × IsUnordered (is_unordered known.author) m c.author c.game t.pending × ArePapersKnown known.papers c.game t.games

-- tables that a keeper has written, of which this is known
abbrev pub IsKeptFor : {S : Type 0} → Ghosts S → KnownBefore → Chart → Change → Held S → Type 0
IsKeptFor g known m c h = IsKept g h × IsKnownBefore known m c (tables_in g h)

abbrev pub is_press : Effect → Bool
is_press Nothing = false
is_press (Pending orders) = false
is_press (Votes vote) = false
is_press (Delivers readers item) = true
is_press (Opens public paper seats) = false
is_press (Publishes public paper played) = false
is_press (Seats seat) = false

-- the author's row after a letter of this effect: it counts press
abbrev pub row_after : Effect → AuthorRow → AuthorRow
row_after e r = record r { sent = if is_press e then r.sent + 1 else r.sent }

-- it has room to count it
abbrev pub RowHasRoom : Effect → AuthorRow → Type 0
RowHasRoom e r = is_press e ≡ true → r.sent < most_sent

abbrev pub AuthorHasRoom : Effect → Option AuthorRow → Type 0
AuthorHasRoom e None = Unit {0}
AuthorHasRoom e (Some r) = RowHasRoom e r
