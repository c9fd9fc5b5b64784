-- What is counted before a change is made.
use Rattle.std.specs.Prelude.{◌≡◌, ◌⊎◌, ℕ, List, [], ◌∷◌, Option, Result, filter}
use Rattle.sqlite.specs.Store.{Ghosts}
use Rattle.sqlite.specs.Held.{Held}
use Rattle.sqlite.specs.Order.{Row, bytes, column}
use Rattle.dip_map.specs.Charts.{Chart}
use Rattle.dip_store_tables.specs.Boards.{power_in, power_name}
use Rattle.dip_desk_state.specs.State.{Author, Effect, Nothing, Pending, Votes, Delivers, Opens, Publishes, Seats, Change}
use Rattle.dip_desk_state.specs.Records.{Kept}
use Rattle.dip_store_tables.specs.Changing.{is_reader, noting}
use Rattle.dip_store_tables.specs.Counting.{CountsOn}
use Rattle.dip_store_tables.specs.Tables.{SeatRow, Tables}
use Rattle.dip_store_sql.specs.Calls.{Selects}
use Rattle.dip_store_sql.specs.Rows.{number_in}
use Rattle.dip_store_counts.specs.Noting.{noting_row}
use Rattle.dip_store_counts.specs.declared.readers.Reader.{Reader}
use Rattle.dip_store_counts.specs.declared.known.AuthorRow.{AuthorRow}

-- these are the columns of the author's row with this letter
abbrev pub CountsRow : Option AuthorRow → Chart → Author → List ℕ → Effect → Tables → Type 0
CountsRow row m who name e t = (k : Kept) → noting_row row m who name k t ≡ noting m who name k e t

-- the readers are these seats of the game
abbrev pub AreSeats : Chart → List ℕ → List SeatRow → List Reader → Type 0
AreSeats m game [] [] = Unit {0}
AreSeats m game [] (r ∷ rs) = ⊥
AreSeats m game (s ∷ ss) [] = ⊥
AreSeats m game (s ∷ ss) (r ∷ rs) =
    (s.game ≡ game) × (s.power ≡ power_name m r.power) × (s.items ≡ r.items) × AreSeats m game ss rs

-- where the effect is press, the readers are the seats of the game that it is for
abbrev pub AreReaders : Chart → List ℕ → Effect → List SeatRow → List Reader → Type 0
AreReaders m name Nothing ss rs = Unit {0}
AreReaders m name (Pending orders) ss rs = Unit {0}
AreReaders m name (Votes vote) ss rs = Unit {0}
AreReaders m name (Delivers powers item) ss rs = AreSeats m name (filter (is_reader m name powers) ss) rs
AreReaders m name (Opens public paper seats) ss rs = Unit {0}
AreReaders m name (Publishes public paper played) ss rs = Unit {0}
AreReaders m name (Seats seat) ss rs = Unit {0}

-- a change has its place in the tables: its paper has the next number, its author's row has room, and so has each reader's
pub record Counts (row : Option AuthorRow) (rs : List Reader) (m : Chart) (c : Change) (t : Tables) : Type 0 where
  pub paper : CountsOn c.game c.effect t.games
  pub author : CountsRow row m c.author c.game c.effect t
  pub readers : AreReaders m c.game c.effect t.seats rs

-- a seat as it is listed: its power's number, and how many items its inbox has
abbrev pub shown_reader : Chart → Row → Reader
shown_reader m r = record { power = power_in m (bytes (column r 0)); items = number_in (column r 7) }

-- a call that reads, or that leaves the connection alone
abbrev pub Peeks : {S X E : Type 0} → Ghosts S → Held S → Held S → Result X E → Type 0
Peeks g old new r = Selects g old new r ⊎ (new ≡ old)
