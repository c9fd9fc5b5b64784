-- What the statements of a change make of the tables.
use Rattle.std.specs.Prelude.{ℕ, ◌+◌, ◌==◌, ◌&&◌, Bool, List, [], ◌∷◌, ◌++◌, map, filter, bytes_eq, codes, if◌then◌else◌}
use Rattle.std.specs.List.{list_any}
use Rattle.sqlite_keyed.specs.Lists.{update_where, delete_where}
use Rattle.dip_map.specs.Charts.{Chart}
use Rattle.dip_store_tables.specs.Boards.{power_name, power_in, unit_rows, centre_rows}
use Rattle.dip_desk_state.specs.Records.{Public, Item, Kept, Standing, Vote}
use Rattle.dip_desk_state.specs.State.{Author, Nobody, TheMaster, Seat, NewSeat, Effect, Nothing, Pending, Votes, Delivers, Opens, Publishes, Seats, Change}
use Rattle.dip_store_rows.specs.Tables.{SeatRow, Tables, is_named, is_seat_in, is_unit_in, is_centre_in, is_pending_in, is_box_in, is_paper_in, is_ballot_in, is_choice_in, is_seat, is_pending, is_ballot}
use Rattle.dip_store_tables.specs.Writing.{game_row, seat_row, pending_row, paper_row, ballot_row, choice_row, next_row, as_printed, ballot_noted, desk_noted, seat_noted}

-- the author's row is written anew, with the reply as it was printed
abbrev pub noting : Chart → Author → List ℕ → Kept → Effect → Tables → Tables
noting m Nobody name k e t = t
noting m TheMaster name k e t =
    record t { desk = update_where (λ d. d.id == 1) (desk_noted (as_printed name (codes "master") k)) t.desk }
noting m (Seat power) name k e t =
    record t { seats = update_where (is_seat name (power_name m power)) (seat_noted (as_printed name (power_name m power) k) e) t.seats }

-- a seat's standing orders are taken out, and these put in
abbrev pub with_orders : Chart → List ℕ → List ℕ → List Standing → Tables → Tables
with_orders m name power orders t =
    record t { pending = delete_where (is_pending name power) t.pending ++ map (pending_row m name power) orders }

-- a seat's ballot says another vote
abbrev pub with_vote : Chart → List ℕ → List ℕ → Vote → Tables → Tables
with_vote m name power v t = record t { ballots = update_where (is_ballot name power) (ballot_noted m v) t.ballots }

abbrev pub voting_by : Chart → Author → List ℕ → Vote → Tables → Tables
voting_by m Nobody name v t = t
voting_by m TheMaster name v t = t
voting_by m (Seat power) name v t = with_vote m name (power_name m power) v t

-- the author's standing orders, where the effect gives any
abbrev pub ordering_by : Chart → Author → List ℕ → List Standing → Tables → Tables
ordering_by m Nobody name orders t = t
ordering_by m TheMaster name orders t = t
ordering_by m (Seat power) name orders t = with_orders m name (power_name m power) orders t

-- what the author orders or votes for, where the effect says it
abbrev pub ordering : Chart → Author → List ℕ → Effect → Tables → Tables
ordering m who name Nothing t = t
ordering m who name (Pending orders) t = ordering_by m who name orders t
ordering m who name (Votes vote) t = voting_by m who name vote t
ordering m who name (Delivers readers item) t = t
ordering m who name (Opens public paper seats) t = t
ordering m who name (Publishes public paper played) t = t
ordering m who name (Seats seat) t = t

-- a seat of the game whose power is one of the readers
abbrev pub is_reader : Chart → List ℕ → List ℕ → SeatRow → Bool
is_reader m name readers s = bytes_eq s.game name && list_any (λ p. p == power_in m s.power) readers

abbrev pub one_more : SeatRow → SeatRow
one_more s = record s { items = s.items + 1 }

-- each reader's row counts the item, and its inbox has it
abbrev pub delivering : Chart → List ℕ → List ℕ → Item → Tables → Tables
delivering m name readers item t = record t {
  seats = update_where (is_reader m name readers) one_more t.seats;
  boxes = t.boxes ++ map (next_row item) (filter (is_reader m name readers) t.seats);
}

-- rows that are there of a game of that name are taken out first
abbrev pub opening : Chart → Public → List ℕ → List NewSeat → Tables → Tables
opening m p paper seats t = record t {
  games = t.games ++ game_row m p.game p ∷ [];
  seats = delete_where (is_seat_in p.game) t.seats ++ map (seat_row m p.game) seats;
  units = delete_where (is_unit_in p.game) t.units ++ unit_rows m p.game p.board;
  centres = delete_where (is_centre_in p.game) t.centres ++ centre_rows m p.game p.board;
  pending = delete_where (is_pending_in p.game) t.pending;
  boxes = delete_where (is_box_in p.game) t.boxes;
  papers = delete_where (is_paper_in p.game) t.papers ++ paper_row p.game p.papers paper ∷ [];
  ballots = delete_where (is_ballot_in p.game) t.ballots ++ map (ballot_row m p.game) seats;
  choices = delete_where (is_choice_in p.game) t.choices ++ choice_row p.game p.board.intent ∷ [];
}

-- the game's row and its board are written anew, with a paper more; where a phase was played no order stands any more
abbrev pub publishing : Chart → List ℕ → Public → List ℕ → Bool → Tables → Tables
publishing m name p paper played t = record t {
  games = update_where (is_named name) (λ g. game_row m g.name p) t.games;
  units = delete_where (is_unit_in name) t.units ++ unit_rows m name p.board;
  centres = delete_where (is_centre_in name) t.centres ++ centre_rows m name p.board;
  pending = if played then delete_where (is_pending_in name) t.pending else t.pending;
  papers = t.papers ++ paper_row name p.papers paper ∷ [];
  choices = delete_where (is_choice_in name) t.choices ++ choice_row name p.board.intent ∷ [];
}

abbrev pub replacing : Chart → List ℕ → NewSeat → Tables → Tables
replacing m name seat t =
    record t { seats = update_where (is_seat name (power_name m seat.power)) (λ s. record s { digest = seat.digest }) t.seats }

-- the effect on its game
abbrev pub reaching : Chart → List ℕ → Effect → Tables → Tables
reaching m name Nothing t = t
reaching m name (Pending orders) t = t
reaching m name (Votes vote) t = t
reaching m name (Delivers readers item) t = delivering m name readers item t
reaching m name (Opens public paper seats) t = opening m public paper seats t
reaching m name (Publishes public paper played) t = publishing m name public paper played t
reaching m name (Seats seat) t = replacing m name seat t

-- a change: its author's row, the author's orders or ballot, and the effect on the game
abbrev pub changing : Chart → Change → Tables → Tables
changing m c t = reaching m c.game c.effect (ordering m c.author c.game c.effect (noting m c.author c.game c.kept c.effect t))

-- press, delivered reader by reader: each inbox has an item more, and the reader's row counts it
abbrev pub with_items : ℕ → SeatRow → SeatRow
with_items n s = record s { items = n }

abbrev pub delivering_one : Item → SeatRow → Tables → Tables
delivering_one item s t = record t {
  seats = update_where (is_seat s.game s.power) (with_items (s.items + 1)) t.seats;
  boxes = t.boxes ++ next_row item s ∷ [];
}

abbrev pub delivering_each : Item → List SeatRow → Tables → Tables
delivering_each item [] t = t
delivering_each item (s ∷ ss) t = delivering_each item ss (delivering_one item s t)
