-- The rows in which records are written, by a map.
use Rattle.std.specs.Prelude.{ℕ, ◌+◌, Bool, List, [], ◌∷◌, codes, Some, if◌then◌else◌}
use Rattle.dip_map.specs.Charts.{Chart}
use Rattle.dip_store_tables.specs.Boards.{code, power_name, standoff_text}
use Rattle.dip_map.specs.Boards.{season_number}
use Rattle.dip_desk_state.specs.declared.records.Outcome.TheVariants.{Done}
use Rattle.dip_desk_state.specs.Records.{Public, Item, White, Grey, Kept, Standing, Vote}
use Rattle.dip_desk_state.specs.Texts.{reply_text, status_text}
use Rattle.dip_desk_state.specs.State.{NewSeat, Effect, Nothing, Pending, Votes, Delivers, Opens, Publishes, Seats}
use Rattle.dip_store_rows.specs.Tables.{DeskRow, GameRow, SeatRow, PendingRow, BoxRow, PaperRow, BallotRow, ChoiceRow, Tables}
use Rattle.dip_store_tables.specs.Texts.{joined, ended}
use Rattle.dip_store_tables.specs.Votes.{ballot_text}
pub use Rattle.dip_store_rows.specs.Made.{choice_row, new_tables, number_of}

-- the reply to a letter of a sender in a game as it was printed: its head, its lines, END
abbrev pub whole_reply : List ℕ → List ℕ → Kept → List ℕ
whole_reply game sender k =
    reply_text (record { outcome = Done; head = Some (record { game = game; sender = sender; number = k.number }); text = k.reply })

-- what is kept of the letter, with its whole reply
abbrev pub as_printed : List ℕ → List ℕ → Kept → Kept
as_printed game sender k = record k { reply = whole_reply game sender k }

-- the public part of a game of that name, but for its board's units, its owners and its option
abbrev pub game_row : Chart → List ℕ → Public → GameRow
game_row m name p = record {
  name = name;
  year = p.board.phase.year;
  phase = season_number p.board.phase.season;
  status = status_text m p.status;
  due = p.due;
  period = p.period;
  grey = number_of p.grey;
  papers = p.papers;
  standoff = standoff_text m p.board.standoff;
}

-- a seat that nobody has used yet; its vote is on its ballot, and is 0 in its row
abbrev pub seat_row : Chart → List ℕ → NewSeat → SeatRow
seat_row m name s = record {
  game = name;
  power = power_name m s.power;
  digest = s.digest;
  vote = 0;
  last = 0;
  kept = [];
  reply = [];
  sent = 0;
  items = 0;
}

-- the ballot of such a seat
abbrev pub ballot_row : Chart → List ℕ → NewSeat → BallotRow
ballot_row m name s = record { game = name; power = power_name m s.power; names = codes "NO" }

abbrev pub pending_row : Chart → List ℕ → List ℕ → Standing → PendingRow
pending_row m name power o = record { game = name; power = power; province = code m o.province; line = o.line }

abbrev pub paper_row : List ℕ → ℕ → List ℕ → PaperRow
paper_row name number body = record { game = name; number = number; body = body }

abbrev pub box_row : List ℕ → List ℕ → ℕ → Item → BoxRow
box_row name power number (White writer addressees text) = record {
  game = name;
  power = power;
  number = number;
  grey = 0;
  writer = writer;
  addressees = joined 32 addressees;
  body = ended 10 text;
}
box_row name power number (Grey to_all text) = record {
  game = name;
  power = power;
  number = number;
  grey = 1;
  writer = [];
  addressees = if to_all then codes "all" else codes "you";
  body = ended 10 text;
}

-- the next item of a seat's inbox
abbrev pub next_row : Item → SeatRow → BoxRow
next_row item s = box_row s.game s.power (s.items + 1) item

-- a row with its author's last letter, whose reply is whole
abbrev pub desk_noted : Kept → DeskRow → DeskRow
desk_noted k d = record d { last = k.number; kept = k.sum; reply = k.reply }

abbrev pub seat_kept : Kept → SeatRow → SeatRow
seat_kept k s = record s { last = k.number; kept = k.sum; reply = k.reply }

-- what an effect does to its author's own row
abbrev pub seat_effect : Effect → SeatRow → SeatRow
seat_effect Nothing s = s
seat_effect (Pending orders) s = s
seat_effect (Votes vote) s = s
seat_effect (Delivers readers item) s = record s { sent = s.sent + 1 }
seat_effect (Opens public paper seats) s = s
seat_effect (Publishes public paper played) s = s
seat_effect (Seats seat) s = s

-- a ballot with another vote
abbrev pub ballot_noted : Chart → Vote → BallotRow → BallotRow
ballot_noted m v b = record b { names = ballot_text m v }

abbrev pub seat_noted : Kept → Effect → SeatRow → SeatRow
seat_noted k e s = seat_effect e (seat_kept k s)
