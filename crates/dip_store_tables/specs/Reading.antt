-- What the tables say of the desk, by a map.
use Rattle.std.specs.Prelude.{ℕ, ◌-◌, ◌==◌, Bool, false, length, take, drop, List, [], ◌∷◌, map, filter, Option, None, Some, bytes_eq, codes, if◌then◌else◌}
use Rattle.std.specs.List.{find}
use Rattle.dip_map.specs.Charts.{Chart}
use Rattle.dip_store_tables.specs.Boards.{UnitRow, CentreRow, board_of, power_in, prov_in}
use Rattle.dip_desk_state.specs.Records.{Public, Own, Item, White, Grey, Kept, Standing, Status, Running, Paused, Closed, Ended, Won, Drawn}
use Rattle.dip_desk_state.specs.State.{State, Game, Part, Desk}
use Rattle.dip_store_rows.specs.Tables.{DeskRow, GameRow, SeatRow, PendingRow, BoxRow, PaperRow, BallotRow, ChoiceRow, Tables, is_seat_in, is_unit_in, is_centre_in, is_choice_in, is_paper_in, is_pending, is_box}
use Rattle.dip_store_tables.specs.Texts.{behind, pieces}
use Rattle.dip_store_tables.specs.Votes.{vote_in}

-- the lines of a printed reply: it begins with its head, a line, and ends with the four bytes of END and LF
abbrev pub without_end : List ℕ → List ℕ
without_end text = take (length text - 4) text

abbrev pub reply_lines : List ℕ → List ℕ
reply_lines text = without_end (behind 10 text)

-- before an author's first letter the number of the last is 0
abbrev pub kept_of : ℕ → List ℕ → List ℕ → Option Kept
kept_of last kept reply = if last == 0 then None else Some (record { number = last; sum = kept; reply = reply_lines reply })

abbrev pub desk_of : List DeskRow → Desk
desk_of [] = record { digest = []; kept = None }
desk_of (d ∷ ds) = record { digest = d.digest; kept = kept_of d.last d.kept d.reply }

-- a word, and after "won by" or "drawn by" the powers that won or share the game
abbrev pub status_in : Chart → List ℕ → List (List ℕ) → Status
status_in m word names =
    if bytes_eq word (codes "paused") then Paused else if bytes_eq word (codes "closed") then Closed
    else if bytes_eq word (codes "ended") then Ended else if bytes_eq word (codes "won") then won names
    else if bytes_eq word (codes "drawn") then Drawn (map (power_in m) names) else Running
  where
    won : List (List ℕ) → Status
    won [] = Running
    won (n ∷ ns) = Won (power_in m n)

abbrev pub status_from : Chart → List (List ℕ) → Status
status_from m [] = Running
status_from m (w ∷ ws) = status_in m w (drop 1 ws)

abbrev pub status_of : Chart → List ℕ → Status
status_of m text = status_from m (pieces 32 text)

-- a game has the option INTENT where its first choice says 1; one without a choice hasn't it
abbrev pub intends : Option ChoiceRow → Bool
intends None = false
intends (Some c) = c.intent == 1

abbrev pub intent_in : List ChoiceRow → List ℕ → Bool
intent_in choices name = intends (find (is_choice_in name) choices)

abbrev pub public_of : Chart → List UnitRow → List CentreRow → List ChoiceRow → GameRow → Public
public_of m units centres choices g = record {
  game = g.name;
  board = board_of m (filter (is_unit_in g.name) units) (filter (is_centre_in g.name) centres) g.standoff g.year g.phase
      (intent_in choices g.name);
  status = status_of m g.status;
  due = g.due;
  period = g.period;
  grey = g.grey == 1;
  papers = g.papers;
}

abbrev pub standing_of : Chart → PendingRow → Standing
standing_of m p = record { province = prov_in m p.province; line = p.line }

abbrev pub pending_of : Chart → List PendingRow → List ℕ → List ℕ → List Standing
pending_of m pending name power = map (standing_of m) (filter (is_pending name power) pending)

abbrev pub own_of : Chart → List PendingRow → List BallotRow → SeatRow → Own
own_of m pending ballots s = record {
  power = power_in m s.power;
  digest = s.digest;
  vote = vote_in m ballots s.game s.power;
  pending = pending_of m pending s.game s.power;
  kept = kept_of s.last s.kept s.reply;
  sent = s.sent;
  items = s.items;
}

-- grey press has no writer, and instead of addressees "all" or "you"
abbrev pub item_of : BoxRow → Item
item_of b =
    if b.grey == 1 then Grey (bytes_eq b.addressees (codes "all")) (pieces 10 b.body)
    else White b.writer (pieces 32 b.addressees) (pieces 10 b.body)

abbrev pub items_of : List BoxRow → List ℕ → List ℕ → List Item
items_of boxes name power = map item_of (filter (is_box name power) boxes)

abbrev pub part_of : Chart → Tables → SeatRow → Part
part_of m t s = record { own = own_of m t.pending t.ballots s; box = items_of t.boxes s.game s.power }

abbrev pub papers_of : List PaperRow → List ℕ → List (List ℕ)
papers_of papers name = map (λ p. p.body) (filter (is_paper_in name) papers)

abbrev pub game_of : Chart → Tables → GameRow → Game
game_of m t g = record {
  public = public_of m t.units t.centres t.choices g;
  papers = papers_of t.papers g.name;
  seats = map (part_of m t) (filter (is_seat_in g.name) t.seats);
}

abbrev pub state_of : Chart → Tables → State
state_of m t = record { desk = desk_of t.desk; games = map (game_of m t) t.games }
