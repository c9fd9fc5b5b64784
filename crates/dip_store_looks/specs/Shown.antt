-- Rows as the queries show them, read back as records; what a query doesn't show is left empty.
use Rattle.dip_store_looks.specs.declared.own.Beside.{Beside}
use Rattle.std.specs.Prelude.{◌≡◌, ℕ, ◌+◌, ◌==◌, Bool, false, List, [], Option, None, Some, filter, map}
use Rattle.sqlite.specs.Order.{Row, column, bytes}
use Rattle.dip_map.specs.Charts.{Chart}
use Rattle.dip_store_tables.specs.Boards.{UnitRow, CentreRow, board_of, power_in}
use Rattle.dip_desk_state.specs.State.{Desk}
use Rattle.dip_desk_state.specs.Records.{Public, Own, Vote, No}
use Rattle.dip_desk_state.specs.Rows as rows
use Rattle.dip_store_sql.specs.Rows.{number_in}
use Rattle.dip_store_sql.specs.Showing.{show_order}
use Rattle.dip_store_tables.specs.Reading.{kept_of, standing_of, status_of}
use Rattle.dip_store_tables.specs.Tables.{BoxRow, PendingRow, Tables, is_pending}
use Rattle.dip_store_tables.specs.Votes.{vote_in}

abbrev pub shown_unit : Row → UnitRow
shown_unit r = record {
  game = [];
  province = bytes (column r 0);
  dislodged = number_in (column r 1);
  power = bytes (column r 2);
  kind = number_in (column r 3);
  coast = bytes (column r 4);
  origin = bytes (column r 5);
}

abbrev pub shown_centre : Row → CentreRow
shown_centre r = record { game = []; province = bytes (column r 0); power = bytes (column r 1) }

-- a game has the option INTENT where the row of its choice shows 1; without such a row it hasn't
abbrev pub shown_intent : Option Row → Bool
shown_intent None = false
shown_intent (Some r) = number_in (column r 0) == 1

-- the public part of a game that its row, its units, its centres and its choice show
abbrev pub shown_public : Chart → List ℕ → Row → List Row → List Row → Option Row → Public
shown_public m name r units centres choice = record {
  game = name;
  board = board_of m (map shown_unit units) (map shown_centre centres) (bytes (column r 7)) (number_in (column r 0))
      (number_in (column r 1)) (shown_intent choice);
  status = status_of m (bytes (column r 2));
  due = number_in (column r 3);
  period = number_in (column r 4);
  grey = number_in (column r 5) == 1;
  papers = number_in (column r 6);
}

abbrev pub shown_order : Row → PendingRow
shown_order r = record { game = []; power = []; province = bytes (column r 0); line = bytes (column r 1) }

-- the own part of a power's seat with this vote that its row, from a column on, and the rows of its orders show
abbrev pub shown_own : Chart → ℕ → Vote → ℕ → Row → List Row → Own
shown_own m power vote at r orders = record {
  power = power;
  digest = bytes (column r at);
  vote = vote;
  pending = map (λ o. standing_of m (shown_order o)) orders;
  kept = kept_of (number_in (column r (at + 2))) (bytes (column r (at + 3))) (bytes (column r (at + 4)));
  sent = number_in (column r (at + 5));
  items = number_in (column r (at + 6));
}

-- the own part of a seat whose row begins with its power's name, in a game of that name
abbrev pub listed_own : Chart → Tables → List ℕ → Row → Own
listed_own m t game r =
    let name = bytes (column r 0) in
    shown_own m (power_in m name) (vote_in m t.ballots game name) 1 r (map show_order (filter (is_pending game name) t.pending))

-- an item, without its game, its power and its number
abbrev pub shown_item : Row → BoxRow
shown_item r = record {
  game = [];
  power = [];
  number = 0;
  grey = number_in (column r 0);
  writer = bytes (column r 1);
  addressees = bytes (column r 2);
  body = bytes (column r 3);
}

-- the digest and the last letter that the master's row shows
abbrev pub shown_desk : Row → Desk
shown_desk r = record {
  digest = bytes (column r 2);
  kept = kept_of (number_in (column r 3)) (bytes (column r 4)) (bytes (column r 5));
}

-- a seat's rows that say of its own part that it is idle
pub record HasNothing (m : Chart) (t : Tables) (game power : List ℕ) : Type 0 where
  pub vote : No ≡ vote_in m t.ballots game power
  pub orders : [] ≡ filter (is_pending game power) t.pending

-- what a seat has beside its row: its vote, and the rows of its orders
pub record IsBeside (m : Chart) (t : Tables) (game power : List ℕ) (b : Beside) : Type 0 where
  pub vote : rows.vote b.vote ≡ vote_in m t.ballots game power
  pub orders : b.orders.items ≡ map show_order (filter (is_pending game power) t.pending)
