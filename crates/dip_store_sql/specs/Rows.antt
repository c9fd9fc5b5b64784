-- Records in rows, a value a column, and the tables that a database's trees say.
use Rattle.std.specs.Prelude.{ℕ, pos, negsuc, [], ◌∷◌, map}
use Rattle.sqlite.specs.declared.types.Value.{Value}
use Rattle.sqlite.specs.declared.types.Value.TheVariants.{Null, Int, Real, Text as Words, Blob as Bytes}
use Rattle.sqlite.specs.Order.{Row, column, bytes}
use Rattle.sqlite.specs.Tree.{Trees}
use Rattle.dip_store_rows.specs.Tables.{UnitRow, CentreRow}
use Rattle.dip_store_rows.specs.Tables.{DeskRow, GameRow, SeatRow, PendingRow, BoxRow, PaperRow, BallotRow, ChoiceRow, Tables}

-- what isn't a number from 0 on is read as 0
abbrev pub number_in : Value → ℕ
number_in Null = 0
number_in (Int (pos n)) = n
number_in (Int (negsuc n)) = 0
number_in (Real x) = 0
number_in (Words t) = 0
number_in (Bytes b) = 0

-- a record's columns, and the record of a row, whose first value is its rowid
abbrev pub put_desk : DeskRow → Row
put_desk d =
    Int (pos d.id) ∷ Int (pos d.version) ∷ Bytes d.map ∷ Bytes d.digest ∷ Int (pos d.last) ∷
    Bytes d.kept ∷ Words d.reply ∷ []

abbrev pub take_desk : Row → DeskRow
take_desk r = record {
  id = number_in (column r 1);
  version = number_in (column r 2);
  map = bytes (column r 3);
  digest = bytes (column r 4);
  last = number_in (column r 5);
  kept = bytes (column r 6);
  reply = bytes (column r 7);
}

abbrev pub put_game : GameRow → Row
put_game g =
    Words g.name ∷ Int (pos g.year) ∷ Int (pos g.phase) ∷ Words g.status ∷ Int (pos g.due) ∷
    Int (pos g.period) ∷ Int (pos g.grey) ∷ Int (pos g.papers) ∷ Words g.standoff ∷ []

abbrev pub take_game : Row → GameRow
take_game r = record {
  name = bytes (column r 1);
  year = number_in (column r 2);
  phase = number_in (column r 3);
  status = bytes (column r 4);
  due = number_in (column r 5);
  period = number_in (column r 6);
  grey = number_in (column r 7);
  papers = number_in (column r 8);
  standoff = bytes (column r 9);
}

abbrev pub put_seat : SeatRow → Row
put_seat s =
    Words s.game ∷ Words s.power ∷ Bytes s.digest ∷ Int (pos s.vote) ∷ Int (pos s.last) ∷
    Bytes s.kept ∷ Words s.reply ∷ Int (pos s.sent) ∷ Int (pos s.items) ∷ []

abbrev pub take_seat : Row → SeatRow
take_seat r = record {
  game = bytes (column r 1);
  power = bytes (column r 2);
  digest = bytes (column r 3);
  vote = number_in (column r 4);
  last = number_in (column r 5);
  kept = bytes (column r 6);
  reply = bytes (column r 7);
  sent = number_in (column r 8);
  items = number_in (column r 9);
}

abbrev pub put_unit : UnitRow → Row
put_unit u =
    Words u.game ∷ Words u.province ∷ Int (pos u.dislodged) ∷ Words u.power ∷ Int (pos u.kind) ∷
    Words u.coast ∷ Words u.origin ∷ []

abbrev pub take_unit : Row → UnitRow
take_unit r = record {
  game = bytes (column r 1);
  province = bytes (column r 2);
  dislodged = number_in (column r 3);
  power = bytes (column r 4);
  kind = number_in (column r 5);
  coast = bytes (column r 6);
  origin = bytes (column r 7);
}

abbrev pub put_centre : CentreRow → Row
put_centre c = Words c.game ∷ Words c.province ∷ Words c.power ∷ []

abbrev pub take_centre : Row → CentreRow
take_centre r = record {
  game = bytes (column r 1);
  province = bytes (column r 2);
  power = bytes (column r 3);
}

abbrev pub put_pending : PendingRow → Row
put_pending p = Words p.game ∷ Words p.power ∷ Words p.province ∷ Words p.line ∷ []

abbrev pub take_pending : Row → PendingRow
take_pending r = record {
  game = bytes (column r 1);
  power = bytes (column r 2);
  province = bytes (column r 3);
  line = bytes (column r 4);
}

abbrev pub put_box : BoxRow → Row
put_box b =
    Words b.game ∷ Words b.power ∷ Int (pos b.number) ∷ Int (pos b.grey) ∷ Words b.writer ∷
    Words b.addressees ∷ Words b.body ∷ []

abbrev pub take_box : Row → BoxRow
take_box r = record {
  game = bytes (column r 1);
  power = bytes (column r 2);
  number = number_in (column r 3);
  grey = number_in (column r 4);
  writer = bytes (column r 5);
  addressees = bytes (column r 6);
  body = bytes (column r 7);
}

abbrev pub put_paper : PaperRow → Row
put_paper p = Words p.game ∷ Int (pos p.number) ∷ Words p.body ∷ []

abbrev pub take_paper : Row → PaperRow
take_paper r = record {
  game = bytes (column r 1);
  number = number_in (column r 2);
  body = bytes (column r 3);
}

abbrev pub put_ballot : BallotRow → Row
put_ballot b = Words b.game ∷ Words b.power ∷ Words b.names ∷ []

abbrev pub take_ballot : Row → BallotRow
take_ballot r = record {
  game = bytes (column r 1);
  power = bytes (column r 2);
  names = bytes (column r 3);
}

abbrev pub put_choice : ChoiceRow → Row
put_choice c = Words c.game ∷ Int (pos c.intent) ∷ []

abbrev pub take_choice : Row → ChoiceRow
take_choice r = record {
  game = bytes (column r 1);
  intent = number_in (column r 2);
}

-- each table is a tree's rows, in their order
abbrev pub tables_of : Trees → Tables
tables_of db = record {
  desk = map take_desk (db 0);
  games = map take_game (db 2);
  seats = map take_seat (db 4);
  units = map take_unit (db 6);
  centres = map take_centre (db 8);
  pending = map take_pending (db 10);
  boxes = map take_box (db 12);
  papers = map take_paper (db 14);
  ballots = map take_ballot (db 16);
  choices = map take_choice (db 18);
}
