-- What the rows that are handed over say, without where they lie in memory.
use Rattle.std.specs.Prelude.{ℕ, List}
use Rattle.dip_store_rows.specs.Tables as tables
use Rattle.dip_store_rows.specs.Made.{number_of}
use Rattle.dip_store_sql.specs.TablesAfter as after
use Rattle.dip_store_sql.specs.TablesAfter.{desk_with, seat_with}
use Rattle.dip_store_sql.specs.declared.rows.GameRow.{GameRow}
use Rattle.dip_store_sql.specs.declared.rows.UnitRow.{UnitRow}
use Rattle.dip_store_sql.specs.declared.rows.OrderRow.{OrderRow}
use Rattle.dip_store_sql.specs.declared.rows.ItemRow.{ItemRow}
use Rattle.dip_store_sql.specs.declared.rows.LastLetter.{LastLetter}
use Rattle.dip_store_sql.specs.declared.rows.SeatRow.{SeatRow}

abbrev pub game : GameRow → tables.GameRow
game g = record {
  name = g.name.now;
  year = g.year;
  phase = g.phase;
  status = g.status.now;
  due = g.due;
  period = g.period;
  grey = number_of g.grey;
  papers = g.papers;
  standoff = g.standoff.now;
}

abbrev pub unit : UnitRow → tables.UnitRow
unit u = record {
  game = u.game.now;
  province = u.province.now;
  dislodged = number_of u.dislodged;
  power = u.power.now;
  kind = u.kind;
  coast = u.coast.now;
  origin = u.origin.now;
}

-- an order of a seat, by its game and its power's name
abbrev pub order : List ℕ → List ℕ → OrderRow → tables.PendingRow
order game power o = after.order game power (o.province.now, o.line.now)

abbrev pub item : ItemRow → tables.BoxRow
item b = record {
  game = b.game.now;
  power = b.power.now;
  number = b.number;
  grey = number_of b.grey;
  writer = b.writer.now;
  addressees = b.addressees.now;
  body = b.body.now;
}

-- the master's row with a last letter
abbrev pub desk_kept : LastLetter → tables.DeskRow → tables.DeskRow
desk_kept l = desk_with l.number l.sum.now l.reply.now

-- all but the keys and the vote of a seat's row
abbrev pub seat_as : SeatRow → tables.SeatRow → tables.SeatRow
seat_as r = seat_with r.digest.now r.number r.sum.now r.reply.now r.sent r.items
