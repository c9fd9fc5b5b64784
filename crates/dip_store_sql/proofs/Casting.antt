-- Records stay as they are in their columns.
use Rattle.std.proofs.Common.{◌≡◌, pos, refl}
use Rattle.sqlite.specs.Cast.{cast_all}
use Rattle.dip_store_sql.proofs.Changes.{cast_int}
use Rattle.dip_store_sql.specs.Schema.{desk_table, game_table, seat_table, unit_table, centre_table, pending_table, box_table, paper_table, ballot_table, choice_table}
use Rattle.dip_store_rows.specs.Tables.{UnitRow, CentreRow}
use Rattle.dip_store_rows.specs.Tables.{DeskRow, GameRow, SeatRow, PendingRow, BoxRow, PaperRow, BallotRow, ChoiceRow}
use Rattle.dip_store_sql.specs.Rows.{put_desk, put_game, put_seat, put_unit, put_centre, put_pending, put_box, put_paper, put_ballot, put_choice}

pub cast_desk : (d : DeskRow) → cast_all desk_table.columns (put_desk d) ≡ put_desk d
cast_desk d = rw (cast_int (pos d.id), cast_int (pos d.version), cast_int (pos d.last)) refl

pub cast_game : (g : GameRow) → cast_all game_table.columns (put_game g) ≡ put_game g
cast_game g = rw (cast_int (pos g.year), cast_int (pos g.phase), cast_int (pos g.due), cast_int (pos g.period), cast_int (pos g.grey), cast_int (pos g.papers)) refl

pub cast_seat : (s : SeatRow) → cast_all seat_table.columns (put_seat s) ≡ put_seat s
cast_seat s = rw (cast_int (pos s.vote), cast_int (pos s.last), cast_int (pos s.sent), cast_int (pos s.items)) refl

pub cast_unit : (u : UnitRow) → cast_all unit_table.columns (put_unit u) ≡ put_unit u
cast_unit u = rw (cast_int (pos u.dislodged), cast_int (pos u.kind)) refl

pub cast_centre : (c : CentreRow) → cast_all centre_table.columns (put_centre c) ≡ put_centre c
cast_centre c = refl

pub cast_pending : (p : PendingRow) → cast_all pending_table.columns (put_pending p) ≡ put_pending p
cast_pending p = refl

pub cast_box : (b : BoxRow) → cast_all box_table.columns (put_box b) ≡ put_box b
cast_box b = rw (cast_int (pos b.number), cast_int (pos b.grey)) refl

pub cast_paper : (p : PaperRow) → cast_all paper_table.columns (put_paper p) ≡ put_paper p
cast_paper p = rw (cast_int (pos p.number)) refl

pub cast_ballot : (b : BallotRow) → cast_all ballot_table.columns (put_ballot b) ≡ put_ballot b
cast_ballot b = refl

pub cast_choice : (c : ChoiceRow) → cast_all choice_table.columns (put_choice c) ≡ put_choice c
cast_choice c = rw (cast_int (pos c.intent)) refl
