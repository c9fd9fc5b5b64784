-- Records as the queries show them, and the tests that find them.
use Rattle.std.specs.Prelude.{ℕ, pos, ◌==◌, ◌&&◌, Bool, List, [], ◌∷◌, bytes_eq}
use Rattle.sqlite.specs.declared.types.Value.TheVariants.{Int, Text as Words, Blob as Bytes}
use Rattle.sqlite.specs.Order.{Row}
use Rattle.dip_store_rows.specs.Tables.{UnitRow, CentreRow}
use Rattle.dip_store_rows.specs.Tables.{DeskRow, GameRow, SeatRow, PendingRow, BoxRow, PaperRow, BallotRow, ChoiceRow}

abbrev pub show_desk : DeskRow → Row
show_desk d =
    Int (pos d.version) ∷ Bytes d.map ∷ Bytes d.digest ∷ Int (pos d.last) ∷ Bytes d.kept ∷
    Words d.reply ∷ []

abbrev pub show_game : GameRow → Row
show_game g =
    Int (pos g.year) ∷ Int (pos g.phase) ∷ Words g.status ∷ Int (pos g.due) ∷ Int (pos g.period) ∷
    Int (pos g.grey) ∷ Int (pos g.papers) ∷ Words g.standoff ∷ []

abbrev pub show_seat : SeatRow → Row
show_seat s =
    Bytes s.digest ∷ Int (pos s.vote) ∷ Int (pos s.last) ∷ Bytes s.kept ∷ Words s.reply ∷
    Int (pos s.sent) ∷ Int (pos s.items) ∷ []

abbrev pub show_digest : SeatRow → Row
show_digest s = Bytes s.digest ∷ []

abbrev pub show_item : BoxRow → Row
show_item b = Int (pos b.grey) ∷ Words b.writer ∷ Words b.addressees ∷ Words b.body ∷ []

abbrev pub show_paper : PaperRow → Row
show_paper p = Words p.body ∷ []

abbrev pub show_listed : SeatRow → Row
show_listed s =
    Words s.power ∷ Bytes s.digest ∷ Int (pos s.vote) ∷ Int (pos s.last) ∷ Bytes s.kept ∷
    Words s.reply ∷ Int (pos s.sent) ∷ Int (pos s.items) ∷ []

abbrev pub show_unit : UnitRow → Row
show_unit u =
    Words u.province ∷ Int (pos u.dislodged) ∷ Words u.power ∷ Int (pos u.kind) ∷ Words u.coast ∷
    Words u.origin ∷ []

abbrev pub show_centre : CentreRow → Row
show_centre c = Words c.province ∷ Words c.power ∷ []

abbrev pub show_order : PendingRow → Row
show_order p = Words p.province ∷ Words p.line ∷ []

abbrev pub show_ballot : BallotRow → Row
show_ballot b = Words b.names ∷ []

abbrev pub show_choice : ChoiceRow → Row
show_choice c = Int (pos c.intent) ∷ []

abbrev pub show_name : GameRow → Row
show_name g = Words g.name ∷ []

abbrev pub show_vote : SeatRow → Row
show_vote s = Words s.game ∷ Words s.power ∷ Int (pos s.vote) ∷ []

-- an item of an inbox by its number, and a paper of a game
abbrev pub is_item : List ℕ → List ℕ → ℕ → BoxRow → Bool
is_item game power number b = bytes_eq b.game game && (bytes_eq b.power power && (b.number == number))

abbrev pub is_numbered : List ℕ → ℕ → PaperRow → Bool
is_numbered game number p = bytes_eq p.game game && (p.number == number)
