-- Rows that are apart, as UNIQUE has it.
use Rattle.std.specs.Prelude.{◌≡◌, Bool, false, bytes_eq}
use Rattle.sqlite_trees.specs.Tree.{IsAscending}
use Rattle.dip_store_rows.specs.Tables.{GameRow, SeatRow, Tables, is_seat}

abbrev pub same_name : GameRow → GameRow → Bool
same_name a b = bytes_eq a.name b.name

abbrev pub same_seat : SeatRow → SeatRow → Bool
same_seat a b = is_seat b.game b.power a

-- no two games have one name, and no two seats of a game one power
pub record AreApart (t : Tables) : Type 0 where
  pub games : IsAscending (λ a b. same_name a b ≡ false) t.games
  pub seats : IsAscending (λ a b. same_seat a b ≡ false) t.seats
