-- A game's row, and what the statements of a paper come to.
use Rattle.std.proofs.Common.{◌≡◌, ℕ, List, map, Bool, true, false, refl, sym, subst}
use Rattle.dip_map.specs.Charts.{Chart}
use Rattle.dip_store_tables.specs.Boards.{standoff_text}
use Rattle.dip_map.specs.Boards.{season_number}
use Rattle.dip_desk_state.specs.Records.{Public}
use Rattle.dip_desk_state.specs.State.{NewSeat}
use Rattle.dip_desk_state.specs.Texts.{status_text}
use Rattle.dip_store_tables.specs.Changing.{opening, publishing}
use Rattle.dip_store_tables.specs.Tables.{GameRow, Tables}
use Rattle.dip_store_tables.specs.Writing.{game_row, number_of, paper_row, seat_row}
use Rattle.dip_store_sql.specs.TablesAfter.{game_as, on_game, with_game, with_paper}
use Rattle.dip_store_changes.specs.Boards.{with_board}
use Rattle.dip_store_changes.specs.Seats.{choosing, more_seats, with_votes}
use Rattle.dip_store_changes.specs.Games.{cleared, pending_left}

abbrev pub row_with : Chart → List ℕ → List ℕ → List ℕ → Public → GameRow
row_with m name status standoff p = record {
  name = name;
  year = p.board.phase.year;
  phase = season_number p.board.phase.season;
  status = status;
  due = p.due;
  period = p.period;
  grey = number_of p.grey;
  papers = p.papers;
  standoff = standoff;
}

-- a row with the texts of its columns
pub row_is : (m : Chart) (p : Public) (n name s o : List ℕ) (r : GameRow) → r ≡ row_with m n s o p → n ≡ name → s ≡ status_text m p.status → o ≡ standoff_text m p.board.standoff → r ≡ game_row m name p
row_is m p n name s o r is a b c = rw (is, a, b, c) refl

pub published : (m : Chart) (name paper : List ℕ) (p : Public) (played : Bool) (t : Tables)
    → with_paper (paper_row name p.papers paper) (pending_left name played (choosing name p.board.intent (with_board m name p.board (on_game name (game_as (game_row m name p)) t)))) ≡ publishing m name p paper played t
published m name paper p true t = refl
published m name paper p false t = refl

-- and those of a new game
pub opened : (m : Chart) (p : Public) (paper : List ℕ) (seats : List NewSeat) (name : List ℕ) → name ≡ p.game → (t : Tables)
    → with_votes m name seats p.board.intent (with_paper (paper_row name p.papers paper) (with_board m name p.board (more_seats (map (seat_row m name) seats) (with_game (game_row m p.game p) (cleared name t)))))
    ≡ opening m p paper seats t
opened m p paper seats name is t =
    subst (λ n. with_votes m n seats p.board.intent (with_paper (paper_row n p.papers paper) (with_board m n p.board (more_seats (map (seat_row m n) seats) (with_game (game_row m p.game p) (cleared n t))))) ≡ opening m p paper seats t) (sym is) refl
