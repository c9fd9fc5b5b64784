-- What a new game and a played phase take out of the tables.
use Rattle.std.specs.Prelude.{ℕ, Bool, List, if◌then◌else◌}
use Rattle.dip_store_tables.specs.Lists.{delete_where}
use Rattle.dip_store_tables.specs.Tables.{Tables, is_seat_in, is_pending_in, is_box_in, is_paper_in}

-- no seats, orders, items and papers of a game
abbrev pub cleared : List ℕ → Tables → Tables
cleared game t = record t {
  seats = delete_where (is_seat_in game) t.seats;
  pending = delete_where (is_pending_in game) t.pending;
  boxes = delete_where (is_box_in game) t.boxes;
  papers = delete_where (is_paper_in game) t.papers;
}

-- where a phase was played no order of the game stands any more
abbrev pub pending_left : List ℕ → Bool → Tables → Tables
pending_left game played t = record t { pending = if played then delete_where (is_pending_in game) t.pending else t.pending }
