-- What the tables say of a game that is opened.
use Rattle.std.proofs.Common.{◌≡◌, ℕ, ◌<◌, ◌==◌, ◌&&◌, not, codes, true, false, List, [], ◌∷◌, ◌++◌, map, filter, length, bytes_eq, refl, sym, ap, ap₂, subst, ◌∙◌}
use Rattle.std.specs.List.{AllByRecursion}
use Rattle.std.proofs.lemmas.List.{map-append}
use Rattle.sqlite_trees.specs.Tree.{IsAscending}
use Rattle.sqlite_keyed.proofs.ListLemmas.{all-append, all-map, all_weaker}
use Rattle.dip_map.specs.Charts.{Chart, IsMap}
use Rattle.dip_map.specs.Boards.{IsOf}
use Rattle.dip_store_tables.specs.Boards.{UnitRow, CentreRow, power_name, power_in as power_numbered, board_of, unit_rows, centre_rows}
use Rattle.dip_desk_state.specs.State.{NewSeat, fresh, opening_game}
use Rattle.dip_desk_state.proofs.KeyedLemmas.{names_tell}
use Rattle.dip_desk_state.specs.Records.{Public, No}
use Rattle.dip_store_rows.specs.Tables.{GameRow, SeatRow, PendingRow, BoxRow, PaperRow, Tables, is_seat_in, is_pending_in, is_box_in, BallotRow, is_ballot, is_ballot_in}
use Rattle.dip_store_tables.specs.Votes.{vote_in, vote_on}
use Rattle.dip_store_tables.specs.Reading.{intends, kept_of, pending_of, standing_of, items_of, item_of, part_of, game_of, status_of}
use Rattle.dip_store_tables.specs.Writing.{ballot_row, game_row, seat_row, paper_row}
use Rattle.dip_store_tables.specs.Changing.{opening}
use Rattle.dip_store_tables.specs.Coding.{same_name}
use Rattle.dip_desk_state.specs.Writable.{IsStatusOf}
use Rattle.dip_store_tables.proofs.Anew.{other_choice, put_choice, put_mine, put_other, units_of_game, centres_of_game, public_back}
use Rattle.dip_store_tables.proofs.Lists.{map_on, all_passed, none_narrower, far_deleted}
use Rattle.std.proofs.lemmas.Bool.{and_parts, not-true}
use Rattle.sqlite_keyed.specs.Lists.{delete_where}
use Rattle.dip_store_tables.proofs.Ballots.{found_before, found_left, game_far, says_no}
use Rattle.dip_store_tables.proofs.Records.{power_back}
use Rattle.dip_store_tables.proofs.Seats.{name_turned}

-- a game that stands after others of other names
pub ends_apart : (gs : List GameRow) (g : GameRow) → IsAscending (λ a b. same_name a b ≡ false) (gs ++ g ∷ []) → AllByRecursion (λ a. bytes_eq a.name g.name ≡ false) gs
ends_apart [] g up = tt
ends_apart (a ∷ gs) g up = (last_of gs up.0, ends_apart gs g up.1)
  where
    last_of : (bs : List GameRow) → AllByRecursion (λ b. same_name a b ≡ false) (bs ++ g ∷ []) → bytes_eq a.name g.name ≡ false
    last_of [] all = all.0
    last_of (b ∷ bs) all = last_of bs all.1

module _ (m : Chart) (ok : IsMap m) (p : Public) (paper : List ℕ) (seats : List NewSeat) (t : Tables) where
  abbrev new : Tables
  new = opening m p paper seats t

  no_orders : (power : List ℕ) → pending_of m new.pending p.game power ≡ []
  no_orders power = ap (map (standing_of m)) (none_narrower (is_pending_in p.game) (λ q. bytes_eq q.power power) t.pending)

  no_items : (power : List ℕ) → items_of new.boxes p.game power ≡ []
  no_items power = ap (map item_of) (none_narrower (is_box_in p.game) (λ b. bytes_eq b.power power) t.boxes)

  -- the new seats' ballots say NO, and no others are of the game
  no_vote : (power : List ℕ) → vote_in m new.ballots p.game power ≡ No
  no_vote power =
      says_no m p.game power new.ballots
      (all-append (Says power) (delete_where (is_ballot_in p.game) t.ballots) (map (ballot_row m p.game) seats)
      (all_weaker _ (Says power) (λ b off mine. absurd (let here = (and_parts _ _ mine).0 in let bad = sym here ∙ not-true _ off in cc)) _ (all_passed (λ b. not (is_ballot_in p.game b)) t.ballots))
      (all-map (Says power) (ballot_row m p.game) (λ s _. refl) seats))
    where
      Says : List ℕ → BallotRow → Type 0
      Says power b = is_ballot p.game power b ≡ true → b.names ≡ codes "NO"

  fresh_seats : (ss : List NewSeat) → AllByRecursion (λ s. s.power < length m.realms) ss → map (part_of m new) (map (seat_row m p.game) ss) ≡ map fresh ss
  fresh_seats [] low = refl
  fresh_seats (s ∷ ss) low =
      let power = power_back m ok s.power low.0 in
      let orders = no_orders (power_name m s.power) in
      let items = no_items (power_name m s.power) in
      let vote = no_vote (power_name m s.power) in
      let first : part_of m new (seat_row m p.game s) ≡ fresh s =
      λ i. record { own = record { power = power i; digest = s.digest; vote = vote i; pending = orders i; kept = kept_of 0 [] []; sent = 0; items = 0 }; box = items i } in
      ap₂ ◌∷◌ first (fresh_seats ss low.1)

  opened : IsOf m p.board → IsStatusOf m p.status → AllByRecursion (λ s. s.power < length m.realms) seats → game_of m new (game_row m p.game p) ≡ opening_game p paper seats
  opened of_map status low =
      let public = public_back m ok p.game p new.units new.centres new.choices of_map status
      (put_mine (λ (u : UnitRow). u.game) p.game t.units (unit_rows m p.game p.board) (units_of_game m p.game p.board))
      (put_mine (λ (c : CentreRow). c.game) p.game t.centres (centre_rows m p.game p.board) (centres_of_game m p.game p.board))
      (put_choice p.game p.board.intent t.choices) in
      let papers = ap (map (λ (r : PaperRow). r.body)) (put_mine (λ (r : PaperRow). r.game) p.game t.papers (paper_row p.game p.papers paper ∷ []) (refl, tt)) in
      let parts = ap (map (part_of m new)) (put_mine (λ (s : SeatRow). s.game) p.game t.seats (map (seat_row m p.game) seats) (all-map (λ (s : SeatRow). s.game ≡ p.game) (seat_row m p.game) (λ s. refl) seats)) ∙ fresh_seats seats low in
      λ i. record { public = public i; papers = papers i; seats = parts i }

  -- a seat of another game
  far_part : (n : List ℕ) → bytes_eq n p.game ≡ false → (s : SeatRow) → is_seat_in n s ≡ true → part_of m new s ≡ part_of m t s
  far_part n far s h =
      let away : bytes_eq s.game p.game ≡ false = subst (λ g. bytes_eq g p.game ≡ false) (sym (names_tell.same s.game n h)) far in
      let back = name_turned s.game p.game away in
      let orders : pending_of m new.pending s.game s.power ≡ pending_of m t.pending s.game s.power =
      ap (map (standing_of m)) (far_deleted (λ (q : PendingRow). q.game) (λ q. bytes_eq q.power s.power) s.game p.game back t.pending) in
      let items : items_of new.boxes s.game s.power ≡ items_of t.boxes s.game s.power =
      ap (map item_of) (far_deleted (λ (b : BoxRow). b.game) (λ b. bytes_eq b.power s.power) s.game p.game back t.boxes) in
      let vote : vote_in m new.ballots s.game s.power ≡ vote_in m t.ballots s.game s.power =
      ap (vote_on m)
      (found_before (is_ballot s.game s.power) (delete_where (is_ballot_in p.game) t.ballots) (map (ballot_row m p.game) seats)
      (all-map (λ b. is_ballot s.game s.power b ≡ false) (ballot_row m p.game) (λ r. ap (λ c. c && bytes_eq (power_name m r.power) s.power) back) seats)
      ∙ found_left (is_ballot_in p.game) (is_ballot s.game s.power) (λ b. b) (game_far p.game s.game s.power away) t.ballots) in
      λ i. record {
        own = record { power = power_numbered m s.power; digest = s.digest; vote = vote i; pending = orders i; kept = kept_of s.last s.kept s.reply; sent = s.sent; items = s.items };
        box = items i;
      }

  far_game : (g : GameRow) → bytes_eq g.name p.game ≡ false → game_of m new g ≡ game_of m t g
  far_game g far =
      let units = put_other (λ (u : UnitRow). u.game) g.name p.game t.units (unit_rows m p.game p.board) (units_of_game m p.game p.board) far in
      let centres = put_other (λ (c : CentreRow). c.game) g.name p.game t.centres (centre_rows m p.game p.board) (centres_of_game m p.game p.board) far in
      let choice = other_choice g.name p.game p.board.intent t.choices far in
      let papers = ap (map (λ (r : PaperRow). r.body)) (put_other (λ (r : PaperRow). r.game) g.name p.game t.papers (paper_row p.game p.papers paper ∷ []) (refl, tt) far) in
      let mine = filter (is_seat_in g.name) t.seats in
      let parts : map (part_of m new) (filter (is_seat_in g.name) new.seats) ≡ map (part_of m t) mine =
      ap (map (part_of m new)) (put_other (λ (s : SeatRow). s.game) g.name p.game t.seats (map (seat_row m p.game) seats) (all-map (λ (s : SeatRow). s.game ≡ p.game) (seat_row m p.game) (λ s. refl) seats) far)
      ∙ map_on (part_of m new) (part_of m t) mine (all_weaker _ (λ s. part_of m new s ≡ part_of m t s) (far_part g.name far) mine (all_passed (is_seat_in g.name) t.seats)) in
      λ i. record {
        public = record {
          game = g.name;
          board = board_of m (units i) (centres i) g.standoff g.year g.phase (intends (choice i));
          status = status_of m g.status;
          due = g.due;
          period = g.period;
          grey = g.grey == 1;
          papers = g.papers;
        };
        papers = papers i;
        seats = parts i;
      }

  pub games_opened : IsOf m p.board → IsStatusOf m p.status → AllByRecursion (λ s. s.power < length m.realms) seats → IsAscending (λ a b. same_name a b ≡ false) new.games
      → map (game_of m new) new.games ≡ map (game_of m t) t.games ++ opening_game p paper seats ∷ []
  games_opened of_map status low apart =
      map-append (game_of m new) t.games (game_row m p.game p ∷ [])
      ∙ ap₂ ◌++◌ (map_on (game_of m new) (game_of m t) t.games (all_weaker _ (λ g. game_of m new g ≡ game_of m t g) far_game t.games (ends_apart t.games (game_row m p.game p) apart)))
      (ap (λ g. g ∷ []) (opened of_map status low))
