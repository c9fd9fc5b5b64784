-- Tables of version 1 become tables of version 2 that say the same.
use Rattle.std.proofs.Common.{◌≡◌, ◌==◌, ◌&&◌, ℕ, true, false, cond, List, [], ◌∷◌, map, filter, find, Some, option_map, is_some, bytes_eq, codes, refl, sym, ap, ap₂, ◌∙◌, inl, inr}
use Rattle.std.specs.List.{AllByRecursion}
use Rattle.std.proofs.lemmas.Bool.{cases_Bool, cond_both}
use Rattle.sqlite_trees.specs.Tree.{IsAscending}
use Rattle.sqlite_keyed.specs.Lists.{update_where}
use Rattle.sqlite_keyed.proofs.ListLemmas.{all_both, all_map, all_of, all_weaker, map_same}
use Rattle.sqlite_keyed.proofs.SliceLemmas.{any_is_found}
use Rattle.dip_map.specs.Charts.{Chart}
use Rattle.dip_desk_state.proofs.KeyedLemmas.{names_tell}
use Rattle.dip_desk_state.specs.Records.{No, Yes}
use Rattle.dip_store_tables.specs.Coding.{HasBallot, HasGame, IsSeatOf, same_seat}
use Rattle.dip_store_tables.specs.Counting.{counted, item_numbers}
use Rattle.dip_store_tables.specs.Legible.{IsDeskLegible, IsSeatLegible}
use Rattle.dip_store_tables.specs.Boards.{board_of}
use Rattle.dip_store_tables.specs.Reading.{desk_of, game_of, intent_in, items_of, own_of, papers_of, part_of, public_of}
use Rattle.dip_store_rows.specs.Tables.{DeskRow, GameRow, SeatRow, Tables, is_ballot, is_centre_in, is_choice_in, is_seat, is_seat_in, is_unit_in}
use Rattle.dip_store_tables.specs.Votes.{IsBallotText, vote_in, vote_of, vote_on}
use Rattle.dip_store_tables.specs.Written.{IsDeskWritten, IsGameWritten, IsSeatWritten}
use Rattle.dip_store_tables.specs.Renewing.{OldTablesAreRenewed, WasGameWritten, WasSeatWritten, old_ballot, old_choice, old_game_of, old_part_of, old_vote, renewed, second, voteless}

-- where no two seats agree on their key, each is found by its own
abbrev IsFound : List SeatRow → SeatRow → Type 0
IsFound seats s = find (is_seat s.game s.power) seats ≡ Some s

own_key : (s : SeatRow) → is_seat s.game s.power s ≡ true
own_key s = ap₂ ◌&&◌ (names_tell.self s.game) (names_tell.self s.power)

found_first : (x : SeatRow) (xs : List SeatRow) → IsFound (x ∷ xs) x
found_first x xs = rw (own_key x) refl

found_later : (x : SeatRow) (xs : List SeatRow) (s : SeatRow) → same_seat x s ≡ false → IsFound xs s → IsFound (x ∷ xs) s
found_later x xs s far found = rw far found

pub each_found : (xs : List SeatRow) → IsAscending (λ a b. same_seat a b ≡ false) xs → AllByRecursion (IsFound xs) xs
each_found [] up = tt
each_found (x ∷ xs) up = (found_first x xs, all_both (λ s. same_seat x s ≡ false) (IsFound xs) (IsFound (x ∷ xs)) (found_later x xs) xs up.0 (each_found xs up.1))

-- a seat's ballot is found where its row is
ballot_found : (game power : List ℕ) (xs : List SeatRow) → find (is_ballot game power) (map old_ballot xs) ≡ option_map old_ballot (find (is_seat game power) xs)
ballot_found game power [] = refl
ballot_found game power (x ∷ xs) = elim (cases_Bool (is_seat game power x)) [
  | inl e ↦ rw e refl
  | inr e ↦ rw e (ballot_found game power xs)
]

-- and says its vote
ballot_said : (m : Chart) (n : ℕ) → vote_of m (cond (n == 0) (codes "NO") (codes "YES")) ≡ old_vote n
ballot_said m n = elim (n == 0) as (λ b. vote_of m (cond b (codes "NO") (codes "YES")) ≡ cond b No Yes) [ true ↦ refl | false ↦ refl ]

module _ (m : Chart) (seats : List SeatRow) where
  abbrev Votes : SeatRow → Type 0
  Votes s = vote_in m (map old_ballot seats) s.game s.power ≡ old_vote s.vote

  votes_so : (s : SeatRow) → IsFound seats s → Votes s
  votes_so s found = ap (vote_on m) (ballot_found s.game s.power seats ∙ ap (option_map old_ballot) found) ∙ ballot_said m s.vote

  has_ballot : (s : SeatRow) → IsFound seats s → HasBallot (map old_ballot seats) s.game s.power
  has_ballot s found = any_is_found (is_ballot s.game s.power) (map old_ballot seats) ∙ ap is_some (ballot_found s.game s.power seats ∙ ap (option_map old_ballot) found)

-- so the parts of a game's seats are as they were
module _ (m : Chart) (t : Tables) where
  part_same : (s : SeatRow) → Votes m t.seats s → part_of m (renewed t) (voteless s) ≡ old_part_of m t s
  part_same s votes = ap (λ v. record { own = record (own_of m t.pending [] s) { vote = v }; box = items_of t.boxes s.game s.power }) votes

  parts_same : (name : List ℕ) (xs : List SeatRow) → AllByRecursion (Votes m t.seats) xs
      → map (part_of m (renewed t)) (filter (is_seat_in name) (map voteless xs)) ≡ map (old_part_of m t) (filter (is_seat_in name) xs)
  parts_same name [] all = refl
  parts_same name (x ∷ xs) all = elim (cases_Bool (is_seat_in name x)) [
    | inl e ↦ rw e (ap₂ ◌∷◌ (part_same x all.0) (parts_same name xs all.1))
    | inr e ↦ rw e (parts_same name xs all.1)
  ]

-- no game has the option INTENT, and each has a choice
none_intends : (gs : List GameRow) (n : List ℕ) → intent_in (map (λ g. old_choice g.name) gs) n ≡ false
none_intends [] n = refl
none_intends (g ∷ gs) n = elim (cases_Bool (bytes_eq g.name n)) [
  | inl e ↦ rw e refl
  | inr e ↦ rw e (none_intends gs n)
]

abbrev IsChosen : List GameRow → GameRow → Type 0
IsChosen gs g = find (is_choice_in g.name) (map (λ x. old_choice x.name) gs) ≡ Some (old_choice g.name)

chosen_first : (x : GameRow) (xs : List GameRow) → IsChosen (x ∷ xs) x
chosen_first x xs = rw (names_tell.self x.name) refl

chosen_later : (x : GameRow) (xs : List GameRow) (g : GameRow) → IsChosen xs g → IsChosen (x ∷ xs) g
chosen_later x xs g it = elim (cases_Bool (bytes_eq x.name g.name)) [
  | inl e ↦ rw e (ap (λ n. Some (old_choice n)) (names_tell.same x.name g.name e))
  | inr e ↦ rw e it
]

each_chosen : (xs : List GameRow) → AllByRecursion (IsChosen xs) xs
each_chosen [] = tt
each_chosen (x ∷ xs) = (chosen_first x xs, all_weaker (IsChosen xs) (IsChosen (x ∷ xs)) (chosen_later x xs) xs (each_chosen xs))

module _ (m : Chart) (t : Tables) where
  game_same : (g : GameRow) → AllByRecursion (Votes m t.seats) t.seats → game_of m (renewed t) g ≡ old_game_of m t g
  game_same g votes =
      let intent = none_intends t.games g.name in
      let parts = parts_same m t g.name t.seats votes in
      let rows = board_of m (filter (is_unit_in g.name) t.units) (filter (is_centre_in g.name) t.centres) g.standoff g.year g.phase in
      λ i. record { public = record (public_of m t.units t.centres [] g) { board = rows (intent i) }; papers = papers_of t.papers g.name; seats = parts i }

  game_written : (g : GameRow) → IsChosen t.games g → WasGameWritten m t.units t.centres g → IsGameWritten m t.units t.centres (renewed t).choices g
  game_written g chosen it = record {
    public = it.public;
    board = it.board;
    status = it.status;
    due = it.due;
    narrow = it.narrow;
    row = it.row;
    its_units = it.its_units;
    its_centres = it.its_centres;
    its_choice = chosen ∙ sym (chosen_first g []) ∙ it.its_choice;
  }

-- a master's row of version 2 says the same
desk_same : (ds : List DeskRow) → desk_of (update_where (λ d. d.id == 1) second ds) ≡ desk_of ds
desk_same [] = refl
desk_same (d ∷ ds) = elim (cases_Bool (d.id == 1)) [
  | inl e ↦ rw e refl
  | inr e ↦ rw e refl
]

all_second : (P : DeskRow → Type 0) → ((d : DeskRow) → P d → P (second d)) → (ds : List DeskRow) → AllByRecursion P ds → AllByRecursion P (update_where (λ d. d.id == 1) second ds)
all_second P step ds all =
    all_map P (λ d. cond (d.id == 1) (second d) d) ds
    (all_weaker P (λ d. P (cond (d.id == 1) (second d) d)) (λ d it. cond_both (d.id == 1) (second d) d P (λ e. step d it) (λ e. it)) ds all)

desk_written : (d : DeskRow) → IsDeskWritten d → IsDeskWritten (second d)
desk_written d it = record { digest = it.digest; letter = it.letter }

desk_one : (ds : List DeskRow) → (d : DeskRow) × (ds ≡ d ∷ []) × ((d.id == 1) ≡ true) → (d : DeskRow) × (update_where (λ d. d.id == 1) second ds ≡ d ∷ []) × ((d.id == 1) ≡ true)
desk_one ds (d, is, first) = (second d, rw is (rw first refl), first)

seat_written : (s : SeatRow) → WasSeatWritten s → IsSeatWritten (voteless s)
seat_written s it = record { digest = it.digest; vote = refl; letter = it.letter }

-- NO and YES are votes of every map
ballot_written : (m : Chart) (s : SeatRow) → IsBallotText m (old_ballot s).names
ballot_written m s = elim (s.vote == 0) as (λ b. IsBallotText m (cond b (codes "NO") (codes "YES"))) [ true ↦ (No, tt, refl) | false ↦ (Yes, tt, refl) ]

pub old_tables_are_renewed : (m : Chart) → OldTablesAreRenewed m
old_tables_are_renewed m t it apart =
    let found = each_found t.seats apart.seats in
    let votes = all_weaker (IsFound t.seats) (Votes m t.seats) (votes_so m t.seats) t.seats found in
    record {
      says = ap₂ (λ d gs. record { desk = d; games = gs }) (desk_same t.desk) (map_same (game_of m (renewed t)) (old_game_of m t) (λ g. game_same m t g votes) t.games);
      ours = record {
        map = it.map;
        coded = record {
          desk = desk_one t.desk it.desk;
          seats = all_map (IsSeatOf m) voteless t.seats it.powers;
          games = all_map (λ s. HasGame t.games s.game) voteless t.seats it.played;
          ballots = all_map (λ s. HasBallot (map old_ballot t.seats) s.game s.power) voteless t.seats (all_weaker (IsFound t.seats) (λ s. HasBallot (map old_ballot t.seats) s.game s.power) (has_ballot m t.seats) t.seats found);
        };
        written = record {
          desk = all_second IsDeskWritten desk_written t.desk it.desks;
          games = all_both (IsChosen t.games) (WasGameWritten m t.units t.centres) (IsGameWritten m t.units t.centres (renewed t).choices) (game_written m t) t.games (each_chosen t.games) it.games;
          seats = all_map IsSeatWritten voteless t.seats (all_weaker WasSeatWritten (λ s. IsSeatWritten (voteless s)) seat_written t.seats it.seats);
          pending = it.pending;
          boxes = it.boxes;
          ballots = all_map (λ b. IsBallotText m b.names) old_ballot t.seats (all_of (λ s. IsBallotText m (old_ballot s).names) (ballot_written m) t.seats);
        };
        legible = record {
          desk = all_second IsDeskLegible (λ d it. it) t.desk it.legible.desk;
          seats = all_map IsSeatLegible voteless t.seats it.legible.seats;
          pending = it.legible.pending;
          boxes = it.legible.boxes;
          papers = it.legible.papers;
        };
      };
      counted = λ is. record { papers = is.papers; items = all_map (λ s. item_numbers t.boxes s.game s.power ≡ counted s.items) voteless t.seats is.items };
    }
