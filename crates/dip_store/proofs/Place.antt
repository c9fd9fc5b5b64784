-- A change that fits leaves no key twice, and has place.
use Rattle.std.proofs.Common.{◌≡◌, ◌<◌, ◌≤◌, ◌+◌, ◌==◌, ◌&&◌, ℕ, suc, Bool, true, false, cond, List, [], ◌∷◌, ◌++◌, map, filter, find, Option, Some, None, option_map, is_some, nat_lt, bytes_eq, if◌then◌else◌, inl, inr, refl, sym, ap, ap₂, subst, ◌∙◌, arith}
use Rattle.std.specs.List.{AllByRecursion, list_any}
use Rattle.std.proofs.lemmas.Bool.{and_parts, cases_Bool, eqb-true, false≢true, ltb-true}
use Rattle.dip_store_tables.specs.Lists.{delete_where}
use Rattle.dip_store_tables.proofs.ListLemmas.{all_from_test, all_kept, all_map, all_of, all_unmap, all_weaker, ascending-filter, ascending-map, ascending_weaker}
use Rattle.dip_store_tables.proofs.SliceLemmas.{any_is_found}
use Rattle.dip_map.specs.Charts.{Chart, IsMap}
use Rattle.dip_map.specs.Boards.{IsOf, Position}
use Rattle.dip_store_tables.specs.Boards.{CentreRow, UnitRow, centre_rows, centre_rows_from, dislodged_row, power_in, power_name, standing_row, unit_rows}
use Rattle.dip_desk_keeper.specs.Fitting.{FindsPlace}
use Rattle.dip_store_tables.specs.Room.{HasRoom, SentHasRoom}
use Rattle.dip_desk_state.specs.Fitting.{FitsMap}
use Rattle.dip_desk_state.specs.Bounds.{most_items, most_sent}
use Rattle.dip_desk_state.specs.Keyed.{at}
use Rattle.dip_desk_state.specs.Writable.{IsAuthorOf}
use Rattle.dip_desk_state.proofs.KeyedLemmas.{powers_tell}
use Rattle.dip_desk_state.specs.State.{Author, Nobody, TheMaster, Seat, NewSeat, Effect, Nothing, Pending, Votes, Delivers, Opens, Publishes, Seats, has_room, may_get, may_send, name_of}
use Rattle.dip_desk_state.specs.Records.{Item, White, Grey, Kept, Public}
use Rattle.dip_store_tables.specs.Changing.{is_reader, noting, one_more, ordering, reaching}
use Rattle.dip_store_tables.specs.Coding.{AreCoded, HasGame, same_name, same_seat}
use Rattle.dip_store_tables.specs.Counting.{AreCounted, CountsOn, IsNextPaper, counted, item_numbers, paper_numbers}
use Rattle.dip_store_tables.specs.Reading.{game_of, part_of}
use Rattle.dip_store_tables.specs.Tables.{BallotRow, BoxRow, ChoiceRow, GameRow, PaperRow, PendingRow, SeatRow, Tables, is_ballot, is_ballot_in, is_box, is_box_in, is_centre_in, is_choice_in, is_named, is_paper_in, is_pending, is_pending_in, is_seat, is_seat_in, is_unit_in}
use Rattle.dip_store_tables.specs.Writing.{as_printed, ballot_noted, ballot_row, choice_row, game_row, next_row, paper_row, pending_row, seat_noted, seat_row}
use Rattle.dip_store_sql.specs.Keys.{AreKeyed, Differ, same_ballot, same_centre, same_choice, same_desk, same_item, same_order, same_paper, same_unit}
use Rattle.dip_store.specs.Laws.{WhatFitsFindsPlace}
use Rattle.dip_store.proofs.Apart.{changed_apart, first_off, found_holds, joined_apart, left_apart, none_passes, numbers_most, only_found, own_bytes, put_apart, same_bytes, second_off, turned, under_first}
use Rattle.dip_store.proofs.New.{centres_new, orders_new, seats_new, units_new}
use Rattle.dip_store_tables.proofs.Authors.{noted_keys}
use Rattle.dip_store_tables.proofs.Records.{power_back}

-- a row that isn't of a game, beside one that is
order_off : (x y : PendingRow) (n p : List ℕ) → is_pending n p x ≡ false → y.game ≡ n → y.power ≡ p → same_order x y ≡ false
order_off x y n p off a b = rw (a, b) (under_first (bytes_eq x.game n) (bytes_eq x.power p) (bytes_eq x.province y.province) off)

unit_off : (x y : UnitRow) (n : List ℕ) → is_unit_in n x ≡ false → y.game ≡ n → same_unit x y ≡ false
unit_off x y n off a = rw a (first_off (bytes_eq x.game n) (bytes_eq x.province y.province && (x.dislodged == y.dislodged)) off)

centre_off : (x y : CentreRow) (n : List ℕ) → is_centre_in n x ≡ false → y.game ≡ n → same_centre x y ≡ false
centre_off x y n off a = rw a (first_off (bytes_eq x.game n) (bytes_eq x.province y.province) off)

seat_off : (x y : SeatRow) (n : List ℕ) → is_seat_in n x ≡ false → y.game ≡ n → same_seat x y ≡ false
seat_off x y n off a = rw a (first_off (bytes_eq x.game n) (bytes_eq x.power y.power) off)

paper_off : (x y : PaperRow) (n : List ℕ) → is_paper_in n x ≡ false → y.game ≡ n → same_paper x y ≡ false
paper_off x y n off a = rw a (first_off (bytes_eq x.game n) (x.number == y.number) off)

ballot_off : (x y : BallotRow) (n : List ℕ) → is_ballot_in n x ≡ false → y.game ≡ n → same_ballot x y ≡ false
ballot_off x y n off a = rw a (first_off (bytes_eq x.game n) (bytes_eq x.power y.power) off)

choice_off : (x y : ChoiceRow) (n : List ℕ) → is_choice_in n x ≡ false → y.game ≡ n → same_choice x y ≡ false
choice_off x y n off a = rw a off

-- the ballots of seats differ as the seats do
ballots_new : (m : Chart) (name : List ℕ) (ss : List NewSeat) → Differ same_seat (map (seat_row m name) ss) → Differ same_ballot (map (ballot_row m name) ss)
ballots_new m name [] apart = tt
ballots_new m name (s ∷ ss) apart = (behind ss apart.0, ballots_new m name ss apart.1)
  where
    behind : (xs : List NewSeat) → AllByRecursion (λ y. same_seat (seat_row m name s) y ≡ false) (map (seat_row m name) xs) → AllByRecursion (λ y. same_ballot (ballot_row m name s) y ≡ false) (map (ballot_row m name) xs)
    behind [] all = tt
    behind (x ∷ xs) all = (all.0, behind xs all.1)

-- a game of the state is that of the row with its name
named_game : (m : Chart) (t : Tables) (name : List ℕ) (gs : List GameRow) → at bytes_eq name_of name (map (game_of m t) gs) ≡ option_map (game_of m t) (find (is_named name) gs)
named_game m t name [] = refl
named_game m t name (g ∷ gs) = elim (cases_Bool (bytes_eq g.name name)) [ inl e ↦ rw e refl | inr e ↦ rw e (named_game m t name gs) ]

abbrev SamePlace : SeatRow → SeatRow → Type 0
SamePlace r s = (r.game ≡ s.game) × (r.power ≡ s.power) × (r.items ≡ s.items)

next_keys : (item : Item) (s : SeatRow) → ((next_row item s).game ≡ s.game) × ((next_row item s).power ≡ s.power) × ((next_row item s).number ≡ s.items + 1)
next_keys (White writer addressees text) s = (refl, refl, refl)
next_keys (Grey to_all text) s = (refl, refl, refl)

module _ (m : Chart) (name : List ℕ) (k : Kept) (e : Effect) (t : Tables) where
  noted_keyed : (who : Author) → AreKeyed t → AreKeyed (noting m who name k e t)
  noted_keyed Nobody keyed = keyed
  noted_keyed TheMaster keyed = record {
    desk = changed_apart same_desk (λ d. d.id == 1) _ (λ a b. refl) (λ a b. refl) t.desk keyed.desk;
    games = keyed.games;
    seats = keyed.seats;
    units = keyed.units;
    centres = keyed.centres;
    pending = keyed.pending;
    boxes = keyed.boxes;
    papers = keyed.papers;
    ballots = keyed.ballots;
    choices = keyed.choices;
  }
  noted_keyed (Seat power) keyed =
      let kept = as_printed name (power_name m power) k in
      record {
        desk = keyed.desk;
        games = keyed.games;
        seats = changed_apart same_seat (is_seat name (power_name m power)) (seat_noted kept e)
            (λ a b. ap₂ (λ n p. bytes_eq n b.game && bytes_eq p b.power) (noted_keys kept e a).0 (noted_keys kept e a).1)
            (λ a b. ap₂ (λ n p. bytes_eq a.game n && bytes_eq a.power p) (noted_keys kept e b).0 (noted_keys kept e b).1) t.seats keyed.seats;
        units = keyed.units;
        centres = keyed.centres;
        pending = keyed.pending;
        boxes = keyed.boxes;
        papers = keyed.papers;
        ballots = keyed.ballots;
        choices = keyed.choices;
      }

  -- what holds of seats by their keys and counts holds of them as noted
  noted_all : (P : SeatRow → Type 0) → ((r s : SeatRow) → SamePlace r s → P s → P r) → (who : Author) → AllByRecursion P t.seats → AllByRecursion P (noting m who name k e t).seats
  noted_all P same Nobody all = all
  noted_all P same TheMaster all = all
  noted_all P same (Seat power) all =
      let kept = as_printed name (power_name m power) k in
      all_map P (λ s. cond (is_seat name (power_name m power) s) (seat_noted kept e s) s) t.seats
      (all_weaker P (λ s. P (cond (is_seat name (power_name m power) s) (seat_noted kept e s) s))
      (λ s holds. elim (cases_Bool (is_seat name (power_name m power) s)) [
        | inl mine ↦ rw mine (same (seat_noted kept e s) s (noted_keys kept e s) holds)
        | inr other ↦ rw other holds
      ]) t.seats all)

  noted_boxes : (who : Author) → (noting m who name k e t).boxes ≡ t.boxes
  noted_boxes Nobody = refl
  noted_boxes TheMaster = refl
  noted_boxes (Seat power) = refl

  noted_games : (who : Author) → (noting m who name k e t).games ≡ t.games
  noted_games Nobody = refl
  noted_games TheMaster = refl
  noted_games (Seat power) = refl

  noted_papers : (who : Author) → (noting m who name k e t).papers ≡ t.papers
  noted_papers Nobody = refl
  noted_papers TheMaster = refl
  noted_papers (Seat power) = refl

-- what is kept of a letter leaves the other tables as they are
module _ (m : Chart) (ok : IsMap m) (name : List ℕ) (t : Tables) (keyed : AreKeyed t) where
  -- a seat's standing orders
  ordered_keyed : (who : Author) (e : Effect) → FitsMap m e → AreKeyed (ordering m who name e t)
  ordered_keyed Nobody (Pending orders) fits = keyed
  ordered_keyed TheMaster (Pending orders) fits = keyed
  ordered_keyed (Seat power) (Pending orders) fits = record {
    desk = keyed.desk;
    games = keyed.games;
    seats = keyed.seats;
    units = keyed.units;
    centres = keyed.centres;
    pending = put_apart same_order (is_pending name (power_name m power)) (λ y. (y.game ≡ name) × (y.power ≡ power_name m power)) t.pending (map (pending_row m name (power_name m power)) orders)
        (λ x y off its. order_off x y name (power_name m power) off its.0 its.1) keyed.pending (orders_new m ok name (power_name m power) orders fits.0 fits.1) (all_map (λ y. (y.game ≡ name) × (y.power ≡ power_name m power)) (pending_row m name (power_name m power)) orders (all_of _ (λ o. (refl, refl)) orders));
    boxes = keyed.boxes;
    papers = keyed.papers;
    ballots = keyed.ballots;
    choices = keyed.choices;
  }
  ordered_keyed who Nothing fits = keyed
  ordered_keyed Nobody (Votes vote) fits = keyed
  ordered_keyed TheMaster (Votes vote) fits = keyed
  ordered_keyed (Seat power) (Votes vote) fits = record {
    desk = keyed.desk;
    games = keyed.games;
    seats = keyed.seats;
    units = keyed.units;
    centres = keyed.centres;
    pending = keyed.pending;
    boxes = keyed.boxes;
    papers = keyed.papers;
    ballots = changed_apart same_ballot (is_ballot name (power_name m power)) (ballot_noted m vote) (λ a b. refl) (λ a b. refl) t.ballots keyed.ballots;
    choices = keyed.choices;
  }
  ordered_keyed who (Delivers readers item) fits = keyed
  ordered_keyed who (Opens public paper seats) fits = keyed
  ordered_keyed who (Publishes public paper played) fits = keyed
  ordered_keyed who (Seats seat) fits = keyed

  -- a board
  board_units : (b : Position) → IsOf m b → Differ same_unit (delete_where (is_unit_in name) t.units ++ unit_rows m name b)
  board_units b of =
      put_apart same_unit (is_unit_in name) (λ y. y.game ≡ name) t.units (unit_rows m name b) (λ x y off its. unit_off x y name off its) keyed.units (units_new m ok name b of)
      (all_joined (λ y. y.game ≡ name) (map (standing_row m name) b.units) (map (dislodged_row m name) b.dislodged) (all_map (λ y. y.game ≡ name) (standing_row m name) b.units (all_of _ (λ u. refl) b.units)) (all_map (λ y. y.game ≡ name) (dislodged_row m name) b.dislodged (all_of _ (λ d. refl) b.dislodged)))
    where
      all_joined : (P : UnitRow → Type 0) (xs ys : List UnitRow) → AllByRecursion P xs → AllByRecursion P ys → AllByRecursion P (xs ++ ys)
      all_joined P [] ys one two = two
      all_joined P (x ∷ xs) ys one two = (one.0, all_joined P xs ys one.1 two)

  centres_named : (p : ℕ) (os : List (Option ℕ)) → AllByRecursion (λ y. y.game ≡ name) (centre_rows_from m name p os)
  centres_named p [] = tt
  centres_named p (None ∷ os) = centres_named (suc p) os
  centres_named p (Some r ∷ os) = (refl, centres_named (suc p) os)

  board_centres : (b : Position) → IsOf m b → Differ same_centre (delete_where (is_centre_in name) t.centres ++ centre_rows m name b)
  board_centres b of =
      put_apart same_centre (is_centre_in name) (λ y. y.game ≡ name) t.centres (centre_rows m name b) (λ x y off its. centre_off x y name off its) keyed.centres
      (centres_new m ok name 0 b.owners (omega (arith, of.owners_count))) (centres_named 0 b.owners)

  -- a paper with the next number
  paper_more : (n : ℕ) (paper : List ℕ) → AllByRecursion (λ p. is_paper_in name p ≡ true → p.number < n) t.papers → Differ same_paper (t.papers ++ paper_row name n paper ∷ [])
  paper_more n paper less =
      joined_apart same_paper t.papers (paper_row name n paper ∷ []) keyed.papers (tt, tt)
      (all_weaker (λ p. is_paper_in name p ≡ true → p.number < n) (λ p. AllByRecursion (λ y. same_paper p y ≡ false) (paper_row name n paper ∷ [])) (λ p below. (off p below, tt)) t.papers less)
    where
      off : (p : PaperRow) → (is_paper_in name p ≡ true → p.number < n) → (bytes_eq p.game name && (p.number == n)) ≡ false
      off p below = elim (cases_Bool (bytes_eq p.game name)) [
        | inl mine ↦ elim (cases_Bool (p.number == n)) [
          | inl e ↦ absurd (let same = eqb-true p.number n e in let low = below mine in omega (arith, same, low))
          | inr e ↦ second_off (bytes_eq p.game name) (p.number == n) e
        ]
        | inr far ↦ first_off (bytes_eq p.game name) (p.number == n) far
      ]

  -- an item more in the inbox of each reader
  items_more : (p : SeatRow → Bool) (item : Item) → AllByRecursion (λ s. item_numbers t.boxes s.game s.power ≡ counted s.items) t.seats → Differ same_item (t.boxes ++ map (next_row item) (filter p t.seats))
  items_more p item has =
      joined_apart same_item t.boxes (map (next_row item) (filter p t.seats)) keyed.boxes
      (ascending-map (λ a b. same_item a b ≡ false) (next_row item) (filter p t.seats)
      (ascending_weaker (λ a b. same_seat a b ≡ false) (λ a b. same_item (next_row item a) (next_row item b) ≡ false)
      (λ a b off. rw ((next_keys item a).0, (next_keys item a).1, (next_keys item b).0, (next_keys item b).1) (under_first (bytes_eq a.game b.game) (bytes_eq a.power b.power) ((next_row item a).number == (next_row item b).number) off)) (filter p t.seats) (ascending-filter _ p t.seats keyed.seats)))
      (turned (λ b y. same_item b y ≡ false) t.boxes (map (next_row item) (filter p t.seats))
      (all_map (λ y. AllByRecursion (λ b. same_item b y ≡ false) t.boxes) (next_row item) (filter p t.seats) (picked t.seats (all_weaker _ (λ s. AllByRecursion (λ b. same_item b (next_row item s) ≡ false) t.boxes) fresh t.seats has))))
    where
      picked : (ss : List SeatRow) → AllByRecursion (λ s. AllByRecursion (λ b. same_item b (next_row item s) ≡ false) t.boxes) ss → AllByRecursion (λ s. AllByRecursion (λ b. same_item b (next_row item s) ≡ false) t.boxes) (filter p ss)
      picked [] all = tt
      picked (s ∷ ss) all = elim (cases_Bool (p s)) [ inl e ↦ rw e (all.0, picked ss all.1) | inr e ↦ rw e (picked ss all.1) ]

      number_off : (b : BoxRow) (s : SeatRow) → (is_box s.game s.power b ≡ true → b.number ≤ s.items) → (bytes_eq b.game s.game && (bytes_eq b.power s.power && (b.number == s.items + 1))) ≡ false
      number_off b s most = elim (cases_Bool (is_box s.game s.power b)) [
        | inl mine ↦ elim (cases_Bool (b.number == s.items + 1)) [
          | inl e ↦ absurd (let same = eqb-true b.number (s.items + 1) e in let low = most mine in omega (arith, same, low))
          | inr e ↦ second_off (bytes_eq b.game s.game) (bytes_eq b.power s.power && (b.number == s.items + 1)) (second_off (bytes_eq b.power s.power) (b.number == s.items + 1) e)
        ]
        | inr far ↦ under_first (bytes_eq b.game s.game) (bytes_eq b.power s.power) (b.number == s.items + 1) far
      ]

      fresh : (s : SeatRow) → item_numbers t.boxes s.game s.power ≡ counted s.items → AllByRecursion (λ b. same_item b (next_row item s) ≡ false) t.boxes
      fresh s are =
          all_weaker (λ b. is_box s.game s.power b ≡ true → b.number ≤ s.items) (λ b. same_item b (next_row item s) ≡ false)
          (λ b most. rw ((next_keys item s).0, (next_keys item s).1, (next_keys item s).2) (number_off b s most)) t.boxes (numbers_most (is_box s.game s.power) (λ b. b.number) s.items t.boxes are)

-- two games of one name are the same by their key
games_meet : (name : List ℕ) (a b : GameRow) → is_named name a ≡ true → is_named name b ≡ true → same_name a b ≡ true
games_meet name a b one two = subst (λ n. bytes_eq a.name n ≡ true) (same_bytes a.name name one ∙ sym (same_bytes b.name name two)) (own_bytes a.name)

module _ (m : Chart) (ok : IsMap m) (t : Tables) (coded : AreCoded m t) (counts : AreCounted t) (keyed : AreKeyed t) (name : List ℕ) where
  -- a seat that has room for press, where it is of the game
  abbrev HasPlace : Author → List ℕ → SeatRow → Type 0
  HasPlace who readers s = is_seat_in name s ≡ true → has_room who readers (part_of m t s).own ≡ true

  -- the seats of the game have room
  seats_room : (who : Author) (g : Option GameRow) (readers : List ℕ) (item : Item) → find (is_named name) t.games ≡ g → FindsPlace name who (Delivers readers item) (option_map (game_of m t) g)
      → AllByRecursion (HasPlace who readers) t.seats
  seats_room who None readers item none place =
      all_weaker (λ s. HasGame t.games s.game) (HasPlace who readers) (λ s has mine. absurd (
      let here = subst (HasGame t.games) (same_bytes s.game name mine) has in
      let bad = sym here ∙ any_is_found (is_named name) t.games ∙ ap is_some none in cc)) t.seats coded.games
  seats_room who (Some g) readers item some place =
      let named = same_bytes g.name name (found_holds (λ x. Unit {0}) (is_named name) t.games g some (all_of _ (λ x. tt) t.games)).1 in
      all_kept (λ s. has_room who readers (part_of m t s).own ≡ true) (is_seat_in name) t.seats
      (subst (λ n. AllByRecursion (λ s. has_room who readers (part_of m t s).own ≡ true) (filter (is_seat_in n) t.seats)) named
      (all_unmap (λ p. has_room who readers p.own ≡ true) (part_of m t) (filter (is_seat_in g.name) t.seats)
      (all_from_test (λ p. has_room who readers p.own) (map (part_of m t) (filter (is_seat_in g.name) t.seats)) place)))

  press_room : (who : Author) (readers : List ℕ) (item : Item) → IsAuthorOf m who → AllByRecursion (HasPlace who readers) t.seats → HasRoom m who name (Delivers readers item) t
  press_room who readers item of all = (sent who of all, few t.seats all)
    where
      below : (b : Bool) (n most : ℕ) → b ≡ true → cond b (nat_lt n most) true ≡ true → n < most
      below true n most e less = ltb-true n most less
      below false n most e less = absurd (false≢true e)

      sent : (who : Author) → IsAuthorOf m who → AllByRecursion (HasPlace who readers) t.seats → SentHasRoom m who name t.seats
      sent Nobody of all = tt
      sent TheMaster of all = tt
      sent (Seat p) of all =
          all_weaker (HasPlace (Seat p) readers) (λ s. is_seat name (power_name m p) s ≡ true → s.sent < most_sent)
          (λ s has mine.
          let keys = and_parts (is_seat_in name s) (bytes_eq s.power (power_name m p)) mine in
          let both = and_parts (may_send (Seat p) (part_of m t s).own) (may_get readers (part_of m t s).own) (has keys.0) in
          let same : power_in m s.power ≡ p = ap (power_in m) (same_bytes s.power (power_name m p) keys.1) ∙ power_back m ok p of in
          below (p == power_in m s.power) s.sent most_sent (subst (λ q. (p == q) ≡ true) (sym same) (powers_tell.self p)) both.0) t.seats all

      few : (ss : List SeatRow) → AllByRecursion (HasPlace who readers) ss → AllByRecursion (λ s. s.items < most_items) (filter (is_reader m name readers) ss)
      few [] all = tt
      few (s ∷ ss) all = elim (cases_Bool (is_reader m name readers s)) [
        | inl e ↦
            let keys = and_parts (is_seat_in name s) (list_any (λ p. p == power_in m s.power) readers) e in
            let both = and_parts (may_send who (part_of m t s).own) (may_get readers (part_of m t s).own) (all.0 keys.0) in
            rw e (below (list_any (λ p. p == power_in m s.power) readers) s.items most_items keys.1 both.1, few ss all.1)
        | inr e ↦ rw e (few ss all.1)
      ]

  -- the game of a paper, and the papers that it has
  paper_next : (who : Author) (g : Option GameRow) (p : Public) (paper : List ℕ) (played : Bool) → find (is_named name) t.games ≡ g
      → FindsPlace name who (Publishes p paper played) (option_map (game_of m t) g)
      → AllByRecursion (λ g. is_named name g ≡ true → IsNextPaper p.papers g) t.games × AllByRecursion (λ r. is_paper_in name r ≡ true → r.number < p.papers) t.papers
  paper_next who None p paper played none place = absurd place
  paper_next who (Some g) p paper played some place =
      let found = found_holds (λ x. paper_numbers t.papers x.name ≡ counted x.papers) (is_named name) t.games g some counts.papers in
      let named = same_bytes g.name name found.1 in (
        only_found same_name (is_named name) (games_meet name) (λ x. IsNextPaper p.papers x) t.games g keyed.games some place,
        all_weaker (λ r. is_paper_in name r ≡ true → r.number ≤ g.papers) (λ r. is_paper_in name r ≡ true → r.number < p.papers) (λ r most mine. let low = most mine in let next = place.0 in omega (arith, low, next)) t.papers
            (numbers_most (is_paper_in name) (λ r. r.number) g.papers t.papers (subst (λ n. paper_numbers t.papers n ≡ counted g.papers) named found.0)),
      )

  place_found : (who : Author) (e : Effect) → IsAuthorOf m who → FitsMap m e → FindsPlace name who e (option_map (game_of m t) (find (is_named name) t.games)) → CountsOn name e t.games × HasRoom m who name e t
  place_found who Nothing of fits place = (tt, tt)
  place_found who (Pending orders) of fits place = (tt, tt)
  place_found who (Votes vote) of fits place = (tt, tt)
  place_found who (Delivers readers item) of fits place = (tt, press_room who readers item of (seats_room who (find (is_named name) t.games) readers item refl place))
  place_found who (Opens public paper seats) of fits place = (fits.1, tt)
  place_found who (Publishes public paper played) of fits place = ((paper_next who (find (is_named name) t.games) public paper played refl place).0, tt)
  place_found who (Seats seat) of fits place = (tt, tt)

  -- the effect, on the tables that have what is kept of the letter
  module _ (who : Author) (k : Kept) where
    reached_keyed : (e : Effect) → FitsMap m e → FindsPlace name who e (option_map (game_of m t) (find (is_named name) t.games)) → AreKeyed (reaching m name e (ordering m who name e (noting m who name k e t)))
    reached_keyed Nothing fits place = ordered_keyed m ok name _ (noted_keyed m name k Nothing t who keyed) who Nothing fits
    reached_keyed (Pending orders) fits place = ordered_keyed m ok name _ (noted_keyed m name k (Pending orders) t who keyed) who (Pending orders) fits
    reached_keyed (Votes vote) fits place = ordered_keyed m ok name _ (noted_keyed m name k (Votes vote) t who keyed) who (Votes vote) fits
    reached_keyed (Delivers readers item) fits place =
        let e = Delivers readers item in
        let u = noting m who name k e t in
        let held = noted_keyed m name k e t who keyed in
        let has : AllByRecursion (λ s. item_numbers u.boxes s.game s.power ≡ counted s.items) u.seats =
        noted_all m name k e t (λ s. item_numbers u.boxes s.game s.power ≡ counted s.items)
        (λ r s same it. rw (same.0, same.1, same.2) it) who
        (subst (λ bs. AllByRecursion (λ s. item_numbers bs s.game s.power ≡ counted s.items) t.seats) (sym (noted_boxes m name k e t who)) counts.items) in
        record {
          desk = held.desk;
          games = held.games;
          seats = changed_apart same_seat (is_reader m name readers) one_more (λ a b. refl) (λ a b. refl) u.seats held.seats;
          units = held.units;
          centres = held.centres;
          pending = held.pending;
          boxes = items_more m ok name u held (is_reader m name readers) item has;
          papers = held.papers;
          ballots = held.ballots;
          choices = held.choices;
        }
    reached_keyed (Opens public paper seats) fits place =
        let e = Opens public paper seats in
        let u = noting m who name k e t in
        let held = noted_keyed m name k e t who keyed in
        let own = place.0 in
        let free : AllByRecursion (λ g. is_named public.game g ≡ false) u.games =
        subst (λ gs. AllByRecursion (λ g. is_named public.game g ≡ false) gs) (sym (noted_games m name k e t who)) (subst (λ n. AllByRecursion (λ g. is_named n g ≡ false) t.games) (sym own) (none_passes (is_named name) t.games (no_game (find (is_named name) t.games) place.1))) in
        record {
          desk = held.desk;
          games = joined_apart same_name u.games (game_row m public.game public ∷ []) held.games (tt, tt) (all_weaker (λ g. is_named public.game g ≡ false) _ (λ g far. (far, tt)) u.games free);
          seats = put_apart same_seat (is_seat_in public.game) (λ y. y.game ≡ public.game) u.seats (map (seat_row m public.game) seats) (λ x y off its. seat_off x y public.game off its) held.seats (seats_new m ok public.game seats fits.2 fits.3) (all_map (λ y. y.game ≡ public.game) (seat_row m public.game) seats (all_of _ (λ s. refl) seats));
          units = board_units m ok public.game u held public.board fits.0.board;
          centres = board_centres m ok public.game u held public.board fits.0.board;
          pending = left_apart same_order (is_pending_in public.game) u.pending held.pending;
          boxes = left_apart same_item (is_box_in public.game) u.boxes held.boxes;
          papers = put_apart same_paper (is_paper_in public.game) (λ y. y.game ≡ public.game) u.papers (paper_row public.game public.papers paper ∷ []) (λ x y off its. paper_off x y public.game off its) held.papers (tt, tt) (refl, tt);
          ballots = put_apart same_ballot (is_ballot_in public.game) (λ y. y.game ≡ public.game) u.ballots (map (ballot_row m public.game) seats) (λ x y off its. ballot_off x y public.game off its) held.ballots
              (ballots_new m public.game seats (seats_new m ok public.game seats fits.2 fits.3)) (all_map (λ y. y.game ≡ public.game) (ballot_row m public.game) seats (all_of _ (λ s. refl) seats));
          choices = put_apart same_choice (is_choice_in public.game) (λ y. y.game ≡ public.game) u.choices (choice_row public.game public.board.intent ∷ []) (λ x y off its. choice_off x y public.game off its) held.choices (tt, tt) (refl, tt);
        }
      where
        no_game : (g : Option GameRow) → option_map (game_of m t) g ≡ None → g ≡ None
        no_game None none = refl
        no_game (Some x) none = absurd (cc)
    reached_keyed (Publishes public paper played) fits place =
        let e = Publishes public paper played in
        let u = noting m who name k e t in
        let held = noted_keyed m name k e t who keyed in
        let less = subst (λ ps. AllByRecursion (λ r. is_paper_in name r ≡ true → r.number < public.papers) ps) (sym (noted_papers m name k e t who)) (paper_next who (find (is_named name) t.games) public paper played refl place).1 in
        record {
          desk = held.desk;
          games = changed_apart same_name (is_named name) (λ g. game_row m g.name public) (λ a b. refl) (λ a b. refl) u.games held.games;
          seats = held.seats;
          units = board_units m ok name u held public.board fits.board;
          centres = board_centres m ok name u held public.board fits.board;
          pending = orders_left played u.pending held.pending;
          boxes = held.boxes;
          papers = paper_more m ok name u held public.papers paper less;
          ballots = held.ballots;
          choices = put_apart same_choice (is_choice_in name) (λ y. y.game ≡ name) u.choices (choice_row name public.board.intent ∷ []) (λ x y off its. choice_off x y name off its) held.choices (tt, tt) (refl, tt);
        }
      where
        orders_left : (played : Bool) (ps : List _) → Differ same_order ps → Differ same_order (if played then delete_where (is_pending_in name) ps else ps)
        orders_left true ps apart = left_apart same_order (is_pending_in name) ps apart
        orders_left false ps apart = apart
    reached_keyed (Seats seat) fits place =
        let e = Seats seat in
        let u = noting m who name k e t in
        let held = noted_keyed m name k e t who keyed in
        record {
          desk = held.desk;
          games = held.games;
          seats = changed_apart same_seat (is_seat name (power_name m seat.power)) _ (λ a b. refl) (λ a b. refl) u.seats held.seats;
          units = held.units;
          centres = held.centres;
          pending = held.pending;
          boxes = held.boxes;
          papers = held.papers;
          ballots = held.ballots;
          choices = held.choices;
        }

pub fits_finds_place : (m : Chart) → WhatFitsFindsPlace m
fits_finds_place m c t ok coded counts keyed fits =
    let place = subst (FindsPlace c.game c.author c.effect) (named_game m t c.game t.games) fits.effect.1 in
    let has = place_found m ok t coded counts keyed c.game c.author c.effect fits.author fits.effect.0 place in
    record {
      keyed = reached_keyed m ok t coded counts keyed c.game c.author c.kept c.effect fits.effect.0 place;
      paper = has.0;
      room = has.1;
    }
