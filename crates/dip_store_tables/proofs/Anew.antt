-- Rows of a game that are taken out and put in anew.
use Rattle.std.proofs.Common.{◌≡◌, ℕ, suc, Bool, true, false, List, [], ◌∷◌, ◌++◌, map, filter, find, Option, Some, None, bytes_eq, refl, sym, ap, ap₂, subst, ◌∙◌, append-nil, map-id, inl, inr}
use Rattle.std.specs.List.{AllByRecursion}
use Rattle.std.proofs.lemmas.Bool.{cases_Bool}
use Rattle.std.proofs.lemmas.List.Elements.{filter-append}
use Rattle.sqlite_keyed.specs.Lists.{delete_where}
use Rattle.sqlite_keyed.proofs.ListLemmas.{all-append, all-map, all_weaker, filter_all, filter_none}
use Rattle.sqlite_keyed.proofs.SliceLemmas.{slice-delete_other}
use Rattle.dip_map.specs.Charts.{Chart, IsMap}
use Rattle.dip_map.specs.Boards.{Position, IsOf, season_number}
use Rattle.dip_store_tables.specs.Boards.{UnitRow, CentreRow, unit_rows, centre_rows, centre_rows_from, standing_row, dislodged_row, standoff_text, board_of}
use Rattle.dip_store_tables.proofs.Returns.{board_back}
use Rattle.dip_desk_state.proofs.KeyedLemmas.{names_tell}
use Rattle.dip_desk_state.specs.Records.{Public}
use Rattle.dip_store_rows.specs.Tables.{ChoiceRow, is_unit_in, is_centre_in, is_choice_in}
use Rattle.dip_store_tables.specs.Reading.{intends, intent_in, public_of}
use Rattle.dip_store_tables.specs.Writing.{choice_row, game_row}
use Rattle.dip_desk_state.specs.Writable.{IsStatusOf}
use Rattle.dip_store_tables.proofs.Ballots.{found_before, found_left}
use Rattle.dip_store_tables.proofs.Lists.{none_left}
use Rattle.dip_store_tables.proofs.Letters.{number_back}
use Rattle.dip_store_tables.proofs.Records.{status_back}
use Rattle.dip_store_tables.proofs.Seats.{name_turned}

module _ {A : Type 0} (game : A → List ℕ) where
  abbrev pub is_in : List ℕ → A → Bool
  is_in n x = bytes_eq (game x) n

  -- the game's rows are those that were put in
  pub put_mine : (n : List ℕ) (xs rows : List A) → AllByRecursion (λ r. game r ≡ n) rows → filter (is_in n) (delete_where (is_in n) xs ++ rows) ≡ rows
  put_mine n xs rows all =
      filter-append (is_in n) (delete_where (is_in n) xs) rows ∙ ap (λ ys. ys ++ filter (is_in n) rows) (none_left (is_in n) xs)
      ∙ filter_all (is_in n) rows (all_weaker _ (λ r. is_in n r ≡ true) (λ r e. subst (λ g. bytes_eq g n ≡ true) (sym e) (names_tell.self n)) rows all)

  away : (n k : List ℕ) → bytes_eq n k ≡ false → (r : A) → game r ≡ k → is_in n r ≡ false
  away n k far r e = subst (λ g. bytes_eq g n ≡ false) (sym e) (name_turned n k far)

  -- and those of other games are as they were
  pub left_other : {B : Type 0} (show : A → B) (n k : List ℕ) (xs : List A) → bytes_eq n k ≡ false → map show (filter (is_in n) (delete_where (is_in k) xs)) ≡ map show (filter (is_in n) xs)
  left_other show n k xs far = slice-delete_other (is_in n) show (is_in k) (λ r h. away n k far r (names_tell.same (game r) k h)) xs

  pub more_other : (n k : List ℕ) (xs rows : List A) → AllByRecursion (λ r. game r ≡ k) rows → bytes_eq n k ≡ false → filter (is_in n) (xs ++ rows) ≡ filter (is_in n) xs
  more_other n k xs rows all far =
      filter-append (is_in n) xs rows
      ∙ ap (λ ys. filter (is_in n) xs ++ ys) (filter_none (is_in n) rows (all_weaker _ (λ r. is_in n r ≡ false) (away n k far) rows all))
      ∙ append-nil (filter (is_in n) xs)

  pub put_other : (n k : List ℕ) (xs rows : List A) → AllByRecursion (λ r. game r ≡ k) rows → bytes_eq n k ≡ false → filter (is_in n) (delete_where (is_in k) xs ++ rows) ≡ filter (is_in n) xs
  put_other n k xs rows all far =
      more_other n k (delete_where (is_in k) xs) rows all far
      ∙ sym (map-id (filter (is_in n) (delete_where (is_in k) xs))) ∙ left_other (λ x. x) n k xs far ∙ map-id (filter (is_in n) xs)

-- each row of a board is of its game
pub units_of_game : (m : Chart) (n : List ℕ) (b : Position) → AllByRecursion (λ (u : UnitRow). u.game ≡ n) (unit_rows m n b)
units_of_game m n b =
    all-append (λ (u : UnitRow). u.game ≡ n) (map (standing_row m n) b.units) (map (dislodged_row m n) b.dislodged)
    (all-map (λ (u : UnitRow). u.game ≡ n) (standing_row m n) (λ u. refl) b.units) (all-map (λ (u : UnitRow). u.game ≡ n) (dislodged_row m n) (λ d. refl) b.dislodged)

centres_from : (m : Chart) (n : List ℕ) (p : ℕ) (os : List (Option ℕ)) → AllByRecursion (λ (c : CentreRow). c.game ≡ n) (centre_rows_from m n p os)
centres_from m n p [] = tt
centres_from m n p (None ∷ os) = centres_from m n (suc p) os
centres_from m n p (Some r ∷ os) = (refl, centres_from m n (suc p) os)

pub centres_of_game : (m : Chart) (n : List ℕ) (b : Position) → AllByRecursion (λ (c : CentreRow). c.game ≡ n) (centre_rows m n b)
centres_of_game m n b = centres_from m n 0 b.owners

-- a game's choice is the one that was put in, and those of other games are as they were
pub put_choice : (n : List ℕ) (b : Bool) (cs : List ChoiceRow) → find (is_choice_in n) (delete_where (is_choice_in n) cs ++ choice_row n b ∷ []) ≡ Some (choice_row n b)
put_choice n b [] = rw (names_tell.self n) refl
put_choice n b (c ∷ cs) = elim (cases_Bool (is_choice_in n c)) [
  | inl e ↦ rw e (put_choice n b cs)
  | inr e ↦ rw (e, e) (put_choice n b cs)
]

pub other_choice : (n k : List ℕ) (b : Bool) (cs : List ChoiceRow) → bytes_eq n k ≡ false
    → find (is_choice_in n) (delete_where (is_choice_in k) cs ++ choice_row k b ∷ []) ≡ find (is_choice_in n) cs
other_choice n k b cs far =
    found_before (is_choice_in n) (delete_where (is_choice_in k) cs) (choice_row k b ∷ []) (name_turned n k far, tt)
    ∙ found_left (is_choice_in k) (is_choice_in n) (λ c. c) (λ c mine. away (λ (x : ChoiceRow). x.game) n k far c (names_tell.same c.game k mine)) cs

-- the public part is read back
pub public_back : (m : Chart) → IsMap m → (n : List ℕ) (p : Public) (units : List UnitRow) (centres : List CentreRow) (choices : List ChoiceRow) → IsOf m p.board → IsStatusOf m p.status
    → filter (is_unit_in n) units ≡ unit_rows m n p.board → filter (is_centre_in n) centres ≡ centre_rows m n p.board
    → find (is_choice_in n) choices ≡ Some (choice_row n p.board.intent) → public_of m units centres choices (game_row m n p) ≡ record p { game = n }
public_back m ok n p units centres choices of_map status us cs chosen =
    let intent : intent_in choices n ≡ p.board.intent = ap intends chosen ∙ number_back p.board.intent in
    let standoff = standoff_text m p.board.standoff in
    let season = season_number p.board.phase.season in
    let rows = ap₂ (λ x y. board_of m x y standoff p.board.phase.year season (intent_in choices n)) us cs in
    let board = rows ∙ ap (board_of m (unit_rows m n p.board) (centre_rows m n p.board) standoff p.board.phase.year season) intent ∙ board_back m ok p.board of_map n in
    let said = status_back m ok p.status status in
    let grey = number_back p.grey in
    λ i. record { game = n; board = board i; status = said i; due = p.due; period = p.period; grey = grey i; papers = p.papers }
