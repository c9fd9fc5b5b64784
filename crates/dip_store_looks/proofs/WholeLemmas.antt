-- What the rows of a game's seats show is what their records say; and what the master's row shows.
use Rattle.std.proofs.Common.{◌≡◌, ℕ, List, [], ◌∷◌, map, filter, option_map, Option, Some, None, Result, Ok, Err, IfOk, refl, sym, ap, ap₂, ◌∙◌, inl, inr}
use Rattle.std.specs.List.{find}
use Rattle.std.proofs.lemmas.Bool.{cases_Bool}
use Rattle.std.proofs.lemmas.Slice.Eq.{bytes_eq-Decides}
use Rattle.sqlite.specs.Order.{Row}
use Rattle.dip_map.specs.Charts.{Chart}
use Rattle.dip_desk_state.specs.Records.{Own, Public}
use Rattle.dip_store_sql.specs.Showing.{show_desk, show_listed}
use Rattle.dip_store_sql.specs.TablesAfter.{is_first}
use Rattle.dip_store_tables.specs.Coding.{AreCoded}
use Rattle.dip_store_tables.specs.Reading.{desk_of, own_of, pending_of, public_of, state_of}
use Rattle.dip_store_tables.specs.Tables.{GameRow, SeatRow, Tables, is_named, is_pending, is_seat_in}
use Rattle.dip_store_tables.specs.Votes.{vote_in}
use Rattle.dip_store_looks.specs.Asked.{owns_in, whole_in}
use Rattle.dip_store_looks.specs.Shown.{listed_own, shown_desk}
use Rattle.dip_store_looks.proofs.OwnLemmas.{orders_shown}
use Rattle.dip_store_looks.proofs.PublicLemmas.{found_named}

module _ (m : Chart) where
  own_listed : (t : Tables) (name : List ℕ) (s : SeatRow) → s.game ≡ name → listed_own m t name (show_listed s) ≡ own_of m t.pending t.ballots s
  own_listed t name s named =
      let mine = orders_shown m (filter (is_pending name s.power) t.pending) ∙ ap (λ n. pending_of m t.pending n s.power) (sym named) in
      let votes : vote_in m t.ballots name s.power ≡ vote_in m t.ballots s.game s.power = ap (λ n. vote_in m t.ballots n s.power) (sym named) in
      λ i. record (own_of m t.pending t.ballots s) { vote = votes i; pending = mine i }

  owns_listed : (t : Tables) (name : List ℕ) (ss : List SeatRow)
      → map (listed_own m t name) (map show_listed (filter (is_seat_in name) ss)) ≡ map (own_of m t.pending t.ballots) (filter (is_seat_in name) ss)
  owns_listed t name [] = refl
  owns_listed t name (s ∷ ss) = elim (cases_Bool (is_seat_in name s)) [
    | inl hit ↦ rw hit (ap₂ ◌∷◌ (own_listed t name s ((bytes_eq-Decides s.game name).0 hit)) (owns_listed t name ss))
    | inr off ↦ rw off (owns_listed t name ss)
  ]

  -- of a whole answer
  pub seats_are : {X E : Type 0} (owns : X → List Own) (t : Tables) (name : List ℕ) (rows : List Row) (r : Result X E)
      → IfOk r (λ x. owns x ≡ map (listed_own m t name) rows) → rows ≡ map show_listed (filter (is_seat_in name) t.seats)
      → IfOk r (λ x. owns x ≡ owns_in m t name)
  seats_are owns t name rows (Ok x) read listed = read ∙ ap (map (listed_own m t name)) listed ∙ owns_listed t name t.seats
  seats_are owns t name rows (Err e) read listed = tt

  pub whole_is : (t : Tables) (name : List ℕ) (public : Public) (owns : List Own)
      → Some public ≡ option_map (public_of m t.units t.centres t.choices) (find (is_named name) t.games)
      → owns ≡ owns_in m t name
      → Some (record { public = public; seats = owns }) ≡ option_map (whole_in m t) (find (is_named name) t.games)
  whole_is t name public owns told read = by_game (find (is_named name) t.games) refl
    where
      by_game : (o : Option GameRow) → find (is_named name) t.games ≡ o → Some (record { public = public; seats = owns }) ≡ option_map (whole_in m t) (find (is_named name) t.games)
      by_game None none = absurd (let bad = told ∙ ap (option_map (public_of m t.units t.centres t.choices)) none in cc)
      by_game (Some g) found =
          let same : public ≡ public_of m t.units t.centres t.choices g = (let both = told ∙ ap (option_map (public_of m t.units t.centres t.choices)) found in cc) in
          let named = found_named m name t.games g found in
          let mine = read ∙ ap (owns_in m t) (sym named) in
          ap₂ (λ p os. Some (record { public = p; seats = os })) same mine ∙ sym (ap (option_map (whole_in m t)) found)

  pub desk_is : (t : Tables) (row : Row) → AreCoded m t → Some row ≡ option_map show_desk (find is_first t.desk) → shown_desk row ≡ (state_of m t).desk
  desk_is t row coded shown =
      let d = coded.desk.0 in
      let alone = coded.desk.1 in
      let first : find is_first (d ∷ []) ≡ Some d = rw coded.desk.2 refl in
      let both : Some row ≡ Some (show_desk d) = shown ∙ ap (λ ds. option_map show_desk (find is_first ds)) alone ∙ ap (option_map show_desk) first in
      let same : row ≡ show_desk d = cc in
      ap shown_desk same ∙ ap desk_of (sym alone)
