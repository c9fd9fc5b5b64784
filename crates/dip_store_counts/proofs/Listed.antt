-- The seats that press is for, as the list of a game's seats shows them.
use Rattle.std.proofs.Common.{◌≡◌, ℕ, ◌==◌, Bool, ◌&&◌, List, [], ◌∷◌, length, map, filter, nat_lt, None, Some, bytes_eq, refl, sym, ap, ap₂, subst, ◌∙◌, inl, inr}
use Rattle.std.specs.List.{list_any, position_or_len}
use Rattle.std.proofs.lemmas.Bool.{cases_Bool, ltb-true}
use Rattle.std.proofs.lemmas.List.Sums.{passes_at_first}
use Rattle.std.proofs.lemmas.Slice.Eq.{bytes_eq-Decides}
use Rattle.sqlite.specs.Order.{Row, bytes, column}
use Rattle.dip_store_tables.proofs.ListLemmas.{filter-map, filter_same, map-map}
use Rattle.dip_map.specs.Charts.{Chart, Realm, no_realm, power_of, realm}
use Rattle.dip_store_tables.specs.Boards.{power_in, power_name}
use Rattle.dip_store_tables.specs.Changing.{is_reader}
use Rattle.dip_store_tables.specs.Tables.{SeatRow, is_seat_in}
use Rattle.dip_store_sql.specs.Showing.{show_listed}
use Rattle.dip_store_counts.specs.Counts.{AreSeats, shown_reader}
use Rattle.dip_store_counts.specs.declared.readers.Reader.{Reader}

module _ (m : Chart) (game powers : List ℕ) where
  abbrev reads : SeatRow → Bool
  reads s = is_reader m game powers s

  abbrev is_chosen : Reader → Bool
  is_chosen r = list_any (λ p. p == r.power) powers

  abbrev of_seat : SeatRow → Reader
  of_seat s = record { power = power_in m s.power; items = s.items }

  abbrev name_of : Reader → List ℕ
  name_of r = power_name m r.power

  -- the game's seats, each with the name of its power, of which some are chosen
  seats_chosen : (ss : List SeatRow) → map name_of (map of_seat (filter (is_seat_in game) ss)) ≡ map (λ s. s.power) (filter (is_seat_in game) ss)
      → AreSeats m game (filter reads ss) (filter is_chosen (map of_seat (filter (is_seat_in game) ss)))
  seats_chosen [] named = tt
  seats_chosen (s ∷ ss) named = elim (cases_Bool (bytes_eq s.game game)) [
    | inl here ↦
        let split = rw here at named in
        let first : power_name m (power_in m s.power) ≡ s.power = cc in
        let rest : map name_of (map of_seat (filter (is_seat_in game) ss)) ≡ map (λ r. r.power) (filter (is_seat_in game) ss) = cc in
        elim (cases_Bool (list_any (λ p. p == power_in m s.power) powers)) [
          | inl hit ↦ rw (here, hit) ((bytes_eq-Decides s.game game).0 here, sym first, refl, seats_chosen ss rest)
          | inr out ↦ rw (here, out) (seats_chosen ss rest)
        ]
    | inr away ↦ rw away (seats_chosen ss (rw away at named))
  ]

  -- those that are chosen of the readers that the rows show
  pub readers_found : (ss : List SeatRow) (rows : List Row) (rs picked : List Reader) → rows ≡ map show_listed (filter (is_seat_in game) ss) → rs ≡ map (shown_reader m) rows
      → map name_of rs ≡ map (λ r. bytes (column r 0)) rows → picked ≡ filter is_chosen rs → AreSeats m game (filter reads ss) picked
  readers_found ss rows rs picked shown known names is =
      let listed = filter (is_seat_in game) ss in
      let same : rs ≡ map of_seat listed = known ∙ ap (map (shown_reader m)) shown ∙ map-map (shown_reader m) show_listed listed in
      let named : map name_of (map of_seat listed) ≡ map (λ s. s.power) listed = ap (map name_of) (sym same) ∙ names ∙ ap (map (λ r. bytes (column r 0))) shown ∙ map-map (λ r. bytes (column r 0)) show_listed listed in
      subst (AreSeats m game (filter reads ss)) (sym (is ∙ ap (filter is_chosen) same)) (seats_chosen ss named)

  -- rows that are written anew, with their keys and counts as before
  module _ (f : SeatRow → SeatRow) (same_game : (s : SeatRow) → (f s).game ≡ s.game) (same_power : (s : SeatRow) → (f s).power ≡ s.power) (same_items : (s : SeatRow) → (f s).items ≡ s.items) where
    still_seats : (ss : List SeatRow) (rs : List Reader) → AreSeats m game ss rs → AreSeats m game (map f ss) rs
    still_seats [] [] are = are
    still_seats [] (r ∷ rs) are = are
    still_seats (s ∷ ss) [] are = are
    still_seats (s ∷ ss) (r ∷ rs) are = (same_game s ∙ are.0, same_power s ∙ are.1, same_items s ∙ are.2, still_seats ss rs are.3)

    same_reads : (s : SeatRow) → reads (f s) ≡ reads s
    same_reads s = ap₂ (λ g p. bytes_eq g game && list_any (λ q. q == power_in m p) powers) (same_game s) (same_power s)

    pub still_readers : (ss : List SeatRow) (rs : List Reader) → AreSeats m game (filter reads ss) rs → AreSeats m game (filter reads (map f ss)) rs
    still_readers ss rs are =
        subst (λ xs. AreSeats m game xs rs) (sym (filter-map reads f ss ∙ ap (map f) (filter_same (λ s. reads (f s)) reads same_reads ss)))
        (still_seats (filter reads ss) rs are)

-- the power that is found by a name has it
pub power_named : (m : Chart) (name : List ℕ) (p : ℕ) → power_of m name ≡ Some p → power_name m p ≡ name
power_named m name p found =
    let test : Realm → Bool = λ r. bytes_eq r.name name in
    let at = position_or_len test m.realms in
    elim (cases_Bool (nat_lt at (length m.realms))) [
      | inl low ↦
          let both : Some at ≡ Some p = rw low at found in
          let same : at ≡ p = cc in
          subst (λ i. power_name m i ≡ name) same ((bytes_eq-Decides (realm m at).name name).0 (passes_at_first test m.realms no_realm (ltb-true at (length m.realms) low)))
      | inr past ↦ absurd (let bad : None ≡ Some p = rw past at found in cc)
    ]
