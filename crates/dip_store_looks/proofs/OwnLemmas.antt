-- What the rows of a seat show is what its records say.
use Rattle.std.proofs.Common.{◌≡◌, ℕ, ◌<◌, List, [], ◌∷◌, length, map, filter, option_map, Option, Some, None, IfSome, refl, sym, ap, ap₂, ◌∙◌, inl, inr}
use Rattle.std.specs.List.{find}
use Rattle.std.proofs.lemmas.Bool.{cases_Bool, and_parts}
use Rattle.std.proofs.lemmas.Slice.Eq.{bytes_eq-Decides}
use Rattle.sqlite.specs.Order.{Row, bytes, column}
use Rattle.dip_map.specs.Charts.{Chart, IsMap}
use Rattle.dip_store_tables.specs.Boards.{power_in, power_name, or_zero}
use Rattle.dip_store_sql.specs.Showing.{show_digest, show_order, show_seat}
use Rattle.dip_store_tables.specs.Reading.{own_of, pending_of, standing_of}
use Rattle.dip_store_tables.specs.Tables.{PendingRow, SeatRow, Tables, is_pending, is_seat}
use Rattle.dip_desk_state.specs.Records.{Vote}
use Rattle.dip_store_tables.specs.Votes.{vote_in}
use Rattle.dip_store_sql.proofs.Changes.{none_in}
use Rattle.dip_desk_state.specs.State.{IsIdle}
use Rattle.dip_store_looks.specs.Shown.{HasNothing, shown_order, shown_own}

module _ (m : Chart) where
  pub orders_shown : (ps : List PendingRow) → map (λ r. standing_of m (shown_order r)) (map show_order ps) ≡ map (standing_of m) ps
  orders_shown [] = refl
  orders_shown (p ∷ ps) = ap (λ os. standing_of m p ∷ os) (orders_shown ps)

  -- the seat that is found is of that game and that power
  pub found_seat : (name power : List ℕ) (ss : List SeatRow) (s : SeatRow) → find (is_seat name power) ss ≡ Some s → (s.game ≡ name) × (s.power ≡ power)
  found_seat name power [] s = λ is. absurd (cc)
  found_seat name power (x ∷ ss) s = elim (cases_Bool (is_seat name power x)) [
    | inl hit ↦ rw hit (λ is.
        let parts = and_parts _ _ hit in
        let same : x ≡ s = cc in (
          ap (λ (r : SeatRow). r.game) (sym same) ∙ (bytes_eq-Decides x.game name).0 parts.0,
          ap (λ (r : SeatRow). r.power) (sym same) ∙ (bytes_eq-Decides x.power power).0 parts.1,
        ))
    | inr off ↦ rw off (λ is. found_seat name power ss s is)
  ]

  -- a seat whose own part is idle has nothing beside its row
  pub idle_beside : (t : Tables) (name : List ℕ) (power : ℕ) (row : Row) → Some row ≡ option_map show_seat (find (is_seat name (power_name m power)) t.seats)
      → IfSome (option_map (own_of m t.pending t.ballots) (find (is_seat name (power_name m power)) t.seats)) IsIdle → HasNothing m t name (power_name m power)
  idle_beside t name power row shown idle = by_seat (find (is_seat name (power_name m power)) t.seats) refl shown idle
    where
      by_seat : (o : Option SeatRow) → find (is_seat name (power_name m power)) t.seats ≡ o → Some row ≡ option_map show_seat o
          → IfSome (option_map (own_of m t.pending t.ballots) o) IsIdle → HasNothing m t name (power_name m power)
      by_seat None none shown idle = absurd (cc)
      by_seat (Some s) found shown idle =
          let named = found_seat name (power_name m power) t.seats s found in
          record {
            vote = sym idle.vote ∙ ap₂ (vote_in m t.ballots) named.0 named.1;
            orders = sym (none_in (standing_of m) _ (ap₂ (pending_of m t.pending) (sym named.0) (sym named.1) ∙ idle.pending));
          }

  pub own_is : IsMap m → (t : Tables) (name : List ℕ) (power : ℕ) (row : Row) (vote : Vote) (orders : List Row) → power < length m.realms
      → Some row ≡ option_map show_seat (find (is_seat name (power_name m power)) t.seats)
      → vote ≡ vote_in m t.ballots name (power_name m power) → orders ≡ map show_order (filter (is_pending name (power_name m power)) t.pending)
      → Some (shown_own m power vote 0 row orders) ≡ option_map (own_of m t.pending t.ballots) (find (is_seat name (power_name m power)) t.seats)
  own_is ok t name power row vote orders low shown voted os = by_seat (find (is_seat name (power_name m power)) t.seats) refl
    where
      of_seat : (s : SeatRow) → (s.game ≡ name) × (s.power ≡ power_name m power) → row ≡ show_seat s → shown_own m power vote 0 row orders ≡ own_of m t.pending t.ballots s
      of_seat s named is =
          let mine = ap (map (λ r. standing_of m (shown_order r))) os ∙ orders_shown (filter (is_pending name (power_name m power)) t.pending) in
          let pending = mine ∙ ap₂ (pending_of m t.pending) (sym named.0) (sym named.1) in
          let number : power ≡ power_in m s.power = sym (ap or_zero (ok.names_found power low)) ∙ ap (power_in m) (sym named.1) in
          let votes : vote ≡ vote_in m t.ballots s.game s.power = voted ∙ ap₂ (vote_in m t.ballots) (sym named.0) (sym named.1) in
          ap (λ r. shown_own m power vote 0 r orders) is
          ∙ (λ i. record (own_of m t.pending t.ballots s) { power = number i; vote = votes i; pending = pending i })

      by_seat : (o : Option SeatRow) → find (is_seat name (power_name m power)) t.seats ≡ o
          → Some (shown_own m power vote 0 row orders) ≡ option_map (own_of m t.pending t.ballots) (find (is_seat name (power_name m power)) t.seats)
      by_seat None none = absurd (let bad = shown ∙ ap (option_map show_seat) none in cc)
      by_seat (Some s) found =
          let same : row ≡ show_seat s = (let both = shown ∙ ap (option_map show_seat) found in cc) in
          ap Some (of_seat s (found_seat name (power_name m power) t.seats s found) same) ∙ sym (ap (option_map (own_of m t.pending t.ballots)) found)

-- the digest in its row
pub digest_is : (t : Tables) (name power : List ℕ) (row : Row) → Some row ≡ option_map show_digest (find (is_seat name power) t.seats)
    → Some (bytes (column row 0)) ≡ option_map (λ s. s.digest) (find (is_seat name power) t.seats)
digest_is t name power row = by_seat (find (is_seat name power) t.seats)
  where
    by_seat : (o : Option SeatRow) → Some row ≡ option_map show_digest o → Some (bytes (column row 0)) ≡ option_map (λ s. s.digest) o
    by_seat None shown = absurd (cc)
    by_seat (Some s) shown = let same : row ≡ show_digest s = cc in ap (λ (r : Row). Some (bytes (column r 0))) same
