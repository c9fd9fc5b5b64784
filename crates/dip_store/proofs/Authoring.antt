-- What own parts that are remembered say of a letter's author is what the tables have of it.
use Rattle.std.proofs.Common.{◌≡◌, ◌==◌, ℕ, true, List, [], ◌∷◌, Option, None, Some, map, filter, length, option_map, refl, sym, ap, subst, ◌∙◌, inl, inr, arith, eqb-true}
use Rattle.std.specs.List.{find}
use Rattle.std.proofs.lemmas.Bool.{and_parts, cases_Bool}
use Rattle.std.proofs.lemmas.Slice.Eq.{bytes_eq-Decides}
use Rattle.dip_desk_state.specs.Records as r
use Rattle.dip_desk_state.specs.State.{Author, Nobody, TheMaster, Seat}
use Rattle.dip_desk_state.specs.Writable.{IsAuthorOf}
use Rattle.dip_map.specs.Charts.{Chart}
use Rattle.dip_store_tables.specs.Boards.{power_name}
use Rattle.dip_store_tables.specs.Coding.{AreCoded}
use Rattle.dip_store_tables.specs.Looking.{OwnIsFound}
use Rattle.dip_store_tables.specs.Reading.{own_of, standing_of, state_of}
use Rattle.dip_store_tables.specs.Tables.{SeatRow, Tables, is_pending, is_seat}
use Rattle.dip_store_counts.specs.Knowing.{IsKnown, IsUnordered, is_unordered, known_own, own_row, row_known, row_of}
use Rattle.dip_store_memory.specs.Owns.{Owns, RecallsOwns, own_among, owns_of}
use Rattle.dip_store_memory.proofs.Owning.{recalled_own}
use Rattle.dip_store.specs.Authors.{known_among}

-- a list that is mapped to none is none
none_mapped : {A B : Type 0} (f : A → B) (xs : List A) → (length (map f xs) == 0) ≡ true → xs ≡ []
none_mapped f [] none = refl
none_mapped f (x ∷ xs) none = absurd (let bad = eqb-true (length (map f (x ∷ xs))) 0 none in omega (arith, bad))

-- the seat that is found is of that game and of that power
seat_found : (name power : List ℕ) (ss : List SeatRow) (s : SeatRow) → find (is_seat name power) ss ≡ Some s → (s.game ≡ name) × (s.power ≡ power)
seat_found name power [] s is = absurd (cc)
seat_found name power (x ∷ xs) s is = elim (cases_Bool (is_seat name power x)) [
  | inl e ↦
      let at = rw e at is in
      let same : x ≡ s = cc in
      let keys = and_parts _ _ (subst (λ (y : SeatRow). is_seat name power y ≡ true) same e) in
      ((bytes_eq-Decides s.game name).0 keys.0, (bytes_eq-Decides s.power power).0 keys.1)
  | inr e ↦ seat_found name power xs s (rw e at is)
]

-- what they say of a letter's author is what the tables have of it
pub known_of : (m : Chart) (who : Author) (name : List ℕ) (t : Tables) (ws : Owns) → OwnIsFound m → AreCoded m t → IsAuthorOf m who → RecallsOwns (state_of m t) ws
    → IsKnown (row_known (known_among who (owns_of name ws))) m who name t.seats × IsUnordered (is_unordered (known_among who (owns_of name ws))) m who name t.pending
known_of m Nobody name t ws law coded author recalls = (tt, λ yes. refl)
known_of m TheMaster name t ws law coded author recalls = (tt, λ yes. refl)
known_of m (Seat power) name t ws law coded author recalls = go (own_among power (owns_of name ws)) refl
  where
    -- the seat that has an own part, and what it says
    found : (o : r.Own) (s : Option SeatRow) → option_map (own_of m t.pending t.ballots) s ≡ Some o → (x : SeatRow) × (s ≡ Some x) × (own_of m t.pending t.ballots x ≡ o)
    found o None is = absurd (cc)
    found o (Some s) is = (s, refl, cc)

    -- of a seat whose own part has no orders none stands
    stands_none : (o : r.Own) (s : SeatRow) → (s.game ≡ name) × (s.power ≡ power_name m power) → own_of m t.pending t.ballots s ≡ o → (length o.pending == 0) ≡ true → filter (is_pending name (power_name m power)) t.pending ≡ []
    stands_none o s keys same none =
        let none_there : (length (map (standing_of m) (filter (is_pending s.game s.power) t.pending)) == 0) ≡ true = subst (λ (x : r.Own). (length x.pending == 0) ≡ true) (sym same) none in
        sym (ap (λ (n : List ℕ). filter (is_pending n (power_name m power)) t.pending) keys.0) ∙ sym (ap (λ (p : List ℕ). filter (is_pending s.game p) t.pending) keys.1)
        ∙ none_mapped (standing_of m) (filter (is_pending s.game s.power) t.pending) none_there

    go : (o : Option r.Own) → own_among power (owns_of name ws) ≡ o
        → IsKnown (row_known (option_map known_own o)) m (Seat power) name t.seats × IsUnordered (is_unordered (option_map known_own o)) m (Seat power) name t.pending
    go None is = (tt, λ yes. absurd (let bad = yes in cc))
    go (Some o) is =
        let there = found o (find (is_seat name (power_name m power)) t.seats) (sym (law t name power coded author) ∙ recalled_own (state_of m t) ws name power o recalls is) in
        (ap (λ (x : r.Own). Some (own_row x)) (sym there.2) ∙ ap (option_map row_of) (sym there.1), stands_none o there.0 (seat_found name (power_name m power) t.seats there.0 there.1) there.2)
