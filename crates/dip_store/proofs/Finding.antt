-- Games and seats of the state are the first rows of their keys.
use Rattle.std.proofs.Common.{◌≡◌, ℕ, ◌<◌, ◌==◌, Bool, true, ◌&&◌, List, map, filter, find, length, Option, Some, None, option_map, option_and_then, bytes_eq, refl, sym, ap, subst, ◌∙◌, inl, inr}
use Rattle.std.proofs.lemmas.Bool.{cases_Bool, eqb-true, eq-eqb}
use Rattle.dip_store_tables.proofs.ListLemmas.{all_weaker}
use Rattle.dip_store_tables.proofs.SliceLemmas.{find-slice}
use Rattle.dip_map.specs.Charts.{Chart, IsMap}
use Rattle.dip_store_tables.specs.Boards.{power_name, power_in as power_numbered}
use Rattle.dip_desk_state.specs.State.{power_in, seat_at, part_at}
use Rattle.dip_desk_state.proofs.KeyedLemmas.{names_tell}
use Rattle.dip_store_tables.specs.Tables.{GameRow, SeatRow, Tables, is_named, is_seat, is_seat_in}
use Rattle.dip_store_tables.specs.Reading.{part_of, game_of, state_of}
use Rattle.dip_store_tables.specs.Coding.{AreCoded, IsSeatOf}
use Rattle.dip_store_tables.proofs.Records.{power_back}
use Rattle.dip_store_tables.proofs.Found.{at_finds, found_passes, game_found, no_seat}
use Rattle.dip_store_tables.proofs.Lists.{find_on}

-- a seat's power, found by its name and by its number
same_power : (m : Chart) (ok : IsMap m) (p : ℕ) → p < length m.realms → (s : SeatRow) → IsSeatOf m s → bytes_eq s.power (power_name m p) ≡ (power_numbered m s.power == p)
same_power m ok p low s it = elim (cases_Bool (bytes_eq s.power (power_name m p))) [
  | inl e ↦ e ∙ sym (eq-eqb _ p (ap (power_numbered m) (names_tell.same s.power (power_name m p) e) ∙ power_back m ok p low))
  | inr e ↦ elim (cases_Bool (power_numbered m s.power == p)) [
    | inl f ↦ absurd (
        let is : it.0 ≡ p = sym (power_back m ok it.0 it.1) ∙ ap (power_numbered m) (sym it.2) ∙ eqb-true _ p f in
        let name : s.power ≡ power_name m p = it.2 ∙ ap (power_name m) is in
        let tied : bytes_eq s.power (power_name m p) ≡ true = subst (λ n. bytes_eq n (power_name m p) ≡ true) (sym name) (names_tell.self (power_name m p)) in
        let x = sym tied ∙ e in cc)
    | inr f ↦ e ∙ sym f
  ]
]

module _ (m : Chart) (ok : IsMap m) (t : Tables) (coded : AreCoded m t) (name : List ℕ) (power : ℕ) (low : power < length m.realms) where
  abbrev named : List ℕ → SeatRow → Bool
  named n s = is_seat_in n s && (power_numbered m s.power == power)

  seat_found : (n : List ℕ) → seat_at power (map (part_of m t) (filter (is_seat_in n) t.seats)) ≡ option_map (part_of m t) (find (is_seat n (power_name m power)) t.seats)
  seat_found n =
      at_finds (λ a b. a == b) power_in power (map (part_of m t) (filter (is_seat_in n) t.seats))
      ∙ sym (find-slice (is_seat_in n) (part_of m t) (λ s. power_in s == power) t.seats)
      ∙ ap (option_map (part_of m t)) (find_on (named n) (is_seat n (power_name m power)) t.seats
      (all_weaker (IsSeatOf m) (λ s. named n s ≡ is_seat n (power_name m power) s) (λ s it. ap (λ b. is_seat_in n s && b) (sym (same_power m ok power low s it))) t.seats coded.seats))

  in_game : (g : Option GameRow) → find (is_named name) t.games ≡ g
      → option_and_then (λ x. seat_at power x.seats) (option_map (game_of m t) g) ≡ option_map (part_of m t) (find (is_seat name (power_name m power)) t.seats)
  in_game None none = ap (option_map (part_of m t)) (sym (no_seat t.games name (power_name m power) t.seats coded.games none))
  in_game (Some g) some = seat_found g.name ∙ ap (λ n. option_map (part_of m t) (find (is_seat n (power_name m power)) t.seats)) (names_tell.same g.name name (found_passes (is_named name) t.games g some))

  pub part_found : part_at name power (state_of m t) ≡ option_map (part_of m t) (find (is_seat name (power_name m power)) t.seats)
  part_found = ap (option_and_then (λ g. seat_at power g.seats)) (game_found m t name) ∙ in_game (find (is_named name) t.games) refl
