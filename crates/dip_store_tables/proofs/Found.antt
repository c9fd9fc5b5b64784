-- What is asked of the desk is the first row of its key.
use Rattle.std.proofs.Common.{◌≡◌, ℕ, ◌<◌, ◌==◌, Bool, true, cond, ◌&&◌, List, [], ◌∷◌, map, filter, find, length, Option, Some, None, option_map, option_and_then, is_some, bytes_eq, refl, sym, ap, subst, ◌∙◌, inl, inr}
use Rattle.std.specs.List.{AllByRecursion}
use Rattle.std.proofs.lemmas.Bool.{cases_Bool, and_parts}
use Rattle.sqlite_keyed.proofs.ListLemmas.{all_weaker}
use Rattle.sqlite_keyed.proofs.SliceLemmas.{find-slice, any_is_found}
use Rattle.dip_map.specs.Charts.{Chart, IsMap}
use Rattle.dip_store_tables.specs.Boards.{power_name, power_in as power_numbered}
use Rattle.dip_desk_state.specs.Keyed.{at}
use Rattle.dip_desk_state.specs.State.{Game, Part, name_of, power_in, game_at, seat_at, part_at}
use Rattle.dip_desk_state.proofs.KeyedLemmas.{names_tell}
use Rattle.dip_store_rows.specs.Tables.{GameRow, SeatRow, Tables, is_named, is_seat, is_seat_in}
use Rattle.dip_store_tables.specs.Reading.{part_of, game_of, state_of}
use Rattle.dip_store_tables.specs.Coding.{AreCoded, HasGame, IsSeatOf}
use Rattle.dip_store_tables.specs.Looking.{PublicIsFound, OwnIsFound}
use Rattle.dip_store_tables.proofs.Seats.{same_power}
use Rattle.dip_store_tables.proofs.Lists.{find_on}

-- the first with the key is the first that passes a test
pub at_finds : {K A : Type 0} (eq : K → K → Bool) (key : A → K) (k : K) (xs : List A) → at eq key k xs ≡ find (λ x. eq (key x) k) xs
at_finds eq key k [] = refl
at_finds eq key k (x ∷ xs) = ap (cond (eq (key x) k) (Some x)) (at_finds eq key k xs)

pub find_map : {A B : Type 0} (q : B → Bool) (f : A → B) (xs : List A) → find q (map f xs) ≡ option_map f (find (λ x. q (f x)) xs)
find_map q f [] = refl
find_map q f (x ∷ xs) = elim (cases_Bool (q (f x))) [ inl e ↦ rw e refl | inr e ↦ rw e (find_map q f xs) ]

-- what is found passes
pub found_passes : {A : Type 0} (p : A → Bool) (xs : List A) (x : A) → find p xs ≡ Some x → p x ≡ true
found_passes p [] x h = absurd (cc)
found_passes p (y ∷ ys) x h = elim (cases_Bool (p y)) [
  | inl e ↦ let h2 = rw e at h in let same : y ≡ x = cc in subst (λ z. p z ≡ true) same e
  | inr e ↦ found_passes p ys x (rw e at h)
]

pub game_found : (m : Chart) (t : Tables) (name : List ℕ) → game_at name (state_of m t) ≡ option_map (game_of m t) (find (is_named name) t.games)
game_found m t name = at_finds bytes_eq name_of name (map (game_of m t) t.games) ∙ find_map (λ g. bytes_eq (name_of g) name) (game_of m t) t.games

-- a seat whose game isn't there isn't there
pub no_seat : (games : List GameRow) (name power : List ℕ) (seats : List SeatRow) → AllByRecursion (λ s. HasGame games s.game) seats → find (is_named name) games ≡ None → find (is_seat name power) seats ≡ None
no_seat games name power [] all none = refl
no_seat games name power (s ∷ ss) all none = elim (cases_Bool (is_seat name power s)) [
  | inl e ↦ absurd (
      let has = subst (HasGame games) (names_tell.same s.game name (and_parts _ _ e).0) all.0 in
      let x = sym has ∙ any_is_found (is_named name) games ∙ ap is_some none in cc)
  | inr e ↦ rw e (no_seat games name power ss all.1 none)
]

module _ (m : Chart) (ok : IsMap m) (t : Tables) (coded : AreCoded m t) (name : List ℕ) (power : ℕ) (low : power < length m.realms) where
  abbrev named : List ℕ → SeatRow → Bool
  named n s = is_seat_in n s && (power_numbered m s.power == power)

  seat_found : (n : List ℕ) → seat_at power (map (part_of m t) (filter (is_seat_in n) t.seats)) ≡ option_map (part_of m t) (find (is_seat n (power_name m power)) t.seats)
  seat_found n =
      at_finds (λ a b. a == b) power_in power (map (part_of m t) (filter (is_seat_in n) t.seats))
      ∙ sym (find-slice (is_seat_in n) (part_of m t) (λ s. power_in s == power) t.seats)
      ∙ ap (option_map (part_of m t)) (find_on (named n) (is_seat n (power_name m power)) t.seats
      (all_weaker (IsSeatOf m) (λ s. named n s ≡ is_seat n (power_name m power) s) (λ s it. ap (λ b. is_seat_in n s && b) (sym (same_power m ok power low s it))) t.seats coded.seats))

  in_game : (g : Option GameRow) → find (is_named name) t.games ≡ g
      → option_and_then (λ x. seat_at power x.seats) (option_map (game_of m t) g) ≡ option_map (part_of m t) (find (is_seat name (power_name m power)) t.seats)
  in_game None none = ap (option_map (part_of m t)) (sym (no_seat t.games name (power_name m power) t.seats coded.games none))
  in_game (Some g) some = seat_found g.name ∙ ap (λ n. option_map (part_of m t) (find (is_seat n (power_name m power)) t.seats)) (names_tell.same g.name name (found_passes (is_named name) t.games g some))

  pub part_found : part_at name power (state_of m t) ≡ option_map (part_of m t) (find (is_seat name (power_name m power)) t.seats)
  part_found = ap (option_and_then (λ g. seat_at power g.seats)) (game_found m t name) ∙ in_game (find (is_named name) t.games) refl

pub map_twice : {A B C : Type 0} (g : B → C) (f : A → B) (o : Option A) → option_map g (option_map f o) ≡ option_map (λ x. g (f x)) o
map_twice g f None = refl
map_twice g f (Some x) = refl

pub then_map : {A B C : Type 0} (h : B → C) (f : A → Option B) (o : Option A) → option_and_then (λ x. option_map h (f x)) o ≡ option_map h (option_and_then f o)
then_map h f None = refl
then_map h f (Some x) = refl

pub public_is_found : (m : Chart) → PublicIsFound m
public_is_found m t name = ap (option_map (λ g. g.public)) (game_found m t name) ∙ map_twice (λ g. g.public) (game_of m t) (find (is_named name) t.games)

pub own_is_found : (m : Chart) → IsMap m → OwnIsFound m
own_is_found m ok t name power coded low =
    then_map (λ (s : Part). s.own) (λ (g : Game). seat_at power g.seats) (game_at name (state_of m t))
    ∙ ap (option_map (λ (s : Part). s.own)) (part_found m ok t coded name power low)
    ∙ map_twice (λ (s : Part). s.own) (part_of m t) (find (is_seat name (power_name m power)) t.seats)
