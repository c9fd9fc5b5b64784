-- A province, a kind, a place and a season are read back.
use Rattle.std.proofs.Common.{◌≡◌, ℕ, suc, ◌<◌, true, nat_lt, List, ◌∷◌, length, Option, All, refl, sym, ap, ap₂, ◌∙◌, arith}
use Rattle.std.proofs.lemmas.Bool.{and_parts, eqb-true}
use Rattle.std.proofs.lemmas.Bool.Decides.{nat_tests}
use Rattle.dip_names.specs.declared.names.Kind.{Kind}
use Rattle.dip_names.specs.declared.names.Kind.TheVariants.{Army, Fleet}
use Rattle.dip_names.specs.declared.names.Place.{Place}
use Rattle.dip_names.specs.declared.names.Unit.{Unit as AUnit}
use Rattle.dip_map.specs.Charts.{Chart, IsMap, shore, coast_of, is_unit, may_stand}
use Rattle.dip_map.specs.declared.boards.Season.{Season}
use Rattle.dip_map.specs.declared.boards.Season.TheVariants.{SpringMoves, SpringRetreats, FallMoves, FallRetreats, Winter}
use Rattle.dip_store_tables.specs.Boards.{code, power_name, kind_number, coast_text, unit_row, or_zero, prov_in, power_in, kind_of, season_of, place_of, unit_of}
use Rattle.dip_map.specs.Boards.{season_number}

-- what holds of each holds of the first and of the others
pub all_parts : {A : Type 0} (P : A → Type 0) (x : A) (xs : List A) → All P (x ∷ xs) → P x × All P xs
all_parts P x xs h = (h 0 x (omega arith), λ k d low. h (suc k) d (omega (arith, low)))

-- a test that tells that one number is below another
pub below : (a b : ℕ) → nat_lt a b ≡ true → a < b
below a b h = grind (arith, nat_tests, h)

kind_back : (k : Kind) → kind_of (kind_number k) ≡ k
kind_back Army = refl
kind_back Fleet = refl

pub season_back : (s : Season) → season_of (season_number s) ≡ s
season_back SpringMoves = refl
season_back SpringRetreats = refl
season_back FallMoves = refl
season_back FallRetreats = refl
season_back Winter = refl

module _ (m : Chart) (ok : IsMap m) where
  -- the province of a code
  pub code_back : (p : ℕ) → p < length m.provinces → prov_in m (code m p) ≡ p
  code_back p low = ap or_zero (ok.codes_found p low)

  -- the place of a unit of its kind
  place_back : (k : Kind) (a : Place) → may_stand m k a ≡ true → place_of m k a.prov (coast_text m k a) ≡ a
  place_back Army a h =
      let parts = and_parts _ _ h in
      let more = and_parts _ _ parts.1 in
      let e = eqb-true a.coast 0 more.0 in
      λ i. record { prov = a.prov; coast = sym e i }
  place_back Fleet a h =
      let parts = and_parts _ _ h in
      let e : or_zero (coast_of m a.prov (shore m a).name) ≡ a.coast = ap or_zero (ok.coasts_found a (below _ _ parts.1)) in
      λ i. record { prov = a.prov; coast = e i }

  prov_within : (k : Kind) (a : Place) → may_stand m k a ≡ true → a.prov < length m.provinces
  prov_within Army a h = below _ _ (and_parts _ _ h).0
  prov_within Fleet a h = below _ _ (and_parts _ _ h).0

  -- a unit of the map, standing or not
  pub unit_back : (game : List ℕ) (d : ℕ) (o : Option ℕ) (u : AUnit) → is_unit m u ≡ true → unit_of m (unit_row m game d o u) ≡ u
  unit_back game d o u h =
      let parts = and_parts _ _ h in
      let power : power_in m (power_name m u.power) ≡ u.power = ap or_zero (ok.names_found u.power (below _ _ parts.0)) in
      let kind = kind_back u.kind in
      let prov = code_back u.place.prov (prov_within u.kind u.place parts.1) in
      let place : place_of m (kind_of (kind_number u.kind)) (prov_in m (code m u.place.prov)) (coast_text m u.kind u.place) ≡ u.place =
      ap₂ (λ k p. place_of m k p (coast_text m u.kind u.place)) kind prov ∙ place_back u.kind u.place parts.1 in
      λ i. record { power = power i; kind = kind i; place = place i }
