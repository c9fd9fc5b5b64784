-- What a map is: its provinces, coasts and powers, where units go, and what holds of each map.
use Rattle.std.specs.Prelude.{◌≡◌, ◌≢◌, ℕ, ◌<◌, ◌≤◌, ◌==◌, ◌&&◌, ◌||◌, nat_lt, nat_le, not, All, Bool, true, false, List, [], ◌∷◌, length, flat_map, Option, Some, slice_index_or}
use Rattle.std.specs.List.{list_any, list_all, position, range_with_len}
use Rattle.std.specs.Str.{bytes_eq}
use Rattle.std.specs.Cmp.Lexicographic.{slice_cmp}
use Rattle.std.specs.Ordering.{is_lt, nat_cmp}
pub use Rattle.dip_names.specs.Forms.{is_code, is_coast_name, is_full_name, is_power_name}
use Rattle.dip_names.specs.Kinds.{is_sea}
use Rattle.dip_names.specs.declared.names.Terrain.{Terrain}
use Rattle.dip_names.specs.declared.names.Terrain.TheVariants.{Inland, Coast, Sea}
use Rattle.dip_names.specs.declared.names.Kind.{Kind}
use Rattle.dip_names.specs.declared.names.Kind.TheVariants.{Army, Fleet}
use Rattle.dip_names.specs.declared.names.Place.{Place}
use Rattle.dip_names.specs.declared.names.Unit.{Unit as AUnit}

-- a coast, and where a fleet goes from it; a province that takes fleets and has no coasts of its own has one with no name
pub record Shore : Type 0 where
  pub name : List ℕ
  pub next : List Place

-- what a map says of a province
pub record Province : Type 0 where
  pub code : List ℕ
  pub name : List ℕ
  pub terrain : Terrain
  pub centre : Bool
  pub army : List ℕ
  pub shores : List Shore

-- what a map says of a power
pub record Realm : Type 0 where
  pub name : List ℕ
  pub home : List ℕ
  pub units : List AUnit

-- a map
pub record Chart : Type 0 where
  pub name : List ℕ
  pub realms : List Realm
  pub provinces : List Province

-- what stands for a province that isn't there
abbrev pub no_province : Province
no_province = record { code = []; name = []; terrain = Inland; centre = false; army = []; shores = [] }

-- what stands for a coast that isn't there
abbrev pub no_shore : Shore
no_shore = record { name = []; next = [] }

-- what stands for a power that isn't there
abbrev pub no_realm : Realm
no_realm = record { name = []; home = []; units = [] }

-- the numbers of the provinces and of the powers, in their order
abbrev pub provs : Chart → List ℕ
provs m = range_with_len 0 (length m.provinces)

abbrev pub powers : Chart → List ℕ
powers m = range_with_len 0 (length m.realms)

-- the province of a number
abbrev pub province : Chart → ℕ → Province
province m p = slice_index_or m.provinces p no_province

-- the power of a number
abbrev pub realm : Chart → ℕ → Realm
realm m r = slice_index_or m.realms r no_realm

-- the coast of a place
abbrev pub shore : Chart → Place → Shore
shore m a = slice_index_or (province m a.prov).shores a.coast no_shore

-- where an army goes from p
abbrev pub army_next : Chart → ℕ → List ℕ
army_next m p = (province m p).army

-- where a fleet goes from a place
abbrev pub fleet_next : Chart → Place → List Place
fleet_next m a = (shore m a).next

-- the home centres of a power
abbrev pub home : Chart → ℕ → List ℕ
home m r = (realm m r).home

-- whether a province is a home centre of the power
abbrev pub is_home : Chart → ℕ → ℕ → Bool
is_home m r p = list_any (λ x. x == p) (home m r)

-- the province with a code
abbrev pub prov_of : Chart → List ℕ → Option ℕ
prov_of m code = position (λ r. bytes_eq r.code code) m.provinces

-- the power with a name
abbrev pub power_of : Chart → List ℕ → Option ℕ
power_of m name = position (λ r. bytes_eq r.name name) m.realms

-- the coast with a name, of a province
abbrev pub coast_of : Chart → ℕ → List ℕ → Option ℕ
coast_of m p name = position (λ s. bytes_eq s.name name) (province m p).shores

-- whether an army goes from p to q
abbrev pub is_army_next : Chart → ℕ → ℕ → Bool
is_army_next m p q = list_any (λ x. x == q) (army_next m p)

-- whether a fleet goes from a to b
abbrev pub is_fleet_next : Chart → Place → Place → Bool
is_fleet_next m a b = list_any (λ x. (x.prov == b.prov) && (x.coast == b.coast)) (fleet_next m a)

-- whether the place is one of the map where a fleet may be
abbrev pub is_fleet_place : Chart → Place → Bool
is_fleet_place m a = nat_lt a.prov (length m.provinces) && nat_lt a.coast (length (province m a.prov).shores)

-- whether the place is one of the map where an army may be: no coast is told, and it is no sea
abbrev pub is_army_place : Chart → Place → Bool
is_army_place m a = nat_lt a.prov (length m.provinces) && ((a.coast == 0) && not (is_sea (province m a.prov).terrain))

-- whether a unit of that kind may be at the place
abbrev pub may_stand : Chart → Kind → Place → Bool
may_stand m Army a = is_army_place m a
may_stand m Fleet a = is_fleet_place m a

-- whether the unit is one of the map
abbrev pub is_unit : Chart → AUnit → Bool
is_unit m u = nat_lt u.power (length m.realms) && may_stand m u.kind u.place

-- one coast, without a name
abbrev pub has_one_shore : List Shore → Bool
has_one_shore ss = (length ss == 1) && list_all (λ s. length s.name == 0) ss

-- two to four coasts, with names
abbrev pub has_named_shores : List Shore → Bool
has_named_shores ss = nat_le 2 (length ss) && (nat_le (length ss) 4 && list_all (λ s. is_coast_name s.name) ss)

-- the coasts and the army's neighbours are such as the terrain has them
abbrev pub is_shaped : Terrain → Province → Bool
is_shaped Inland r = length r.shores == 0
is_shaped Coast r = has_one_shore r.shores || has_named_shores r.shores
is_shaped Sea r = has_one_shore r.shores && ((length r.army == 0) && not r.centre)

-- the province is well formed
abbrev pub is_province : Province → Bool
is_province r = is_code r.code && (is_full_name r.name && is_shaped r.terrain r)

-- the home centre is a centre of the map
abbrev pub is_centre : Chart → ℕ → Bool
is_centre m p = (province m p).centre

-- the power is well formed
abbrev pub is_realm : Chart → Realm → Bool
is_realm m r = is_power_name r.name && (list_all (λ p. is_centre m p) r.home && list_all (λ u. is_unit m u) r.units)

-- the units of the opening, power by power
abbrev pub opening_units : Chart → List AUnit
opening_units m = flat_map (λ r. r.units) m.realms

-- no province stands twice in a list
abbrev pub are_provs_single : List ℕ → Bool
are_provs_single [] = true
are_provs_single (p ∷ ps) = not (list_any (λ q. q == p) ps) && are_provs_single ps

-- no place stands twice in a list
abbrev pub are_places_single : List Place → Bool
are_places_single [] = true
are_places_single (a ∷ more) = not (list_any (λ b. (b.prov == a.prov) && (b.coast == a.coast)) more) && are_places_single more

-- no two units of a list stand in one province
abbrev pub are_units_single : List AUnit → Bool
are_units_single [] = true
are_units_single (u ∷ us) = not (list_any (λ v. v.place.prov == u.place.prov) us) && are_units_single us

-- each comes before all after it by its key, a text, whose bytes decide
abbrev pub are_ascending_by : {A : Type 0} → (A → List ℕ) → List A → Bool
are_ascending_by key [] = true
are_ascending_by key (x ∷ xs) = list_all (λ y. is_lt (slice_cmp nat_cmp (key x) (key y))) xs && are_ascending_by key xs

-- what each map keeps
pub record IsMap (m : Chart) : Type 0 where
  pub realms_least : 1 ≤ length m.realms
  pub realms_most : length m.realms ≤ 7
  pub provinces_least : 1 ≤ length m.provinces
  pub provinces_most : length m.provinces ≤ 200
  pub provinces : (p : ℕ) → p < length m.provinces → is_province (province m p) ≡ true
  pub realms : (r : ℕ) → r < length m.realms → is_realm m (realm m r) ≡ true
  pub codes_ascend : are_ascending_by (λ r. r.code) m.provinces ≡ true
  pub names_ascend : are_ascending_by (λ r. r.name) m.realms ≡ true
  pub full_names_apart : (p q : ℕ) → p < length m.provinces → q < length m.provinces → (province m p).name ≡ (province m q).name → p ≡ q
  pub codes_found : (p : ℕ) → p < length m.provinces → prov_of m (province m p).code ≡ Some p
  pub names_found : (r : ℕ) → r < length m.realms → power_of m (realm m r).name ≡ Some r
  pub coasts_found : (a : Place) → a.coast < length (province m a.prov).shores → coast_of m a.prov (shore m a).name ≡ Some a.coast
  pub army_symmetric : (p q : ℕ) → is_army_next m p q ≡ true → is_army_next m q p ≡ true
  pub army_within : (p : ℕ) → All (λ q. q < length m.provinces) (army_next m p)
  pub army_single : (p : ℕ) → are_provs_single (army_next m p) ≡ true
  pub army_away : (p q : ℕ) → is_army_next m p q ≡ true → (q ≢ p) × (is_sea (province m q).terrain ≡ false)
  pub fleet_symmetric : (a b : Place) → is_fleet_next m a b ≡ true → is_fleet_next m b a ≡ true
  pub fleet_within : (a : Place) → All (λ b. is_fleet_place m b ≡ true) (fleet_next m a)
  pub fleet_single : (a : Place) → are_places_single (fleet_next m a) ≡ true
  pub fleet_away : (a b : Place) → is_fleet_next m a b ≡ true → b.prov ≢ a.prov
  pub homes_centres : (p r : ℕ) → is_home m r p ≡ true → is_centre m p ≡ true
  pub homes_single : (r : ℕ) → are_provs_single (home m r) ≡ true
  pub homes_apart : (p r s : ℕ) → is_home m r p ≡ true → is_home m s p ≡ true → r ≡ s
  pub units : All (λ u. is_unit m u ≡ true) (opening_units m)
  pub units_own : (r : ℕ) → All (λ u. u.power ≡ r) (realm m r).units
  pub openings_single : are_units_single (opening_units m) ≡ true
