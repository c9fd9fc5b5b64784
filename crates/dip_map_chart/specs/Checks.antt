-- The checks that a map's parts have to pass, in the order of their faults.
use Rattle.std.specs.Prelude.{◌≡◌, ◌↔◌, ℕ, ◌+◌, ◌==◌, ◌&&◌, not, nat_le, Bool, true, false, List, [], ◌∷◌, length, Option, None, Some, if◌then◌else◌}
use Rattle.std.specs.List.{list_all, list_any}
use Rattle.std.specs.Str.{bytes_eq}
use Rattle.dip_names.specs.declared.names.Place.{Place}
use Rattle.dip_names.specs.declared.faults.MapFault.{MapFault}
use Rattle.dip_names.specs.declared.faults.MapFault.TheVariants.{UnknownName, NotSymmetric, DoubledName, OverLimit}
use Rattle.dip_map_chart.specs.Charts.{Chart, IsMap, Province, Realm, Shore, province, is_army_next, is_fleet_next, is_province, is_realm, coast_of, are_ascending_by, are_provs_single, are_places_single, are_units_single}
use Rattle.dip_names.specs.Kinds.{is_sea}

-- whether a look-up answered this number
abbrev pub answers : Option ℕ → ℕ → Bool
answers None k = false
answers (Some j) k = j == k

-- no more powers, provinces and coasts than a map may have, and no fewer
abbrev pub is_within_limits : Chart → Bool
is_within_limits m = (nat_le 1 (length m.realms) && nat_le (length m.realms) 7) && (nat_le 1 (length m.provinces) && nat_le (length m.provinces) 200)

-- the units of these powers' openings, the first of which is number r, are each its power's own
abbrev pub rest_has_own_units : ℕ → List Realm → Bool
rest_has_own_units r [] = true
rest_has_own_units r (s ∷ ss) = list_all (λ u. u.power == r) s.units && rest_has_own_units (r + 1) ss

-- each province and each power is well formed, and a power's units are its own
abbrev pub is_well_formed : Chart → Bool
is_well_formed m =
    list_all is_province m.provinces
    && (list_all (λ r. is_realm m r) m.realms && rest_has_own_units 0 m.realms)

-- each name of these coasts of p, the first of which is number k, is that of no coast before
abbrev pub rest_of_shores : Chart → ℕ → ℕ → List Shore → Bool
rest_of_shores m p k [] = true
rest_of_shores m p k (s ∷ ss) = answers (coast_of m p s.name) k && rest_of_shores m p (k + 1) ss

-- each coast's name is that of no coast before it in its province; the first of these provinces is number p
abbrev pub rest_of_coasts : Chart → ℕ → List Province → Bool
rest_of_coasts m p [] = true
rest_of_coasts m p (r ∷ rs) = rest_of_shores m p 0 r.shores && rest_of_coasts m (p + 1) rs

-- codes and powers' names ascend, so that none stands twice, and no coast's name stands twice in a province
abbrev pub is_distinct : Chart → Bool
is_distinct m = are_ascending_by (λ r. r.code) m.provinces && (are_ascending_by (λ r. r.name) m.realms && rest_of_coasts m 0 m.provinces)

-- each of the list is a province whose army's neighbours name p back
abbrev pub is_named_back : Chart → ℕ → List ℕ → Bool
is_named_back m p list = list_all (λ q. is_army_next m q p) list

-- each army's neighbour of these provinces, the first of which is number p, names its province back
abbrev pub rest_is_mutual : Chart → ℕ → List Province → Bool
rest_is_mutual m p [] = true
rest_is_mutual m p (r ∷ rs) = is_named_back m p r.army && rest_is_mutual m (p + 1) rs

-- each of these places names a back
abbrev pub are_named_back : Chart → Place → List Place → Bool
are_named_back m a list = list_all (λ b. is_fleet_next m b a) list

-- each neighbour of these coasts of p, the first of which is number k, names its coast back
abbrev pub rest_of_shores_is_mutual : Chart → ℕ → ℕ → List Shore → Bool
rest_of_shores_is_mutual m p k [] = true
rest_of_shores_is_mutual m p k (s ∷ ss) = are_named_back m (record { prov = p; coast = k }) s.next && rest_of_shores_is_mutual m p (k + 1) ss

-- each neighbour of a coast of these provinces names that coast back; the first of these provinces is number p
abbrev pub rest_is_mutual_by_sea : Chart → ℕ → List Province → Bool
rest_is_mutual_by_sea m p [] = true
rest_is_mutual_by_sea m p (r ∷ rs) = rest_of_shores_is_mutual m p 0 r.shores && rest_is_mutual_by_sea m (p + 1) rs

-- each neighbour names its neighbour back
abbrev pub is_mutual : Chart → Bool
is_mutual m = rest_is_mutual m 0 m.provinces && rest_is_mutual_by_sea m 0 m.provinces

-- whether an army goes from p to this neighbour: another province, and no sea
abbrev pub may_march : Chart → ℕ → ℕ → Bool
may_march m p q = not (q == p) && not (is_sea (province m q).terrain)

-- whether these coasts lead to other provinces than p
abbrev pub lead_away : ℕ → List Shore → Bool
lead_away p ss = list_all (λ s. list_all (λ b. not (b.prov == p)) s.next) ss

-- each neighbour of these provinces, the first of which is number p, is one that a unit may go to
abbrev pub rest_is_allowed : Chart → ℕ → List Province → Bool
rest_is_allowed m p [] = true
rest_is_allowed m p (r ∷ rs) = (list_all (λ q. may_march m p q) r.army && lead_away p r.shores) && rest_is_allowed m (p + 1) rs

abbrev pub is_allowed : Chart → Bool
is_allowed m = rest_is_allowed m 0 m.provinces

-- no full name stands twice in a list
abbrev pub are_names_single : List Province → Bool
are_names_single [] = true
are_names_single (r ∷ rs) = not (list_any (λ t. bytes_eq t.name r.name) rs) && are_names_single rs

-- no neighbour of a province stands twice in a list of it
abbrev pub has_single_neighbours : Province → Bool
has_single_neighbours r = are_provs_single r.army && list_all (λ s. are_places_single s.next) r.shores

-- whether a province is a home centre of one of these powers, and whether one of their units stands there
abbrev pub is_home_of : List Realm → ℕ → Bool
is_home_of rs p = list_any (λ r. list_any (λ x. x == p) r.home) rs

abbrev pub is_held_by : List Realm → ℕ → Bool
is_held_by rs p = list_any (λ r. list_any (λ u. u.place.prov == p) r.units) rs

-- no home centre stands twice in a power's list or in those of two of these powers
abbrev pub are_homes_single : List Realm → Bool
are_homes_single [] = true
are_homes_single (r ∷ rs) = (are_provs_single r.home && not (list_any (λ p. is_home_of rs p) r.home)) && are_homes_single rs

-- no two opening units of these powers stand in one province
abbrev pub are_openings_single : List Realm → Bool
are_openings_single [] = true
are_openings_single (r ∷ rs) = (are_units_single r.units && not (list_any (λ u. is_held_by rs u.place.prov) r.units)) && are_openings_single rs

-- no full name, neighbour, home centre and no province of an opening unit stands twice
abbrev pub is_single : Chart → Bool
is_single m = are_names_single m.provinces && (list_all has_single_neighbours m.provinces && (are_homes_single m.realms && are_openings_single m.realms))

-- the first fault of a map's parts
abbrev pub first_fault : Chart → Option MapFault
first_fault m =
    if not (is_within_limits m) then Some OverLimit
    else if not (is_well_formed m) then Some UnknownName
    else if not (is_allowed m) then Some UnknownName
    else if not (is_distinct m) then Some DoubledName
    else if not (is_single m) then Some DoubledName
    else if not (is_mutual m) then Some NotSymmetric
    else None

-- parts have no fault just where they are a map
abbrev pub PassesExactly : Type 0
PassesExactly = (m : Chart) → (first_fault m ≡ None) ↔ IsMap m
