-- Where a dislodged unit may go.
use Rattle.std.specs.Prelude.{◌≡◌, ℕ, ◌==◌, ◌&&◌, not, Bool, true, false, List, Option, None, Some, map, filter}
use Rattle.std.specs.List.{list_any}
use Rattle.dip_names.specs.declared.names.Kind.{Kind}
use Rattle.dip_names.specs.declared.names.Kind.TheVariants.{Army, Fleet}
use Rattle.dip_names.specs.declared.names.Place.{Place}
use Rattle.dip_map.specs.declared.boards.Dislodged.{Dislodged}
use Rattle.dip_map.specs.Charts.{Chart, army_next, fleet_next}
use Rattle.dip_map.specs.Boards.{Position, is_held, is_standoff}

-- the places of an army in these provinces: none tells a coast
abbrev pub on_foot : List ℕ → List Place
on_foot provinces = map (λ q. record { prov = q; coast = 0 }) provinces

-- the neighbouring places for a kind of unit: an army's provinces, a fleet's coasts and seas
abbrev pub next_places : Chart → Kind → Place → List Place
next_places m Army a = on_foot (army_next m a.prov)
next_places m Fleet a = fleet_next m a

-- the attacker came from that province; one that came by convoy closes none
abbrev pub is_origin : Option ℕ → ℕ → Bool
is_origin None p = false
is_origin (Some o) p = o == p

-- open to a retreat: empty, not where the attacker came from, and no standoff province
abbrev pub is_open : Position → Option ℕ → ℕ → Bool
is_open b origin p = not (is_held b p) && (not (is_origin origin p) && not (is_standoff b p))

-- where a dislodged unit may retreat, in the map's order
abbrev pub retreats_of : Chart → Position → Dislodged → List Place
retreats_of m b d = filter (λ a. is_open b d.origin a.prov) (next_places m d.unit.kind d.unit.place)

-- whether the place is one of these
abbrev pub is_place_among : Place → List Place → Bool
is_place_among a places = list_any (λ x. (x.prov == a.prov) && (x.coast == a.coast)) places

-- a dislodged unit may retreat to the place: it is a neighbouring one for its kind, its province is empty and not where the attacker came from, and no standoff was there
pub record MayRetreat (m : Chart) (b : Position) (d : Dislodged) (a : Place) : Type 0 where
  pub next : is_place_among a (next_places m d.unit.kind d.unit.place) ≡ true
  pub empty : is_held b a.prov ≡ false
  pub not_origin : is_origin d.origin a.prov ≡ false
  pub no_standoff : is_standoff b a.prov ≡ false
