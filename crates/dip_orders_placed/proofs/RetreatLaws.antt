-- Where a unit may retreat: the places that are found among the open ones, and the rule that each of them keeps.
use Rattle.std.proofs.Common.{◌≡◌, ℕ, ◌==◌, ◌&&◌, true, not, List, [], ◌∷◌, refl, sym, ap, ◌∙◌, arith, Option}
use Rattle.std.specs.Prelude.{IsTrue, ◌↔◌}
use Rattle.std.specs.List.{filter, list_any}
use Rattle.std.proofs.lemmas.Bool.{and_parts, and_from, eqb-true, not-true}
use Rattle.dip_names.specs.declared.names.Kind.{Kind}
use Rattle.dip_names.specs.declared.names.Kind.TheVariants.{Army, Fleet}
use Rattle.dip_names.specs.declared.names.Place.{Place}
use Rattle.dip_map.specs.declared.boards.Dislodged.{Dislodged}
use Rattle.dip_map.specs.Charts.{Chart, army_next, fleet_next, are_provs_single, are_places_single}
use Rattle.dip_map.specs.Boards.{Position, is_held, is_standoff}
use Rattle.dip_orders_placed.specs.Retreats.{on_foot, next_places, is_origin, is_open, retreats_of, is_place_among, MayRetreat}
use Rattle.dip_orders_placed.proofs.KeptLaws.{any_kept}

-- a place is among the open ones where it is open and among all
among_open : (b : Position) (o : Option ℕ) (places : List Place) (a : Place) → is_place_among a (filter (λ x. is_open b o x.prov) places) ≡ (is_open b o a.prov && is_place_among a places)
among_open b o places a = any_kept (λ x. is_open b o x.prov) (λ x. (x.prov == a.prov) && (x.coast == a.coast)) (is_open b o a.prov) (λ x h. ap (is_open b o) (eqb-true x.prov a.prov (and_parts _ _ h).0)) places

-- the rule of a retreat, of a place that is open and among the next ones
rule_from : (m : Chart) (b : Position) (d : Dislodged) (a : Place) → is_open b d.origin a.prov ≡ true → is_place_among a (next_places m d.unit.kind d.unit.place) ≡ true → MayRetreat m b d a
rule_from m b d a free next =
    let (empty, rest) = and_parts (not (is_held b a.prov)) _ free in
    let (origin, standoff) = and_parts (not (is_origin d.origin a.prov)) (not (is_standoff b a.prov)) rest in
    record { next = next; empty = not-true _ empty; not_origin = not-true _ origin; no_standoff = not-true _ standoff }

open_from : (m : Chart) (b : Position) (d : Dislodged) (a : Place) → MayRetreat m b d a → is_open b d.origin a.prov ≡ true
open_from m b d a r = rw (r.empty, r.not_origin, r.no_standoff) refl

-- the places that a unit may retreat to are just those that the rule allows
pub retreats_exact : (m : Chart) (b : Position) (d : Dislodged) (a : Place) → IsTrue (is_place_among a (retreats_of m b d)) ↔ MayRetreat m b d a
retreats_exact m b d a =
    let next : List Place = next_places m d.unit.kind d.unit.place in
    let same = among_open b d.origin next a in (
      λ h. let both = and_parts (is_open b d.origin a.prov) (is_place_among a next) (sym same ∙ h) in rule_from m b d a both.0 both.1,
      λ r. same ∙ and_from (is_open b d.origin a.prov) (is_place_among a next) (open_from m b d a r) r.next,
    )

-- where no place stands twice, none does among the open ones
single_open : (b : Position) (o : Option ℕ) (places : List Place) → are_places_single places ≡ true → are_places_single (filter (λ a. is_open b o a.prov) places) ≡ true
single_open b o [] h = refl
single_open b o (x ∷ xs) h =
    let parts = and_parts (not (is_place_among x xs)) (are_places_single xs) h in
    grind (arith, parts.0, parts.1, among_open b o xs x, single_open b o xs parts.1)

among_on_foot : (p : ℕ) (ps : List ℕ) → is_place_among (record { prov = p; coast = 0 }) (on_foot ps) ≡ list_any (λ q. q == p) ps
among_on_foot p [] = refl
among_on_foot p (q ∷ qs) = grind (arith, among_on_foot p qs)

single_on_foot : (ps : List ℕ) → are_places_single (on_foot ps) ≡ are_provs_single ps
single_on_foot [] = refl
single_on_foot (p ∷ ps) = rw (among_on_foot p ps, single_on_foot ps) refl

single_next : (m : Chart) → ((p : ℕ) → are_provs_single (army_next m p) ≡ true) → ((a : Place) → are_places_single (fleet_next m a) ≡ true) → (k : Kind) (a : Place) → are_places_single (next_places m k a) ≡ true
single_next m army fleet Army a = single_on_foot (army_next m a.prov) ∙ army a.prov
single_next m army fleet Fleet a = fleet a

-- no place of a retreat stands twice, where no neighbour does
pub retreats_single : (m : Chart) (b : Position) (d : Dislodged) → ((p : ℕ) → are_provs_single (army_next m p) ≡ true) → ((a : Place) → are_places_single (fleet_next m a) ≡ true) → are_places_single (retreats_of m b d) ≡ true
retreats_single m b d army fleet = single_open b d.origin (next_places m d.unit.kind d.unit.place) (single_next m army fleet d.unit.kind d.unit.place)
