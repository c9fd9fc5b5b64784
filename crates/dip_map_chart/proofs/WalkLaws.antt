-- Walks on a map are walks in its graphs.
use Rattle.std.proofs.Common.{◌≡◌, ℕ, ◌<◌, ◌≤◌, ◌==◌, ◌&&◌, true, zero, suc, length, map, List, [], ◌∷◌, refl, sym, ◌∙◌, ap, subst, inl, inr}
use Rattle.std.proofs.lemmas.Bool.{and_parts, false≢true, cases_Bool, eqb-true, eq-eqb}
use Rattle.std.specs.List.{list_any}
use Rattle.std.specs.Cmp.Derive.{both_true}
use Rattle.dip_map_chart.specs.Walk.{Walk as Way}
use Rattle.dip_names.specs.declared.names.Kind.{Kind}
use Rattle.dip_names.specs.declared.names.Kind.TheVariants.{Army, Fleet}
use Rattle.dip_names.specs.declared.names.Place.{Place}
use Rattle.dip_map_chart.specs.Charts.{Chart, IsMap, fleet_next, is_fleet_next, is_fleet_place}
use Rattle.dip_map_chart.specs.Walks.{ArmyWalk, FleetWalk, Walk}
use Rattle.dip_map_chart.specs.Charts.{is_home}
use Rattle.dip_map_chart.specs.Distances.{vertex, graph, homes}
use Rattle.dip_map_chart.proofs.Found.{place_eq}
use Rattle.dip_map_chart.proofs.MapLaws.{afloat}
use Rattle.dip_map_chart.proofs.GraphLaws.{army_row, army_home, fleet_row, fleet_home, few_coasts, no_power_no_home}

-- armies

pub march_to : (m : Chart) (r : ℕ) → IsMap m → (n p : ℕ) → ArmyWalk m r n p → Way (graph m Army) (homes m Army r) p n
march_to m r ok zero p w = army_home m r p ok ∙ w
march_to m r ok (suc n) p w =
    let (q, next, more) = w in
    (q, ap (λ (xs : List ℕ). list_any (λ x. x == q) xs) (army_row m p) ∙ next, march_to m r ok n q more)

pub march_back : (m : Chart) (r : ℕ) → IsMap m → (n p : ℕ) → Way (graph m Army) (homes m Army r) p n → ArmyWalk m r n p
march_back m r ok zero p w = sym (army_home m r p ok) ∙ w
march_back m r ok (suc n) p w =
    let (q, next, more) = w in
    (q, sym (ap (λ (xs : List ℕ). list_any (λ x. x == q) xs) (army_row m p)) ∙ next, march_back m r ok n q more)

-- fleets

-- where a fleet's walk begins is a place of the map
pub sails_from : (m : Chart) (r n : ℕ) (a : Place) → FleetWalk m r n a → is_fleet_place m a ≡ true
sails_from m r zero a w = (and_parts (is_fleet_place m a) (is_home m r a.prov) w).0
sails_from m r (suc n) a w = let (b, next, more) = w in afloat m a b next

-- a neighbour's vertex is a neighbour of the vertex, and each of these is that of a neighbour
edge_to : (b : Place) (xs : List Place) → list_any (λ x. (x.prov == b.prov) && (x.coast == b.coast)) xs ≡ true
    → list_any (λ v. v == vertex b) (map (λ x. vertex x) xs) ≡ true
edge_to b [] h = absurd (false≢true h)
edge_to b (x ∷ xs) h =
    elim (cases_Bool ((x.prov == b.prov) && (x.coast == b.coast))) [
      | inl same ↦
          let (p, c) = and_parts (x.prov == b.prov) (x.coast == b.coast) same in
          let e : x ≡ b = place_eq x b (eqb-true x.prov b.prov p) (eqb-true x.coast b.coast c) in
          rw (eq-eqb (vertex x) (vertex b) (ap (λ (y : Place). vertex y) e)) refl
      | inr other ↦
          let more = edge_to b xs (rw other at h) in
          elim (cases_Bool (vertex x == vertex b)) [ inl here ↦ rw here refl | inr there ↦ rw there more ]
    ]

edge_back : (v : ℕ) (xs : List Place) → list_any (λ x. x == v) (map (λ x. vertex x) xs) ≡ true
    → (b : Place) × (list_any (λ x. (x.prov == b.prov) && (x.coast == b.coast)) xs ≡ true) × (vertex b ≡ v)
edge_back v [] h = absurd (false≢true h)
edge_back v (x ∷ xs) h =
    elim (cases_Bool (vertex x == v)) [
      | inl here ↦
          (x, rw (both_true (eq-eqb x.prov x.prov refl) (eq-eqb x.coast x.coast refl)) refl, eqb-true (vertex x) v here)
      | inr there ↦
          let (b, found, same) = edge_back v xs (rw there at h) in
          (b, elim (cases_Bool ((x.prov == b.prov) && (x.coast == b.coast))) [ inl one ↦ rw one refl | inr other ↦ rw other found ], same)
    ]

-- what a fleet's neighbour is has a number of its own
neighbour_coast : (m : Chart) (a b : Place) → IsMap m → is_fleet_next m a b ≡ true → b.coast < 4
neighbour_coast m a b ok next = few_coasts m b ok (afloat m b a (ok.fleet_symmetric a b next))

pub sail_to : (m : Chart) (r : ℕ) → IsMap m → (n : ℕ) (a : Place) → a.coast < 4 → FleetWalk m r n a → Way (graph m Fleet) (homes m Fleet r) (vertex a) n
sail_to m r ok zero a low w = fleet_home m r a low ∙ w
sail_to m r ok (suc n) a low w =
    let (b, next, more) = w in (
      vertex b,
      ap (λ (xs : List ℕ). list_any (λ x. x == vertex b) xs) (fleet_row m a low) ∙ edge_to b (fleet_next m a) next,
      sail_to m r ok n b (neighbour_coast m a b ok next) more,
    )

pub sail_back : (m : Chart) (r : ℕ) → IsMap m → (n : ℕ) (a : Place) → a.coast < 4 → Way (graph m Fleet) (homes m Fleet r) (vertex a) n → FleetWalk m r n a
sail_back m r ok zero a low w = sym (fleet_home m r a low) ∙ w
sail_back m r ok (suc n) a low w =
    let (v, edge, more) = w in
    let (b, next, same) = edge_back v (fleet_next m a) (sym (ap (λ (xs : List ℕ). list_any (λ x. x == v) xs) (fleet_row m a low)) ∙ edge) in
    (b, next, sail_back m r ok n b (neighbour_coast m a b ok next) (subst (λ (u : ℕ). Way (graph m Fleet) (homes m Fleet r) u n) (sym same) more))

-- no walk leads to a home centre of a power that isn't there

no_march : (m : Chart) (r : ℕ) → length m.realms ≤ r → (n p : ℕ) → ArmyWalk m r n p → ⊥
no_march m r past zero p w = false≢true (sym (no_power_no_home m r p past) ∙ w)
no_march m r past (suc n) p w = let (q, next, more) = w in no_march m r past n q more

no_sail : (m : Chart) (r : ℕ) → length m.realms ≤ r → (n : ℕ) (a : Place) → FleetWalk m r n a → ⊥
no_sail m r past zero a w = false≢true (sym (no_power_no_home m r a.prov past) ∙ (and_parts (is_fleet_place m a) (is_home m r a.prov) w).1)
no_sail m r past (suc n) a w = let (b, next, more) = w in no_sail m r past n b more

pub no_walk : (m : Chart) (kind : Kind) (r : ℕ) → length m.realms ≤ r → (n : ℕ) (a : Place) → Walk m kind r n a → ⊥
no_walk m Army r past n a w = no_march m r past n a.prov w
no_walk m Fleet r past n a w = no_sail m r past n a w
