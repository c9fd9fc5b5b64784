-- The distance of a place to a home centre: the least number of steps.
use Rattle.std.specs.Prelude.{◌≡◌, ℕ, ◌<◌, ◌≤◌, ◌==◌, ◌&&◌, Bool, true, List, ◌++◌, map, flat_map, zero, suc}
use Rattle.std.specs.List.{list_any}
use Rattle.dip_names.specs.declared.names.Kind.{Kind}
use Rattle.dip_names.specs.declared.names.Kind.TheVariants.{Army, Fleet}
use Rattle.dip_names.specs.declared.names.Place.{Place}
use Rattle.dip_map_chart.specs.Charts.{Chart, province, army_next, is_fleet_next, is_fleet_place, is_home}

-- where an army's way may go on from a province: to neighbours of either kind
abbrev pub ways : Chart → ℕ → List ℕ
ways m p = army_next m p ++ flat_map (λ s. map (λ b. b.prov) s.next) (province m p).shores

-- n steps by such ways lead from province p to a home centre of the power r
abbrev pub ArmyWalk : Chart → ℕ → ℕ → ℕ → Type 0
ArmyWalk m r zero p = is_home m r p ≡ true
ArmyWalk m r (suc n) p = (q : ℕ) × (list_any (λ x. x == q) (ways m p) ≡ true) × ArmyWalk m r n q

-- n steps by fleet neighbours lead from the place a to a place of a home centre of the power r
abbrev pub FleetWalk : Chart → ℕ → ℕ → Place → Type 0
FleetWalk m r zero a = (is_fleet_place m a && is_home m r a.prov) ≡ true
FleetWalk m r (suc n) a = (b : Place) × (is_fleet_next m a b ≡ true) × FleetWalk m r n b

-- n steps of a unit of that kind lead from the place a to a home centre of the power r
abbrev pub Walk : Chart → Kind → ℕ → ℕ → Place → Type 0
Walk m Army r n a = ArmyWalk m r n a.prov
Walk m Fleet r n a = FleetWalk m r n a

-- n is the least number of steps; 1,000 stands where no number of steps leads to a home centre
pub record IsDistance (m : Chart) (kind : Kind) (a : Place) (r n : ℕ) : Type 0 where
  pub walk : n < 1000 → Walk m kind r n a
  pub least : (k : ℕ) → Walk m kind r k a → n ≤ k
  pub none : (k : ℕ) → Walk m kind r k a → n < 1000
  pub most : n ≤ 1000
