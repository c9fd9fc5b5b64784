-- What the rules of a movement allow is in force: no unit goes to its own province.
use Rattle.std.proofs.Common.{◌≡◌, ℕ, ◌==◌, ◌&&◌, Bool, true, false, List, refl, sym, inl, inr, not, ◌≢◌}
use Rattle.std.proofs.lemmas.Bool.{cases_Bool, and_parts, not-true}
use Rattle.std.proofs.lemmas.Bool.Decides.{eqb_tells}
use Rattle.dip_names.specs.Kinds.{is_coastal}
use Rattle.dip_names.specs.declared.names.Kind.{Kind}
use Rattle.dip_names.specs.declared.names.Kind.TheVariants.{Army, Fleet}
use Rattle.dip_names.specs.declared.names.Place.{Place}
use Rattle.dip_names.specs.declared.names.Unit.{Unit as AUnit}
use Rattle.dip_map.specs.declared.boards.Season.{Season}
use Rattle.dip_map.specs.declared.boards.Season.TheVariants.{SpringMoves, SpringRetreats, FallMoves, FallRetreats, Winter}
use Rattle.dip_map.specs.Charts.{Chart, IsMap, province, is_army_next}
use Rattle.dip_map.specs.Boards.{Position}
use Rattle.dip_orders.specs.Lawful.{IsLawful, IsAllowed, Reaches}
use Rattle.dip_orders.specs.Conditions.{is_movement, is_retreat, is_adjustment, may_convoy, may_travel}
use Rattle.dip_orders_placed.specs.Standing.{is_done_from, is_in_force}
use Rattle.dip_orders_placed.specs.declared.placed.Order.{Order}
use Rattle.dip_orders_placed.specs.declared.placed.Order.TheVariants.{Hold, Move, SupportHold, SupportMove, Convoy, Retreat, Disband, Build, Remove}
use Rattle.dip_orders_placed.specs.declared.placed.PlacedOrder.{PlacedOrder}

neither : (a b : ℕ) → a ≢ b → (a == b) ≡ false
neither a b h = elim (eqb_tells a b) [ inl same ↦ absurd (h same.1) | inr other ↦ other.0 ]

convoy_away : (m : Chart) (p q : ℕ) → may_convoy m p q ≡ true → q ≢ p
convoy_away m p q h e =
    let rest = (and_parts (is_coastal (province m p).terrain) (is_coastal (province m q).terrain && not (p == q)) h).1 in
    let apart : (p == q) ≡ false = not-true (p == q) (and_parts (is_coastal (province m q).terrain) (not (p == q)) rest).1 in
    elim (eqb_tells p q) [
      | inl same ↦ let yes : (p == q) ≡ true = same.0 in absurd (cc)
      | inr other ↦ absurd (other.1 (sym e))
    ]

march_away : (m : Chart) → IsMap m → (p q : ℕ) → may_travel m p q ≡ true → q ≢ p
march_away m laws p q h =
    elim (cases_Bool (is_army_next m p q)) [
      | inl next ↦ (laws.army_away p q next).0
      | inr other ↦ convoy_away m p q (rw other at h)
    ]

-- where a unit can go is another province
reach_away : (m : Chart) → IsMap m → (k : Kind) (a to : Place) (via : Bool) → Reaches m k a to via → to.prov ≢ a.prov
reach_away m laws Army a to true h = convoy_away m a.prov to.prov h.1
reach_away m laws Army a to false h = march_away m laws a.prov to.prov h.1
reach_away m laws Fleet a to via h = laws.fleet_away a to h.1

no_phase_of_both : (s : Season) → is_movement s ≡ true → is_retreat s ≡ true → ⊥
no_phase_of_both SpringMoves f g = absurd (cc)
no_phase_of_both SpringRetreats f g = absurd (cc)
no_phase_of_both FallMoves f g = absurd (cc)
no_phase_of_both FallRetreats f g = absurd (cc)
no_phase_of_both Winter f g = absurd (cc)

no_winter_moves : (s : Season) → is_movement s ≡ true → is_adjustment s ≡ true → ⊥
no_winter_moves SpringMoves f g = absurd (cc)
no_winter_moves SpringRetreats f g = absurd (cc)
no_winter_moves FallMoves f g = absurd (cc)
no_winter_moves FallRetreats f g = absurd (cc)
no_winter_moves Winter f g = absurd (cc)

allowed_in_force : (m : Chart) → IsMap m → (b : Position) (power : ℕ) (pending : List PlacedOrder) (u : AUnit) (o : Order) → is_movement b.phase.season ≡ true → IsAllowed m b power pending u o → is_done_from u.place.prov o ≡ true
allowed_in_force m laws b power pending u Hold now h = refl
allowed_in_force m laws b power pending u (Move to via) now h = rw (neither to.prov u.place.prov (reach_away m laws u.kind u.place to via h.1.1)) refl
allowed_in_force m laws b power pending u (SupportHold at) now h = refl
allowed_in_force m laws b power pending u (SupportMove at to) now h = refl
allowed_in_force m laws b power pending u (Convoy at to) now h = refl
allowed_in_force m laws b power pending u (Retreat to) now h = absurd (no_phase_of_both b.phase.season now h.0)
allowed_in_force m laws b power pending u Disband now h = absurd (no_phase_of_both b.phase.season now h.0)
allowed_in_force m laws b power pending u Build now h = absurd (no_winter_moves b.phase.season now h.0)
allowed_in_force m laws b power pending u Remove now h = absurd (no_winter_moves b.phase.season now h.0)

-- a lawful order of a phase of movement is in force
pub lawful_in_force : (m : Chart) (b : Position) (power : ℕ) (pending : List PlacedOrder) (o : PlacedOrder) → IsMap m → is_movement b.phase.season ≡ true → IsLawful m b power pending o → is_in_force o ≡ true
lawful_in_force m b power pending o laws now h = allowed_in_force m laws b power pending o.unit o.order now h
