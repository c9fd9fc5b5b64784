-- Retreats and Winters lose and double nobody.
use Rattle.std.proofs.Common.{◌≡◌, ◌⊎◌, inl, inr, not, List, Some, ap}
use Rattle.std.proofs.lemmas.Bool.{cases_Bool}
use Rattle.std.specs.Prelude.{Contains}
use Rattle.std.specs.List.{filter_map}
use Rattle.std.proofs.lemmas.List.Elements.{All-append, All-contains_itself, All-filter, All-from_recursion, Contains-append_left}
use Rattle.dip_names.specs.declared.names.Unit.{Unit as AUnit}
use Rattle.dip_map.specs.declared.boards.Dislodged.{Dislodged}
use Rattle.dip_map.specs.Boards.{Position}
use Rattle.dip_orders_placed.specs.declared.placed.PlacedOrder.{PlacedOrder}
use Rattle.dip_turn_phases.specs.Adjusting.{disorder, is_among, is_given, units_built, units_kept, units_staying}
use Rattle.dip_turn.specs.Laws.{RetreatsLoseNobodyElse, WintersAddBuildsAlone, WintersRemoveAlone}
use Rattle.dip_turn_phases.specs.Retreating.{after_retreat, after_retreats}
use Rattle.dip_turn_phases.proofs.KeptLemmas.{all_here, given, kept_in, weaker}

ReturnsOf : Position → List PlacedOrder → AUnit → Type 0
ReturnsOf b pending u = (d : Dislodged) × Contains b.dislodged d × (after_retreat pending b.dislodged d ≡ Some u)

StoodOrReturns : Position → List PlacedOrder → AUnit → Type 0
StoodOrReturns b pending u = Contains b.units u ⊎ ReturnsOf b pending u

pub retreats_lose_nobody_else : RetreatsLoseNobodyElse
unfolding ReturnsOf StoodOrReturns
retreats_lose_nobody_else b pending = record {
  units =
      All-append (StoodOrReturns b pending) b.units (filter_map (after_retreat pending b.dislodged) b.dislodged)
      (weaker (Contains b.units) (StoodOrReturns b pending) b.units (λ u h. inl h) (All-contains_itself b.units))
      (weaker (ReturnsOf b pending) (StoodOrReturns b pending) (filter_map (after_retreat pending b.dislodged) b.dislodged) (λ u h. inr h)
      (All-from_recursion (ReturnsOf b pending) (filter_map (after_retreat pending b.dislodged) b.dislodged)
      (given (after_retreat pending b.dislodged) (Contains b.dislodged) b.dislodged (all_here b.dislodged))));
  standing =
      weaker (Contains b.units) (Contains (after_retreats b pending).units) b.units
      (λ u h. Contains-append_left b.units (filter_map (after_retreat pending b.dislodged) b.dislodged) u h) (All-contains_itself b.units);
}

StoodOrBuilt : Position → List PlacedOrder → AUnit → Type 0
StoodOrBuilt b pending u = Contains b.units u ⊎ Contains (units_built pending) u

pub winters_add_builds_alone : WintersAddBuildsAlone
unfolding StoodOrBuilt
winters_add_builds_alone m b pending =
    All-append (StoodOrBuilt b pending) (units_staying m b pending) (units_built pending)
    (weaker (Contains b.units) (StoodOrBuilt b pending) (units_staying m b pending) (λ u h. inl h)
    (All-filter (λ u. not (is_among (disorder m b pending) u)) (Contains b.units) (units_kept b pending)
    (All-filter (λ u. not (is_given pending u)) (Contains b.units) b.units (All-contains_itself b.units))))
    (weaker (Contains (units_built pending)) (StoodOrBuilt b pending) (units_built pending) (λ u h. inr h) (All-contains_itself (units_built pending)))

pub winters_remove_alone : WintersRemoveAlone
winters_remove_alone m b pending u among =
    elim (cases_Bool (is_given pending u)) [
      | inl ordered ↦ inr (inl ordered)
      | inr unordered ↦
          let kept = kept_in (λ v. not (is_given pending v)) b.units u among (ap not unordered) in
          elim (cases_Bool (is_among (disorder m b pending) u)) [
            | inl gone ↦ inr (inr gone)
            | inr stays ↦
                inl (Contains-append_left (units_staying m b pending) (units_built pending) u
                (kept_in (λ v. not (is_among (disorder m b pending) v)) (units_kept b pending) u kept (ap not stays)))
          ]
    ]
