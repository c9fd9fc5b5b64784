use Rattle.std.proofs.Common.{◌≡◌, ◌++◌, filter}
use Rattle.dip_map.specs.Charts.{provs}
use Rattle.dip_decide_rules.specs.Results.{values_in}
use Rattle.dip_turn_phases.specs.Moving.{is_standoff_after}
use Rattle.dip_turn_phases.proofs.standoffs.standoffs_after.Given as goal

abbrev pub invariant-loop-prov : goal.invariant-loop-prov
invariant-loop-prov l =
    l.found.items ++ filter (is_standoff_after l.map (values_in l.resolution) l.orders l.units) l.prov-iterator ≡ filter (is_standoff_after l.map (values_in l.resolution) l.orders l.units) (provs l.map)
