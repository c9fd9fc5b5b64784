use Rattle.std.proofs.Common.{◌≡◌, ◌+◌, ◌≤◌, length}
use Rattle.std.specs.Prelude.{count_by}
use Rattle.dip_map.specs.Charts.{is_centre, provs}
use Rattle.dip_turn_phases.proofs.centres.centres.Given as goal

abbrev pub invariant-loop-prov : goal.invariant-loop-prov
invariant-loop-prov l = record {
  counted : l.count + count_by (is_centre l.map) l.prov-iterator ≡ count_by (is_centre l.map) (provs l.map);
  few : l.count + length l.prov-iterator ≤ length l.map.provinces;
}
