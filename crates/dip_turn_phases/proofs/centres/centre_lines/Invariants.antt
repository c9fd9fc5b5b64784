use Rattle.std.proofs.Common.{◌≡◌, ◌++◌}
use Rattle.std.specs.List.{filter_map}
use Rattle.dip_map.specs.Charts.{provs}
use Rattle.dip_turn_phases.specs.Centres.{centre_line}
use Rattle.dip_turn_phases.proofs.centres.centre_lines.Given as goal

abbrev pub invariant-loop-prov : goal.invariant-loop-prov
invariant-loop-prov l = l.lines.items ++ filter_map (centre_line l.board l.new) l.prov-iterator ≡ filter_map (centre_line l.board l.new) (provs l.map)
