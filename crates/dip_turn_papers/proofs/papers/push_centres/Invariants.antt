use Rattle.std.proofs.Common.{◌≡◌, ◌++◌, drop, flat_map, string_bytes}
use Rattle.dip_turn_papers.specs.Papers.{centre_line}
use Rattle.dip_turn_papers.proofs.papers.push_centres.Given as goal

abbrev pub invariant-loop-centre : goal.invariant-loop-centre
invariant-loop-centre l = string_bytes l.out ++ flat_map (centre_line l.map) (drop l.centre-index l.centres) ≡ string_bytes l.initial.out ++ flat_map (centre_line l.map) l.centres
