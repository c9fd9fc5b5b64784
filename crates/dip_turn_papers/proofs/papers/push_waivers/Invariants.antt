use Rattle.std.proofs.Common.{◌≡◌, ◌++◌, ◌==◌, drop, filter, flat_map, string_bytes}
use Rattle.dip_turn_phases.specs.declared.lines.Waiver.{Waiver}
use Rattle.dip_turn_papers.specs.Papers.{waiver_line}
use Rattle.dip_turn_papers.proofs.papers.push_waivers.Given as goal

abbrev pub invariant-loop-waiver : goal.invariant-loop-waiver
invariant-loop-waiver l =
    string_bytes l.out ++ flat_map (waiver_line l.map) (filter (λ (w : Waiver). w.power == l.power) (drop l.waiver-index l.waivers))
    ≡ string_bytes l.initial.out ++ flat_map (waiver_line l.map) (filter (λ (w : Waiver). w.power == l.power) l.waivers)
