use Rattle.std.proofs.Common.{◌≡◌, ◌++◌, flat_map, string_bytes}
use Rattle.dip_turn_papers.specs.Papers.{adjusted_power, adjusted_with}
use Rattle.dip_turn_papers.proofs.papers.push_adjusted_with.Given as goal

abbrev pub invariant-loop-power : goal.invariant-loop-power
invariant-loop-power l = string_bytes l.out ++ flat_map (adjusted_power l.map l.orders l.disorder l.waivers) l.power-iterator ≡ string_bytes l.initial.out ++ adjusted_with l.map l.orders l.disorder l.waivers
