use Rattle.std.proofs.Common.{◌≡◌, ◌++◌, codes, drop, flat_map, string_bytes}
use Rattle.dip_map.specs.Charts.{realm}
use Rattle.dip_desk_state.proofs.statuses.push_powers.Given as goal

abbrev pub invariant-loop-power : goal.invariant-loop-power
invariant-loop-power l =
    string_bytes l.out ++ flat_map (λ p. codes " " ++ (realm l.map p).name) (drop l.power-index l.powers)
    ≡ string_bytes l.initial.out ++ flat_map (λ p. codes " " ++ (realm l.map p).name) l.powers
