use Rattle.std.proofs.Common.{◌≡◌, ◌++◌, drop, flat_map}
use Rattle.dip_map.proofs.boards.opening_units_of.Given as goal

abbrev pub invariant-loop-realm : goal.invariant-loop-realm
invariant-loop-realm l = l.units.items ++ flat_map (λ r. r.units) (drop l.realm-index l.map.realms) ≡ flat_map (λ r. r.units) l.map.realms
