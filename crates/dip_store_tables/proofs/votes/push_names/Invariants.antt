use Rattle.std.proofs.Common.{◌≡◌, ◌++◌, ◌∷◌, take, flat_map, string_bytes}
use Rattle.dip_store_tables.specs.Boards.{power_name}
use Rattle.dip_store_tables.proofs.votes.push_names.Given as goal

abbrev pub invariant-loop-power : goal.invariant-loop-power
invariant-loop-power l = string_bytes l.out ≡ string_bytes l.fn.out ++ flat_map (λ p. 32 ∷ power_name l.map p) (take l.power-index l.powers)
