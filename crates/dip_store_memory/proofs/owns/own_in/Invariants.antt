use Rattle.std.proofs.Common.{◌≡◌, drop, map}
use Rattle.dip_desk_state.specs.Rows as rows
use Rattle.dip_store_memory.specs.Owns.{own_among}
use Rattle.dip_store_memory.proofs.owns.own_in.Given as goal

abbrev pub invariant-loop-own : goal.invariant-loop-own
invariant-loop-own l = own_among l.power (map (λ o. rows.own o) (drop l.own-index l.owns)) ≡ own_among l.power (map (λ o. rows.own o) l.owns)
