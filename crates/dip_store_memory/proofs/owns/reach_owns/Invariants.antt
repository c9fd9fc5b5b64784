use Rattle.std.proofs.Common.{◌≡◌, ◌++◌, map, take, drop}
use Rattle.dip_desk_state.specs.ChangeRows as desk_rows
use Rattle.dip_desk_state.specs.Rows as rows
use Rattle.dip_store_memory.specs.Owns.{own_after}
use Rattle.dip_store_memory.proofs.owns.reach_owns.Given as goal

abbrev pub invariant-loop-own : goal.invariant-loop-own
invariant-loop-own l =
    let f = own_after (desk_rows.change l.change) in
    take l.own-index (map (λ o. rows.own o) l.own-items) ++ map f (drop l.own-index (map (λ o. rows.own o) l.own-items)) ≡ map f (map (λ o. rows.own o) l.fn.owns.items)
