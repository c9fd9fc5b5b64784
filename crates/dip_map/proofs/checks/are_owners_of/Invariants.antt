use Rattle.std.proofs.Common.{◌≡◌, ℕ, ◌<◌, get_or, true, Option}
use Rattle.dip_map.specs.Boards.{is_power_if_any}
use Rattle.dip_map.proofs.checks.are_owners_of.Given as goal

abbrev pub invariant-loop-owner : goal.invariant-loop-owner
invariant-loop-owner l = (k : ℕ) (d : Option ℕ) → k < l.owner-index → is_power_if_any l.map (get_or l.owners k d) ≡ true
