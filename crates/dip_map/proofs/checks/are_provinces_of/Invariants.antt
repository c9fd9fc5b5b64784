use Rattle.std.proofs.Common.{ℕ, ◌<◌, length, get_or}
use Rattle.dip_map.proofs.checks.are_provinces_of.Given as goal

abbrev pub invariant-loop-province : goal.invariant-loop-province
invariant-loop-province l = (k d : ℕ) → k < l.province-index → get_or l.provinces k d < length l.map.provinces
