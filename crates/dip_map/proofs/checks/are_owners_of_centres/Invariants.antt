use Rattle.std.proofs.Common.{◌≡◌, ℕ, ◌<◌, true, is_some, None, get_or}
use Rattle.dip_map_chart.specs.Charts.{is_centre}
use Rattle.dip_map.proofs.checks.are_owners_of_centres.Given as goal

abbrev pub invariant-loop-number : goal.invariant-loop-number
invariant-loop-number l = (p : ℕ) → p < l.number → is_some (get_or l.owners p None) ≡ true → is_centre l.map p ≡ true
