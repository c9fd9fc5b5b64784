use Rattle.std.proofs.Common.{◌≡◌, ℕ, ◌<◌, get_or, true}
use Rattle.dip_map.specs.Boards.{is_dislodged}
use Rattle.dip_map.specs.declared.boards.Dislodged.{Dislodged}
use Rattle.dip_map.proofs.checks.are_dislodged_of.Given as goal

abbrev pub invariant-loop-unit : goal.invariant-loop-unit
invariant-loop-unit l = (k : ℕ) (d : Dislodged) → k < l.unit-index → is_dislodged l.map (get_or l.units k d) ≡ true
