use Rattle.std.proofs.Common.{◌≡◌, drop, find}
use Rattle.dip_orders_placed.specs.Standing.{is_same_unit}
use Rattle.dip_explain_lines.proofs.retreating.dislodged_entry.Given as goal

abbrev pub invariant-loop-dislodged : goal.invariant-loop-dislodged
invariant-loop-dislodged l = find (λ d. is_same_unit d.unit l.unit) (drop l.dislodged-index l.all) ≡ find (λ d. is_same_unit d.unit l.unit) l.all
