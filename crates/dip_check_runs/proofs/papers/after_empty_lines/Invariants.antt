use Rattle.std.proofs.Common.{◌-◌, ◌≤◌, length, take}
use Rattle.dip_check_runs.specs.Input.{AreEmptyLines}
use Rattle.dip_check_runs.proofs.papers.after_empty_lines.Given as goal

abbrev pub invariant-lines : goal.invariant-lines
invariant-lines l = record {
  most : l.at ≤ length l.input;
  empty : AreEmptyLines (take l.at l.input);
}

abbrev pub decreases-lines : goal.decreases-lines
decreases-lines l = length l.input - l.at
