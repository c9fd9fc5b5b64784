use Rattle.std.proofs.Common.{◌≡◌, ◌==◌, ◌+◌, ◌-◌, ◌≤◌, length, take}
use Rattle.std.specs.List.{count_by}
use Rattle.dip_check_runs.proofs.papers.line_after.Given as goal

abbrev pub invariant-bytes : goal.invariant-bytes
invariant-bytes l = record {
  most : l.at ≤ length l.bytes;
  few : l.line ≤ l.at + 1;
  lines : l.line ≡ count_by (λ b. b == 10) (take l.at l.bytes) + 1;
}

abbrev pub decreases-bytes : goal.decreases-bytes
decreases-bytes l = length l.bytes - l.at
