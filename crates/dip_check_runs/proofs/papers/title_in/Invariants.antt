use Rattle.std.proofs.Common.{length, ◌-◌, ◌≤◌, ◌≢◌, take}
use Rattle.std.specs.List.{AllByRecursion}
use Rattle.dip_check_runs.proofs.papers.title_in.Given as goal

abbrev pub invariant-bytes : goal.invariant-bytes
invariant-bytes l = record {
  most : l.at ≤ length l.paper;
  few : l.at ≤ 80;
  line : AllByRecursion (λ b. b ≢ 10) (take l.at l.paper);
}

abbrev pub decreases-bytes : goal.decreases-bytes
decreases-bytes l = length l.paper - l.at
