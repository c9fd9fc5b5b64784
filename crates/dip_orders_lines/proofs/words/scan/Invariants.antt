use Rattle.std.proofs.Common.{◌≡◌, ◌≤◌, ◌++◌, length, option_map}
use Rattle.dip_orders_lines.specs.Scan.{tokens_at, few}
use Rattle.dip_orders_lines.proofs.words.scan.Given as goal

abbrev pub invariant-loop-found : goal.invariant-loop-found
invariant-loop-found l = record { same : few (option_map (λ ts. l.found ++ ts) (tokens_at l.rest)) ≡ few (tokens_at l.fn.line); room : length l.found ≤ 8 }

abbrev pub decreases-loop-found : goal.decreases-loop-found
decreases-loop-found l = length l.rest
