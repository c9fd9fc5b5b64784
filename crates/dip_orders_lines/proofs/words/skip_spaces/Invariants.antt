use Rattle.std.proofs.Common.{◌≡◌, ◌≤◌, length}
use Rattle.dip_orders_lines.specs.Scan.{tokens_at}
use Rattle.dip_orders_lines.proofs.words.skip_spaces.Given as goal

abbrev pub invariant-loop-rest : goal.invariant-loop-rest
invariant-loop-rest l = (tokens_at l.rest ≡ tokens_at l.fn.text) × (length l.rest ≤ length l.fn.text)

abbrev pub decreases-loop-rest : goal.decreases-loop-rest
decreases-loop-rest l = length l.rest
