use Rattle.std.proofs.Common.{ℕ, List, Option, length}
use Rattle.dip_check_runs.specs.Input.{IsRead}
use Rattle.dip_check_runs.proofs.InputLemmas.{left_to_read}
use Rattle.dip_check_runs.proofs.input.front_size.Given as goal

abbrev pub invariant-pieces : goal.invariant-pieces
invariant-pieces g l = (known : Option (List ℕ)) (used : List ℕ) → IsRead known (g.R.Read.remaining l.fn.reader) used l.fn.ahead
    → IsRead known (g.R.Read.remaining l.reader) used l.ahead

abbrev pub decreases-pieces : goal.decreases-pieces
decreases-pieces g l = left_to_read l.ahead.ended (length l.ahead.bytes.items)
