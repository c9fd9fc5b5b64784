use Rattle.std.proofs.Common.{ℕ, List, Option}
use Rattle.dip_check_runs.specs.Input.{IsRead}
use Rattle.dip_check_runs.proofs.InputLemmas.{IsUsed}
use Rattle.dip_check_runs.proofs.input.skip_rest.Given as goal

abbrev pub invariant-reading : goal.invariant-reading
invariant-reading g l = (known : Option (List ℕ)) (used : List ℕ) → IsRead known (g.R.Read.remaining l.fn.reader) used l.fn.ahead
    → IsUsed known (g.R.Read.remaining l.reader) used
