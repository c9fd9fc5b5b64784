use Rattle.std.proofs.Common.{◌≡◌, ◌++◌, length}
use Rattle.dip_store_tables.specs.Boards.{standoff_of}
use Rattle.dip_store_tables.specs.WrittenBoards.{IsStandoffText}
use Rattle.dip_store_tables.proofs.centres.standoff.Given as goal

abbrev pub invariant-loop-rest : goal.invariant-loop-rest
invariant-loop-rest l =
    (l.provs.items ++ standoff_of l.map l.rest ≡ standoff_of l.map l.text)
    × (IsStandoffText l.map l.text → IsStandoffText l.map l.rest)

abbrev pub decreases-loop-rest : goal.decreases-loop-rest
decreases-loop-rest l = length l.rest
