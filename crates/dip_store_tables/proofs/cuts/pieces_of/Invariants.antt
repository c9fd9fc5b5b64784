use Rattle.std.proofs.Common.{◌≡◌, ◌++◌, length}
use Rattle.std.specs.Str.{IsUtf8}
use Rattle.dip_desk_state.specs.Rows as rows
use Rattle.dip_store_tables.specs.Texts.{pieces}
use Rattle.dip_store_tables.proofs.cuts.pieces_of.Given as goal

abbrev pub invariant-loop-piece : goal.invariant-loop-piece
invariant-loop-piece l = (rows.lines l.found.items ++ pieces l.mark l.rest ≡ pieces l.mark l.text) × IsUtf8 l.rest

abbrev pub decreases-loop-piece : goal.decreases-loop-piece
decreases-loop-piece l = length l.rest
