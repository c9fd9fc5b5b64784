use Rattle.std.proofs.Common.{◌≡◌, take}
use Rattle.dip_desk_state.specs.Rows as rows
use Rattle.dip_desk_state.proofs.records.copy_standings.Given as goal

abbrev pub invariant-loop-standing : goal.invariant-loop-standing
invariant-loop-standing l = rows.standings l.copy.items ≡ rows.standings (take l.standing-index l.pending)
