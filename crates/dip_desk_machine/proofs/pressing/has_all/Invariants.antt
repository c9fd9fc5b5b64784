use Rattle.std.proofs.Common.{◌≡◌, drop}
use Rattle.std.specs.List.{list_any}
use Rattle.dip_desk_machine.specs.Pressing as p
use Rattle.dip_desk_state.specs.Rows as rows
use Rattle.dip_desk_machine.proofs.pressing.has_all.Given as goal

abbrev pub invariant-loop-name : goal.invariant-loop-name
invariant-loop-name l = list_any p.names_all (rows.lines (drop l.name-index l.names)) ≡ list_any p.names_all (rows.lines l.names)
