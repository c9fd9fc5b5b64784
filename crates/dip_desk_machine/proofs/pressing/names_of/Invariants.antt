use Rattle.std.proofs.Common.{◌≡◌, ◌++◌}
use Rattle.dip_letters.specs.Views.{names_in}
use Rattle.dip_desk_state.specs.Rows as rows
use Rattle.dip_desk_machine.proofs.pressing.names_of.Given as goal

abbrev pub invariant-loop-name : goal.invariant-loop-name
invariant-loop-name l = rows.lines l.found.items ++ names_in l.name-iterator ≡ names_in l.initial.name-iterator
