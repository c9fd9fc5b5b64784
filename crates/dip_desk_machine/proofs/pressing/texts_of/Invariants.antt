use Rattle.std.proofs.Common.{◌≡◌, ◌++◌}
use Rattle.dip_letters.specs.Views.{texts_in}
use Rattle.dip_desk_state.specs.Rows as rows
use Rattle.dip_desk_machine.proofs.pressing.texts_of.Given as goal

abbrev pub invariant-loop-line : goal.invariant-loop-line
invariant-loop-line l = rows.lines l.found.items ++ texts_in l.line-iterator ≡ texts_in l.initial.line-iterator
