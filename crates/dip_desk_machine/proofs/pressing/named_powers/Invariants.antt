use Rattle.std.proofs.Common.{◌≡◌, drop}
use Rattle.dip_desk_machine.specs.Pressing as p
use Rattle.dip_desk_state.specs.Rows as rows
use Rattle.dip_desk_machine.proofs.PressLemmas.{with_front}
use Rattle.dip_desk_machine.proofs.pressing.named_powers.Given as goal

abbrev pub invariant-loop-name : goal.invariant-loop-name
invariant-loop-name l = with_front l.found.items (p.named_powers l.map (rows.lines (drop l.name-index l.names))) ≡ p.named_powers l.map (rows.lines l.names)
