use Rattle.std.proofs.Common.{arith}
use Rattle.dip_desk_machine.proofs.laws.new_desks_are_lawful.Goals as goal

pub returns : goal.returns
returns c m digest = record { games = tt; names = tt; numbered = tt; last = omega arith }
