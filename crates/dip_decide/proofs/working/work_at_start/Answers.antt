use Rattle.dip_decide_rules.specs.Given.{known_of}
use Rattle.dip_decide.proofs.Tested.{kinds_listed}
use Rattle.dip_decide.proofs.working.work_at_start.Goals as goal

pub returns : goal.returns
returns c = kinds_listed (known_of c.args.values.now) c.args.table.now.places.items _ _ _ _ (rw (c.in_ok-work.ensures, c.as_slice.ensures.value) at c.in_ok-list_moves.ensures) (rw c.as_slice-2.ensures.value at c.in_ok-list_supports.ensures) (rw c.as_slice-3.ensures.value at c.in_ok-list_paths.ensures)
