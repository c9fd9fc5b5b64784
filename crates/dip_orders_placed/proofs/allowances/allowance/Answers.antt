use Rattle.dip_orders_placed.proofs.AllowanceLaws.{builds_few, removals_few, removals_fit, difference_fits, difference_is}
use Rattle.dip_orders_placed.proofs.allowances.allowance.Goals as goal

pub overflow_cast-result-2 : goal.overflow_cast-result-2
overflow_cast-result-2 c =
    let few = removals_few c.args.map.now c.args.board.now c.args.power c.facts.ensures c.requires.of_map in
    rw c.removals_due-removals.ensures (removals_fit _ few)

pub overflow_sub-result : goal.overflow_sub-result
overflow_sub-result c =
    let builds = builds_few c.args.map.now c.args.board.now c.args.power c.facts.ensures c.requires.of_map in
    let removals = removals_few c.args.map.now c.args.board.now c.args.power c.facts.ensures c.requires.of_map in
    rw (c.builds_due-builds.ensures, c.removals_due-removals.ensures) (difference_fits _ _ builds removals)

pub returns : goal.returns
returns c =
    let builds = builds_few c.args.map.now c.args.board.now c.args.power c.facts.ensures c.requires.of_map in
    let removals = removals_few c.args.map.now c.args.board.now c.args.power c.facts.ensures c.requires.of_map in
    rw (c.builds_due-builds.ensures, c.removals_due-removals.ensures) (difference_is _ _ builds removals)
