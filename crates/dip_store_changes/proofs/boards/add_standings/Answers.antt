use Rattle.std.proofs.Common.{arith, rules, map, ◌∙◌}
use Rattle.dip_store_tables.specs.Boards.{standing_row}
use Rattle.dip_store_sql.proofs.Joining.{does_and, does_fail, does_more}
use Rattle.dip_store_sql.specs.Keys.{UnitsDiffer, same_unit}
use Rattle.dip_store_changes.specs.Boards.{more_units}
use Rattle.dip_store_sql.proofs.Leading.{mapped_apart}
use Rattle.dip_store_changes.proofs.RowsMore.{units_more}
use Rattle.dip_store_sql.proofs.Parts.{taken_more}
use Rattle.dip_store_changes.proofs.boards.add_standings.Goals as goal

pub loop-unit-preserved : goal.loop-unit-preserved
loop-unit-preserved g c =
    let d = c.unit-item.result in
    let row = standing_row c.args.map.now c.args.game.now in
    let step = rw c.unit-item.is at c.in_ok-add_standing.ensures.does in
    record {
      same_reference = c.in_ok-add_standing.ensures.same_reference ∙ c.loop-unit.invariant.same_reference;
      does = does_more _ tt c.loop-unit.invariant.does step (units_more _ _ _ (taken_more row c.args.units.now c.loop-unit.unit-index d (omega arith)));
    }

pub returns-in_err-add_standing-clause-does : goal.returns-in_err-add_standing-clause-does
returns-in_err-add_standing-clause-does g c =
    let d = c.unit-item.result in
    let row = standing_row c.args.map.now c.args.game.now in
    let step = rw c.unit-item.is at c.in_err-add_standing.ensures.does in
    let broken = does_fail (Unit {0}) (more_units (map row c.args.units.now)) UnitsDiffer (does_and c.loop-unit.invariant.does step) (λ t apart. mapped_apart same_unit row c.args.units.now c.loop-unit.unit-index d (omega arith) t.units apart) in
    search (rules, broken)
