use Rattle.std.proofs.Common.{rules, ◌∙◌}
use Rattle.dip_store_tables.specs.Boards.{centre_rows_from}
use Rattle.dip_store_sql.proofs.Joining.{does_and, does_fail, does_more}
use Rattle.dip_store_sql.specs.Keys.{CentresDiffer, same_centre}
use Rattle.dip_store_changes.specs.Boards.{more_centres}
use Rattle.dip_store_changes.proofs.Owners.{owners_apart}
use Rattle.dip_store_changes.proofs.RowsMore.{centres_more}
use Rattle.dip_store_changes.proofs.Centres.{owner_more}
use Rattle.dip_store_changes.proofs.boards.add_owners.Goals as goal

pub loop-number-preserved : goal.loop-number-preserved
loop-number-preserved g c =
    let d = c.index-owners-number.result in
    let step = rw (c.new.ensures, c.index-owners-number.is) at c.in_ok-add_owned.ensures.does in
    record {
      same_reference = c.in_ok-add_owned.ensures.same_reference ∙ c.loop-number.invariant.same_reference;
      does = does_more _ tt c.loop-number.invariant.does step (centres_more _ _ _ (owner_more c.args.map.now c.args.game.now c.args.owners.now c.loop-number.number d c.loop-number-test.true));
    }

pub returns-in_err-add_owned-clause-does : goal.returns-in_err-add_owned-clause-does
returns-in_err-add_owned-clause-does g c =
    let d = c.index-owners-number.result in
    let step = rw (c.new.ensures, c.index-owners-number.is) at c.in_err-add_owned.ensures.does in
    let broken = does_fail (Unit {0}) (more_centres (centre_rows_from c.args.map.now c.args.game.now 0 c.args.owners.now)) CentresDiffer (does_and c.loop-number.invariant.does step) (λ t apart. owners_apart same_centre c.args.map.now c.args.game.now c.args.owners.now c.loop-number.number d c.loop-number-test.true t.centres apart) in
    search (rules, broken)
