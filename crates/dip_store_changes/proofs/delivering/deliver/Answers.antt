use Rattle.dip_desk_state.specs.Rows as records
use Rattle.dip_store_tables.specs.Writing.{box_row}
use Rattle.dip_store_sql.proofs.Joining.{does_as}
use Rattle.dip_store_changes.specs.Items.{boxed}
use Rattle.dip_store_changes.proofs.Handing.{same_rows}
use Rattle.dip_store_changes.proofs.delivering.deliver.Goals as goal

pub returns-clause-does : goal.returns-clause-does
returns-clause-does g c =
    let name = c.args.game.now in
    does_as c.put_all.ensures.does
    (same_rows c.args.map.now name (λ power n. boxed name power n c.in_ok-texts.texts) (λ power n. box_row name power n (records.item c.args.item.now)) (λ power n. c.in_ok-texts.ensures name power n) c.args.readers.now)
