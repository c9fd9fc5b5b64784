use Rattle.std.proofs.Common.{rules, ◌≡◌, ◌∙◌, map}
use Rattle.dip_map.specs.Charts.{provs}
use Rattle.dip_store_tables.specs.Boards.{owner_at}
use Rattle.dip_store_tables.proofs.Listed.{owners_listed}
use Rattle.dip_store_tables.proofs.centres.owners.Goals as goal

pub returns-clause-value : goal.returns-clause-value
returns-clause-value c =
    let all : c.loop-prov.owners.items ≡ map (owner_at c.args.map.now c.args.rows.now) (provs c.args.map.now) = search rules in
    all ∙ owners_listed c.args.map.now c.args.rows.now
