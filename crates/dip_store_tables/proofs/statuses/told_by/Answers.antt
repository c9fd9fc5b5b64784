use Rattle.std.proofs.Common.{◌≡◌, true, bytes_eq, codes, rules}
use Rattle.dip_desk_state.specs.Rows as rows
use Rattle.dip_store_tables.specs.Columns.{ArePowers}
use Rattle.dip_store_tables.proofs.StatusLemmas.{drawn_powers}
use Rattle.dip_store_tables.proofs.statuses.told_by.Goals as goal

pub returns-in-None-clause-none : goal.returns-in-None-clause-none
returns-in-None-clause-none c told =
    let hit : bytes_eq c.args.word.now (codes "drawn") ≡ true = search rules in
    let never : ArePowers c.args.map.now (rows.lines c.args.names.now) → ⊥ = search rules in
    never (drawn_powers c.args.map.now c.args.word.now (rows.lines c.args.names.now) hit told)
