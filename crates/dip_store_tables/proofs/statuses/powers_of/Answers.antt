use Rattle.std.proofs.Common.{◌≡◌, None, string_bytes, arith, rules}
use Rattle.dip_map.specs.Charts.{power_of}
use Rattle.dip_store_tables.proofs.StatusLemmas.{no_power_at}
use Rattle.dip_store_tables.proofs.statuses.powers_of.Goals as goal

pub returns-in_default-clause-none : goal.returns-in_default-clause-none
returns-in_default-clause-none c are =
    let none : power_of c.args.map.now (string_bytes c.name-item.result) ≡ None = search rules in
    no_power_at c.args.map.now c.facts.ensures c.args.names.now c.name-item.result c.loop-name.name-index (omega arith) c.name-item.is none are
