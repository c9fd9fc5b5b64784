use Rattle.std.proofs.Common.{◌≡◌, Option, option_map, subst}
use Rattle.dip_desk_state.specs.Rows as rows
use Rattle.dip_desk_state.specs.declared.records.Public.{Public}
use Rattle.dip_store_sql.specs.Calls.{tables_in}
use Rattle.std.proofs.Common.{map}
use Rattle.dip_store_tables.specs.Tables.{Tables}
use Rattle.dip_store_looks.specs.Asked.{IsPartKnown, owns_in}
use Rattle.dip_store_looks.proofs.Onward.{leaves}
use Rattle.dip_store_looks.proofs.WholeLemmas.{whole_is}
use Rattle.dip_store_looks.proofs.whole.look_whole.Goals as goal

pub returns-in-Some-clause-value : goal.returns-in-Some-clause-value
returns-in-Some-clause-value g c kept clean known =
    let m = c.args.map.now in
    let name = c.args.game.now in
    let t = tables_in g.S.Store c.args.conn.now in
    let told = subst (λ (o : Option Public). IsPartKnown (option_map rows.public o) m name t) c.in-Some.is known in
    whole_is m t name (rows.public c.in-Some.public) _ told (c.in_ok-seats.ensures.value kept clean)

pub returns-clause-value : goal.returns-clause-value
returns-clause-value g c kept clean known =
    let m = c.args.map.now in
    let name = c.args.game.now in
    let seats = c.in_ok-seats-2.seats in
    let one = c.in_ok-public.ensures.selects in
    let clean1 = c.in_ok-seats-2.ensures.selects.fair clean in
    let here = leaves g.S.Store c.args.conn.now _ c.in_ok-public.field-0 one kept clean1 in
    let read = subst (λ (t : Tables). map rows.own seats.items ≡ owns_in m t name) here.1 (c.in_ok-seats-2.ensures.value here.0 clean) in
    whole_is m (tables_in g.S.Store c.args.conn.now) name (rows.public c.in-Some-2.public) (map rows.own seats.items)
    (rw c.in-Some-2.is at (c.in_ok-public.ensures.value kept clean1)) read
