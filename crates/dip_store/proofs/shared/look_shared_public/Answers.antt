use Rattle.std.proofs.Common.{◌∙◌, ap, option_map, sym, Option, Some}
use Rattle.dip_store_sql.specs.Calls.{tables_in}
use Rattle.dip_desk_state.specs.Rows as rows
use Rattle.dip_desk_state.specs.declared.records.Public.{Public}
use Rattle.dip_store.proofs.shared.look_shared_public.Goals as goal

pub returns-in_default-clause-value : goal.returns-in_default-clause-value
returns-in_default-clause-value g c kept clean =
    ap (λ (o : Option Public). option_map rows.public o) (sym c.in_default.is) ∙ c.in_ok-public.ensures.value kept clean
    ∙ sym (c.public_is_found.ensures c.args.map.now (tables_in g.S.Store c.args.conn.now) c.args.game.now)

pub returns-clause-value : goal.returns-clause-value
returns-clause-value g c kept clean =
    ap (λ (p : Public). Some (rows.public p)) c.in_ok-new.ensures.ok
    ∙ ap (λ (o : Option Public). option_map rows.public o) (sym c.in-Some.is) ∙ c.in_ok-public.ensures.value kept clean
    ∙ sym (c.public_is_found.ensures c.args.map.now (tables_in g.S.Store c.args.conn.now) c.args.game.now)
