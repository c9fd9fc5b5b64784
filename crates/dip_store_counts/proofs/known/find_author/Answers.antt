use Rattle.std.proofs.Common.{◌≡◌, List, ℕ, IfOk, option_map, ap, sym, subst}
use Rattle.std.specs.List.{find}
use Rattle.dip_desk_state.specs.ChangeRows as machine
use Rattle.dip_desk_state.specs.State.{Author}
use Rattle.dip_store_tables.specs.Tables.{is_seat}
use Rattle.dip_store_sql.specs.Calls.{tables_in}
use Rattle.dip_store_counts.specs.Knowing.{author_row, row_of}
use Rattle.dip_store_counts.proofs.known.find_author.Goals as goal

pub returns-in-Seat-clause-value : goal.returns-in-Seat-clause-value
returns-in-Seat-clause-value g c kept clean =
    let name = c.args.game.now in
    let seats = (tables_in g.S.Store c.args.conn.now).seats in
    let found = subst (λ (power : List ℕ). IfOk c.find_row.result (λ o. o ≡ option_map row_of (find (is_seat name power) seats))) c.power_name.ensures (c.find_row.ensures.value kept clean) in
    subst (λ (who : Author). IfOk c.find_row.result (λ o. o ≡ author_row c.args.map.now who name seats)) (sym (ap (λ w. machine.author w) c.in-Seat.is)) found
