use Rattle.std.proofs.Common.{◌≡◌, rules, ap, ◌∙◌}
use Rattle.dip_map.specs.Boards.{Position}
use Rattle.dip_store_tables.specs.Boards.{standoff_text}
use Rattle.dip_desk_state.specs.Rows as records
use Rattle.dip_store_sql.specs.TablesAfter.{with_game}
use Rattle.dip_store_sql.proofs.Joining.{does_as, does_ok}
use Rattle.dip_store_changes.proofs.Gaming.{row_is}
use Rattle.dip_store_changes.proofs.games.open_row.Goals as goal

pub returns-clause-does : goal.returns-clause-does
returns-clause-does g c =
    let m = c.args.map.now in
    let lies : c.deref.result.now ≡ c.args.public.now.board.value = search rules in
    let same = row_is m (records.public c.args.public.now) _ _ _ _ _ c.game_row-row.ensures c.as_str.ensures.value (c.as_str-2.ensures.value ∙ c.in_ok-status.ensures)
    (c.as_str-3.ensures.value ∙ c.in_ok-standoff.ensures ∙ ap (standoff_text m) c.standoff.ensures ∙ ap (λ (b : Position). standoff_text m b.standoff) lies) in
    does_ok _ tt (does_as c.in_ok-add_game.ensures.does (λ t. ap (λ r. with_game r t) same))
