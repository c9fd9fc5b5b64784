use Rattle.std.proofs.Common.{◌≡◌, ◌+◌, ◌++◌, [], ◌∷◌, suc, ap, drop, option_map, Some, sym, subst, take, ◌∙◌, arith}
use Rattle.std.specs.List.{find}
use Rattle.std.proofs.lemmas.List.{map-append}
use Rattle.dip_desk_state.specs.Rows as rows
use Rattle.dip_store_sql.specs.Calls.{tables_in}
use Rattle.dip_store_sql.specs.Showing.{is_item}
use Rattle.dip_store_tables.specs.Reading.{item_of, items_of}
use Rattle.dip_store_tables.specs.Tables.{Tables}
use Rattle.dip_store_sql.proofs.RowFaults.{passed_on}
use Rattle.dip_store_looks.proofs.Onward.{leaves, turns_on}
use Rattle.dip_store_tables.specs.Legible.{AreOurs}
use Rattle.dip_store_sql.proofs.Caused.{faulted_late}
use Rattle.dip_store_tables.specs.Counting.{counted, item_numbers}
use Rattle.sqlite.specs.Held.{state}
use Rattle.dip_store_looks.proofs.PageLemmas.{item_more}
use Rattle.dip_store_looks.proofs.inbox.items_after.Goals as goal

pub loop-index-preserved : goal.loop-index-preserved
loop-index-preserved g c =
    let step = c.in_ok-item_at.ensures.selects in
    let before = c.loop-index.invariant in
    let index = c.loop-index.index in
    let item = c.in_ok-item_at.field-0 in
    let boxes = (tables_in g.S.Store c.args.conn.now).boxes in
    let game = c.args.game.now in
    let power = c.args.power.now in
    let next : suc index ≡ index + 1 = omega arith in
    record {
      value = λ kept clean n counts.
          let first = step.fair clean in
          let here = before.same kept first in
          let found = subst (λ (t : Tables). Some (rows.item item.value) ≡ option_map item_of (find (is_item game power (c.args.skipped + index + 1)) t.boxes)) here.1 (c.in_ok-item_at.ensures.value here.0 clean) in
          ap rows.items c.in_ok-push.ensures.items
          ∙ map-append _ c.loop-index.items.items (item ∷ [])
          ∙ ap (λ is. is ++ rows.item item.value ∷ []) (before.value kept first n counts)
          ∙ sym (item_more boxes game power c.args.skipped index n (rows.item item.value) counts found)
          ∙ ap (λ k. take k (drop c.args.skipped (items_of boxes game power))) next;
      same = λ kept clean.
          let here = before.same kept (step.fair clean) in
          let after = leaves g.S.Store _ _ item step here.0 clean in
          (after.0, after.1 ∙ here.1);
      shows = λ kept up clean. step.ok (before.same kept (step.fair clean)).0 clean;
      selects = turns_on g.S.Store _ _ _ tt item before.selects step;
      counts = omega (arith, before.counts, step.counts);
    }

pub returns-in_err-item_at-clause-own : goal.returns-in_err-item_at-clause-own
returns-in_err-item_at-clause-own g c kept shows clean m ours n counts low =
    let game = c.args.game.now in
    let power = c.args.power.now in
    let before = c.loop-index.invariant in
    let first = c.in_err-item_at.ensures.selects.fair clean in
    let here = before.same kept first in
    let fails = c.in_err-item_at.ensures.own here.0 (before.shows kept shows first) clean m (subst (AreOurs m) (sym here.1) ours) n
    (subst (λ (t : Tables). item_numbers t.boxes game power ≡ counted n) (sym here.1) counts) (omega arith) (omega (arith, low, c.loop-index-test.true)) in
    passed_on _ _ c.in_err-item_at.field-0.0 c.from_residual.result c.from_residual.ensures.1
    (faulted_late (state g.S.Store c.args.conn.now) (state g.S.Store c.loop-index.conn) (state g.S.Store c.item_at.new.conn) before.counts) fails
