use Rattle.std.proofs.Common.{arith, ap, map, take, ◌++◌, ◌∷◌, [], sym, ◌∙◌}
use Rattle.std.proofs.lemmas.List.{map-append}
use Rattle.sqlite.specs.declared.error.Error.{Error}
use Rattle.dip_desk_state.specs.Rows as rows
use Rattle.dip_desk_state.specs.declared.records.Own.{Own}
use Rattle.dip_store_sql.specs.Calls.{tables_in}
use Rattle.dip_store_sql.proofs.Parts.{taken_more}
use Rattle.dip_store_tables.specs.Tables.{Tables}
use Rattle.dip_store_looks.specs.Shown.{listed_own}
use Rattle.dip_store_sql.specs.declared.row_faults.RowFault.{RowFault}
use Rattle.dip_store_looks.proofs.Onward.{leaves, turns_on}
use Rattle.dip_store_looks.proofs.whole.owns_of.Goals as goal

pub loop-seat-preserved : goal.loop-seat-preserved
loop-seat-preserved g c =
    let so_far = c.loop-seat.invariant in
    let p = c.in_ok-own_of.ensures.selects in
    let t = tables_in g.S.Store c.args.conn.now in
    let own = c.in_ok-own_of.field-0 in
    record {
      value = λ kept clean.
          let before = so_far.same kept (p.fair clean) in
          let one = c.in_ok-own_of.ensures.value before.0 clean
          ∙ ap (λ (u : Tables). listed_own c.args.map.now u c.args.game.now c.seat-item.result) before.1
          ∙ ap (listed_own c.args.map.now t c.args.game.now) c.seat-item.is in
          ap (map rows.own) c.in_ok-push.ensures.items ∙ map-append rows.own c.loop-seat.owns.items (own ∷ [])
          ∙ ap (λ xs. xs ++ rows.own own ∷ []) (so_far.value kept (p.fair clean))
          ∙ ap (λ x. map (listed_own c.args.map.now t c.args.game.now) (take c.loop-seat.seat-index c.args.seats.now) ++ x ∷ []) one
          ∙ sym (taken_more (listed_own c.args.map.now t c.args.game.now) c.args.seats.now c.loop-seat.seat-index _ (omega arith));
      same = λ kept clean.
          let before = so_far.same kept (p.fair clean) in
          let on = leaves g.S.Store {X = Own} {E = RowFault} _ _ own p before.0 clean in
          (on.0, on.1 ∙ before.1);
      shows = λ kept shows clean. p.ok (so_far.same kept (p.fair clean)).0 clean;
      selects = turns_on g.S.Store {X = Unit {0}} {E = Error} {Y = Own} {F = RowFault} _ _ _ tt own so_far.selects p;
      counts = omega (arith, so_far.counts, p.counts);
    }
