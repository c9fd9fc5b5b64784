use Rattle.std.proofs.Common.{[], ◌∷◌, refl}
use Rattle.sqlite.specs.declared.types.Value.TheVariants.{Text as Words}
use Rattle.dip_store_sql.specs.Statements as text
use Rattle.dip_store_sql.specs.RowViews as rows
use Rattle.dip_store_sql.proofs.Texts as means
use Rattle.dip_store_sql.proofs.Stating as made
use Rattle.dip_store_sql.proofs.Calls.{does_one}
use Rattle.dip_store_sql.proofs.Wants as want
use Rattle.dip_store_sql.proofs.adding.add_pending.Goals as goal

pub returns-clause-does : goal.returns-clause-does
returns-clause-does g c =
    let row = rows.order c.args.game.now c.args.power.now c.args.order.now in
    does_one g.S.Store text.add_pending_text (Words c.args.game.now ∷ Words c.args.power.now ∷ Words c.args.order.now.province.now ∷ Words c.args.order.now.line.now ∷ []) _ _ c.args.tx.now.conn.now c.execute.new.self.conn.now _ means.add_pending.0 refl c.execute.result c.execute.ensures.survives c.execute.ensures.ended
    (rw (c.params-to_sql.ensures, c.params-to_sql-2.ensures, c.params-to_sql-3.ensures, c.params-to_sql-4.ensures) at c.execute.ensures.runs)
    (λ count good h. made.add_pending _ _ count good row h) (λ e ready keep h. want.add_pending _ _ ready.good ready.up ready.unlimited e row keep h)
