use Rattle.std.proofs.Common.{[], ◌∷◌, pos, refl}
use Rattle.sqlite.specs.declared.types.Value.TheVariants.{Int, Text as Words}
use Rattle.dip_store_sql.specs.Statements as text
use Rattle.dip_store_sql.proofs.Texts as means
use Rattle.dip_store_rows.specs.Made.{number_of}
use Rattle.dip_store_sql.proofs.Stating as made
use Rattle.dip_store_sql.proofs.Calls.{does_one}
use Rattle.dip_store_sql.proofs.Wants as want
use Rattle.dip_store_sql.specs.RowViews as rows
use Rattle.dip_store_sql.proofs.Flags.{flag}
use Rattle.dip_store_sql.proofs.adding.add_item.Goals as goal

pub returns-clause-does : goal.returns-clause-does
returns-clause-does g c =
    does_one g.S.Store text.add_item_text (Words c.args.item.now.game.now ∷ Words c.args.item.now.power.now ∷ Int (pos c.args.item.now.number) ∷ Int (pos (number_of c.args.item.now.grey)) ∷ Words c.args.item.now.writer.now ∷ Words c.args.item.now.addressees.now ∷ Words c.args.item.now.body.now ∷ []) _ _ c.args.tx.now.conn.now c.execute.new.self.conn.now _ means.add_item.0 refl c.execute.result c.execute.ensures.survives c.execute.ensures.ended
    (rw (c.params-to_sql.ensures, c.params-to_sql-2.ensures, c.params-to_sql-3.ensures, c.params-to_sql-4.ensures, flag c.args.item.now.grey, c.params-to_sql-5.ensures, c.params-to_sql-6.ensures, c.params-to_sql-7.ensures) at c.execute.ensures.runs)
    (λ count good h. made.add_item _ _ count good (rows.item c.args.item.now) h) (λ e ready keep h. want.add_item _ _ ready.good ready.up ready.unlimited e (rows.item c.args.item.now) keep h)
