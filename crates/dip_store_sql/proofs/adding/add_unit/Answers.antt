use Rattle.std.proofs.Common.{[], ◌∷◌, pos, refl}
use Rattle.sqlite.specs.declared.types.Value.TheVariants.{Int, Text as Words}
use Rattle.dip_store_sql.specs.Statements as text
use Rattle.dip_store_sql.proofs.Texts as means
use Rattle.dip_store_rows.specs.Made.{number_of}
use Rattle.dip_store_sql.proofs.Stating as made
use Rattle.dip_store_sql.proofs.Calls.{does_one}
use Rattle.dip_store_sql.proofs.Wants as want
use Rattle.dip_store_sql.specs.RowViews as rows
use Rattle.dip_store_sql.proofs.Flags.{flag}
use Rattle.dip_store_sql.proofs.adding.add_unit.Goals as goal

pub returns-clause-does : goal.returns-clause-does
returns-clause-does g c =
    does_one g.S.Store text.add_unit_text (Words c.args.unit.now.game.now ∷ Words c.args.unit.now.province.now ∷ Int (pos (number_of c.args.unit.now.dislodged)) ∷ Words c.args.unit.now.power.now ∷ Int (pos c.args.unit.now.kind) ∷ Words c.args.unit.now.coast.now ∷ Words c.args.unit.now.origin.now ∷ []) _ _ c.args.tx.now.conn.now c.execute.new.self.conn.now _ means.add_unit.0 refl c.execute.result c.execute.ensures.survives c.execute.ensures.ended
    (rw (c.params-to_sql.ensures, c.params-to_sql-2.ensures, c.params-to_sql-3.ensures, flag c.args.unit.now.dislodged, c.params-to_sql-4.ensures, c.params-to_sql-5.ensures, c.params-to_sql-6.ensures, c.params-to_sql-7.ensures) at c.execute.ensures.runs)
    (λ count good h. made.add_unit _ _ count good (rows.unit c.args.unit.now) h) (λ e ready keep h. want.add_unit _ _ ready.good ready.up ready.unlimited e (rows.unit c.args.unit.now) keep h)
