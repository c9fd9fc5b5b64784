use Rattle.std.proofs.Common.{[], ◌∷◌, pos, refl}
use Rattle.sqlite.specs.declared.types.Value.TheVariants.{Int, Text as Words}
use Rattle.dip_store_sql.specs.Statements as text
use Rattle.dip_store_sql.proofs.Texts as means
use Rattle.dip_store_rows.specs.Made.{number_of}
use Rattle.dip_store_sql.proofs.Stating as made
use Rattle.dip_store_sql.proofs.Calls.{does_one}
use Rattle.dip_store_sql.proofs.Wants as want
use Rattle.dip_store_sql.specs.RowViews as rows
use Rattle.dip_store_sql.proofs.Flags.{flag}
use Rattle.dip_store_sql.proofs.noting.renew_game.Goals as goal

pub returns-clause-does : goal.returns-clause-does
returns-clause-does g c =
    does_one g.S.Store text.renew_game_text (Words c.args.game.now.name.now ∷ Int (pos c.args.game.now.year) ∷ Int (pos c.args.game.now.phase) ∷ Words c.args.game.now.status.now ∷ Int (pos c.args.game.now.due) ∷ Int (pos c.args.game.now.period) ∷ Int (pos (number_of c.args.game.now.grey)) ∷ Int (pos c.args.game.now.papers) ∷ Words c.args.game.now.standoff.now ∷ []) _ _ c.args.tx.now.conn.now c.execute.new.self.conn.now _ means.renew_game.0 refl c.execute.result c.execute.ensures.survives c.execute.ensures.ended
    (rw (c.to_sql.ensures, c.to_sql-2.ensures, c.to_sql-3.ensures, c.to_sql-4.ensures, c.tick_of.ensures, c.to_sql-5.ensures, c.to_sql-6.ensures, flag c.args.game.now.grey, c.to_sql-7.ensures, c.to_sql-8.ensures) at c.execute.ensures.runs)
    (λ count good h. made.renew_game _ _ count good (rows.game c.args.game.now) h) (λ e ready keep h. want.renew_game _ _ ready.good ready.up ready.unlimited e (rows.game c.args.game.now) h)
