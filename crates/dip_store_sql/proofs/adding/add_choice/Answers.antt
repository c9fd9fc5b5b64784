use Rattle.std.proofs.Common.{[], ◌∷◌, pos, refl}
use Rattle.sqlite.specs.declared.types.Value.TheVariants.{Int, Text as Words}
use Rattle.dip_store_sql.specs.Statements as text
use Rattle.dip_store_sql.proofs.Texts as means
use Rattle.dip_store_rows.specs.Made.{choice_row, number_of}
use Rattle.dip_store_sql.proofs.Stating as made
use Rattle.dip_store_sql.specs.Rows.{put_choice}
use Rattle.dip_store_sql.specs.Schema.{choice_table}
use Rattle.dip_store_sql.specs.Storing.{next_row}
use Rattle.dip_store_sql.proofs.Calls.{behind_one, does_one, stores_one}
use Rattle.dip_store_sql.proofs.Storing.{choice_stands}
use Rattle.dip_store_sql.proofs.Wants as want
use Rattle.dip_store_sql.proofs.Flags.{flag}
use Rattle.dip_store_sql.proofs.adding.add_choice.Goals as goal

pub returns-clause-does : goal.returns-clause-does
returns-clause-does g c =
    does_one g.S.Store text.add_choice_text (Words c.args.game.now ∷ Int (pos (number_of c.args.intent)) ∷ []) _ _ c.args.tx.now.conn.now c.execute.new.self.conn.now _ means.add_choice.0 refl c.execute.result c.execute.ensures.survives c.execute.ensures.ended
    (rw (c.params-to_sql.ensures, c.params-to_sql-2.ensures, flag c.args.intent) at c.execute.ensures.runs)
    (λ count good h. made.add_choice _ _ count good (choice_row c.args.game.now c.args.intent) h) (λ e ready keep h. want.add_choice _ _ ready.good ready.up ready.unlimited e (choice_row c.args.game.now c.args.intent) keep h)

pub returns-clause-stores : goal.returns-clause-stores
returns-clause-stores g c =
    let row = choice_row c.args.game.now c.args.intent in
    let params = Words c.args.game.now ∷ Int (pos (number_of c.args.intent)) ∷ [] in
    let runs = rw (c.params-to_sql.ensures, c.params-to_sql-2.ensures, flag c.args.intent) at c.execute.ensures.runs in
    let stores = stores_one text.add_choice_text params _ _ _ means.add_choice.0 refl _ choice_table (λ db. next_row put_choice row (db 18) ∷ []) c.execute.result runs
    (λ e ready may fits h. want.fits_choice _ _ ready.good ready.up ready.unlimited e row may fits.0 h) (λ count ready h. (choice_stands _ _ count ready.good row h).0) in
    behind_one text.add_choice_text params _ _ _ means.add_choice.0 refl _ choice_table (next_row put_choice row) c.execute.result stores runs (λ count ready h. (choice_stands _ _ count ready.good row h).1)
