use Rattle.std.proofs.Common.{[], ◌∷◌, refl}
use Rattle.sqlite.specs.declared.types.Value.TheVariants.{Text as Words}
use Rattle.dip_store_sql.specs.Statements as text
use Rattle.dip_store_sql.proofs.Texts as means
use Rattle.dip_store_sql.proofs.Stating as made
use Rattle.dip_store_rows.specs.Tables.{BallotRow}
use Rattle.dip_store_sql.specs.Rows.{put_ballot}
use Rattle.dip_store_sql.specs.Schema.{ballot_table}
use Rattle.dip_store_sql.specs.Storing.{next_row}
use Rattle.dip_store_sql.proofs.Calls.{behind_one, does_one, stores_one}
use Rattle.dip_store_sql.proofs.Storing.{ballot_stands}
use Rattle.dip_store_sql.proofs.Wants as want
use Rattle.dip_store_sql.proofs.adding.add_ballot.Goals as goal

pub returns-clause-does : goal.returns-clause-does
returns-clause-does g c =
    does_one g.S.Store text.add_ballot_text (Words c.args.game.now ∷ Words c.args.power.now ∷ Words c.args.names.now ∷ []) _ _ c.args.tx.now.conn.now c.execute.new.self.conn.now _ means.add_ballot.0 refl c.execute.result c.execute.ensures.survives c.execute.ensures.ended
    (rw (c.params-to_sql.ensures, c.params-to_sql-2.ensures, c.params-to_sql-3.ensures) at c.execute.ensures.runs)
    (λ count good h. made.add_ballot _ _ count good (record { game = c.args.game.now; power = c.args.power.now; names = c.args.names.now }) h) (λ e ready keep h. want.add_ballot _ _ ready.good ready.up ready.unlimited e (record { game = c.args.game.now; power = c.args.power.now; names = c.args.names.now }) keep h)

pub returns-clause-stores : goal.returns-clause-stores
returns-clause-stores g c =
    let b : BallotRow = record { game = c.args.game.now; power = c.args.power.now; names = c.args.names.now } in
    let params = Words c.args.game.now ∷ Words c.args.power.now ∷ Words c.args.names.now ∷ [] in
    let runs = rw (c.params-to_sql.ensures, c.params-to_sql-2.ensures, c.params-to_sql-3.ensures) at c.execute.ensures.runs in
    let stores = stores_one text.add_ballot_text params _ _ _ means.add_ballot.0 refl _ ballot_table (λ db. next_row put_ballot b (db 16) ∷ []) c.execute.result runs
    (λ e ready may fits h. want.fits_ballot _ _ ready.good ready.up ready.unlimited e b may fits.0 h) (λ count ready h. (ballot_stands _ _ count ready.good b h).0) in
    behind_one text.add_ballot_text params _ _ _ means.add_ballot.0 refl _ ballot_table (next_row put_ballot b) c.execute.result stores runs (λ count ready h. (ballot_stands _ _ count ready.good b h).1)
