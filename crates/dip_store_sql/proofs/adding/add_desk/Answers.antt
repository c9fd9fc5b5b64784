use Rattle.std.proofs.Common.{◌≡◌, [], ◌∷◌, refl}
use Rattle.dip_store_rows.specs.Tables.{Tables}
use Rattle.sqlite.specs.declared.types.Value.TheVariants.{Blob as Bytes}
use Rattle.dip_store_sql.specs.Statements as text
use Rattle.dip_store_sql.proofs.Texts as means
use Rattle.dip_store_sql.proofs.Stating as made
use Rattle.dip_store_sql.proofs.Calls.{does_one, first_one}
use Rattle.dip_store_sql.proofs.Wants as want
use Rattle.dip_store_sql.proofs.adding.add_desk.Goals as goal

pub returns-clause-does : goal.returns-clause-does
returns-clause-does g c =
    does_one g.S.Store text.add_desk_text (Bytes c.args.map.now ∷ Bytes c.args.digest.now ∷ []) _ _ c.args.tx.now.conn.now c.execute.new.self.conn.now _ means.add_desk.0 refl c.execute.result c.execute.ensures.survives c.execute.ensures.ended
    (rw (c.params-to_sql.ensures, c.params-to_sql-2.ensures) at c.execute.ensures.runs)
    (λ count good h. made.add_desk _ _ count good c.args.map.now c.args.digest.now h) (λ e ready keep h. want.add_desk _ _ ready.good ready.up ready.unlimited e c.args.map.now c.args.digest.now keep h)

pub returns-clause-first : goal.returns-clause-first
returns-clause-first g c one other =
    first_one text.add_desk_text (Bytes c.args.map.now ∷ Bytes c.args.digest.now ∷ []) _ _ _ means.add_desk.0 refl (λ (t : Tables). t.desk ≡ []) c.execute.result
    (rw (c.params-to_sql.ensures, c.params-to_sql-2.ensures) at c.execute.ensures.runs) (λ e ready none h. want.first_desk _ _ ready.good ready.up ready.unlimited e c.args.map.now c.args.digest.now one other none h)
