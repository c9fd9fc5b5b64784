use Rattle.std.proofs.Common.{[], ◌∷◌, pos, refl}
use Rattle.sqlite.specs.declared.types.Value.TheVariants.{Int, Text as Words, Blob as Bytes}
use Rattle.dip_store_sql.specs.Statements as text
use Rattle.dip_store_sql.proofs.Texts as means
use Rattle.dip_store_sql.proofs.Stating as made
use Rattle.dip_store_sql.proofs.Calls.{does_one}
use Rattle.dip_store_sql.proofs.Wants as want
use Rattle.dip_store_sql.proofs.noting.note_desk.Goals as goal

pub returns-clause-does : goal.returns-clause-does
returns-clause-does g c =
    does_one g.S.Store text.note_desk_text (Int (pos c.args.letter.now.number) ∷ Bytes c.args.letter.now.sum.now ∷ Words c.args.letter.now.reply.now ∷ []) _ _ c.args.tx.now.conn.now c.execute.new.self.conn.now _ means.note_desk.0 refl c.execute.result c.execute.ensures.survives c.execute.ensures.ended
    (rw (c.params-to_sql.ensures, c.params-to_sql-2.ensures, c.params-to_sql-3.ensures) at c.execute.ensures.runs)
    (λ count good h. made.note_desk _ _ count good c.args.letter.now.number c.args.letter.now.sum.now c.args.letter.now.reply.now h) (λ e ready keep h. want.note_desk _ _ ready.good ready.up ready.unlimited e c.args.letter.now.number c.args.letter.now.sum.now c.args.letter.now.reply.now h)
