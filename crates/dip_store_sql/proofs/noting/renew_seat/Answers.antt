use Rattle.std.proofs.Common.{[], ◌∷◌, pos, refl}
use Rattle.sqlite.specs.declared.types.Value.TheVariants.{Int, Text as Words, Blob as Bytes}
use Rattle.dip_store_sql.specs.Statements as text
use Rattle.dip_store_sql.proofs.Texts as means
use Rattle.dip_store_sql.proofs.Stating as made
use Rattle.dip_store_sql.proofs.Calls.{does_one}
use Rattle.dip_store_sql.proofs.Wants as want
use Rattle.dip_store_sql.proofs.noting.renew_seat.Goals as goal

pub returns-clause-does : goal.returns-clause-does
returns-clause-does g c =
    does_one g.S.Store text.renew_seat_text (Words c.args.game.now ∷ Words c.args.power.now ∷ Bytes c.args.seat.now.digest.now ∷ Int (pos c.args.seat.now.number) ∷ Bytes c.args.seat.now.sum.now ∷ Words c.args.seat.now.reply.now ∷ Int (pos c.args.seat.now.sent) ∷ Int (pos c.args.seat.now.items) ∷ []) _ _ c.args.tx.now.conn.now c.execute.new.self.conn.now _ means.renew_seat.0 refl c.execute.result c.execute.ensures.survives c.execute.ensures.ended
    (rw (c.params-to_sql.ensures, c.params-to_sql-2.ensures, c.params-to_sql-3.ensures, c.params-to_sql-4.ensures, c.params-to_sql-5.ensures, c.params-to_sql-6.ensures, c.params-to_sql-7.ensures, c.params-to_sql-8.ensures) at c.execute.ensures.runs)
    (λ count good h. made.renew_seat _ _ count good c.args.game.now c.args.power.now c.args.seat.now.digest.now c.args.seat.now.number c.args.seat.now.sum.now c.args.seat.now.reply.now c.args.seat.now.sent c.args.seat.now.items h) (λ e ready keep h. want.renew_seat _ _ ready.good ready.up ready.unlimited e c.args.game.now c.args.power.now c.args.seat.now.digest.now c.args.seat.now.number c.args.seat.now.sum.now c.args.seat.now.reply.now c.args.seat.now.sent c.args.seat.now.items h)
