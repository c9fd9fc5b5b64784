use Rattle.std.proofs.Common.{ℕ, List, [], ◌∷◌, refl}
use Rattle.sqlite.specs.declared.types.Value.TheVariants.{Text as Words}
use Rattle.dip_store_sql.specs.Statements as text
use Rattle.dip_store_sql.proofs.Texts as means
use Rattle.dip_store_sql.proofs.Stating as made
use Rattle.dip_store_sql.proofs.Calls.{does_one}
use Rattle.dip_store_sql.proofs.Wants as want
use Rattle.dip_store_sql.proofs.adding.add_three_pending.Goals as goal

pub returns-clause-does : goal.returns-clause-does
returns-clause-does g c =
    let p : List ℕ × List ℕ = (c.args.one.now.province.now, c.args.one.now.line.now) in
    let q : List ℕ × List ℕ = (c.args.other.now.province.now, c.args.other.now.line.now) in
    let r : List ℕ × List ℕ = (c.args.third.now.province.now, c.args.third.now.line.now) in
    does_one g.S.Store text.add_three_pending_text (Words c.args.game.now ∷ Words c.args.power.now ∷ Words p.0 ∷ Words p.1 ∷ Words q.0 ∷ Words q.1 ∷ Words r.0 ∷ Words r.1 ∷ []) _ _ c.args.tx.now.conn.now c.execute.new.self.conn.now _ means.add_three_pending.0 refl c.execute.result c.execute.ensures.survives c.execute.ensures.ended
    (rw (c.params-to_sql.ensures, c.params-to_sql-2.ensures, c.params-to_sql-3.ensures, c.params-to_sql-4.ensures, c.params-to_sql-5.ensures, c.params-to_sql-6.ensures, c.params-to_sql-7.ensures, c.params-to_sql-8.ensures) at c.execute.ensures.runs)
    (λ count good h. made.add_three_pending _ _ count good c.args.game.now c.args.power.now p q r h) (λ e ready keep h. want.add_three_pending _ _ ready.good ready.up ready.unlimited e c.args.game.now c.args.power.now p q r keep h)
