use Rattle.std.proofs.Common.{[], ◌∷◌, refl}
use Rattle.sqlite.specs.declared.types.Value.TheVariants.{Text as Words}
use Rattle.dip_store_sql.specs.Statements as text
use Rattle.dip_store_sql.proofs.Texts as means
use Rattle.dip_store_sql.proofs.Stating as made
use Rattle.dip_store_sql.proofs.Calls.{does_one}
use Rattle.dip_store_sql.proofs.Wants as want
use Rattle.dip_store_sql.proofs.dropping.drop_papers.Goals as goal

pub returns-clause-does : goal.returns-clause-does
returns-clause-does g c =
    does_one g.S.Store text.drop_papers_text (Words c.args.game.now ∷ []) _ _ c.args.tx.now.conn.now c.execute.new.self.conn.now _ means.drop_papers.0 refl c.execute.result c.execute.ensures.survives c.execute.ensures.ended
    (rw (c.params-to_sql.ensures) at c.execute.ensures.runs)
    (λ count good h. made.drop_papers _ _ count good c.args.game.now h) (λ e ready keep h. want.drop_papers _ _ ready.good ready.up ready.unlimited e c.args.game.now h)
