use Rattle.std.proofs.Common.{Option, ℕ, subst}
use Rattle.dip_store_sql.specs.Calls.{tables_in}
use Rattle.dip_store_counts.specs.Knowing.{ArePapersKnown}
use Rattle.dip_store_counts.proofs.papers.know_papers.Goals as goal

pub returns-in-Some-clause-value : goal.returns-in-Some-clause-value
returns-in-Some-clause-value g c kept known clean =
    subst (λ (n : Option ℕ). ArePapersKnown n c.args.game.now (tables_in g.S.Store c.args.conn.now).games) c.in-Some.is known

pub returns-in-None-clause-value : goal.returns-in-None-clause-value
returns-in-None-clause-value g c kept known clean = c.find_papers.ensures.value kept clean
