use Rattle.std.proofs.Common.{Option, subst}
use Rattle.dip_desk_state.specs.ChangeRows as machine
use Rattle.dip_store_sql.specs.Calls.{tables_in}
use Rattle.dip_store_counts.specs.Knowing.{IsKnown}
use Rattle.dip_store_counts.specs.declared.known.AuthorRow.{AuthorRow}
use Rattle.dip_store_counts.proofs.known.know_author.Goals as goal

pub returns-in-Some-clause-value : goal.returns-in-Some-clause-value
returns-in-Some-clause-value g c kept known clean =
    subst (λ (row : Option AuthorRow). IsKnown row c.args.map.now (machine.author c.args.author) c.args.game.now (tables_in g.S.Store c.args.conn.now).seats) c.in-Some.is known

pub returns-in-None-clause-value : goal.returns-in-None-clause-value
returns-in-None-clause-value g c kept known clean = c.find_author.ensures.value kept clean
