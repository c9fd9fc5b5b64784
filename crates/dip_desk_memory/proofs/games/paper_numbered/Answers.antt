use Rattle.std.proofs.Common.{◌-◌, arith}
use Rattle.dip_desk_state.specs.Rows as rows
use Rattle.dip_desk_memory.proofs.GamesLemmas.{none_numbered, paper_lent}
use Rattle.dip_desk_memory.proofs.games.paper_numbered.Goals as goal

pub returns-then-number-eq0 : goal.returns-then-number-eq0
returns-then-number-eq0 c = none_numbered c.args.number (rows.lines c.args.papers.now) c.if-number-eq0.true

pub returns : goal.returns
returns c = paper_lent c.args.number (c.args.number - 1) c.args.papers.now c.get.result (omega arith) c.get.ensures.lookup
