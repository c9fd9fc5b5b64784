use Rattle.dip_store.proofs.Opened.{opens_limited}
use Rattle.dip_store.proofs.keeper.SqlKeeper.open.Goals as goal

pub returns : goal.returns
returns g c =
    opens_limited g.S.Store c.args.map.now c.args.map_text.now c.args.store c.open_new.result c.set_step_limit.new.self c.set_step_limit.ensures c.open_new.ensures

pub returns-then-not-has_ballots : goal.returns-then-not-has_ballots
returns-then-not-has_ballots g c =
    opens_limited g.S.Store c.args.map.now c.args.map_text.now c.args.store c.open_old.result c.set_step_limit.new.self c.set_step_limit.ensures c.open_old.ensures
