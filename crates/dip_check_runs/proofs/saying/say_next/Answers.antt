use Rattle.dip_desk_state.specs.Rows as rows
use Rattle.dip_check_runs.proofs.RunLemmas.{next_wrong}
use Rattle.dip_check_runs.proofs.saying.say_next.Goals as goal

pub returns-in-Wrong : goal.returns-in-Wrong
returns-in-Wrong c =
    next_wrong c.args.map.now (rows.public c.args.before.now) c.in-Ok.text.now c.args.bytes.now _ c.in-Wrong.fault c.in_ok-new-in-Ok.ensures.judged c.in-Wrong.is c.in-Ok.ensures.text
