use Rattle.dip_check_runs.proofs.RunLemmas.{first_wrong}
use Rattle.dip_check_runs.proofs.saying.say_first.Goals as goal

pub returns-in-Wrong : goal.returns-in-Wrong
returns-in-Wrong c = first_wrong c.args.map.now c.in-Ok.text.now c.args.bytes.now _ c.in-Wrong.fault c.in_ok-new-in-Ok.ensures c.in-Wrong.is c.in-Ok.ensures.text
