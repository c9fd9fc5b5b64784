use Rattle.std.proofs.Common.{ap}
use Rattle.dip_check_runs.proofs.RunLemmas.{found_text}
use Rattle.dip_check_runs.proofs.explaining.found_next.Goals as goal

pub returns-in-Some-2 : goal.returns-in-Some-2
returns-in-Some-2 c =
    found_text c.args.map.now c.args.game.now c.in-Some.before c.args.paper.now c.in_ok-text.field-0 c.in-Some-2.text c.into_bytes.result.items c.in_ok-text.ensures
    c.in-Some-2.is c.in-Some.is (ap (λ v. v.items) c.into_bytes.ensures.value)
