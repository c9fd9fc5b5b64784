use Rattle.std.proofs.Common.{arith}
use Rattle.dip_desk_machine.proofs.PressLemmas.{none_named, one_named}
use Rattle.dip_desk_machine.proofs.pressing.named_powers.Goals as goal

pub returns-in-None : goal.returns-in-None
returns-in-None c =
    none_named c.args.map.now c.args.names.now c.name-item.result c.loop-name.name-index c.loop-name.found.items _ (omega arith) c.name-item.is (rw (← c.as_str.ensures.value) c.in-None.ensures) c.loop-name.invariant

pub loop-name-preserved : goal.loop-name-preserved
loop-name-preserved c =
    rw (c.in_ok-push-in-Some.ensures.items)
    (one_named c.args.map.now c.args.names.now c.name-item.result c.loop-name.name-index c.loop-name.found.items c.in-Some.power _ (omega arith) c.name-item.is (rw (← c.as_str.ensures.value) c.in-Some.ensures) c.loop-name.invariant)
