use Rattle.std.proofs.Common.{◌∙◌, sym}
use Rattle.dip_map.proofs.BoardLaws.{dislodged_step}
use Rattle.dip_map.proofs.checks.are_dislodged_single.Goals as goal

pub returns-then-is_left_by : goal.returns-then-is_left_by
returns-then-is_left_by c =
    let found = sym c.is_left_by.ensures ∙ c.if-is_left_by.true in
    let step = dislodged_step c.args.units.now c.loop-number.number c.index-units-number.result c.loop-number-test.true c.index-units-number.is in
    sym (rw found at step) ∙ c.loop-number.invariant

pub loop-number-preserved : goal.loop-number-preserved
loop-number-preserved c =
    let none = sym c.is_left_by.ensures ∙ c.if-is_left_by.false in
    let step = dislodged_step c.args.units.now c.loop-number.number c.index-units-number.result c.loop-number-test.true c.index-units-number.is in
    sym (rw none at step) ∙ c.loop-number.invariant
