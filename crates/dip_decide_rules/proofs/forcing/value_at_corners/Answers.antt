use Rattle.std.proofs.Common.{sym, ◌∙◌}
use Rattle.dip_decide_rules.specs.Corners.{rises}
use Rattle.dip_decide_rules.specs.Given.{situation_of, known_of}
use Rattle.dip_decide_rules.specs.Movement.{rule, mentions}
use Rattle.dip_decide_rules.proofs.CornerLaws.{forced_by_least, forced_by_greatest}
use Rattle.dip_decide_rules.proofs.Rises.{rule_rises}
use Rattle.dip_decide_rules.proofs.forcing.value_at_corners.Goals as goal

pub returns-then-least : goal.returns-then-least
returns-then-least c =
    let s = situation_of c.args.table.now in
    let d = c.args.of.now in
    forced_by_least (rule s) (known_of c.args.known.now) d (mentions s d) (rises s d) (rule_rises s c.requires.situation d) c.requires.unknown (sym c.in_ok-least.ensures ∙ c.if-least.true)

pub returns-else-greatest : goal.returns-else-greatest
returns-else-greatest c =
    let s = situation_of c.args.table.now in
    let d = c.args.of.now in
    forced_by_greatest (rule s) (known_of c.args.known.now) d (mentions s d) (rises s d) (rule_rises s c.requires.situation d) c.requires.unknown (sym c.in_ok-greatest.ensures ∙ c.if-greatest.false)
