use Rattle.std.proofs.Common.{◌∙◌}
use Rattle.dip_decide_rules.specs.Given.{situation_of}
use Rattle.dip_decide_table.proofs.Looks.{any_at, none_at}
use Rattle.dip_decide_table.proofs.Standing.{carrying_listed, and_when}
use Rattle.dip_decide_rules.proofs.mentioning.enters_carrier.Goals as goal

pub returns-in-Some : goal.returns-in-Some
returns-in-Some c =
    let t = c.args.table.now in
    let s = situation_of t in
    rw (← c.target.ensures, c.in-Some.is) (c.convoys.ensures ∙ and_when _ _ (carrying_listed t c.in-Some.x c.args.p) ∙ any_at (λ x. s.convoys x c.args.p) c.in-Some.x s.places)

pub returns-in-None : goal.returns-in-None
returns-in-None c = let s = situation_of c.args.table.now in rw (← c.target.ensures, c.in-None.is) (none_at (λ x. s.convoys x c.args.p) s.places)
