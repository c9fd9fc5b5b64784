use Rattle.std.proofs.Common.{rules, ◌∙◌}
use Rattle.std.proofs.lemmas.Fn.{filter_same}
use Rattle.dip_decide_rules.specs.Corners.{values}
use Rattle.dip_decide_rules.specs.Given.{situation_of}
use Rattle.dip_decide_rules.specs.Movement.{serves}
use Rattle.dip_decide_rules.proofs.Among.{serves_among}
use Rattle.dip_decide_rules.proofs.corners.Corner.write_fleets.Goals as goal

pub returns : goal.returns
returns c =
    let kept = filter_same _ (serves (situation_of c.args.self.now.table.now) (values c.args.self.now) c.args.p) _ (λ x b f t. search rules) _ _ c.retain.ensures.filtered in
    kept ∙ serves_among c.args.self.now.table.now (values c.args.self.now) c.args.p _ (c.in_ok-write_over.ensures ∙ c.carriers_of.ensures)
