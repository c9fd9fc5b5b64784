use Rattle.dip_decide_rules.specs.Corners.{values}
use Rattle.dip_decide_rules.specs.Given.{situation_of}
use Rattle.dip_decide_rules.specs.Movement.{serves}
use Rattle.dip_decide_table.proofs.Plain.{if_ok_more}
use Rattle.dip_decide_rules.proofs.Searches.{sought_joins, serving_listed}
use Rattle.dip_decide_rules.proofs.corners.Corner.has_chain.Goals as goal

pub returns : goal.returns
returns c =
    let s = situation_of c.args.self.now.table.now in
    let a = values c.args.self.now in
    if_ok_more _ _ c.joins.result (λ b h. sought_joins (serves s a c.args.p) s.next s.places c.args.q c.args.p b (serving_listed s c.requires.situation a c.args.p) h) (rw (c.as_slice.ensures.value, c.in_ok-write_fleets.ensures) at c.joins.ensures)
