use Rattle.dip_check_papers.proofs.MovesBack.{OrderLaws}
use Rattle.dip_check_papers.proofs.OneAnswer.{openings_have_one_answer, papers_have_one_answer}
use Rattle.dip_check_papers.proofs.laws.papers_have_one_answer.Goals as goal

pub returns-clause-next : goal.returns-clause-next
returns-clause-next c =
    let laws : OrderLaws = record {
      again = c.orders_are_read_again.ensures.again;
      alone = c.orders_are_read_again.ensures.alone;
      lawful = c.orders_are_lawful.ensures;
      read = c.lawful_orders_are_read.ensures;
    } in
    papers_have_one_answer laws c.phases_have_one_result.ensures c.args.map.now c.facts.ensures

pub returns-clause-first : goal.returns-clause-first
returns-clause-first c = openings_have_one_answer c.args.map.now
