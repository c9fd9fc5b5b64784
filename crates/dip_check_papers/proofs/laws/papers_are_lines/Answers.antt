use Rattle.dip_check_papers.proofs.PaperLines.{papers_are_lines}
use Rattle.dip_check_papers.proofs.laws.papers_are_lines.Goals as goal

pub returns : goal.returns
returns c = papers_are_lines c.args.map.now c.facts.ensures
