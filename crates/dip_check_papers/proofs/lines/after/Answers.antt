use Rattle.dip_letters.proofs.NameLemmas.{stripped}
use Rattle.dip_check_papers.proofs.lines.after.Goals as goal

pub returns : goal.returns
returns c = stripped c.args.name.now c.args.text.now c.strip_prefix.result c.strip_prefix.ensures.cases
