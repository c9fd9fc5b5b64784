use Rattle.std.proofs.Common.{arith}
use Rattle.dip_letters.proofs.LineLemmas.{cut_split}
use Rattle.dip_check_papers.proofs.lines.at_colon.Goals as goal

pub returns : goal.returns
returns c = cut_split 58 c.args.text.now c.split_once.result c.split_once.ensures.cases (omega arith)
