use Rattle.std.proofs.Common.{arith}
use Rattle.dip_letters.proofs.LineLemmas.{cut_split}
use Rattle.dip_check_papers.proofs.lines.word_of.Goals as goal

pub returns : goal.returns
returns c = cut_split 32 c.args.text.now c.split_once.result c.split_once.ensures.cases (omega arith)
