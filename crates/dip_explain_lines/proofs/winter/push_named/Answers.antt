use Rattle.dip_explain_lines.specs.Winter.{named_text}
use Rattle.dip_explain_lines.proofs.winter.push_named.Goals as goal

pub returns : goal.returns
unfolding named_text
returns c = rw (c.name-first.ensures, c.name-second.ensures) at c.write.ensures.bytes
