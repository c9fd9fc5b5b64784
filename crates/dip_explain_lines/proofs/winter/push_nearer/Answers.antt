use Rattle.dip_explain_lines.specs.Winter.{nearer_text}
use Rattle.dip_explain_lines.proofs.winter.push_nearer.Goals as goal

pub returns : goal.returns
unfolding nearer_text
returns c = rw (c.distance_home-distance.ensures) at c.write.ensures.bytes
