use Rattle.dip_explain_lines.specs.Winter.{distance_text}
use Rattle.dip_explain_lines.proofs.winter.push_distance.Goals as goal

pub returns : goal.returns
unfolding distance_text
returns c = rw (c.distance_home-distance.ensures) at c.write.ensures.bytes
