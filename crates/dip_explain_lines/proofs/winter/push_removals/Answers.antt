use Rattle.dip_explain_lines.specs.Winter.{removals_text}
use Rattle.dip_explain_lines.proofs.winter.push_removals.Goals as goal

pub returns : goal.returns
unfolding removals_text
returns c = rw (c.power_name-name.ensures, c.removals_due-due.ensures, c.centres_owned-centres.ensures, c.units_counted-units.ensures) at c.write.ensures.bytes
