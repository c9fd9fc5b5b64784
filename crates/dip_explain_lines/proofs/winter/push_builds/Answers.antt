use Rattle.dip_explain_lines.specs.Winter.{builds_text}
use Rattle.dip_explain_lines.proofs.winter.push_builds.Goals as goal

pub returns : goal.returns
unfolding builds_text
returns c = rw (c.power_name-name.ensures, c.builds_due-due.ensures, c.centres_owned-centres.ensures, c.units_counted-units.ensures, c.vacant_homes-free.ensures) at c.write.ensures.bytes
