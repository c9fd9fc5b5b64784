use Rattle.dip_turn.proofs.RefugeLemmas.{retreats_are_open, retreats_meet_nowhere}
use Rattle.dip_turn.proofs.laws.retreats_are_open.Goals as goal

pub returns-clause-open_to : goal.returns-clause-open_to
returns-clause-open_to c = retreats_are_open c.none_retreats_to_its_attacker.ensures c.retreats_and_builds_are_to_vacant_provinces.ensures.retreats

pub returns-clause-apart : goal.returns-clause-apart
returns-clause-apart c = retreats_meet_nowhere
