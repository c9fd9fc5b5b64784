use Rattle.dip_turn_phases.proofs.StandoffLemmas.{standoffs_are_lawful}
use Rattle.dip_turn_phases.proofs.ToldLemmas.{convoys_close_no_origin, dislodged_where_entered, losers_leave_no_standoff}
use Rattle.dip_turn_phases.proofs.laws.movements_are_told.Goals as goal

pub returns : goal.returns
returns c = record {
  dislodged = dislodged_where_entered;
  standoffs = standoffs_are_lawful;
  losers = losers_leave_no_standoff;
  convoys = convoys_close_no_origin;
}
