use Rattle.dip_desk.proofs.Sighting.{changes_fit}
use Rattle.dip_desk.proofs.laws.changes_fit.Goals as goal

pub returns : goal.returns
returns c = changes_fit c.args.map.now c.effects_fit.ensures.lawful c.lawful_states_stay_lawful.ensures.sane
