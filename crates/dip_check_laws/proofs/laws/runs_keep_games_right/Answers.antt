use Rattle.dip_check_laws.proofs.RunLemmas.{all_right, fault_right, serving_right}
use Rattle.dip_check_laws.proofs.laws.runs_keep_games_right.Goals as goal

pub returns-clause-answered : goal.returns-clause-answered
returns-clause-answered c input old new before after lawful right run =
    all_right c.args.map.now c.lawful_states_stay_lawful.ensures.stays c.games_stay_right.ensures.stays input old new before after run (lawful, right)

pub returns-clause-stopped : goal.returns-clause-stopped
returns-clause-stopped c input old new lawful right run =
    fault_right c.args.map.now c.lawful_states_stay_lawful.ensures.stays c.games_stay_right.ensures.stays input old new run (lawful, right)

pub returns-clause-served : goal.returns-clause-served
returns-clause-served c count old new lawful right served =
    serving_right c.args.map.now c.lawful_states_stay_lawful.ensures.stays c.games_stay_right.ensures.stays count old new served (lawful, right)
