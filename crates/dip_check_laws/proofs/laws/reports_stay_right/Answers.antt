use Rattle.dip_judge_runs.specs.Fresh.{fresh_desk}
use Rattle.dip_check_laws.proofs.RunLemmas.{fresh_games, fresh_lawful, printed, runs_right}
use Rattle.dip_check_laws.proofs.laws.reports_stay_right.Goals as goal

pub returns : goal.returns
returns c master runs s name g are found =
    let m = c.args.map.now in
    let right = runs_right m c.lawful_states_stay_lawful.ensures.stays c.games_stay_right.ensures.stays runs (fresh_desk master) s are
    (fresh_lawful m master, fresh_games m master) in
    printed m s name g right.1 found
