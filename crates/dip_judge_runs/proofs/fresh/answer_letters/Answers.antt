use Rattle.std.proofs.Common.{subst, sym}
use Rattle.dip_desk_machine.specs.Lawful.{IsLawful}
use Rattle.dip_judge_runs.proofs.FreshLemmas.{answered, cut_short}
use Rattle.dip_judge_runs.proofs.fresh.answer_letters.Goals as goal

pub returns-clause-done : goal.returns-clause-done
returns-clause-done g c =
    answered c.args.map.now c.args.master.now c.new-keeper.result c.run_file.new.keeper _ _ _ _ (rw (← c.digest.ensures) c.new-keeper.ensures.empty) _ (c.run_file.ensures.answers (c.new-keeper.ensures.is_open c.args.map.now) tt)

pub returns-clause-cut : goal.returns-clause-cut
returns-clause-cut g c =
    let on = c.new-keeper.ensures.is_open c.args.map.now in
    cut_short c.args.map.now c.args.master.now c.new-keeper.result c.run_file.new.keeper _ _ _ _ (rw (← c.digest.ensures) c.new-keeper.ensures.empty) _
    c.run_file.ensures.count (c.run_file.ensures.never on tt (subst (IsLawful c.args.map.now) (sym c.new-keeper.ensures.empty) (c.new_desks_are_lawful.ensures c.args.map.now _))) (c.run_file.ensures.ends on tt)
