use Rattle.std.proofs.Common.{subst}
use Rattle.dip_desk_state.specs.Records.{Public}
use Rattle.dip_desk_state.specs.Rows as rows
use Rattle.dip_check.specs.Phases.{IsJudged}
use Rattle.dip_check.specs.declared.phases.Judged.TheVariants.{Wrong}
use Rattle.dip_check.proofs.phases.phase_of.Goals as goal

pub returns-in-Wrong-clause-none : goal.returns-in-Wrong-clause-none
returns-in-Wrong-clause-none c = λ new room h.
    let m = c.args.map.now in
    let p : Public = rows.public c.args.before.now in
    let wrong : IsJudged m p c.args.text.now (Wrong c.in-Wrong._fault) = subst (IsJudged m p c.args.text.now) c.in-Wrong.is c.in_ok-report.ensures in
    wrong.0 new h
