use Rattle.dip_check_runs.proofs.RunLemmas.{report_text, report_units}
use Rattle.dip_check_runs.proofs.explaining.explanation_of.Goals as goal

pub explain_phase-requires-clause-orders : goal.explain_phase-requires-clause-orders
explain_phase-requires-clause-orders c =
    report_units c.args.map.now c.args.before.now c.in-Ok.text.now _ c.in-Some.report c.deref.result.now c.in_ok-phase_of-in-Ok.ensures.found c.in-Some.is c.deref.ensures

pub returns-in_ok-text-in-Some : goal.returns-in_ok-text-in-Some
returns-in_ok-text-in-Some c =
    report_text c.args.map.now c.args.before.now c.in-Ok.text.now c.args.paper.now _ _ c.in-Some.report c.deref.result.now c.in_ok-phase_of-in-Ok.ensures.found
    c.in-Some.is c.in-Ok.ensures.text c.deref.ensures c.in_ok-text-in-Some.ensures
