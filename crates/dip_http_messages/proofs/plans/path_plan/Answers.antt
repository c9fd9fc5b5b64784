use Rattle.std.proofs.Common.{ap, sym, ◌∙◌}
use Rattle.dip_http_messages.specs.Verdicts.{place_verdict}
use Rattle.dip_http_messages.proofs.FoundLemmas.{none_found, route_found}
use Rattle.dip_http_messages.proofs.plans.path_plan.Goals as goal

pub route_plan-requires : goal.route_plan-requires
route_plan-requires c =
    let f = route_found c.args.path.now _ c.requires (rw c.args.routes.now.made at c.in-Ok.ensures.found) in
    rw c.in-Ok.ensures.path f.text

pub returns-in-Ok : goal.returns-in-Ok
returns-in-Ok c =
    let f = route_found c.args.path.now _ c.requires (rw c.args.routes.now.made at c.in-Ok.ensures.found) in
    let plan = rw c.in-Ok.ensures.path at c.route_plan.ensures in
    plan ∙ ap (place_verdict c.args.method.now c.args.size) f.place

pub returns-in-Err : goal.returns-in-Err
returns-in-Err c = sym (ap (place_verdict c.args.method.now c.args.size) (none_found c.args.path.now c.requires (rw c.args.routes.now.made at c.in-Err.ensures.missing)))
