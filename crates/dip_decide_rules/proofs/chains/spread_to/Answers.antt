use Rattle.std.proofs.Common.{◌≡◌, sym, ◌∙◌, false}
use Rattle.dip_decide_rules.specs.Given.{situation_of}
use Rattle.dip_decide_rules.specs.Movement.{is_listed}
use Rattle.dip_decide_rules.proofs.Searches.{one_spread}
use Rattle.dip_decide_rules.proofs.chains.spread_to.Goals as goal

pub returns-in_ok-push : goal.returns-in_ok-push
returns-in_ok-push c =
    let n : is_listed c.args.reached.now.items c.args.fleet ≡ false = rw c.as_slice.ensures.value at (sym c.is_in.ensures ∙ c.if-not-is_in.true) in
    rw c.in_ok-push.ensures.items (one_spread (situation_of c.args.table.now).next c.args.from c.args.fleet c.args.reached.now.items (sym c.is_next.ensures ∙ c.if-is_next.true) n)
