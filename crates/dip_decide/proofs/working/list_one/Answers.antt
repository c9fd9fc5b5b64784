use Rattle.std.proofs.Common.{sym, ◌∙◌}
use Rattle.dip_decide_rules.specs.Given.{known_of}
use Rattle.dip_decide.proofs.Tested.{is_open, open_listed, was_open}
use Rattle.dip_decide.proofs.working.list_one.Goals as goal

pub returns : goal.returns
returns c =
    rw c.in_ok-push_if.ensures (open_listed (known_of c.args.values.now) c.args.d c.is_none.result c.args.work.now (λ o. was_open c.look.result c.is_none.result c.is_none.ensures (c.look.ensures ∙ o)) (λ w. sym c.look.ensures ∙ is_open c.look.result c.is_none.result c.is_none.ensures w))
