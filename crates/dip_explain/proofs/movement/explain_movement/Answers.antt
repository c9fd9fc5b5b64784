use Rattle.std.proofs.Common.{◌≡◌, ◌∙◌, ◌++◌, ap, List, ℕ, string_bytes}
use Rattle.dip_decide.proofs.ResultLaws.{within}
use Rattle.dip_decide_rules.specs.Given.{known_of, situation_of}
use Rattle.dip_decide_rules.specs.Meaning.{meant_on, situation_on}
use Rattle.dip_decide_rules.specs.Movement.{at_first}
use Rattle.dip_decide_rules.specs.Results.{values_in}
use Rattle.dip_decide_rules.proofs.Rounds.{on_ok_more}
use Rattle.dip_explain.proofs.Learning.{told_same}
use Rattle.dip_explain.proofs.movement.explain_movement.Goals as goal

pub table_on-requires : goal.table_on-requires
table_on-requires c = record { within = rw c.as_slice-2.ensures (within c.args.map.now c.args.board.now c.args.orders.now c.requires.is_of c.requires.orders) }

pub returns : goal.returns
returns c =
    let m = c.args.map.now in
    let b = c.args.board.now in
    let o : c.as_slice-3.result.now ≡ meant_on m b c.args.orders.now = c.as_slice-3.ensures.value ∙ c.in_ok-meant.ensures ∙ ap (meant_on m b) c.as_slice.ensures in
    let s : situation_of c.in_ok-table.table ≡ situation_on m b c.args.orders.now = c.in_ok-table.ensures ∙ ap (situation_on m b) c.as_slice-2.ensures in
    let k : known_of c.in_ok-known.known ≡ at_first (situation_on m b c.args.orders.now) = c.in_ok-known.ensures in
    let t = told_same m (values_in c.args.resolution.now) c.args.resolution.now.steps.items _ _ _ _ _ _ o s k in
    on_ok_more _ _ c.push_steps.result (λ h. h ∙ ap (λ (x : List ℕ). string_bytes c.args.out.now ++ x) t) c.push_steps.ensures
