use Rattle.std.proofs.Common.{◌≡◌, ◌∙◌, ℕ, IfOk, List, Option, ap, map, option_map, rules, subst}
use Rattle.dip_desk_games.specs.Drawing as d
use Rattle.dip_desk_state.specs.Rows as rows
use Rattle.dip_desk_state.specs.declared.records.Own.{Own}
use Rattle.dip_desk_games.proofs.drawing.drawn_between.Goals as goal

pub returns : goal.returns
returns c =
    let m = c.args.map.now in
    let b = c.args.whole.now.public.board.value in
    let lies : c.deref.result.now ≡ b = search rules in
    let survive : c.as_slice.result.now ≡ d.survivors m b = c.as_slice.ensures.value ∙ c.in_ok-survivors.ensures ∙ ap (d.survivors m) lies in
    let drawn : d.agreed c.as_slice.result.now (map (λ o. rows.own o) c.as_slice-2.result.now) ≡ d.drawn_between m (rows.whole c.args.whole.now) =
    ap (λ (ps : List ℕ). d.agreed ps (map (λ o. rows.own o) c.as_slice-2.result.now)) survive
    ∙ ap (λ (os : List Own). d.agreed (d.survivors m b) (map (λ o. rows.own o) os)) c.as_slice-2.ensures.value in
    subst (λ (x : Option (List ℕ)). IfOk c.agreed_powers.result (λ found. option_map (λ v. v.items) found ≡ x)) drawn c.agreed_powers.ensures
