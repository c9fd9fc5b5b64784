use Rattle.std.proofs.Common.{arith, ◌++◌, codes, ap, ap₂, flat_map, ◌∙◌}
use Rattle.dip_store_tables.specs.Boards.{code}
use Rattle.dip_store_changes.proofs.Joining.{codes_joined}
use Rattle.dip_store_changes.proofs.texts.standoff_text.Goals as goal

pub returns : goal.returns
returns c =
    let m = c.args.map.now in
    let ps = c.args.provs.now in
    let first = c.in_ok-push_str.ensures.bytes ∙ ap₂ ◌++◌ c.new-out.ensures.bytes (c.code.ensures ∙ ap (code m) c.index-provs-0.is) in
    c.in_ok-push_codes.ensures ∙ ap₂ (λ t qs. t ++ flat_map (λ q. codes " " ++ code m q) qs) first c.rest.ensures
    ∙ codes_joined m ps c.index-provs-0.result (omega (arith, c.if-provs-eq0.false))
