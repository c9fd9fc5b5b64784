use Rattle.std.proofs.Common.{rules, ◌∙◌, ap, map, List}
use Rattle.std.proofs.lemmas.Fn.{filter_same}
use Rattle.dip_desk_state.specs.Rows as rows
use Rattle.dip_desk_state.specs.declared.records.Own.{Own}
use Rattle.dip_store_memory.specs.Owns.{is_short}
use Rattle.dip_store_memory.proofs.Owning.{passed_said}
use Rattle.dip_store_memory.proofs.owns.short_owns.Goals as goal

pub returns : goal.returns
returns c =
    ap (λ (os : List Own). map (λ o. rows.own o) os) (filter_same _ (λ o. is_short (rows.own o).kept) _ (λ x b f t. search rules) _ _ c.retain.ensures.filtered)
    ∙ passed_said (λ o. is_short o.kept) c.args.owns.items
