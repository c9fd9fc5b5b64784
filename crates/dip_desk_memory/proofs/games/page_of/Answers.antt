use Rattle.std.proofs.Common.{◌≡◌, ◌∙◌}
use Rattle.std.proofs.lemmas.Result.{IfOk-weaker}
use Rattle.dip_desk_state.specs.State as s
use Rattle.dip_desk_state.specs.Rows as rows
use Rattle.dip_desk_memory.proofs.PartLemmas.{page_shown}
use Rattle.dip_desk_memory.proofs.games.page_of.Goals as goal

pub returns : goal.returns
returns c =
    let page = page_shown c.args.first c.args.most c.saturating_sub-place.result c.args.inbox.now c.items_after.result.now c.first_items.result.now c.saturating_sub-place.ensures c.items_after.ensures c.first_items.ensures in
    IfOk-weaker c.items_shared.result (λ v. rows.items v.items ≡ rows.items c.first_items.result.now)
    (λ v. rows.items v.items ≡ s.page_of c.args.first c.args.most (rows.items c.args.inbox.now)) (λ v is. is ∙ page) c.items_shared.ensures
