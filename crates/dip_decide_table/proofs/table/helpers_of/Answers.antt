use Rattle.std.proofs.Common.{ap, ◌∙◌, refl, filter}
use Rattle.dip_decide_table.specs.Keys.{has_key}
use Rattle.dip_decide_table.specs.Placed.{backed_of, entry}
use Rattle.dip_decide_table.proofs.Among.{keyed}
use Rattle.dip_decide_table.proofs.Plain.{if_ok_more}
use Rattle.dip_decide_table.proofs.table.helpers_of.Goals as goal

pub returns : goal.returns
returns c = if_ok_more _ _ c.by_key.result (λ b h rows e q. h q ∙ ap (λ keys. filter (has_key keys q) c.args.places.now) e ∙ keyed (backed_of (entry rows)) refl c.args.places.now rows q) c.by_key.ensures
