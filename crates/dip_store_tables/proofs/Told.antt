-- The texts of a change in code are Strings.
use Rattle.std.proofs.Common.{List, [], ◌∷◌}
use Rattle.std.specs.Prelude.{String, string_bytes}
use Rattle.std.specs.List.{AllByRecursion}
use Rattle.std.specs.declared.alloc.Global.{Global}
use Rattle.std.proofs.lemmas.Str.{IsUtf8-string_bytes}
use Rattle.dip_desk_state.specs.Rows as rows
use Rattle.dip_desk_state.specs.declared.records.Item.{Item}
use Rattle.dip_desk_state.specs.declared.records.Item.TheVariants.{White, Grey}
use Rattle.dip_desk_state.specs.declared.records.Standing.{Standing}
use Rattle.dip_desk_state.specs.ChangeRows as desk_rows
use Rattle.dip_desk_state.specs.declared.changes.Change.{Change}
use Rattle.dip_desk_state.specs.declared.changes.Effect.{Effect}
use Rattle.dip_desk_state.specs.declared.changes.Effect.TheVariants.{Nothing, Pending, Votes, Delivers, Opens, Publishes, Seats}
use Rattle.dip_store_tables.specs.Legible.{IsText}
use Rattle.dip_store_tables.specs.ChangeTexts.{HasEffectTexts, HasTexts, IsItemOfTexts}

text : (s : String Global) → IsText (string_bytes s)
text s = record { utf8 = IsUtf8-string_bytes s }

all_texts : (ts : List (String Global)) → AllByRecursion IsText (rows.lines ts)
all_texts [] = tt
all_texts (t ∷ ts) = (text t, all_texts ts)

item_texts : (i : Item) → IsItemOfTexts (rows.item i)
item_texts (White writer addressees lines) = (text writer, all_texts addressees.items, all_texts lines.items)
item_texts (Grey to_all lines) = all_texts lines.items

order_texts : (os : List Standing) → AllByRecursion (λ o. IsText o.line) (rows.standings os)
order_texts [] = tt
order_texts (o ∷ os) = (text o.line, order_texts os)

effect_texts : (e : Effect) → HasEffectTexts (desk_rows.effect e)
effect_texts Nothing = tt
effect_texts (Pending orders) = order_texts orders.items
effect_texts (Votes vote) = tt
effect_texts (Delivers readers item) = item_texts item.value
effect_texts (Opens public paper seats) = text paper
effect_texts (Publishes public paper played) = text paper
effect_texts (Seats seat) = tt

pub change_texts : (c : Change) → HasTexts (desk_rows.change c)
change_texts c = (text c.game, text c.kept.reply.value, effect_texts c.effect)
