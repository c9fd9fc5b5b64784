-- The texts of a change.
use Rattle.std.specs.List.{AllByRecursion}
use Rattle.dip_desk_state.specs.Records.{Item, White, Grey}
use Rattle.dip_desk_state.specs.State.{Effect, Nothing, Pending, Votes, Delivers, Opens, Publishes, Seats, Change}
use Rattle.dip_store_tables.specs.Legible.{IsText}

-- press with its writer, its addressees and its lines
abbrev pub IsItemOfTexts : Item → Type 0
IsItemOfTexts (White writer addressees text) = IsText writer × AllByRecursion IsText addressees × AllByRecursion IsText text
IsItemOfTexts (Grey to_all text) = AllByRecursion IsText text

abbrev pub HasEffectTexts : Effect → Type 0
HasEffectTexts Nothing = Unit {0}
HasEffectTexts (Pending orders) = AllByRecursion (λ o. IsText o.line) orders
HasEffectTexts (Votes vote) = Unit {0}
HasEffectTexts (Delivers readers item) = IsItemOfTexts item
HasEffectTexts (Opens public paper seats) = IsText paper
HasEffectTexts (Publishes public paper played) = IsText paper
HasEffectTexts (Seats seat) = Unit {0}

-- all that a change has to write are texts of characters
abbrev pub HasTexts : Change → Type 0
HasTexts c = IsText c.game × IsText c.kept.reply × HasEffectTexts c.effect
