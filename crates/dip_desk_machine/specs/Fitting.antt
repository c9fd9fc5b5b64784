-- What the machine decides fits the map.
use Rattle.std.specs.Prelude.{ℕ, List}
use Rattle.dip_map.specs.Charts.{Chart}
use Rattle.dip_desk_machine.specs.Lawful.{IsLawful}
use Rattle.dip_desk_machine.specs.Machine.{Decides, MayBeDamaged, Taken}
use Rattle.dip_desk_machine.specs.Mail.{IsMail, Mail}
use Rattle.dip_desk_state.specs.Fitting.{FitsMap}
use Rattle.dip_desk_state.specs.State.{Author, Effect, State}

-- where what is decided of a letter of the grammar doesn't fit, the record of its author may be Damaged
abbrev pub EffectsFit : Chart → Type 0
EffectsFit m = (s : State) (n : Mail) (who : Author) (text : List ℕ) (e : Effect) → IsMail n
    → Decides m s n who (Taken text e) → (FitsMap m e → ⊥) → MayBeDamaged m s n who

-- in a lawful state whatever is decided of a letter of the grammar fits
abbrev pub LawfulEffectsFit : Chart → Type 0
LawfulEffectsFit m = (s : State) (n : Mail) (who : Author) (text : List ℕ) (e : Effect) → IsLawful m s → IsMail n
    → Decides m s n who (Taken text e) → FitsMap m e
