-- The one text of a form.
use Rattle.std.specs.Prelude.{ℕ, List, [], ◌∷◌, ◌++◌, codes, if◌then◌else◌}
use Rattle.dip_names.specs.declared.names.Kind.{Kind}
use Rattle.dip_names.specs.declared.names.Kind.TheVariants.{Army, Fleet}
use Rattle.dip_orders_lines.specs.Tokens.{minus}
use Rattle.dip_orders_lines.specs.Forms.{spot_text}
use Rattle.dip_orders_lines.specs.declared.forms.Form.{Form}
use Rattle.dip_orders_lines.specs.declared.forms.Form.TheVariants.{Hold, Move, SupportHold, SupportMove, Convoy, Retreat, Disband, Build, Remove}

-- the capital of a kind
abbrev pub capital : Kind → List ℕ
capital Army = codes "A"
capital Fleet = codes "F"

-- the tokens of each form as its own text has them: places in small letters, the other words in capitals
abbrev pub printed_tokens : Form → List (List ℕ)
printed_tokens (Hold u) = capital u.kind ∷ spot_text u.at ∷ codes "H" ∷ []
printed_tokens (Move u to via) = capital u.kind ∷ spot_text u.at ∷ minus ∷ spot_text to ∷ (if via then codes "VIA" ∷ [] else [])
printed_tokens (SupportHold u o held) = capital u.kind ∷ spot_text u.at ∷ codes "S" ∷ capital o.kind ∷ spot_text o.at ∷ (if held then codes "H" ∷ [] else [])
printed_tokens (SupportMove u o to) = capital u.kind ∷ spot_text u.at ∷ codes "S" ∷ capital o.kind ∷ spot_text o.at ∷ minus ∷ spot_text to ∷ []
printed_tokens (Convoy u army to) = capital u.kind ∷ spot_text u.at ∷ codes "C" ∷ codes "A" ∷ spot_text army ∷ minus ∷ spot_text to ∷ []
printed_tokens (Retreat u to) = capital u.kind ∷ spot_text u.at ∷ codes "R" ∷ spot_text to ∷ []
printed_tokens (Disband u) = capital u.kind ∷ spot_text u.at ∷ codes "D" ∷ []
printed_tokens (Build u) = codes "BUILD" ∷ capital u.kind ∷ spot_text u.at ∷ []
printed_tokens (Remove u) = codes "REMOVE" ∷ capital u.kind ∷ spot_text u.at ∷ []

-- texts with a space between each two
abbrev pub text_of_tokens : List (List ℕ) → List ℕ
text_of_tokens [] = []
text_of_tokens (t ∷ []) = t
text_of_tokens (t ∷ u ∷ ts) = t ++ 32 ∷ text_of_tokens (u ∷ ts)

-- the text of a form: all that it says, spelled in one way
abbrev pub canonical_text : Form → List ℕ
canonical_text d = text_of_tokens (printed_tokens d)
