-- The words of order lines.
use Rattle.std.specs.Prelude.{◌≡◌, ℕ, ◌==◌, ◌&&◌, Bool, true, List, [], ◌∷◌, ◌++◌, length, map, Option, None, Some, codes, if◌then◌else◌}
use Rattle.std.specs.List.{list_all}
use Rattle.std.specs.Char.{to_ascii_lowercase, is_ascii_lowercase}
use Rattle.dip_orders_lines.specs.Tokens.{minus, Spells}
use Rattle.dip_names.specs.declared.names.Kind.{Kind}
use Rattle.dip_names.specs.declared.names.Kind.TheVariants.{Army, Fleet}
use Rattle.dip_orders_lines.specs.declared.forms.Spot.{Spot}
use Rattle.dip_orders_lines.specs.declared.forms.Form.{Form}
use Rattle.dip_orders_lines.specs.declared.forms.Form.TheVariants.{Hold, Move, SupportHold, SupportMove, Convoy, Retreat, Disband, Build, Remove}

-- so many small letters
abbrev pub are_letters : ℕ → List ℕ → Bool
are_letters n text = (length text == n) && list_all is_ascii_lowercase text

-- the coast that may be written after a code: a slash and two letters
abbrev pub coast_text : Option (List ℕ) → List ℕ
coast_text None = []
coast_text (Some name) = 47 ∷ name

-- a coast that may be written has two letters
abbrev pub is_coast : Option (List ℕ) → Bool
is_coast None = true
is_coast (Some name) = are_letters 2 name

-- the word of a place: a code, or a code and a coast
abbrev pub spot_text : Spot → List ℕ
spot_text s = s.code ++ coast_text s.coast

-- a code has three letters, and a coast two
abbrev pub is_spot : Spot → Bool
is_spot s = are_letters 3 s.code && is_coast s.coast

-- the word of a kind
abbrev pub kind_text : Kind → List ℕ
kind_text Army = codes "a"
kind_text Fleet = codes "f"

-- the tokens of each form, in small letters
abbrev pub form_tokens : Form → List (List ℕ)
form_tokens (Hold u) = kind_text u.kind ∷ spot_text u.at ∷ codes "h" ∷ []
form_tokens (Move u to via) = kind_text u.kind ∷ spot_text u.at ∷ minus ∷ spot_text to ∷ (if via then codes "via" ∷ [] else [])
form_tokens (SupportHold u o held) = kind_text u.kind ∷ spot_text u.at ∷ codes "s" ∷ kind_text o.kind ∷ spot_text o.at ∷ (if held then codes "h" ∷ [] else [])
form_tokens (SupportMove u o to) = kind_text u.kind ∷ spot_text u.at ∷ codes "s" ∷ kind_text o.kind ∷ spot_text o.at ∷ minus ∷ spot_text to ∷ []
form_tokens (Convoy u army to) = kind_text u.kind ∷ spot_text u.at ∷ codes "c" ∷ codes "a" ∷ spot_text army ∷ minus ∷ spot_text to ∷ []
form_tokens (Retreat u to) = kind_text u.kind ∷ spot_text u.at ∷ codes "r" ∷ spot_text to ∷ []
form_tokens (Disband u) = kind_text u.kind ∷ spot_text u.at ∷ codes "d" ∷ []
form_tokens (Build u) = codes "build" ∷ kind_text u.kind ∷ spot_text u.at ∷ []
form_tokens (Remove u) = codes "remove" ∷ kind_text u.kind ∷ spot_text u.at ∷ []

-- the places that a form names: its unit's, the other's, where it goes
abbrev pub spots_of : Form → List Spot
spots_of (Hold u) = u.at ∷ []
spots_of (Move u to via) = u.at ∷ to ∷ []
spots_of (SupportHold u o held) = u.at ∷ o.at ∷ []
spots_of (SupportMove u o to) = u.at ∷ o.at ∷ to ∷ []
spots_of (Convoy u army to) = u.at ∷ army ∷ to ∷ []
spots_of (Retreat u to) = u.at ∷ to ∷ []
spots_of (Disband u) = u.at ∷ []
spots_of (Build u) = u.at ∷ []
spots_of (Remove u) = u.at ∷ []

-- the places of a form are words of places
abbrev pub is_form : Form → Bool
is_form d = list_all is_spot (spots_of d)

-- a text in small letters
abbrev pub small : List ℕ → List ℕ
small text = map to_ascii_lowercase text

-- the line has this form: its tokens, in small letters, are those of the form
pub record Says (line : List ℕ) (d : Form) : Type 0 where
  pub tokens : List (List ℕ)
  pub spells : Spells line tokens
  pub form : map small tokens ≡ form_tokens d
  pub places : is_form d ≡ true
