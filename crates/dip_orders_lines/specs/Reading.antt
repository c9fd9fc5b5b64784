-- What an order line says: its form by its tokens.
use Rattle.std.specs.Prelude.{ℕ, ◌==◌, ◌&&◌, Bool, true, false, List, [], ◌∷◌, Option, None, Some, option_and_then, option_map, codes, if◌then◌else◌}
use Rattle.std.specs.Str.{bytes_eq}
use Rattle.std.specs.Char.{to_ascii_lowercase, is_ascii_lowercase}
use Rattle.dip_orders_lines.specs.Tokens.{minus}
use Rattle.dip_orders_lines.specs.Scan.{few, tokens_at}
use Rattle.dip_orders_lines.specs.Forms.{small}
use Rattle.dip_names.specs.declared.names.Kind.{Kind}
use Rattle.dip_names.specs.declared.names.Kind.TheVariants.{Army, Fleet}
use Rattle.dip_orders_lines.specs.declared.forms.Spot.{Spot}
use Rattle.dip_orders_lines.specs.declared.forms.Mention.{Mention}
use Rattle.dip_orders_lines.specs.declared.forms.Form.{Form}
use Rattle.dip_orders_lines.specs.declared.forms.Form.TheVariants.{Hold, Move, SupportHold, SupportMove, Convoy, Retreat, Disband, Build, Remove}
use Rattle.dip_names.specs.Options.{◌>>=◌}

-- a letter, in small
abbrev pub letter_at : ℕ → Option ℕ
letter_at b = if is_ascii_lowercase (to_ascii_lowercase b) then Some (to_ascii_lowercase b) else None

-- three letters
abbrev pub code_at : ℕ → ℕ → ℕ → Option (List ℕ)
code_at a b c = do
  x ← letter_at a
  y ← letter_at b
  z ← letter_at c
  Some (x ∷ y ∷ z ∷ [])

-- two letters
abbrev pub coast_at : ℕ → ℕ → Option (List ℕ)
coast_at a b = do
  x ← letter_at a
  y ← letter_at b
  Some (x ∷ y ∷ [])

-- a code alone
abbrev pub bare_at : ℕ → ℕ → ℕ → Option Spot
bare_at a b c = do
  code ← code_at a b c
  Some (record { code = code; coast = None })

-- a code and a coast
abbrev pub coasted_at : ℕ → ℕ → ℕ → ℕ → ℕ → Option Spot
coasted_at a b c d e = do
  code ← code_at a b c
  coast ← coast_at d e
  Some (record { code = code; coast = Some coast })

-- a code, or a code, a slash and a coast
abbrev pub spot_at : List ℕ → Option Spot
spot_at (a ∷ b ∷ c ∷ []) = bare_at a b c
spot_at (a ∷ b ∷ c ∷ s ∷ d ∷ e ∷ []) = if s == 47 then coasted_at a b c d e else None
spot_at _ = None

-- whether a token is this word of small letters, whatever its case
abbrev pub is_any_case : List ℕ → List ℕ → Bool
is_any_case token word = bytes_eq (small token) word

-- an army by `a` or `A`, a fleet by `f` or `F`
abbrev pub kind_at : List ℕ → Option Kind
kind_at t = if is_any_case t (codes "a") then Some Army else if is_any_case t (codes "f") then Some Fleet else None

-- a unit: a kind and a place
abbrev pub mention_at : List ℕ → List ℕ → Option Mention
mention_at kind at = do
  k ← kind_at kind
  s ← spot_at at
  Some (record { kind = k; at = s })

-- a unit, and a word after it: `A par H`, `A mun D`
abbrev pub closed_at : List ℕ → List ℕ → List ℕ → Option Form
closed_at kind at last = do
  u ← mention_at kind at
  if is_any_case last (codes "h") then Some (Hold u) else if is_any_case last (codes "d") then Some (Disband u) else None

-- three tokens: `BUILD A par`, `REMOVE A par`, and those with a unit at the front
abbrev pub three_at : List ℕ → List ℕ → List ℕ → Option Form
three_at a b c =
    if is_any_case a (codes "build") then option_map (λ u. Build u) (mention_at b c)
    else if is_any_case a (codes "remove") then option_map (λ u. Remove u) (mention_at b c)
    else closed_at a b c

-- a unit and two tokens: `A par - bur`, `A mun R boh`
abbrev pub four_at : Mention → List ℕ → List ℕ → Option Form
four_at u verb to = do
  s ← spot_at to
  if is_any_case verb minus then Some (Move u s false) else if is_any_case verb (codes "r") then Some (Retreat u s) else None

-- a unit and where it goes by convoy: `A lon - bel VIA`
abbrev pub via_at : Mention → List ℕ → List ℕ → List ℕ → Option Form
via_at u verb to last = do
  s ← spot_at to
  if is_any_case verb minus && is_any_case last (codes "via") then Some (Move u s true) else None

-- a unit and three tokens: `A mar S A par`, `A lon - bel VIA`
abbrev pub five_at : Mention → List ℕ → List ℕ → List ℕ → Option Form
five_at u verb a b = if is_any_case verb (codes "s") then option_map (λ o. SupportHold u o false) (mention_at a b) else via_at u verb a b

-- a unit and four tokens: `A mar S A par H`
abbrev pub six_at : Mention → List ℕ → List ℕ → List ℕ → List ℕ → Option Form
six_at u verb kind at last = do
  o ← mention_at kind at
  if is_any_case verb (codes "s") && is_any_case last (codes "h") then Some (SupportHold u o true) else None

-- what a unit does for another that moves: `A mar S A par - bur`, `F nth C A lon - bel`
abbrev pub aid_at : Mention → List ℕ → List ℕ → Mention → Spot → Option Form
aid_at u verb kind o to =
    if is_any_case verb (codes "s") then Some (SupportMove u o to)
    else if is_any_case verb (codes "c") && is_any_case kind (codes "a") then Some (Convoy u o.at to)
    else None

-- a unit and five tokens
abbrev pub seven_at : Mention → List ℕ → List ℕ → List ℕ → List ℕ → List ℕ → Option Form
seven_at u verb kind at sign to = do
  o ← mention_at kind at
  s ← spot_at to
  if is_any_case sign minus then aid_at u verb kind o s else None

-- a unit, what it does, and the tokens after
abbrev pub done_at : Mention → List ℕ → List (List ℕ) → Option Form
done_at u verb (to ∷ []) = four_at u verb to
done_at u verb (a ∷ b ∷ []) = five_at u verb a b
done_at u verb (a ∷ b ∷ last ∷ []) = six_at u verb a b last
done_at u verb (a ∷ b ∷ sign ∷ to ∷ []) = seven_at u verb a b sign to
done_at u verb _ = None

-- the form that tokens are
abbrev pub form_at : List (List ℕ) → Option Form
form_at (a ∷ b ∷ c ∷ []) = three_at a b c
form_at (kind ∷ at ∷ verb ∷ t ∷ ts) = do
  u ← mention_at kind at
  done_at u verb (t ∷ ts)
form_at _ = None

-- what a line says, if it has the form of an order
unfoldable pub form_in : List ℕ → Option Form
form_in line = option_and_then form_at (few (tokens_at line))
