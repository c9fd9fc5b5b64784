-- The text of the JSON value.
use Rattle.std.proofs.Common.{◌≡◌, ℕ, List, [], ◌∷◌, ◌++◌, Bool, true, false, map, refl, sym, ap, ◌∙◌, append_assoc}
use Rattle.json.specs.Print.{quoted, token_text}
use Rattle.json.specs.Token as token
use Rattle.std.specs.Str.Lines.{lines}
use Rattle.serde_json.specs.Data.{Data, string}
use Rattle.serde_json.specs.View.{items_of}
use Rattle.serde_json.specs.Written.{compact_text, items_text, has_float, items_have_float}
use Rattle.serde_json.proofs.OnLiterals.{serde_json_on_literals}
use Rattle.dip_map.specs.Charts.{Chart}
use Rattle.dip_desk_state.specs.Records.{Public}
use Rattle.dip_reports.specs.Texts.{board_lines}
use Rattle.dip_http_messages.specs.Texts.{quoted_list, state_text, truth}
use Rattle.dip_http_messages.specs.Values.{state_data}

pub list_text : (ts : List (List ℕ)) → items_text false (items_of (map string ts)) ≡ quoted_list ts ++ 93 ∷ []
list_text [] = refl
list_text (t ∷ []) = refl
list_text (t ∷ u ∷ ts) = ap (λ (r : List ℕ). quoted t ++ 44 ∷ r) (list_text (u ∷ ts)) ∙ sym (append_assoc (quoted t) (44 ∷ quoted_list (u ∷ ts)) (93 ∷ []))

pub truth_text : (b : Bool) → token_text (token.boolean b) ≡ truth b
truth_text true = refl
truth_text false = refl

pub no_floats : (ts : List (List ℕ)) → items_have_float (items_of (map string ts)) ≡ false
no_floats [] = refl
no_floats (t ∷ ts) = no_floats ts

pub no_float : (m : Chart) (p : Public) → has_float (state_data m p) ≡ false
no_float m p = rw (no_floats (lines (board_lines m p.board))) refl

pub whole_text : (m : Chart) (p : Public) → compact_text (state_data m p) ≡ state_text m p
unfolding serde_json_on_literals
whole_text m p = rw (list_text (lines (board_lines m p.board)), append_assoc (quoted_list (lines (board_lines m p.board))), truth_text p.grey, truth_text p.board.intent) refl

pub map_fused : {A : Type 0} (f : List ℕ → Data) (g : A → List ℕ) (xs : List A) → map (λ x. f (g x)) xs ≡ map f (map g xs)
map_fused f g [] = refl
map_fused f g (x ∷ xs) = ap (λ (ds : List Data). f (g x) ∷ ds) (map_fused f g xs)
