-- What is printed of an order, as a form.
use Rattle.std.proofs.Common.{◌≡◌, ℕ, Bool, true, false, List, [], ◌∷◌, ◌++◌, refl, ◌∙◌, ap, append_assoc, codes}
use Rattle.std.proofs.lemmas.List.{append-nil}
use Rattle.dip_names.specs.declared.names.Kind.{Kind}
use Rattle.dip_names.specs.declared.names.Kind.TheVariants.{Army, Fleet}
use Rattle.dip_names.specs.declared.names.Unit.{Unit as AUnit}
use Rattle.dip_map.specs.Charts.{Chart, province}
use Rattle.dip_orders_lines.specs.Texts.{capital, canonical_text}
use Rattle.dip_orders_lines.specs.declared.forms.Mention.{Mention}
use Rattle.dip_orders_lines.specs.declared.forms.Form.{Form}
use Rattle.dip_orders_lines.specs.declared.forms.Form.TheVariants.{Hold, Move, SupportHold, SupportMove, Convoy, Retreat, Disband, Build, Remove}
use Rattle.dip_orders.specs.Texts.{kind_letter, via_text, order_text}
use Rattle.dip_orders_placed.specs.declared.placed.Other.{Other}
use Rattle.dip_orders_placed.specs.declared.placed.Order.{Order}
use Rattle.dip_orders_placed.specs.declared.placed.Order.TheVariants.{Hold as Holds, Move as Moves, SupportHold as SupportsHold, SupportMove as SupportsMove, Convoy as Convoys, Retreat as Retreats, Disband as Disbands, Build as Builds, Remove as Removes}
use Rattle.dip_orders.proofs.SpotLaws.{bare_spot, mention_of, place_spot, spot_of}

-- what is printed of the unit that a support names
abbrev pub other_of : Chart → Other → Mention
other_of m at = record { kind = at.kind; at = bare_spot m at.prov }

-- what is printed of an order
abbrev pub printed : Chart → AUnit → Order → Form
printed m u Holds = Hold (mention_of m u.kind u.place)
printed m u (Moves to via) = Move (mention_of m u.kind u.place) (spot_of m u.kind to) via
printed m u (SupportsHold at) = SupportHold (mention_of m u.kind u.place) (other_of m at) false
printed m u (SupportsMove at to) = SupportMove (mention_of m u.kind u.place) (other_of m at) (bare_spot m to)
printed m u (Convoys at to) = Convoy (mention_of m u.kind u.place) (bare_spot m at.prov) (bare_spot m to)
printed m u (Retreats to) = Retreat (mention_of m u.kind u.place) (spot_of m u.kind to)
printed m u Disbands = Disband (mention_of m u.kind u.place)
printed m u Builds = Build (mention_of m u.kind u.place)
printed m u Removes = Remove (mention_of m u.kind u.place)

capital_letter : (k : Kind) (t : List ℕ) → kind_letter k ++ t ≡ capital k ++ 32 ∷ t
capital_letter Army t = refl
capital_letter Fleet t = refl

-- an order to convoy names an army
abbrev pub NamesArmy : Order → Type 0
NamesArmy Holds = Unit {0}
NamesArmy (Moves to via) = Unit {0}
NamesArmy (SupportsHold at) = Unit {0}
NamesArmy (SupportsMove at to) = Unit {0}
NamesArmy (Convoys at to) = at.kind ≡ Army
NamesArmy (Retreats to) = Unit {0}
NamesArmy Disbands = Unit {0}
NamesArmy Builds = Unit {0}
NamesArmy Removes = Unit {0}

word_text : (k : Kind) (s t word : List ℕ) → s ≡ t → kind_letter k ++ (s ++ word) ≡ capital k ++ 32 ∷ (t ++ word)
word_text k s t word e = capital_letter k (s ++ word) ∙ rw e refl

bare_text : (k : Kind) (s t : List ℕ) → s ≡ t → kind_letter k ++ (s ++ []) ≡ capital k ++ 32 ∷ t
bare_text k s t e = capital_letter k (s ++ []) ∙ rw (append-nil, e) refl

move_text : (k : Kind) (s t to there : List ℕ) (via : Bool) → s ≡ t → to ≡ there
    → kind_letter k ++ (s ++ (codes " - " ++ (to ++ via_text via))) ≡ capital k ++ 32 ∷ (t ++ 32 ∷ 45 ∷ 32 ∷ (there ++ via_text via))
move_text k s t to there via e f = capital_letter k (s ++ (codes " - " ++ (to ++ via_text via))) ∙ rw (e, f) refl

help_text : (k : Kind) (s t : List ℕ) (ok : Kind) (code : List ℕ) → s ≡ t
    → kind_letter k ++ (s ++ (codes " S " ++ (kind_letter ok ++ code))) ≡ capital k ++ 32 ∷ (t ++ 32 ∷ 83 ∷ 32 ∷ (capital ok ++ 32 ∷ (code ++ [])))
help_text k s t ok code e = capital_letter k (s ++ (codes " S " ++ (kind_letter ok ++ code))) ∙ rw (e, capital_letter ok code, append-nil) refl

aid_text : (k : Kind) (s t : List ℕ) (ok : Kind) (code to : List ℕ) → s ≡ t
    → kind_letter k ++ (s ++ (codes " S " ++ (((kind_letter ok ++ code) ++ codes " - ") ++ to)))
    ≡ capital k ++ 32 ∷ (t ++ 32 ∷ 83 ∷ 32 ∷ (capital ok ++ 32 ∷ ((code ++ []) ++ 32 ∷ 45 ∷ 32 ∷ (to ++ []))))
aid_text k s t ok code to e =
    capital_letter k (s ++ (codes " S " ++ (((kind_letter ok ++ code) ++ codes " - ") ++ to)))
    ∙ rw (e, append_assoc (kind_letter ok ++ code) (codes " - ") to, append_assoc (kind_letter ok) code (codes " - " ++ to), capital_letter ok (code ++ (codes " - " ++ to)), append-nil code, append-nil to) refl

carry_text : (k : Kind) (s t code to : List ℕ) → s ≡ t
    → kind_letter k ++ (s ++ (codes " C " ++ (((kind_letter Army ++ code) ++ codes " - ") ++ to)))
    ≡ capital k ++ 32 ∷ (t ++ 32 ∷ 67 ∷ 32 ∷ 65 ∷ 32 ∷ ((code ++ []) ++ 32 ∷ 45 ∷ 32 ∷ (to ++ [])))
carry_text k s t code to e =
    capital_letter k (s ++ (codes " C " ++ (((kind_letter Army ++ code) ++ codes " - ") ++ to))) ∙ rw (e, append-nil code, append-nil to, append_assoc code (codes " - ") to) refl

-- the text of an order is the canonical text of what is printed of it
pub order_canonical : (m : Chart) (u : AUnit) (o : Order) → NamesArmy o → order_text m (record { unit = u; order = o }) ≡ canonical_text (printed m u o)
order_canonical m u Holds h = word_text u.kind _ _ (codes " H") (place_spot m u.kind u.place)
order_canonical m u (Moves to true) h = move_text u.kind _ _ _ _ true (place_spot m u.kind u.place) (place_spot m u.kind to)
order_canonical m u (Moves to false) h = move_text u.kind _ _ _ _ false (place_spot m u.kind u.place) (place_spot m u.kind to) ∙ rw append-nil refl
order_canonical m u (SupportsHold at) h = help_text u.kind _ _ at.kind (province m at.prov).code (place_spot m u.kind u.place)
order_canonical m u (SupportsMove at to) h = aid_text u.kind _ _ at.kind (province m at.prov).code (province m to).code (place_spot m u.kind u.place)
order_canonical m u (Convoys at to) h = rw h (carry_text u.kind _ _ (province m at.prov).code (province m to).code (place_spot m u.kind u.place))
order_canonical m u (Retreats to) h = capital_letter u.kind _ ∙ rw (place_spot m u.kind u.place, place_spot m u.kind to) refl
order_canonical m u Disbands h = word_text u.kind _ _ (codes " D") (place_spot m u.kind u.place)
order_canonical m u Builds h = ap (λ x. codes "BUILD " ++ x) (bare_text u.kind _ _ (place_spot m u.kind u.place))
order_canonical m u Removes h = ap (λ x. codes "REMOVE " ++ x) (bare_text u.kind _ _ (place_spot m u.kind u.place))
