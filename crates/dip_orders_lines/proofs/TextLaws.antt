-- The canonical text of a form says it.
use Rattle.std.proofs.Common.{◌≡◌, ℕ, ◌≤◌, ◌==◌, true, false, length, List, [], ◌∷◌, ◌++◌, refl, sym, ◌∙◌, ap, inl, inr, arith, Option, Some, None, map}
use Rattle.std.proofs.lemmas.Bool.{and_parts, eqb-true, le-leb}
use Rattle.std.proofs.Math.Bool.{or-true}
use Rattle.std.proofs.lemmas.List.{append-nil, length-append}
use Rattle.std.proofs.lemmas.List.Folds.{list_all-append}
use Rattle.std.specs.List.{list_all}
use Rattle.std.specs.Char.{to_ascii_lowercase, is_ascii_lowercase}
use Rattle.std.specs.Cmp.Derive.{both_true}
use Rattle.dip_names.specs.declared.names.Kind.{Kind}
use Rattle.dip_names.specs.declared.names.Kind.TheVariants.{Army, Fleet}
use Rattle.dip_orders_lines.specs.declared.forms.Spot.{Spot}
use Rattle.dip_orders_lines.specs.declared.forms.Form.{Form}
use Rattle.dip_orders_lines.specs.declared.forms.Form.TheVariants.{Hold, Move, SupportHold, SupportMove, Convoy, Retreat, Disband, Build, Remove}
use Rattle.dip_orders_lines.specs.Tokens.{minus, is_word_byte, is_word, IsToken, IsParted, ArePieces, Piece, spelling_of}
use Rattle.dip_orders_lines.specs.Forms.{are_letters, coast_text, is_coast, spot_text, is_spot, kind_text, form_tokens, is_form, small, Says}
use Rattle.dip_orders_lines.specs.Texts.{capital, printed_tokens, text_of_tokens, canonical_text}
use Rattle.dip_orders_lines.proofs.PartLaws.{letter_small, one_spot, two_spots, three_spots}

-- small letters are word bytes, and stay
letters_word : (t : List ℕ) → list_all is_ascii_lowercase t ≡ true → list_all is_word_byte t ≡ true
letters_word [] h = refl
letters_word (b ∷ bs) h =
    let (here, more) = and_parts (is_ascii_lowercase b) (list_all is_ascii_lowercase bs) h in
    let word : is_word_byte b ≡ true = rw (here, or-true) refl in
    both_true word (letters_word bs more)

letters_small : (t : List ℕ) → list_all is_ascii_lowercase t ≡ true → small t ≡ t
letters_small [] h = refl
letters_small (b ∷ bs) h =
    let (here, more) = and_parts (is_ascii_lowercase b) (list_all is_ascii_lowercase bs) h in
    let first = letter_small b here in
    let rest = letters_small bs more in
    cc

small_append : (s t : List ℕ) → small (s ++ t) ≡ small s ++ small t
small_append [] t = refl
small_append (b ∷ bs) t = ap (λ x. to_ascii_lowercase b ∷ x) (small_append bs t)

coast_word : (c : Option (List ℕ)) → is_coast c ≡ true → list_all is_word_byte (coast_text c) ≡ true
coast_word None h = refl
coast_word (Some name) h = letters_word name (and_parts _ _ h).1

coast_small : (c : Option (List ℕ)) → is_coast c ≡ true → small (coast_text c) ≡ coast_text c
coast_small None h = refl
coast_small (Some name) h = ap (λ x. 47 ∷ x) (letters_small name (and_parts _ _ h).1)

spot_word : (s : Spot) → is_spot s ≡ true → is_word (spot_text s) ≡ true
spot_word s h =
    let (code, coast) = and_parts (are_letters 3 s.code) (is_coast s.coast) h in
    let (long, letters) = and_parts (length s.code == 3) (list_all is_ascii_lowercase s.code) code in
    let e : length s.code ≡ 3 = eqb-true _ _ long in
    let least : 1 ≤ length (s.code ++ coast_text s.coast) = omega (arith, length-append s.code (coast_text s.coast)) in
    both_true (le-leb _ _ least) (list_all-append is_word_byte s.code (coast_text s.coast) ∙ both_true (letters_word s.code letters) (coast_word s.coast coast))

spot_small : (s : Spot) → is_spot s ≡ true → small (spot_text s) ≡ spot_text s
spot_small s h =
    let (code, coast) = and_parts (are_letters 3 s.code) (is_coast s.coast) h in
    let letters = (and_parts (length s.code == 3) (list_all is_ascii_lowercase s.code) code).1 in
    let front = letters_small s.code letters in
    let back = coast_small s.coast coast in
    small_append s.code (coast_text s.coast) ∙ cc

-- texts that are tokens, and in small letters the words of a form
abbrev ArePrinted : List (List ℕ) → List (List ℕ) → Type 0
ArePrinted [] ws = ws ≡ []
ArePrinted (t ∷ ts) [] = ⊥
ArePrinted (t ∷ ts) (w ∷ ws) = (IsToken t × (small t ≡ w)) × ArePrinted ts ws

spot_printed : (s : Spot) → is_spot s ≡ true → IsToken (spot_text s) × (small (spot_text s) ≡ spot_text s)
spot_printed s h = (inl (spot_word s h), spot_small s h)

kind_printed : (k : Kind) → IsToken (capital k) × (small (capital k) ≡ kind_text k)
kind_printed Army = (inl refl, refl)
kind_printed Fleet = (inl refl, refl)

-- the minus sign is printed as it is
dash : IsToken minus × (small minus ≡ minus)
dash = (inr refl, refl)

-- what is printed of a form is its form
printed : (d : Form) → is_form d ≡ true → ArePrinted (printed_tokens d) (form_tokens d)
printed (Hold u) ok = (kind_printed u.kind, (spot_printed u.at (one_spot u.at ok), ((inl refl, refl), refl)))
printed (Move u to true) ok = let (here, there) = two_spots u.at to ok in (kind_printed u.kind, (spot_printed u.at here, (dash, (spot_printed to there, ((inl refl, refl), refl)))))
printed (Move u to false) ok = let (here, there) = two_spots u.at to ok in (kind_printed u.kind, (spot_printed u.at here, (dash, (spot_printed to there, refl))))
printed (SupportHold u o true) ok = let (here, there) = two_spots u.at o.at ok in (kind_printed u.kind, (spot_printed u.at here, ((inl refl, refl), (kind_printed o.kind, (spot_printed o.at there, ((inl refl, refl), refl))))))
printed (SupportHold u o false) ok = let (here, there) = two_spots u.at o.at ok in (kind_printed u.kind, (spot_printed u.at here, ((inl refl, refl), (kind_printed o.kind, (spot_printed o.at there, refl)))))
printed (SupportMove u o to) ok =
    let (here, more) = three_spots u.at o.at to ok in
    (kind_printed u.kind, (spot_printed u.at here, ((inl refl, refl), (kind_printed o.kind, (spot_printed o.at more.0, (dash, (spot_printed to more.1, refl)))))))
printed (Convoy u army to) ok =
    let (here, more) = three_spots u.at army to ok in
    (kind_printed u.kind, (spot_printed u.at here, ((inl refl, refl), (kind_printed Army, (spot_printed army more.0, (dash, (spot_printed to more.1, refl)))))))
printed (Retreat u to) ok = let (here, there) = two_spots u.at to ok in (kind_printed u.kind, (spot_printed u.at here, ((inl refl, refl), (spot_printed to there, refl))))
printed (Disband u) ok = (kind_printed u.kind, (spot_printed u.at (one_spot u.at ok), ((inl refl, refl), refl)))
printed (Build u) ok = ((inl refl, refl), (kind_printed u.kind, (spot_printed u.at (one_spot u.at ok), refl)))
printed (Remove u) ok = ((inl refl, refl), (kind_printed u.kind, (spot_printed u.at (one_spot u.at ok), refl)))

printed_form : (ts ws : List (List ℕ)) → ArePrinted ts ws → map small ts ≡ ws
printed_form [] ws h = sym h
printed_form (t ∷ ts) [] h = absurd h
printed_form (t ∷ ts) (w ∷ ws) h = let first = h.0.1 in let rest = printed_form ts ws h.1 in cc

-- a space before each text
abbrev behind_spaces : List (List ℕ) → List Piece
behind_spaces ts = map (λ t. record { gap = 1; token = t }) ts

abbrev pieces_of : List (List ℕ) → List Piece
pieces_of [] = []
pieces_of (t ∷ ts) = record { gap = 0; token = t } ∷ behind_spaces ts

behind_parted : (t : List ℕ) (ts : List (List ℕ)) → IsParted t (behind_spaces ts)
behind_parted t [] = tt
behind_parted t (u ∷ us) = λ _ _. omega arith

behind_fine : (ts ws : List (List ℕ)) → ArePrinted ts ws → ArePieces (behind_spaces ts)
behind_fine [] ws h = tt
behind_fine (t ∷ ts) [] h = absurd h
behind_fine (t ∷ ts) (w ∷ ws) h = (h.0.0, (behind_parted t ts, behind_fine ts ws h.1))

pieces_fine : (ts ws : List (List ℕ)) → ArePrinted ts ws → ArePieces (pieces_of ts)
pieces_fine [] ws h = tt
pieces_fine (t ∷ ts) [] h = absurd h
pieces_fine (t ∷ ts) (w ∷ ws) h = (h.0.0, (behind_parted t ts, behind_fine ts ws h.1))

joined_text : (ts : List (List ℕ)) → text_of_tokens ts ≡ spelling_of (pieces_of ts) 0
joined_text [] = refl
joined_text (t ∷ []) = sym (append-nil t)
joined_text (t ∷ u ∷ us) = ap (λ x. t ++ 32 ∷ x) (joined_text (u ∷ us))

behind_tokens : (ts : List (List ℕ)) → map (λ p. p.token) (behind_spaces ts) ≡ ts
behind_tokens [] = refl
behind_tokens (t ∷ ts) = ap (λ x. t ∷ x) (behind_tokens ts)

pieces_tokens : (ts : List (List ℕ)) → map (λ p. p.token) (pieces_of ts) ≡ ts
pieces_tokens [] = refl
pieces_tokens (t ∷ ts) = ap (λ x. t ∷ x) (behind_tokens ts)

-- the tokens of the canonical text are those of the form, so that it says that form
pub canonical_says : (d : Form) → is_form d ≡ true → Says (canonical_text d) d
canonical_says d ok =
    let all = printed d ok in
    record {
      tokens = printed_tokens d;
      spells = record {
        pieces = pieces_of (printed_tokens d);
        trail = 0;
        well_formed = pieces_fine (printed_tokens d) (form_tokens d) all;
        text = joined_text (printed_tokens d);
        same = pieces_tokens (printed_tokens d);
      };
      form = printed_form (printed_tokens d) (form_tokens d) all;
      places = ok;
    }
