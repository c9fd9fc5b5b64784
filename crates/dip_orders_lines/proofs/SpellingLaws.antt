use Rattle.std.proofs.Common.{◌≡◌, ℕ, ◌<◌, ◌==◌, true, false, zero, suc, length, List, [], ◌∷◌, ◌++◌, refl, sym, ◌∙◌, ap, subst, inl, inr, arith, nat_le, Option, Some, None, option_map, append_assoc, map, replicate}
use Rattle.std.proofs.lemmas.Bool.{and_parts, false≢true, cases_Bool, leb-true, le-leb, eqb-true}
use Rattle.std.proofs.lemmas.List.{append-nil}
use Rattle.std.proofs.lemmas.List.Folds.{list_all-append}
use Rattle.std.specs.List.{list_all}
use Rattle.std.specs.Cmp.Derive.{both_true}
use Rattle.dip_orders_lines.specs.Tokens.{is_word_byte, is_word, minus, Piece, spelling_of, IsParted, ArePieces, Spells}
use Rattle.std.specs.Option.{IfSome, IfNone}
use Rattle.std.proofs.lemmas.Bool.Decides.{nat_tests}
use Rattle.dip_orders_lines.specs.Scan.{with_word, scan, tokens_at, few}
use Rattle.dip_orders_lines.proofs.TokenLaws.{starts_word, scan_run}

-- what a mapped option holds
pub mapped_some : {A B : Type 0} (f : A → B) (o : Option A) (y : B) → option_map f o ≡ Some y → (x : A) × (o ≡ Some x) × (f x ≡ y)
mapped_some f None y h = absurd (cc)
mapped_some f (Some x) y h = (x, refl, cc)

-- the tokens of pieces
abbrev tokens_of : List Piece → List (List ℕ)
tokens_of ps = map (λ p. p.token) ps

scan_spaces : (n : ℕ) (rest : List ℕ) → scan [] (replicate n 32 ++ rest) ≡ scan [] rest
scan_spaces zero rest = refl
scan_spaces (suc n) rest = closed_same (scan [] (replicate n 32 ++ rest)) ∙ scan_spaces n rest
  where
    closed_same : (o : Option (List (List ℕ))) → option_map (λ ts. with_word [] ts) o ≡ o
    closed_same None = refl
    closed_same (Some ts) = refl

scan_trail : (n : ℕ) → scan [] (replicate n 32) ≡ Some []
scan_trail n = subst (λ (x : List ℕ). scan [] x ≡ Some []) (append-nil (replicate n 32)) (scan_spaces n [])

-- no letter or slash follows a word among pieces
parted_ends : (t : List ℕ) (ps : List Piece) (trail : ℕ) → is_word t ≡ true → ArePieces ps → IsParted t ps → starts_word (spelling_of ps trail) ≡ false
parted_ends t [] zero w ok apart = refl
parted_ends t [] (suc n) w ok apart = refl
parted_ends t (p ∷ ps) trail w ok apart = gap_ends p.gap refl
  where
    gap_ends : (g : ℕ) → g ≡ p.gap → starts_word (replicate g 32 ++ (p.token ++ spelling_of ps trail)) ≡ false
    gap_ends (suc n) e = refl
    gap_ends zero e =
        elim ok.0 [
          | inl word ↦ absurd (omega (arith, apart w word, e))
          | inr dash ↦ rw dash refl
        ]

spelled_scan : (ps : List Piece) (trail : ℕ) → ArePieces ps → scan [] (spelling_of ps trail) ≡ Some (tokens_of ps)
spelled_scan [] trail ok = scan_trail trail
spelled_scan (p ∷ ps) trail ok =
    let (token, behind) = ok in
    let (apart, more) = behind in
    let next = spelled_scan ps trail more in
    scan_spaces p.gap (p.token ++ spelling_of ps trail) ∙ elim token [
      | inl word ↦
          let (long, all) = and_parts (nat_le 1 (length p.token)) (list_all is_word_byte p.token) word in
          scan_run p.token (spelling_of ps trail) (leb-true _ _ long) all (parted_ends p.token ps trail word more apart) ∙ ap (λ o. option_map (λ ts. p.token ∷ ts) o) next
      | inr dash ↦ rw (dash, next) refl
    ]

-- what is spelled is read
pub spelled_is_read : (line : List ℕ) (ts : List (List ℕ)) → Spells line ts → tokens_at line ≡ Some ts
spelled_is_read line ts s = ap (λ x. scan [] x) s.text ∙ (spelled_scan s.pieces s.trail s.well_formed ∙ ap (λ x. Some x) s.same)

-- pieces with a space before them
abbrev spaced : List Piece → List Piece
spaced [] = []
spaced (p ∷ ps) = record { gap = suc p.gap; token = p.token } ∷ ps

-- the spaces after them
abbrev trailed : List Piece → ℕ → ℕ
trailed [] n = suc n
trailed (p ∷ ps) n = n

spelled_spaced : (ps : List Piece) (n : ℕ) → spelling_of (spaced ps) (trailed ps n) ≡ 32 ∷ spelling_of ps n
spelled_spaced [] n = refl
spelled_spaced (p ∷ ps) n = refl

spaced_pieces : (ps : List Piece) → ArePieces ps → ArePieces (spaced ps)
spaced_pieces [] ok = tt
spaced_pieces (p ∷ ps) ok = ok

spaced_tokens : (ps : List Piece) → tokens_of (spaced ps) ≡ tokens_of ps
spaced_tokens [] = refl
spaced_tokens (p ∷ ps) = refl

spaced_parted : (t : List ℕ) (ps : List Piece) → IsParted t (spaced ps)
spaced_parted t [] = tt
spaced_parted t (p ∷ ps) = λ _ _. omega arith

minus_parted : (ps : List Piece) → IsParted minus ps
minus_parted [] = tt
minus_parted (p ∷ ps) = λ m _. absurd (false≢true m)

-- a word that ends before what is spelled
word_before : (w line : List ℕ) (ts : List (List ℕ)) (s : Spells line ts) → list_all is_word_byte w ≡ true → IsParted w s.pieces → Spells (w ++ line) (with_word w ts)
word_before [] line ts s all apart = s
word_before (b ∷ bs) line ts s all apart = record {
  pieces = record { gap = 0; token = b ∷ bs } ∷ s.pieces;
  trail = s.trail;
  well_formed = (inl (both_true (le-leb _ _ (omega arith)) all), (apart, s.well_formed));
  text = ap (λ x. (b ∷ bs) ++ x) s.text;
  same = ap (λ x. (b ∷ bs) ∷ x) s.same;
}

abbrev space_before : (line : List ℕ) (ts : List (List ℕ)) → Spells line ts → Spells (32 ∷ line) ts
space_before line ts s = record {
  pieces = spaced s.pieces;
  trail = trailed s.pieces s.trail;
  well_formed = spaced_pieces s.pieces s.well_formed;
  text = ap (λ x. 32 ∷ x) s.text ∙ sym (spelled_spaced s.pieces s.trail);
  same = spaced_tokens s.pieces ∙ s.same;
}

abbrev minus_before : (line : List ℕ) (ts : List (List ℕ)) → Spells line ts → Spells (45 ∷ line) (minus ∷ ts)
minus_before line ts s = record {
  pieces = record { gap = 0; token = minus } ∷ s.pieces;
  trail = s.trail;
  well_formed = (inr refl, (minus_parted s.pieces, s.well_formed));
  text = ap (λ x. 45 ∷ x) s.text;
  same = ap (λ x. minus ∷ x) s.same;
}

-- what a scan does with a byte
scan_space : (w : List ℕ) (b : ℕ) (bs : List ℕ) → is_word_byte b ≡ false → (b == 32) ≡ true → scan w (b ∷ bs) ≡ option_map (λ ts. with_word w ts) (scan [] bs)
scan_space w b bs other space = rw (other, space) refl

scan_minus : (w : List ℕ) (b : ℕ) (bs : List ℕ) → is_word_byte b ≡ false → (b == 32) ≡ false → (b == 45) ≡ true → scan w (b ∷ bs) ≡ option_map (λ ts. with_word w (minus ∷ ts)) (scan [] bs)
scan_minus w b bs other visible dash = rw (other, visible, dash) refl

scan_stray : (w : List ℕ) (b : ℕ) (bs : List ℕ) → is_word_byte b ≡ false → (b == 32) ≡ false → (b == 45) ≡ false → scan w (b ∷ bs) ≡ None
scan_stray w b bs other visible stray = rw (other, visible, stray) refl

abbrev nothing : Spells [] []
nothing = record { pieces = []; trail = 0; well_formed = tt; text = refl; same = refl }

spelled_space : (w : List ℕ) (b : ℕ) (bs : List ℕ) (ts inner : List (List ℕ)) → list_all is_word_byte w ≡ true → (b == 32) ≡ true → Spells bs inner → with_word w inner ≡ ts → Spells (w ++ b ∷ bs) ts
spelled_space w b bs ts inner all space s is =
    let whole : Spells (w ++ 32 ∷ bs) (with_word w inner) = word_before w (32 ∷ bs) inner (space_before bs inner s) all (spaced_parted w s.pieces) in
    subst (λ (x : ℕ). Spells (w ++ x ∷ bs) ts) (sym (eqb-true b 32 space)) (subst (λ (y : List (List ℕ)). Spells (w ++ 32 ∷ bs) y) is whole)

spelled_minus : (w : List ℕ) (b : ℕ) (bs : List ℕ) (ts inner : List (List ℕ)) → list_all is_word_byte w ≡ true → (b == 45) ≡ true → Spells bs inner → with_word w (minus ∷ inner) ≡ ts → Spells (w ++ b ∷ bs) ts
spelled_minus w b bs ts inner all dash s is =
    let whole : Spells (w ++ 45 ∷ bs) (with_word w (minus ∷ inner)) = word_before w (45 ∷ bs) (minus ∷ inner) (minus_before bs inner s) all (λ _ m. absurd (false≢true m)) in
    subst (λ (x : ℕ). Spells (w ++ x ∷ bs) ts) (sym (eqb-true b 45 dash)) (subst (λ (y : List (List ℕ)). Spells (w ++ 45 ∷ bs) y) is whole)

scan_spelled : (w bs : List ℕ) (ts : List (List ℕ)) → list_all is_word_byte w ≡ true → scan w bs ≡ Some ts → Spells (w ++ bs) ts
scan_spelled w [] ts all h =
    let is : with_word w [] ≡ ts = cc in
    subst (λ (y : List (List ℕ)). Spells (w ++ []) y) is (word_before w [] [] nothing all tt)
scan_spelled w (b ∷ bs) ts all h =
    elim (cases_Bool (is_word_byte b)) [
      | inl word ↦
          let longer : list_all is_word_byte (w ++ b ∷ []) ≡ true = list_all-append is_word_byte w (b ∷ []) ∙ both_true all (both_true word refl) in
          subst (λ (x : List ℕ). Spells x ts) (append_assoc w (b ∷ []) bs) (scan_spelled (w ++ b ∷ []) bs ts longer (rw word at h))
      | inr other ↦
          elim (cases_Bool (b == 32)) [
            | inl space ↦
                let (inner, found, is) = mapped_some (λ x. with_word w x) (scan [] bs) ts (sym (scan_space w b bs other space) ∙ h) in
                spelled_space w b bs ts inner all space (scan_spelled [] bs inner refl found) is
            | inr visible ↦
                elim (cases_Bool (b == 45)) [
                  | inl dash ↦
                      let (inner, found, is) = mapped_some (λ x. with_word w (minus ∷ x)) (scan [] bs) ts (sym (scan_minus w b bs other visible dash) ∙ h) in
                      spelled_minus w b bs ts inner all dash (scan_spelled [] bs inner refl found) is
                  | inr stray ↦ let none : None ≡ Some ts = sym (scan_stray w b bs other visible stray) ∙ h in absurd (cc)
                ]
          ]
    ]

-- what is read is spelled so
pub read_is_spelled : (line : List ℕ) (ts : List (List ℕ)) → tokens_at line ≡ Some ts → Spells line ts
read_is_spelled line ts h = scan_spelled [] line ts refl h

-- a line has one list of tokens
pub one_spelling : (line : List ℕ) (ts us : List (List ℕ)) → Spells line ts → Spells line us → ts ≡ us
one_spelling line ts us s t = let a = spelled_is_read line ts s in let b = spelled_is_read line us t in cc

pub few_is : (o : Option (List (List ℕ))) (ts : List (List ℕ)) → few o ≡ Some ts → o ≡ Some ts
few_is None ts h = absurd (cc)
few_is (Some us) ts h =
    elim (cases_Bool (nat_le (length us) 8)) [
      | inl small ↦ rw small at h
      | inr large ↦ let none : None ≡ Some ts = rw large at h in absurd (cc)
    ]

few_many : (ts : List (List ℕ)) → few (Some ts) ≡ None → 8 < length ts
few_many ts h =
    elim (cases_Bool (nat_le (length ts) 8)) [
      | inl small ↦ let some : Some ts ≡ None = rw small at h in absurd (cc)
      | inr large ↦ grind (arith, nat_tests)
    ]

-- what the tokens found, or not found, say
pub tokens_law : (line : List ℕ) (r : Option (List (List ℕ))) → option_map (λ ts. ts) r ≡ few (tokens_at line)
    → IfSome r (λ ts. Spells line ts) × IfNone r ((ts : List (List ℕ)) → Spells line ts → 8 < length ts)
tokens_law line None h = (tt, λ ts s. few_many ts (sym (ap few (spelled_is_read line ts s)) ∙ sym h))
tokens_law line (Some ts) h = (read_is_spelled line ts (few_is (tokens_at line) ts (sym h)), tt)
