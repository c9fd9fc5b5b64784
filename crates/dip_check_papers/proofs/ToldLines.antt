-- Up to which line a text is like papers that differ in their due tick alone.
use Rattle.std.proofs.Common.{◌≡◌, ◌≤◌, ◌+◌, ◌==◌, ◌&&◌, inl, inr, not, ℕ, Bool, true, false, cond, List, [], ◌∷◌, ◌++◌, Option, Some, None, refl, sym, ap, ap₂, subst, ◌∙◌, append_assoc, arith}
use Rattle.std.specs.Fmt.{decimal}
use Rattle.std.specs.List.{onto_first}
use Rattle.std.specs.Str.{bytes_eq}
use Rattle.std.proofs.lemmas.Bool.{and_parts, cases_Bool, eqb-true, eq-eqb, false≢true}
use Rattle.std.proofs.lemmas.Bool.Decides.{nat_tests}
use Rattle.dip_letters.specs.Reading.{after_name}
use Rattle.dip_letters.proofs.NameLemmas.{after_takes}
use Rattle.dip_check_papers.specs.Differing.{alike}
use Rattle.dip_check_papers.specs.Parts.{lines_in}
use Rattle.dip_check_papers.proofs.LineLemmas.{all_both}
use Rattle.dip_check_papers.proofs.NameTexts.{number_all}
use Rattle.dip_check_papers.proofs.WordLemmas.{lacks}

-- how many lines two texts have alike at the front
abbrev pub alike_in : List ℕ → List ℕ → ℕ
alike_in a c = alike (lines_in a) (lines_in c)

-- the first line of a text, and its others
first_line : (text : List ℕ) → (l : List ℕ) × (ls : List (List ℕ)) × (lines_in text ≡ l ∷ ls)
first_line [] = ([], [], refl)
first_line (b ∷ bs) = go (b == 10) (first_line bs)
  where
    go : (t : Bool) → (l : List ℕ) × (ls : List (List ℕ)) × (lines_in bs ≡ l ∷ ls) → (l : List ℕ) × (ls : List (List ℕ)) × (cond t ([] ∷ lines_in bs) (onto_first b (lines_in bs)) ≡ l ∷ ls)
    go true rest = ([], lines_in bs, refl)
    go false rest = (b ∷ rest.0, rest.1, ap (onto_first b) rest.2)

-- a byte more in both first lines
one_byte : (b : ℕ) (a c : List ℕ) → alike (onto_first b (lines_in a)) (onto_first b (lines_in c)) ≡ alike_in a c
one_byte b a c =
    let (l, ls, is) = first_line a in
    let (k, ks, also) = first_line c in
    ap₂ (λ (x y : List (List ℕ)). alike (onto_first b x) (onto_first b y)) is also
    ∙ ap (λ (t : Bool). cond (t && bytes_eq l k) (alike ls ks + 1) 0) (eq-eqb b b refl)
    ∙ sym (ap₂ alike is also)

ends : ℕ → ℕ
ends b = cond (b == 10) 1 0

same_byte : (b : ℕ) (a c : List ℕ) → alike_in (b ∷ a) (b ∷ c) ≡ ends b + alike_in a c
unfolding ends
same_byte b a c = go (b == 10)
  where
    go : (t : Bool) → alike (cond t ([] ∷ lines_in a) (onto_first b (lines_in a))) (cond t ([] ∷ lines_in c) (onto_first b (lines_in c))) ≡ cond t 1 0 + alike_in a c
    go true = omega arith
    go false = let one = one_byte b a c in omega (arith, one)

other_byte : (b d : ℕ) (a c : List ℕ) → (b == d) ≡ false → alike_in (b ∷ a) (d ∷ c) ≡ 0
other_byte b d a c other = go (b == 10) (d == 10) refl refl
  where
    go : (s t : Bool) → (b == 10) ≡ s → (d == 10) ≡ t → alike (cond s ([] ∷ lines_in a) (onto_first b (lines_in a))) (cond t ([] ∷ lines_in c) (onto_first d (lines_in c))) ≡ 0
    go true true one two = absurd (false≢true (sym other ∙ eq-eqb b d (eqb-true b 10 one ∙ sym (eqb-true d 10 two))))
    go true false one two = let (k, ks, also) = first_line c in ap (λ (y : List (List ℕ)). alike ([] ∷ lines_in a) (onto_first d y)) also
    go false true one two = let (l, ls, is) = first_line a in ap (λ (x : List (List ℕ)). alike (onto_first b x) ([] ∷ lines_in c)) is
    go false false one two =
        let (l, ls, is) = first_line a in
        let (k, ks, also) = first_line c in
        ap₂ (λ (x y : List (List ℕ)). alike (onto_first b x) (onto_first d y)) is also ∙ ap (λ (t : Bool). cond (t && bytes_eq l k) (alike ls ks + 1) 0) other

no_byte : (d : ℕ) (c : List ℕ) → alike_in [] (d ∷ c) ≡ ends d
unfolding ends
no_byte d c = go (d == 10)
  where
    go : (t : Bool) → alike ([] ∷ []) (cond t ([] ∷ lines_in c) (onto_first d (lines_in c))) ≡ cond t 1 0
    go true = refl
    go false = let (k, ks, also) = first_line c in ap (λ (y : List (List ℕ)). alike ([] ∷ []) (onto_first d y)) also

-- texts with one front
same_front : (h a c e : List ℕ) → alike_in a c ≤ alike_in a e → alike_in (h ++ a) (h ++ c) ≤ alike_in (h ++ a) (h ++ e)
same_front [] a c e le = le
same_front (b ∷ h) a c e le = omega (arith, same_byte b (h ++ a) (h ++ c), same_byte b (h ++ a) (h ++ e), same_front h a c e le)

none_some : {A : Type 0} (x : A) → Some x ≡ None → ⊥
none_some x e = cc

-- a text that has another front is as far alike with all that have this one
other_front : (h text x y : List ℕ) → after_name h text ≡ None → alike_in text (h ++ x) ≡ alike_in text (h ++ y)
other_front [] text x y none = absurd (none_some text none)
other_front (d ∷ h) [] x y none = no_byte d (h ++ x) ∙ sym (no_byte d (h ++ y))
other_front (d ∷ h) (b ∷ text) x y none = elim (cases_Bool (b == d)) [
  | inl same ↦
      let is : b ≡ d = eqb-true b d same in
      let rest : after_name h text ≡ None = ap (λ (t : Bool). cond {A = Option (List ℕ)} t (after_name h text) None) (sym same) ∙ none in
      subst (λ (c : ℕ). alike_in (b ∷ text) (c ∷ (h ++ x)) ≡ alike_in (b ∷ text) (c ∷ (h ++ y))) is
      (same_byte b text (h ++ x) ∙ ap (λ (n : ℕ). ends b + n) (other_front h text x y rest) ∙ sym (same_byte b text (h ++ y)))
  | inr other ↦ other_byte b d text (h ++ x) other ∙ sym (other_byte b d text (h ++ y) other)
]

no_end : (d : ℕ) → not (d == 10) ≡ true → ends d ≡ 0
unfolding ends
no_end d free = go (d == 10) free
  where
    go : (t : Bool) → not t ≡ true → cond {A = ℕ} t 1 0 ≡ 0
    go true bad = absurd (false≢true bad)
    go false is = refl

-- and with a front in one line it has no line alike
no_line : (h text x : List ℕ) → lacks 10 h ≡ true → after_name h text ≡ None → alike_in text (h ++ x) ≡ 0
no_line [] text x free none = absurd (none_some text none)
no_line (d ∷ h) [] x free none = no_byte d (h ++ x) ∙ no_end d (and_parts (not (d == 10)) (lacks 10 h) free).0
no_line (d ∷ h) (b ∷ bs) x free none = elim (cases_Bool (b == d)) [
  | inl same ↦
      let parts = and_parts (not (d == 10)) (lacks 10 h) free in
      let is : b ≡ d = eqb-true b d same in
      let rest : after_name h bs ≡ None = ap (λ (t : Bool). cond {A = Option (List ℕ)} t (after_name h bs) None) (sym same) ∙ none in
      let one = same_byte d bs (h ++ x) in
      let more = no_line h bs x parts.1 rest in
      let zero = no_end d parts.0 in
      subst (λ (c : ℕ). alike_in (c ∷ bs) (d ∷ (h ++ x)) ≡ 0) (sym is) (omega (arith, one, more, zero))
  | inr other ↦ other_byte b d bs (h ++ x) other
]

-- of papers that differ in a number alone, none is further alike with a text than that of the number which the text has there
pub told_furthest : (h text tail : List ℕ) (n told : ℕ) → ((rest : List ℕ) → text ≡ h ++ (decimal n ++ 32 ∷ rest) → told ≡ n)
    → alike_in text (h ++ (decimal n ++ 32 ∷ tail)) ≤ alike_in text (h ++ (decimal told ++ 32 ∷ tail))
told_furthest h text tail n told reads = by (after_name h text) refl
  where
    number_free : lacks 10 (decimal n ++ 32 ∷ []) ≡ true
    number_free = all_both (λ b. not (b == 10)) (decimal n) (32 ∷ []) (number_all (λ b. not (b == 10)) (λ d low. grind (arith, nat_tests)) n) refl

    here : (r : List ℕ) → text ≡ h ++ r → alike_in r (decimal n ++ 32 ∷ tail) ≤ alike_in r (decimal told ++ 32 ∷ tail)
    here r is = go (after_name (decimal n ++ 32 ∷ []) r) refl
      where
        split : (x : List ℕ) → (decimal n ++ 32 ∷ []) ++ x ≡ decimal n ++ 32 ∷ x
        split x = append_assoc (decimal n) (32 ∷ []) x

        go : (o : Option (List ℕ)) → after_name (decimal n ++ 32 ∷ []) r ≡ o → alike_in r (decimal n ++ 32 ∷ tail) ≤ alike_in r (decimal told ++ 32 ∷ tail)
        go None none =
            let zero : alike_in r (decimal n ++ 32 ∷ tail) ≡ 0 = ap (alike_in r) (sym (split tail)) ∙ no_line (decimal n ++ 32 ∷ []) r tail number_free none in
            omega (arith, zero)
        go (Some rest) found =
            let same : told ≡ n = reads rest (is ∙ ap (λ (t : List ℕ). h ++ t) (after_takes (decimal n ++ 32 ∷ []) r rest found ∙ split rest)) in
            let equal : alike_in r (decimal told ++ 32 ∷ tail) ≡ alike_in r (decimal n ++ 32 ∷ tail) = ap (λ (k : ℕ). alike_in r (decimal k ++ 32 ∷ tail)) same in
            omega (arith, equal)

    by : (o : Option (List ℕ)) → after_name h text ≡ o → alike_in text (h ++ (decimal n ++ 32 ∷ tail)) ≤ alike_in text (h ++ (decimal told ++ 32 ∷ tail))
    by None none = let equal = other_front h text (decimal n ++ 32 ∷ tail) (decimal told ++ 32 ∷ tail) none in omega (arith, equal)
    by (Some r) found =
        let is : text ≡ h ++ r = after_takes h text r found in
        subst (λ (t : List ℕ). alike_in t (h ++ (decimal n ++ 32 ∷ tail)) ≤ alike_in t (h ++ (decimal told ++ 32 ∷ tail))) (sym is)
        (same_front h r (decimal n ++ 32 ∷ tail) (decimal told ++ 32 ∷ tail) (here r is))
