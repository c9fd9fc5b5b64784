-- Lines of a text: which bytes they lack, and how a text is cut into them. A text of lines is split into just those lines by `split_text`
-- of `Rattle.dip_letters.proofs.LineLemmas`.
use Rattle.std.proofs.Common.{◌≡◌, ◌≢◌, ◌<◌, ◌+◌, ◌⊎◌, ◌==◌, ℕ, suc, Bool, true, false, cond, List, [], ◌∷◌, ◌++◌, length, get_or, drop, length-append, add-one, Option, Some, None, option_map, inl, inr, refl, sym, ap, subst, ◌∙◌, flat_map, arith}
use Rattle.std.specs.List.{list_all}
use Rattle.std.proofs.lemmas.Bool.{and_from, eqb-false}
use Rattle.std.specs.Str.{IsUtf8}
use Rattle.std.proofs.lemmas.Str.{IsCharBoundary-after_ascii, IsUtf8-drop}
use Rattle.dip_letters.specs.Lines.{Lacks, cut_at}
use Rattle.dip_letters.proofs.LineLemmas.{cut_takes}
use Rattle.dip_letters.proofs.WordLemmas.{and_first, and_second}

-- every byte passes a test
abbrev pub AreAll : (ℕ → Bool) → List ℕ → Type 0
AreAll test text = list_all test text ≡ true

pub all_both : (test : ℕ → Bool) (a b : List ℕ) → AreAll test a → AreAll test b → AreAll test (a ++ b)
all_both test [] b first second = second
all_both test (x ∷ a) b first second = and_from (test x) (list_all test (a ++ b)) (and_first _ _ first) (all_both test a b (and_second _ _ first) second)

pub all_flat : {A : Type 0} (test : ℕ → Bool) (f : A → List ℕ) (xs : List A) → ((x : A) → AreAll test (f x)) → AreAll test (flat_map f xs)
all_flat test f [] each = refl
all_flat test f (x ∷ xs) each = all_both test (f x) (flat_map f xs) (each x) (all_flat test f xs each)

-- a test that the mark fails
pub lacks_by : (test : ℕ → Bool) (mark : ℕ) → ((b : ℕ) → test b ≡ true → b ≢ mark) → (text : List ℕ) → AreAll test text → Lacks mark text
lacks_by test mark fails [] all = tt
lacks_by test mark fails (b ∷ text) all = (fails b (and_first _ _ all), lacks_by test mark fails text (and_second _ _ all))

-- another test, weaker on each byte
pub all_weaker : (test other : ℕ → Bool) → ((b : ℕ) → test b ≡ true → other b ≡ true) → (text : List ℕ) → AreAll test text → AreAll other text
all_weaker test other weaker [] all = refl
all_weaker test other weaker (b ∷ text) all = and_from (other b) (list_all other text) (weaker b (and_first _ _ all)) (all_weaker test other weaker text (and_second _ _ all))

pub lacks_append : (mark : ℕ) (a b : List ℕ) → Lacks mark a → Lacks mark b → Lacks mark (a ++ b)
lacks_append mark [] b one two = two
lacks_append mark (x ∷ a) b one two = (one.0, lacks_append mark a b one.1 two)

-- ---- the last such byte

pub no_mark : (mark : ℕ) (a t : List ℕ) → Lacks mark (a ++ mark ∷ t) → ⊥
no_mark mark [] t lacks = lacks.0 refl
no_mark mark (x ∷ a) t lacks = no_mark mark a t lacks.1

-- after a cut at the first mark, what is after the last one is all, or is after a mark again
pub next_mark : (mark : ℕ) (a rest h tail : List ℕ) → Lacks mark a → a ++ mark ∷ rest ≡ h ++ mark ∷ tail → (rest ≡ tail) ⊎ ((k : List ℕ) × (rest ≡ k ++ mark ∷ tail))
next_mark mark [] rest [] tail lacks same = inl (cc)
next_mark mark [] rest (x ∷ h) tail lacks same = inr (h, cc)
next_mark mark (y ∷ a) rest [] tail lacks same = let first : y ≡ mark = cc in absurd (lacks.0 first)
next_mark mark (y ∷ a) rest (x ∷ h) tail lacks same = next_mark mark a rest h tail lacks.1 (cc)

abbrev pub EndsSo : ℕ → List ℕ → List ℕ → Type 0
EndsSo mark tail at = (at ≡ tail) ⊎ ((h : List ℕ) × (at ≡ h ++ mark ∷ tail))

pub past_mark : (mark : ℕ) (at tail a rest : List ℕ) → Lacks mark tail → Some (a, rest) ≡ cut_at mark at → EndsSo mark tail at → EndsSo mark tail rest
past_mark mark at tail a rest lacks cut (inl is) =
    let t = cut_takes mark at (a, rest) (sym cut) in
    absurd (no_mark mark a rest (subst (λ (xs : List ℕ). Lacks mark xs) (sym is ∙ t.1) lacks))
past_mark mark at tail a rest lacks cut (inr found) =
    let t = cut_takes mark at (a, rest) (sym cut) in
    next_mark mark a rest found.0 tail t.0 (sym t.1 ∙ found.1)

nothing : {A B : Type 0} (f : A → B) (o : Option A) → option_map f o ≡ None → o ≡ None
nothing f None e = refl
nothing f (Some x) e = cc

uncut : (mark : ℕ) (xs : List ℕ) → cut_at mark xs ≡ None → Lacks mark xs
uncut mark [] e = tt
uncut mark (b ∷ bs) e = go (b == mark) refl (λ h. uncut mark bs h) e
  where
    go : (t : Bool) → (b == mark) ≡ t → (cut_at mark bs ≡ None → Lacks mark bs)
        → cond {A = Option (List ℕ × List ℕ)} t (Some ([], bs)) (option_map (λ p. (b ∷ p.0, p.1)) (cut_at mark bs)) ≡ None → Lacks mark (b ∷ bs)
    go true is ih e = cc
    go false is ih e = ((λ same. eqb-false b mark is same), ih (nothing _ (cut_at mark bs) e))

pub some_cut : (mark : ℕ) (h t : List ℕ) → cut_at mark (h ++ mark ∷ t) ≡ None → ⊥
some_cut mark h t none = by (cut_at mark (h ++ mark ∷ t)) refl none
  where
    by : (o : Option (List ℕ × List ℕ)) → cut_at mark (h ++ mark ∷ t) ≡ o → o ≡ None → ⊥
    by None is e = no_mark mark h t (uncut mark (h ++ mark ∷ t) is)
    by (Some p) is e = cc

pub no_more_marks : (mark : ℕ) (at tail : List ℕ) → None ≡ cut_at mark at → EndsSo mark tail at → at ≡ tail
no_more_marks mark at tail none (inl is) = is
no_more_marks mark at tail none (inr found) = absurd (some_cut mark found.0 tail (ap (cut_at mark) (sym found.1) ∙ sym none))

drop_front : (mark : ℕ) (l r : List ℕ) → drop (suc (length l)) (l ++ mark ∷ r) ≡ r
drop_front mark [] r = refl
drop_front mark (b ∷ l) r = drop_front mark l r

at_mark : (mark : ℕ) (l r : List ℕ) → get_or (l ++ mark ∷ r) (length l) 0 ≡ mark
at_mark mark [] r = refl
at_mark mark (b ∷ l) r = at_mark mark l r

-- what is after a mark in a text of characters is one
pub utf8_after : (mark : ℕ) (text l r : List ℕ) → mark < 128 → IsUtf8 text → Some (l, r) ≡ cut_at mark text → IsUtf8 r
utf8_after mark text l r small utf8 cut =
    let whole : IsUtf8 (l ++ mark ∷ r) = subst (λ (t : List ℕ). IsUtf8 t) (cut_takes mark text (l, r) (sym cut)).1 utf8 in
    let inside : length l < length (l ++ mark ∷ r) = omega (arith, length-append l (mark ∷ r)) in
    let ascii : get_or (l ++ mark ∷ r) (length l) 0 < 128 = rw (at_mark mark l r) small in
    subst (λ (t : List ℕ). IsUtf8 t) (rw add-one (drop_front mark l r)) (IsUtf8-drop (l ++ mark ∷ r) (length l + 1) whole (IsCharBoundary-after_ascii (l ++ mark ∷ r) (length l) whole inside ascii))
