-- Lists that ascend by a key, and what is found by its key.
use Rattle.std.proofs.Common.{◌≡◌, ℕ, ◌<◌, ◌==◌, ◌||◌, Bool, true, false, not, zero, suc, get_or, length, List, [], ◌∷◌, Some, refl, ◌∙◌, sym, ap, subst, inl, inr, arith}
use Rattle.std.proofs.lemmas.Bool.{and_parts, cases_Bool, false≢true, lt-ltb, not-true, eqb-true, cases_lt}
use Rattle.std.proofs.lemmas.List.{get_or_past}
use Rattle.std.proofs.lemmas.List.Folds.{list_any_at}
use Rattle.std.proofs.lemmas.List.Sums.{position_or_len_is}
use Rattle.std.proofs.lemmas.Map.Text.{is_eq-slice_cmp}
use Rattle.std.proofs.lemmas.Slice.Eq.{bytes_eq-Decides}
use Rattle.std.specs.List.{list_any, list_all, position}
use Rattle.std.specs.Cmp.Lexicographic.{slice_cmp}
use Rattle.std.specs.Ordering.{is_lt, is_eq, nat_cmp}
use Rattle.std.proofs.Common.{Ordering, Less, Equal, Greater}
use Rattle.std.specs.Str.{bytes_eq}
use Rattle.dip_map_chart.specs.Charts.{Chart, Province, Realm, no_province, no_realm, home, is_centre, is_realm, are_provs_single, are_ascending_by}
use Rattle.dip_map_chart.specs.Checks.{are_names_single, is_home_of, are_homes_single}
use Rattle.dip_map_chart.proofs.Found.{test_at, test_found}

less_is_not_equal : (o : Ordering) → is_lt o ≡ true → is_eq o ≡ false
less_is_not_equal Less h = refl
less_is_not_equal Equal h = absurd (false≢true h)
less_is_not_equal Greater h = refl

-- of two that ascend, the earlier one's key comes before the later one's
key_before : {A : Type 0} (key : A → List ℕ) (xs : List A) (j k : ℕ) (d : A) → are_ascending_by key xs ≡ true → j < k → k < length xs → is_lt (slice_cmp nat_cmp (key (get_or xs j d)) (key (get_or xs k d))) ≡ true
key_before key [] j k d t jk h = absurd (omega arith)
key_before key (x ∷ xs) j zero d t jk h = absurd (omega arith)
key_before key (x ∷ xs) zero (suc k) d t jk h =
    let here = (and_parts (list_all (λ y. is_lt (slice_cmp nat_cmp (key x) (key y))) xs) (are_ascending_by key xs) t).0 in
    let low : k < length xs = omega arith in
    test_at (λ y. is_lt (slice_cmp nat_cmp (key x) (key y))) xs k d here low
key_before key (x ∷ xs) (suc j) (suc k) d t jk h =
    let more = (and_parts (list_all (λ y. is_lt (slice_cmp nat_cmp (key x) (key y))) xs) (are_ascending_by key xs) t).1 in
    let low : k < length xs = omega arith in
    let less : j < k = omega arith in
    key_before key xs j k d more less low

bytes_same : (xs : List ℕ) → bytes_eq xs xs ≡ true
bytes_same xs = (bytes_eq-Decides xs xs).1 refl

-- what ascends by a key is found by it
pub key_found : {A : Type 0} (key : A → List ℕ) (xs : List A) (k : ℕ) (d : A) → are_ascending_by key xs ≡ true → k < length xs → position (λ x. bytes_eq (key x) (key (get_or xs k d))) xs ≡ Some k
key_found {A = A} key xs k d t h =
    let test : A → Bool = λ x. bytes_eq (key x) (key (get_or xs k d)) in
    let low = lt-ltb k (length xs) h in
    let at = position_or_len_is test xs k d (omega arith)
    (λ j jk. sym (is_eq-slice_cmp (key (get_or xs j d)) (key (get_or xs k d))) ∙ less_is_not_equal (slice_cmp nat_cmp (key (get_or xs j d)) (key (get_or xs k d))) (key_before key xs j k d t jk h))
    (λ _. bytes_same (key (get_or xs k d))) in
    rw (at, low) refl

-- of provinces with names apart, no later one has an earlier one's name
later_name : (rs : List Province) (j k : ℕ) → are_names_single rs ≡ true → j < k → k < length rs → bytes_eq (get_or rs k no_province).name (get_or rs j no_province).name ≡ false
later_name [] j k t jk h = absurd (omega arith)
later_name (r ∷ rs) j zero t jk h = absurd (omega arith)
later_name (r ∷ rs) zero (suc k) t jk h =
    let here = (and_parts (not (list_any (λ x. bytes_eq x.name r.name) rs)) (are_names_single rs) t).0 in
    let none = not-true (list_any (λ x. bytes_eq x.name r.name) rs) here in
    let low : k < length rs = omega arith in
    elim (cases_Bool (bytes_eq (get_or rs k no_province).name r.name)) [
      | inl same ↦ absurd (false≢true (sym none ∙ list_any_at (λ x. bytes_eq x.name r.name) rs k no_province low same))
      | inr other ↦ other
    ]
later_name (r ∷ rs) (suc j) (suc k) t jk h =
    let more = (and_parts (not (list_any (λ x. bytes_eq x.name r.name) rs)) (are_names_single rs) t).1 in
    let low : k < length rs = omega arith in
    let less : j < k = omega arith in
    later_name rs j k more less low

pub full_names_law : (rs : List Province) → are_names_single rs ≡ true → (p q : ℕ) → p < length rs → q < length rs → (get_or rs p no_province).name ≡ (get_or rs q no_province).name → p ≡ q
full_names_law rs t p q hp hq same =
    elim (cases_lt p q) [
      | inl less ↦ absurd (false≢true (sym (later_name rs p q t less hq) ∙ (bytes_eq-Decides _ _).1 (sym same)))
      | inr past ↦
          elim (cases_lt q p) [
            | inl less ↦ absurd (false≢true (sym (later_name rs q p t less hp) ∙ (bytes_eq-Decides _ _).1 same))
            | inr over ↦ omega (arith, past, over)
          ]
    ]

either_left : (a b : Bool) → a ≡ true → (a || b) ≡ true
either_left true b h = refl
either_left false b h = absurd (false≢true h)

either_right : (a b : Bool) → b ≡ true → (a || b) ≡ true
either_right true b h = refl
either_right false b h = h

-- a number that is found and passes a test makes the list pass it
found_any : (f : ℕ → Bool) (xs : List ℕ) (q : ℕ) → f q ≡ true → list_any (λ x. x == q) xs ≡ true → list_any f xs ≡ true
found_any f [] q t h = absurd (false≢true h)
found_any f (x ∷ xs) q t h =
    elim (cases_Bool (x == q)) [
      | inl same ↦ either_left (f x) (list_any f xs) (subst (λ (n : ℕ). f n ≡ true) (sym (eqb-true x q same)) t)
      | inr other ↦ either_right (f x) (list_any f xs) (found_any f xs q t (rw other at h))
    ]

-- a home centre of the power of a number is one of some power
home_of : (rs : List Realm) (s p : ℕ) → list_any (λ x. x == p) (get_or rs s no_realm).home ≡ true → is_home_of rs p ≡ true
home_of rs s p h =
    elim (cases_lt s (length rs)) [
      | inl low ↦ list_any_at (λ r. list_any (λ x. x == p) r.home) rs s no_realm low h
      | inr past ↦ absurd (false≢true (subst (λ (r : Realm). list_any (λ x. x == p) r.home ≡ true) (get_or_past rs s no_realm past) h))
    ]

-- a home centre of the first of these powers is none of the others
not_later : (r : Realm) (rs : List Realm) (s p : ℕ) → are_homes_single (r ∷ rs) ≡ true → list_any (λ x. x == p) r.home ≡ true → list_any (λ x. x == p) (get_or rs s no_realm).home ≡ false
not_later r rs s p t here =
    let (own, more) = and_parts _ (are_homes_single rs) t in
    let none = not-true _ (and_parts (are_provs_single r.home) _ own).1 in
    elim (cases_Bool (list_any (λ x. x == p) (get_or rs s no_realm).home)) [
      | inl found ↦ absurd (false≢true (sym none ∙ found_any (λ q. is_home_of rs q) r.home p (home_of rs s p found) here))
      | inr other ↦ other
    ]

pub homes_apart_law : (rs : List Realm) → are_homes_single rs ≡ true → (p r s : ℕ) → list_any (λ x. x == p) (get_or rs r no_realm).home ≡ true → list_any (λ x. x == p) (get_or rs s no_realm).home ≡ true → r ≡ s
homes_apart_law [] t p r s hr hs = absurd (false≢true hr)
homes_apart_law (x ∷ rs) t p zero zero hr hs = refl
homes_apart_law (x ∷ rs) t p zero (suc s) hr hs = absurd (false≢true (sym (not_later x rs s p t hr) ∙ hs))
homes_apart_law (x ∷ rs) t p (suc r) zero hr hs = absurd (false≢true (sym (not_later x rs r p t hs) ∙ hr))
homes_apart_law (x ∷ rs) t p (suc r) (suc s) hr hs = ap suc (homes_apart_law rs (and_parts _ (are_homes_single rs) t).1 p r s hr hs)

-- a home centre is a centre
pub homes_centres_law : (m : Chart) → list_all (λ r. is_realm m r) m.realms ≡ true → (p r : ℕ) → list_any (λ x. x == p) (home m r) ≡ true → is_centre m p ≡ true
homes_centres_law m t p r h =
    elim (cases_lt r (length m.realms)) [
      | inl low ↦
          let lawful = test_at (λ x. is_realm m x) m.realms r no_realm t low in
          let homes = (and_parts _ _ (and_parts _ _ lawful).1).0 in
          test_found (λ x. is_centre m x) (home m r) p homes h
      | inr past ↦ absurd (false≢true (subst (λ (x : Realm). list_any (λ y. y == p) x.home ≡ true) (get_or_past m.realms r no_realm past) h))
    ]
