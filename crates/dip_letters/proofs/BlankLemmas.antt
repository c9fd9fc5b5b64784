-- Empty lines at the front.
use Rattle.std.proofs.Common.{◌≡◌, ◌<◌, ◌≤◌, ◌==◌, ℕ, zero, suc, List, [], ◌∷◌, ◌++◌, Some, None, Bool, true, false, position, length, get_or, not, replicate, drop, refl, ap, ap₂, ◌∙◌, arith}
use Rattle.std.proofs.lemmas.List.Quantifiers.{position-Some}
use Rattle.std.proofs.lemmas.Bool.Decides.{nat_tests}
use Rattle.dip_letters.specs.Input.{Skips, Starts}
use Rattle.dip_letters_words.proofs.LineLemmas.{none_passes}
use Rattle.dip_letters_words.proofs.NameLemmas.{equal_byte}

cut_blank : (xs : List ℕ) (i : ℕ) → i ≤ length xs → ((k : ℕ) → k < i → not (get_or xs k 0 == 10) ≡ false) → xs ≡ replicate i 10 ++ drop i xs
cut_blank xs zero le before = refl
cut_blank [] (suc i) le before = absurd (omega arith)
cut_blank (x ∷ xs) (suc i) le before =
    ap₂ (λ h t. h ∷ t) (equal_byte x 10 (not_false (x == 10) (before 0 (omega arith)))) (cut_blank xs i (omega arith) (λ k h. before (suc k) (omega arith)))
  where
    not_false : (t : Bool) → not t ≡ false → t ≡ true
    not_false true e = refl
    not_false false e = cc

starts_at : (xs : List ℕ) (i : ℕ) → i < length xs → not (get_or xs i 0 == 10) ≡ true → Starts (drop i xs)
starts_at [] i lt at = absurd (omega arith)
starts_at (x ∷ xs) zero lt at = λ same. let lf : (x == 10) ≡ true = grind (arith, nat_tests) in let bad : not (x == 10) ≡ false = rw lf refl in cc
starts_at (x ∷ xs) (suc i) lt at = starts_at xs i (omega arith) at

pub blank_found : (xs : List ℕ) (i : ℕ) → position (λ b. not (b == 10)) xs ≡ Some i → Skips xs (drop i xs) × Starts (drop i xs)
blank_found xs i found =
    let f = position-Some (λ b. not (b == 10)) xs i 0 found in
    (record { blank = i; is = cut_blank xs i (let h = f.0 in omega arith) f.2 }, starts_at xs i f.0 f.1)

pub blank_only : (xs : List ℕ) → position (λ b. not (b == 10)) xs ≡ None → Skips xs []
blank_only xs none =
    let all = none_passes (λ b. not (b == 10)) xs none in
    record { blank = length xs; is = cut_blank xs (length xs) (omega arith) (λ k h. all k h) ∙ ap (λ t. replicate (length xs) 10 ++ t) (drop_all xs) }
  where
    drop_all : (xs : List ℕ) → drop (length xs) xs ≡ []
    drop_all [] = refl
    drop_all (x ∷ xs) = drop_all xs
