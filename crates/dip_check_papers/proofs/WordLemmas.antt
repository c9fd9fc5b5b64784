-- Words of a line and lines of a text: how a text is cut at a byte.
use Rattle.std.proofs.Common.{◌≡◌, ◌<◌, ◌==◌, ◌&&◌, ◌^◌, not, ℕ, Bool, true, false, cond, length, List, [], ◌∷◌, ◌++◌, refl, sym, ap, ◌∙◌, slice_index, arith}
use Rattle.std.specs.Fmt.{decimal}
use Rattle.std.specs.List.{list_all, onto_first, slice_split}
use Rattle.std.specs.Str.{all_ascii_digits, bytes_eq}
use Rattle.std.specs.Char.{is_ascii_digit}
use Rattle.std.specs.Str.Parse.{digits_value}
use Rattle.std.proofs.lemmas.Bool.{and_parts}
use Rattle.std.proofs.lemmas.Bool.Decides.{nat_tests}
use Rattle.std.proofs.lemmas.Fmt.{decimal_nonempty, digits_decimal}
use Rattle.std.proofs.lemmas.Str.Parse.{IsNumeralModel, numerals_by_value, tells_all_ascii_digits}

-- no byte is this one
abbrev pub lacks : ℕ → List ℕ → Bool
lacks mark text = list_all (λ b. not (b == mark)) text

-- the first part ends at the first such byte
pub part_again : (mark : ℕ) (a r : List ℕ) → lacks mark a ≡ true → slice_split (λ b. b == mark) (a ++ mark ∷ r) ≡ a ∷ slice_split (λ b. b == mark) r
part_again mark [] r free =
    let same : (mark == mark) ≡ true = grind (arith, nat_tests) in
    rw same refl
part_again mark (x ∷ a) r free = go (x == mark) (part_again mark a r) free
  where
    go : (t : Bool) → (lacks mark a ≡ true → slice_split (λ b. b == mark) (a ++ mark ∷ r) ≡ a ∷ slice_split (λ b. b == mark) r)
        → (not t && lacks mark a) ≡ true
        → cond t ([] ∷ slice_split (λ b. b == mark) (a ++ mark ∷ r)) (onto_first x (slice_split (λ b. b == mark) (a ++ mark ∷ r))) ≡ (x ∷ a) ∷ slice_split (λ b. b == mark) r
    go true rest h = cc
    go false rest h = ap (onto_first x) (rest h)

-- a part without such a byte is all
pub last_part : (mark : ℕ) (a : List ℕ) → lacks mark a ≡ true → slice_split (λ b. b == mark) a ≡ a ∷ []
last_part mark [] free = refl
last_part mark (x ∷ a) free = go (x == mark) (last_part mark a) free
  where
    go : (t : Bool) → (lacks mark a ≡ true → slice_split (λ b. b == mark) a ≡ a ∷ []) → (not t && lacks mark a) ≡ true
        → cond t ([] ∷ slice_split (λ b. b == mark) a) (onto_first x (slice_split (λ b. b == mark) a)) ≡ (x ∷ a) ∷ []
    go true rest h = cc
    go false rest h = ap (onto_first x) (rest h)

pub lacks_both : (mark : ℕ) (a b : List ℕ) → lacks mark a ≡ true → lacks mark b ≡ true → lacks mark (a ++ b) ≡ true
lacks_both mark [] b first second = second
lacks_both mark (x ∷ a) b first second =
    let parts = and_parts (not (x == mark)) (lacks mark a) first in
    rw (parts.0, lacks_both mark a b parts.1 second) refl

-- each byte passes a test that the mark fails
pub lacks_by : (test : ℕ → Bool) (mark : ℕ) → test mark ≡ false → (text : List ℕ) → list_all test text ≡ true → lacks mark text ≡ true
lacks_by test mark fails [] all = refl
lacks_by test mark fails (x ∷ text) all =
    let parts = and_parts (test x) (list_all test text) all in
    go (x == mark) refl parts.0 (lacks_by test mark fails text parts.1)
  where
    go : (t : Bool) → (x == mark) ≡ t → test x ≡ true → lacks mark text ≡ true → (not t && lacks mark text) ≡ true
    go true is passes rest =
        let same : x ≡ mark = grind (arith, nat_tests) in
        let no : test mark ≡ true = sym (ap test same) ∙ passes in cc
    go false is passes rest = rest

own : IsNumeralModel (λ ds. all_ascii_digits ds ≡ true) (digits_value 10)
own = numerals_by_value _ tells_all_ascii_digits

digits_all : (ds : List ℕ) → all_ascii_digits ds ≡ true → list_all is_ascii_digit ds ≡ true
digits_all [] h = refl
digits_all (d ∷ ds) h =
    let parts = and_parts (is_ascii_digit d) (all_ascii_digits ds) h in
    rw (parts.0, digits_all ds parts.1) refl

pub number_digits : (n : ℕ) → n < 2 ^ 64 → list_all is_ascii_digit (decimal n) ≡ true
number_digits n low = digits_all (decimal n) (digits_decimal own n low)

pub number_lacks : (mark n : ℕ) → is_ascii_digit mark ≡ false → n < 2 ^ 64 → lacks mark (decimal n) ≡ true
number_lacks mark n fails low = lacks_by is_ascii_digit mark fails (decimal n) (number_digits n low)

-- a word whose first byte passes a test is none whose first byte fails it
pub other_word : (test : ℕ → Bool) (w : List ℕ) (b : ℕ) (name : List ℕ) → 0 < length w → test (slice_index w 0) ≡ true → test b ≡ false → bytes_eq w (b ∷ name) ≡ false
other_word test [] b name some first fails = absurd (omega (arith, some))
other_word test (x ∷ w) b name some first fails = go (x == b) refl
  where
    go : (t : Bool) → (x == b) ≡ t → (t && bytes_eq w name) ≡ false
    go true is =
        let same : x ≡ b = grind (arith, nat_tests) in
        let no : test b ≡ true = sym (ap test same) ∙ first in cc
    go false is = refl

first_of : (test : ℕ → Bool) (w : List ℕ) → 0 < length w → list_all test w ≡ true → test (slice_index w 0) ≡ true
first_of test [] some all = absurd (omega (arith, some))
first_of test (x ∷ w) some all = (and_parts (test x) (list_all test w) all).0

-- a number is no word that doesn't begin with a digit
pub other_than_number : (n b : ℕ) (name : List ℕ) → n < 2 ^ 64 → is_ascii_digit b ≡ false → bytes_eq (decimal n) (b ∷ name) ≡ false
other_than_number n b name low fails =
    other_word is_ascii_digit (decimal n) b name (decimal_nonempty n low) (first_of is_ascii_digit (decimal n) (decimal_nonempty n low) (number_digits n low)) fails
