-- Numbers in decimal digits.
use Rattle.std.proofs.Common.{◌≡◌, ◌<◌, ◌≤◌, ◌^◌, ◌==◌, true, ℕ, zero, suc, List, Result, Ok, Err, length, get_or, sym, ap, subst, ◌∙◌, arith}
use Rattle.std.specs.Fmt.{decimal}
use Rattle.std.specs.Str.Parse.{AllDigits, ParsesUnsigned, digits_value}
use Rattle.std.proofs.lemmas.Bool.Decides.{nat_tests}
use Rattle.std.proofs.lemmas.Fmt.{decimal-digits_value, decimal_digit, decimal_nonempty, first_decimal, parse-decimal}
use Rattle.std.proofs.lemmas.Str.Parse.{IsNumeralModel, numerals_by_value, parse_plain, tells_digits}

own : IsNumeralModel (AllDigits 10) (digits_value 10)
own = numerals_by_value _ tells_digits

-- a number has a digit
pub no_digit : (t : List ℕ) (n : ℕ) → (length t == 0) ≡ true → t ≡ decimal n → n < 2 ^ 32 → ⊥
no_digit t n empty is small =
    let some = decimal_nonempty n (omega arith) in
    let same = ap length is in
    let none : length t ≡ 0 = grind (arith, nat_tests) in
    omega arith

-- the first digit of a number from 1 on isn't 0
pub low_digit : (t : List ℕ) (n : ℕ) → get_or t 0 0 < 49 → t ≡ decimal n → 1 ≤ n → n < 2 ^ 32 → ⊥
low_digit t n low is least small =
    let high = first_decimal n (omega arith) (omega arith) in
    let same = ap (λ (l : List ℕ). get_or l 0 0) is in
    omega arith

-- what is refused is no number
pub refused_number : {E : Type 0} (t : List ℕ) (n : ℕ) (r : Result ℕ E) (e : E) → ParsesUnsigned 32 10 t r → r ≡ Err e → t ≡ decimal n → n < 2 ^ 32 → ⊥
refused_number t n r e parse is_err is small =
    let same = parse-decimal 32 n t r small (omega arith) is parse in cc

-- what is read is the number
pub same_number : {E : Type 0} (t : List ℕ) (n m : ℕ) (r : Result ℕ E) → ParsesUnsigned 32 10 t r → r ≡ Ok m → t ≡ decimal n → n < 2 ^ 32 → m ≡ n
same_number t n m r parse is_ok is small =
    let same = parse-decimal 32 n t r small (omega arith) is parse in cc

nonzero_from : (t : List ℕ) (n : ℕ) → decimal n ≡ t → 49 ≤ get_or t 0 0 → 1 ≤ n
nonzero_from t zero is high =
    let same = ap (λ (l : List ℕ). get_or l 0 0) (sym is ∙ decimal_digit 0 (omega arith)) in absurd (omega arith)
nonzero_from t (suc n) is high = omega arith

-- what is read is written so
pub read_number : {E : Type 0} (t : List ℕ) (m : ℕ) (r : Result ℕ E) → ParsesUnsigned 32 10 t r → r ≡ Ok m → 49 ≤ get_or t 0 0 → (t ≡ decimal m) × (1 ≤ m)
read_number {E = E} t m r parse is_ok high =
    let p = parse_plain own {E = E} 32 t (Ok m) (subst (λ (x : Result ℕ E). ParsesUnsigned 32 10 t x) is_ok parse) (λ plus. omega arith) in
    let few = p.0.2 in
    let is = decimal-digits_value own t p.0.0 p.0.1 (λ zero. omega arith) (omega arith) in
    let whole : decimal m ≡ t = ap decimal p.1 ∙ is in
    (sym whole, nonzero_from t m whole high)
