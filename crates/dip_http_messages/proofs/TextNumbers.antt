-- Numbers that a text is.
use Rattle.std.proofs.Common.{◌≡◌, ◌<◌, ◌^◌, ◌∙◌, ℕ, List, Option, None, Some, Result, Ok, refl, sym, ap, subst, arith}
use Rattle.std.specs.Fmt.{decimal}
use Rattle.std.specs.Str.Parse.{AllDigits, ParsesUnsigned, digits_value}
use Rattle.std.proofs.lemmas.Fmt.{decimal_nonempty, digits_decimal, digits_value-decimal}
use Rattle.std.proofs.lemmas.Str.Parse.{IsNumeralModel, numerals_by_value, parse_gives, tells_digits}
use Rattle.dip_http_messages.specs.Numbers.{IsNumber}

own : IsNumeralModel (AllDigits 10) (digits_value 10)
own = numerals_by_value _ tells_digits

same_number : (n k : ℕ) → n < 2 ^ 32 → k < 2 ^ 32 → decimal n ≡ decimal k → n ≡ k
same_number n k small fits same =
    sym (digits_value-decimal own n (omega (arith, small))) ∙ ap (digits_value 10) same ∙ digits_value-decimal own k (omega (arith, fits))

-- a text is one number, or none
pub number_one : (text : List ℕ) (a b : Option ℕ) → IsNumber text a → IsNumber text b → a ≡ b
number_one text None None x y = refl
number_one text None (Some k) x y = absurd (x k y.1 y.0)
number_one text (Some n) None x y = absurd (y n x.1 x.0)
number_one text (Some n) (Some k) x y = ap Some (same_number n k x.1 y.1 (x.0 ∙ sym y.0))

parsed_decimal : {E : Type 0} (n : ℕ) (r : Result ℕ E) → ParsesUnsigned 32 10 (decimal n) r → n < 2 ^ 32 → r ≡ Ok n
parsed_decimal n r h small =
    let is = digits_value-decimal own n (omega (arith, small)) in
    parse_gives own 32 (decimal n) r h (digits_decimal own n (omega (arith, small))) (decimal_nonempty n (omega (arith, small))) (omega (arith, is, small)) ∙ ap Ok is

-- the text of a number is parsed as that number
pub parsed : {E : Type 0} (text : List ℕ) (r : Result ℕ E) → ParsesUnsigned 32 10 text r → (n : ℕ) → n < 2 ^ 32 → decimal n ≡ text → r ≡ Ok n
parsed text r h n small is = parsed_decimal n r (subst (λ (t : List ℕ). ParsesUnsigned 32 10 t r) (sym is) h) small
