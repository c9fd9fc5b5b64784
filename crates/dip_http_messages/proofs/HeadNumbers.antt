-- Numbers in digits.
use Rattle.std.proofs.Common.{◌≡◌, ◌<◌, ◌≤◌, ◌+◌, ◌-◌, ◌*◌, ℕ, zero, suc, List, [], ◌∷◌, true, length, get_or, take, ap, ◌∙◌, arith}
use Rattle.std.specs.Char.{is_ascii_digit}
use Rattle.std.specs.List.{list_all}
use Rattle.std.specs.Str.Parse.{digits_value}
use Rattle.std.proofs.lemmas.Str.Parse.{digits_value-take-le}
use Rattle.std.proofs.lemmas.Int.Digits.{digits_value_more}
use Rattle.std.proofs.lemmas.Bool.Decides.{nat_tests}
use Rattle.dip_letters.proofs.WordLemmas.{and_first, and_second}
use Rattle.dip_letters.proofs.NumberLemmas.{of_digit}

in_range : (b : ℕ) → is_ascii_digit b ≡ true → (48 ≤ b) × (b ≤ 57)
in_range b e = grind (arith, nat_tests)

pub digit_at : (ds : List ℕ) (i : ℕ) → list_all is_ascii_digit ds ≡ true → i < length ds → (48 ≤ get_or ds i 0) × (get_or ds i 0 ≤ 57)
digit_at [] i all lt = absurd (omega arith)
digit_at (d ∷ ds) zero all lt = in_range d (and_first _ _ all)
digit_at (d ∷ ds) (suc i) all lt = digit_at ds i (and_second _ _ all) (omega arith)

-- one digit more
pub one_more : (ds : List ℕ) (i : ℕ) → list_all is_ascii_digit ds ≡ true → i < length ds
    → (digits_value 10 (take (i + 1) ds) ≡ digits_value 10 (take i ds) * 10 + (get_or ds i 0 - 48)) × (digits_value 10 (take (i + 1) ds) ≤ digits_value 10 ds)
one_more ds i all lt =
    let d = digit_at ds i all lt in (
      digits_value_more 10 ds i lt ∙ ap (λ v. digits_value 10 (take i ds) * 10 + v) (of_digit (get_or ds i 0) d.0 d.1),
      digits_value-take-le 10 ds (i + 1) (omega arith),
    )
