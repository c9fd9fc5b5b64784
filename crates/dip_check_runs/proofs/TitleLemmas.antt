-- The title of a paper: its first line, shortened.
use Rattle.std.proofs.Common.{◌≡◌, ◌≢◌, ◌≤◌, ◌<◌, ◌==◌, ℕ, zero, suc, List, [], ◌∷◌, false, length, take, get_or, refl, ap, arith}
use Rattle.std.specs.List.{AllByRecursion}
use Rattle.std.proofs.lemmas.Bool.{eq-eqb}
use Rattle.std.proofs.lemmas.Bool.Decides.{nat_tests}
use Rattle.dip_check_runs.specs.Texts.{line_front}

other_byte : (x : ℕ) → x ≢ 10 → (x == 10) ≡ false
other_byte x other = grind (arith, nat_tests)

-- the line goes on to an LF
pub front_to_end : (n at : ℕ) (xs : List ℕ) → at < n → at < length xs → AllByRecursion (λ b. b ≢ 10) (take at xs) → get_or xs at 0 ≡ 10
    → take at xs ≡ line_front n xs
front_to_end zero at xs few inside line is = absurd (omega arith)
front_to_end (suc n) at [] few inside line is = absurd (omega arith)
front_to_end (suc n) zero (x ∷ xs) few inside line is = rw (eq-eqb x 10 is) refl
front_to_end (suc n) (suc at) (x ∷ xs) few inside line is =
    rw (other_byte x line.0) (ap (λ (l : List ℕ). x ∷ l) (front_to_end n at xs (omega arith) (omega arith) line.1 is))

-- to the most of it
pub front_to_most : (n at : ℕ) (xs : List ℕ) → at ≤ n → n ≤ at → AllByRecursion (λ b. b ≢ 10) (take at xs) → take at xs ≡ line_front n xs
front_to_most zero zero xs few most line = refl
front_to_most zero (suc at) xs few most line = absurd (omega arith)
front_to_most (suc n) zero xs few most line = absurd (omega arith)
front_to_most (suc n) (suc at) [] few most line = refl
front_to_most (suc n) (suc at) (x ∷ xs) few most line =
    rw (other_byte x line.0) (ap (λ (l : List ℕ). x ∷ l) (front_to_most n at xs (omega arith) (omega arith) line.1))

-- or to the end of the bytes
pub front_to_last : (n at : ℕ) (xs : List ℕ) → at ≤ n → length xs ≤ at → AllByRecursion (λ b. b ≢ 10) (take at xs) → take at xs ≡ line_front n xs
front_to_last zero zero xs few last line = refl
front_to_last zero (suc at) xs few last line = absurd (omega arith)
front_to_last (suc n) zero [] few last line = refl
front_to_last (suc n) (suc at) [] few last line = refl
front_to_last (suc n) zero (x ∷ xs) few last line = absurd (omega arith)
front_to_last (suc n) (suc at) (x ∷ xs) few last line =
    rw (other_byte x line.0) (ap (λ (l : List ℕ). x ∷ l) (front_to_last n at xs (omega arith) (omega arith) line.1))
