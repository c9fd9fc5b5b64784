-- The path of a target.
use Rattle.std.proofs.Common.{◌≡◌, ◌<◌, ◌+◌, ℕ, zero, suc, List, [], ◌∷◌, Bool, true, false, ◌==◌, not, cond, if◌then◌else◌, nat_lt, Some, None, length, take, get_or, refl, ap, arith, lit<}
use Rattle.std.specs.List.{list_all, position, position_or_len}
use Rattle.std.specs.Str.{IsAscii}
use Rattle.std.proofs.lemmas.Bool.Decides.{nat_tests}
use Rattle.std.proofs.lemmas.List.Quantifiers.{position-Some}
use Rattle.dip_http_messages.specs.Targets.{before_query, is_target}
use Rattle.dip_letters.proofs.WordLemmas.{and_first, and_second}

cut_at : (bs : List ℕ) (n : ℕ) → n < length bs → (get_or bs n 0 == 63) ≡ true → ((k : ℕ) → k < n → (get_or bs k 0 == 63) ≡ false) → take n bs ≡ before_query bs
cut_at [] n lt here before = absurd (omega arith)
cut_at (b ∷ bs) zero lt here before = rw here refl
cut_at (b ∷ bs) (suc n) lt here before =
    let first : (b == 63) ≡ false = before 0 (omega arith) in
    rw first (ap (λ t. b ∷ t) (cut_at bs n (omega arith) here (λ k less. before (suc k) (omega arith))))

pub query_found : (bs : List ℕ) (n : ℕ) → position (λ b. b == 63) bs ≡ Some n → take n bs ≡ before_query bs
query_found bs n e = let p = position-Some (λ b. b == 63) bs n 0 e in cut_at bs n p.0 p.1 p.2

missing_len : (t : Bool) (n : ℕ) → cond t (Some n) None ≡ None → t ≡ false
missing_len true n e = absurd (cc)
missing_len false n e = refl

no_cut : (bs : List ℕ) → nat_lt (position_or_len (λ b. b == 63) bs) (length bs) ≡ false → bs ≡ before_query bs
no_cut [] e = refl
no_cut (b ∷ bs) e =
    (elim (b == 63) as (λ t. nat_lt (cond (not t) (1 + position_or_len (λ c. c == 63) bs) 0) (suc (length bs)) ≡ false → b ∷ bs ≡ (if t then [] else b ∷ before_query bs))
    [ true ↦ λ f. absurd (grind (arith, nat_tests)) | false ↦ λ f. ap (λ t. b ∷ t) (no_cut bs (grind (arith, nat_tests))) ]) e

pub query_missing : (bs : List ℕ) → position (λ b. b == 63) bs ≡ None → bs ≡ before_query bs
query_missing bs e = no_cut bs (missing_len _ _ e)

below : (b : ℕ) → nat_lt b 127 ≡ true → b < 128
below b small = grind (arith, nat_tests)

plain : (bs : List ℕ) → list_all (λ c. nat_lt c 127) bs ≡ true → (i : ℕ) → get_or (before_query bs) i 0 < 128
plain [] e i = lit< tt
plain (b ∷ bs) e zero =
    let small : nat_lt b 127 ≡ true = and_first _ _ e in
    elim (b == 63) as (λ t. get_or (if t then [] else b ∷ before_query bs) 0 0 < 128) [ true ↦ lit< tt | false ↦ below b small ]
plain (b ∷ bs) e (suc j) =
    elim (b == 63) as (λ t. get_or (if t then [] else b ∷ before_query bs) (suc j) 0 < 128) [ true ↦ lit< tt | false ↦ plain bs (and_second _ _ e) j ]

-- the path of a target is ASCII
pub path_ascii : (bs : List ℕ) → is_target bs ≡ true → IsAscii (before_query bs)
path_ascii [] e = absurd (cc)
path_ascii (b ∷ bs) e = plain (b ∷ bs) (and_second _ _ e)
