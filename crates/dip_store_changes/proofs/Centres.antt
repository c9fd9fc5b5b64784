-- The rows of owned centres, province by province.
use Rattle.std.proofs.Common.{◌≡◌, ℕ, zero, suc, ◌+◌, ◌<◌, List, [], ◌∷◌, ◌++◌, length, get_or, take, Option, Some, None, refl, ap, subst, arith}
use Rattle.dip_map.specs.Charts.{Chart}
use Rattle.dip_store_tables.specs.Boards.{CentreRow, centre_rows_from, code, power_name}

abbrev row_of : Chart → List ℕ → ℕ → ℕ → CentreRow
row_of m name p r = record { game = name; province = code m p; power = power_name m r }

owner_next : (m : Chart) (name : List ℕ) (p q : ℕ) (os : List (Option ℕ)) (i : ℕ) (d : Option ℕ) → q ≡ p + i → i < length os
    → centre_rows_from m name p (take (suc i) os) ≡ centre_rows_from m name p (take i os) ++ centre_rows_from m name q (get_or os i d ∷ [])
owner_next m name p q [] i d at low = absurd (omega (arith, low))
owner_next m name p q (None ∷ os) zero d at low = refl
owner_next m name p q (Some r ∷ os) zero d at low =
    let e : p ≡ q = omega (arith, at) in
    subst (λ n. centre_rows_from m name p (Some r ∷ []) ≡ centre_rows_from m name n (Some r ∷ [])) e refl
owner_next m name p q (None ∷ os) (suc i) d at low = owner_next m name (suc p) q os i d (omega (arith, at)) (omega (arith, low))
owner_next m name p q (Some r ∷ os) (suc i) d at low = ap (λ rows. row_of m name p r ∷ rows) (owner_next m name (suc p) q os i d (omega (arith, at)) (omega (arith, low)))

-- one more owner after those before it
pub owner_more : (m : Chart) (name : List ℕ) (os : List (Option ℕ)) (i : ℕ) (d : Option ℕ) → i < length os
    → centre_rows_from m name 0 (take (i + 1) os) ≡ centre_rows_from m name 0 (take i os) ++ centre_rows_from m name i (get_or os i d ∷ [])
owner_more m name os i d low =
    let e : suc i ≡ i + 1 = omega arith in
    subst (λ n. centre_rows_from m name 0 (take n os) ≡ centre_rows_from m name 0 (take i os) ++ centre_rows_from m name i (get_or os i d ∷ [])) e
    (owner_next m name 0 i os i d (omega arith) low)
