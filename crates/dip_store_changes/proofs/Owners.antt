-- No key comes twice among the first rows of owned centres.
use Rattle.std.proofs.Common.{◌≡◌, ℕ, zero, suc, ◌+◌, ◌<◌, Bool, List, [], ◌∷◌, ◌++◌, take, get_or, Option, Some, None, length, refl, ap}
use Rattle.dip_map.specs.Charts.{Chart}
use Rattle.dip_store_tables.specs.Boards.{CentreRow, centre_rows_from, code, power_name}
use Rattle.dip_store_sql.proofs.Leading.{next_apart}
use Rattle.dip_store_sql.specs.Keys.{Differ}
use Rattle.dip_store_changes.proofs.Centres.{owner_more}

owners_left : (m : Chart) (name : List ℕ) (p n : ℕ) (os : List (Option ℕ)) → (rest : List CentreRow) × (centre_rows_from m name p os ≡ centre_rows_from m name p (take n os) ++ rest)
owners_left m name p zero os = (centre_rows_from m name p os, refl)
owners_left m name p (suc n) [] = ([], refl)
owners_left m name p (suc n) (None ∷ os) = owners_left m name (suc p) n os
owners_left m name p (suc n) (Some r ∷ os) =
    let more = owners_left m name (suc p) n os in
    let row : CentreRow = record { game = name; province = code m p; power = power_name m r } in
    (more.0, ap (λ rows. row ∷ rows) more.1)

pub owners_apart : (same : CentreRow → CentreRow → Bool) (m : Chart) (name : List ℕ) (os : List (Option ℕ)) (i : ℕ) (d : Option ℕ) → i < length os → (old : List CentreRow)
    → Differ same (old ++ centre_rows_from m name 0 os) → Differ same ((old ++ centre_rows_from m name 0 (take i os)) ++ centre_rows_from m name i (get_or os i d ∷ []))
owners_apart same m name os i d low old apart =
    let left = owners_left m name 0 (i + 1) os in
    next_apart same old (centre_rows_from m name 0 (take i os)) (centre_rows_from m name i (get_or os i d ∷ [])) (centre_rows_from m name 0 (take (i + 1) os)) left.0 (centre_rows_from m name 0 os)
    left.1 (owner_more m name os i d low) apart
