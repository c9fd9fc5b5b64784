-- Press handed to one reader after the other.
use Rattle.std.proofs.Common.{◌≡◌, ℕ, zero, suc, ◌+◌, ◌<◌, List, [], ◌∷◌, length, get_or, take, refl, ap, subst, ◌∙◌, arith, sym}
use Rattle.dip_map.specs.Charts.{Chart}
use Rattle.dip_store_tables.specs.Boards.{power_name}
use Rattle.dip_store_tables.specs.Changing.{delivering_one}
use Rattle.dip_store_tables.specs.Tables.{BoxRow, Tables}
use Rattle.dip_store_tables.specs.Writing.{box_row}
use Rattle.dip_store_changes.specs.Delivering.{ReadersAreSeats, delivering_rows, delivering_to, putting}
use Rattle.dip_store_counts.specs.declared.readers.Reader.{Reader}
use Rattle.dip_store_sql.specs.Keys.{Differ, same_item}
use Rattle.dip_store_sql.proofs.Keyed.{front_apart}

module _ (m : Chart) (game : List ℕ) (row : List ℕ → ℕ → BoxRow) where
  reader_next : (rs : List Reader) (i : ℕ) (d : Reader) → i < length rs → (t : Tables)
      → delivering_to m game row (get_or rs i d) (delivering_rows m game row (take i rs) t) ≡ delivering_rows m game row (take (suc i) rs) t
  reader_next [] i d low t = absurd (omega (arith, low))
  reader_next (r ∷ rs) zero d low t = refl
  reader_next (r ∷ rs) (suc i) d low t = reader_next rs i d (omega (arith, low)) (delivering_to m game row r t)

  pub reader_more : (rs : List Reader) (i : ℕ) (d : Reader) → i < length rs → (t : Tables)
      → delivering_to m game row (get_or rs i d) (delivering_rows m game row (take i rs) t) ≡ delivering_rows m game row (take (i + 1) rs) t
  reader_more rs i d low t =
      let e : suc i ≡ i + 1 = omega arith in
      subst (λ n. delivering_to m game row (get_or rs i d) (delivering_rows m game row (take i rs) t) ≡ delivering_rows m game row (take n rs) t) e (reader_next rs i d low t)

pub same_rows : (m : Chart) (game : List ℕ) (f h : List ℕ → ℕ → BoxRow) → ((power : List ℕ) (n : ℕ) → f power n ≡ h power n) → (rs : List Reader) (t : Tables)
    → delivering_rows m game f rs t ≡ delivering_rows m game h rs t
same_rows m game f h same [] t = refl
same_rows m game f h same (r ∷ rs) t =
    ap (λ b. delivering_rows m game f rs (putting game (power_name m r.power) b (r.items + 1) t)) (same (power_name m r.power) (r.items + 1))
    ∙ same_rows m game f h same rs (delivering_to m game h r t)

pub each_seat : (m : Chart) → ReadersAreSeats m
each_seat m game item [] [] t are = refl
each_seat m game item [] (r ∷ rs) t are = absurd are
each_seat m game item (s ∷ ss) [] t are = absurd are
each_seat m game item (s ∷ ss) (r ∷ rs) t are =
    let row : List ℕ → ℕ → BoxRow = λ power n. box_row game power n item in
    let one : delivering_to m game row r t ≡ delivering_one item s t = rw (are.0, are.1, are.2) refl in
    ap (λ u. delivering_rows m game row rs u) one ∙ each_seat m game item ss rs (delivering_one item s t) are.3

-- the items of an inbox, one reader after the other
module _ (m : Chart) (game : List ℕ) (row : List ℕ → ℕ → BoxRow) where
  boxes_apart : (rs : List Reader) (t : Tables) → Differ same_item (delivering_rows m game row rs t).boxes → Differ same_item t.boxes
  boxes_apart [] t apart = apart
  boxes_apart (r ∷ rs) t apart = front_apart same_item t.boxes (row (power_name m r.power) (r.items + 1) ∷ []) (boxes_apart rs (delivering_to m game row r t) apart)

  taken_apart : (n : ℕ) (rs : List Reader) (t : Tables) → Differ same_item (delivering_rows m game row rs t).boxes → Differ same_item (delivering_rows m game row (take n rs) t).boxes
  taken_apart zero rs t apart = boxes_apart rs t apart
  taken_apart (suc n) [] t apart = apart
  taken_apart (suc n) (r ∷ rs) t apart = taken_apart n rs (delivering_to m game row r t) apart

  pub reader_apart : (rs : List Reader) (i : ℕ) (d : Reader) → i < length rs → (t : Tables) → Differ same_item (delivering_rows m game row rs t).boxes
      → Differ same_item (delivering_to m game row (get_or rs i d) (delivering_rows m game row (take i rs) t)).boxes
  reader_apart rs i d low t apart = subst (λ (u : Tables). Differ same_item u.boxes) (sym (reader_more m game row rs i d low t)) (taken_apart (i + 1) rs t apart)
