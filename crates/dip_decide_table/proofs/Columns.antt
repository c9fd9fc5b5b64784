-- Columns with an entry for each province, of which one after the other is set.
use Rattle.std.proofs.Common.{◌≡◌, ◌≢◌, ℕ, ◌+◌, ◌-◌, ◌<◌, ◌≤◌, List, ◌∷◌, length, drop, map, get_or, replicate, zero, suc, arith, refl, ap, sym, subst, ◌∙◌}
use Rattle.std.specs.Prelude.{Option, None, Some}
use Rattle.std.specs.List.{range_with_len, slice_set}
use Rattle.std.proofs.lemmas.List.{drop_more, drop_all, map-set}
use Rattle.std.proofs.lemmas.Bool.{ne_eqb, eq-eqb}
use Rattle.dip_map.specs.Charts.{Chart}
use Rattle.dip_orders_placed.specs.declared.placed.PlacedOrder.{PlacedOrder}
use Rattle.dip_decide_table.specs.Rows.{rows_of, alike_rows}
use Rattle.dip_decide_table.specs.Matching.{order_at}

module _ {X : Type 0} (f g : ℕ → X) where
  pub alike : (a k : ℕ) → ((q : ℕ) → a ≤ q → f q ≡ g q) → map f (range_with_len a k) ≡ map g (range_with_len a k)
  alike a zero h = refl
  alike a (suc k) h = rw (h a (omega arith), alike (a + 1) k (λ q l. h q (omega (arith, l)))) refl

  -- where two columns differ in one place at most, the one is the other with that place set
  pub one_set : (a k i j : ℕ) (x : X) → a + i ≡ j → g j ≡ x → ((q : ℕ) → q ≢ j → f q ≡ g q) → slice_set (map f (range_with_len a k)) i x ≡ map g (range_with_len a k)
  one_set a zero i j x w e h = refl
  one_set a (suc k) zero j x w e h =
      let o : a ≡ j = omega (arith, w) in
      let s : g a ≡ x = ap g o ∙ e in
      rw (s, alike (a + 1) k (λ q l. h q (λ d. omega (arith, l, d, o)))) refl
  one_set a (suc k) (suc i) j x w e h =
      let r : slice_set (map f (range_with_len (a + 1) k)) i x ≡ map g (range_with_len (a + 1) k) = one_set (a + 1) k i j x (omega (arith, w)) e h in
      rw (h a (λ d. omega (arith, d, w)), r) refl

pub rows_first : (orders : List PlacedOrder) (m : Chart) (rows : List (Option PlacedOrder)) → rows ≡ alike_rows None m → rows ≡ rows_of (drop (length orders) orders) m
rows_first orders m rows e = rw (e, drop_all (length orders) orders (omega arith)) refl

-- one more order before the others
row_set : (o : PlacedOrder) (orders : List PlacedOrder) (m : Chart) → slice_set (rows_of orders m) o.unit.place.prov (Some o) ≡ rows_of (o ∷ orders) m
row_set o orders m = one_set (order_at orders) (order_at (o ∷ orders)) 0 (length m.provinces) o.unit.place.prov o.unit.place.prov (Some o) (omega arith) (rw (eq-eqb o.unit.place.prov o.unit.place.prov refl) refl) other
  where
    other : (q : ℕ) → q ≢ o.unit.place.prov → order_at orders q ≡ order_at (o ∷ orders) q
    other q n = rw (ne_eqb o.unit.place.prov q (λ e. n (sym e))) refl

pub rows_step : (orders : List PlacedOrder) (m : Chart) (left : ℕ) (o : PlacedOrder) (rows : List (Option PlacedOrder)) → 0 < left → left ≤ length orders → o ≡ get_or orders (left - 1) o
    → rows ≡ rows_of (drop left orders) m → slice_set rows o.unit.place.prov (Some o) ≡ rows_of (drop (left - 1) orders) m
rows_step orders m zero o rows h l is e = absurd (omega (arith, h))
rows_step orders m (suc i) o rows h l is e =
    let n : suc i - 1 ≡ i = omega arith in
    let t : suc i ≡ i + 1 = omega arith in
    let r : o ≡ get_or orders i o = subst (λ (x : ℕ). o ≡ get_or orders x o) n is in
    let cut : drop i orders ≡ o ∷ drop (i + 1) orders = drop_more orders i o (omega (arith, l)) ∙ ap (λ (x : PlacedOrder). x ∷ drop (i + 1) orders) (sym r) in
    let before : rows ≡ rows_of (drop (i + 1) orders) m = e ∙ ap (λ (x : ℕ). rows_of (drop x orders) m) t in
    ap (λ (c : List (Option PlacedOrder)). slice_set c o.unit.place.prov (Some o)) before ∙ row_set o (drop (i + 1) orders) m
    ∙ ap (λ (os : List PlacedOrder). rows_of os m) (sym cut ∙ ap (λ (x : ℕ). drop x orders) (sym n))

-- a column of what the row of each province comes to
module _ {X : Type 0} (f : Option PlacedOrder → X) where
  alike_names : (x : X) → f None ≡ x → (a k : ℕ) → replicate k x ≡ map f (map (λ (q : ℕ). None) (range_with_len a k))
  alike_names x e a zero = refl
  alike_names x e a (suc k) = rw (e, alike_names x e (a + 1) k) refl

  pub names_first : (x : X) (orders : List PlacedOrder) (m : Chart) (names : List X) → f None ≡ x → names ≡ replicate (length m.provinces) x
      → names ≡ map f (rows_of (drop (length orders) orders) m)
  names_first x orders m names n e = rw (drop_all (length orders) orders (omega arith)) (e ∙ alike_names x n 0 (length m.provinces))

  pub names_step : (orders : List PlacedOrder) (m : Chart) (left : ℕ) (o : PlacedOrder) (names : List X) → 0 < left → left ≤ length orders → o ≡ get_or orders (left - 1) o
      → names ≡ map f (rows_of (drop left orders) m) → slice_set names o.unit.place.prov (f (Some o)) ≡ map f (rows_of (drop (left - 1) orders) m)
  names_step orders m left o names h l is e =
      let rows : List (Option PlacedOrder) = rows_of (drop left orders) m in
      ap (λ (c : List X). slice_set c o.unit.place.prov (f (Some o))) e ∙ sym (map-set f rows o.unit.place.prov (Some o))
      ∙ ap (map f) (rows_step orders m left o rows h l is refl)
