-- The table of a movement's orders shows their situation.
use Rattle.std.proofs.Common.{◌≡◌, ℕ, ◌+◌, ◌<◌, ◌≤◌, length, List, [], ◌∷◌, ◌∙◌, zero, suc, arith, refl, ap, sym, inl, inr, All, map}
use Rattle.std.specs.Prelude.{◌==◌, true, false, Option, None, Some, is_some}
use Rattle.std.specs.List.{AllByRecursion, range_with_len, slice_get}
use Rattle.std.proofs.lemmas.List.Elements.{recursion_from_All}
use Rattle.std.proofs.lemmas.Bool.{both_ways, cases_Bool, eqb-true, cases_lt, or_left, or_right}
use Rattle.std.proofs.Math.Path.{fun_ext}
use mathlib.Core.Logic.{◌⊎◌}
use Rattle.dip_map.specs.Charts.{Chart}
use Rattle.dip_orders_placed.specs.declared.placed.PlacedOrder.{PlacedOrder}
use Rattle.dip_decide_table.specs.Matching.{order_at, provinces_of, situation, situation_by}
use Rattle.dip_decide_table.specs.Situations.{is_listed}
use Rattle.dip_decide_table.specs.Placed.{entry}
use Rattle.dip_decide_table.specs.Rows.{rows_of}

-- the row of a province that is counted, and of one after them
entry_within : (orders : List PlacedOrder) (a k p : ℕ) → p < k → entry (map (order_at orders) (range_with_len a k)) p ≡ order_at orders (a + p)
entry_within orders a zero p h = absurd (omega (arith, h))
entry_within orders a (suc k) zero h = ap (order_at orders) (omega arith)
entry_within orders a (suc k) (suc p) h = entry_within orders (a + 1) k p (omega (arith, h)) ∙ ap (order_at orders) (omega arith)

entry_behind : (orders : List PlacedOrder) (a k p : ℕ) → k ≤ p → entry (map (order_at orders) (range_with_len a k)) p ≡ None
entry_behind orders a zero p h = refl
entry_behind orders a (suc k) zero h = absurd (omega (arith, h))
entry_behind orders a (suc k) (suc p) h = entry_behind orders (a + 1) k p (omega (arith, h))

-- no order stands at a number that is no province's
pub none_behind : (orders : List PlacedOrder) (n p : ℕ) → AllByRecursion (λ o. o.unit.place.prov < n) orders → n ≤ p → order_at orders p ≡ None
none_behind [] n p a h = refl
none_behind (o ∷ orders) n p a h = go (cases_Bool (o.unit.place.prov == p)) (none_behind orders n p a.1 h)
  where
    go : ((o.unit.place.prov == p) ≡ true) ⊎ ((o.unit.place.prov == p) ≡ false) → order_at orders p ≡ None → order_at (o ∷ orders) p ≡ None
    go (inl e) _ = let x = eqb-true _ _ e in let y = a.0 in absurd (omega arith)
    go (inr e) r = rw e r

pub entries : (m : Chart) (orders : List PlacedOrder) → All (λ o. o.unit.place.prov < length m.provinces) orders → entry (rows_of orders m) ≡ order_at orders
entries m orders a = fun_ext (λ p. go p (cases_lt p (length m.provinces)))
  where
    go : (p : ℕ) → (p < length m.provinces) ⊎ (length m.provinces ≤ p) → entry (rows_of orders m) p ≡ order_at orders p
    go p (inl h) = entry_within orders 0 (length m.provinces) p h ∙ ap (order_at orders) (omega arith)
    go p (inr h) = entry_behind orders 0 (length m.provinces) p h ∙ sym (none_behind orders (length m.provinces) p (recursion_from_All _ _ a) h)

order_listed : (orders : List PlacedOrder) (p : ℕ) → is_some (order_at orders p) ≡ true → is_listed (provinces_of orders) p ≡ true
order_listed [] p h = absurd (both_ways false refl h)
order_listed (o ∷ orders) p h = go (cases_Bool (o.unit.place.prov == p)) (order_listed orders p)
  where
    go : ((o.unit.place.prov == p) ≡ true) ⊎ ((o.unit.place.prov == p) ≡ false) → (is_some (order_at orders p) ≡ true → is_listed (provinces_of orders) p ≡ true) → is_listed (provinces_of (o ∷ orders)) p ≡ true
    go (inl e) f = or_left _ _ e
    go (inr e) f = or_right (o.unit.place.prov == p) _ (f (rw e at h))

-- where a row has an order, its province is listed
pub rows_listed : (m : Chart) (orders : List PlacedOrder) (places : List ℕ) (rows : List (Option PlacedOrder)) → places ≡ provinces_of orders → rows ≡ rows_of orders m
    → All (λ o. o.unit.place.prov < length m.provinces) orders → (p : ℕ) → is_some (entry rows p) ≡ true → is_listed places p ≡ true
rows_listed m orders places rows e r a p h =
    let same : entry rows p ≡ order_at orders p = ap (λ (xs : List (Option PlacedOrder)). entry xs p) r ∙ ap (λ (f : ℕ → Option PlacedOrder). f p) (entries m orders a) in
    rw e (order_listed orders p (rw same at h))

-- what a column has for a province, if it has something for each row
pub column_some : {X : Type 0} (f : Option PlacedOrder → X) (rows : List (Option PlacedOrder)) (p : ℕ) (x : X) → slice_get (map f rows) p ≡ Some x → x ≡ f (entry rows p)
column_some f [] p x h = absurd (cc)
column_some f (r ∷ rows) zero x h = let e : Some (f r) ≡ Some x = h in cc
column_some f (r ∷ rows) (suc p) x h = column_some f rows p x h

pub column_none : {X : Type 0} (f : Option PlacedOrder → X) (rows : List (Option PlacedOrder)) (p : ℕ) → slice_get (map f rows) p ≡ None → f None ≡ f (entry rows p)
column_none f [] p h = refl
column_none f (r ∷ rows) zero h = let e : Some (f r) ≡ None = h in absurd (cc)
column_none f (r ∷ rows) (suc p) h = column_none f rows p h

pub seen_law : (m : Chart) (orders : List PlacedOrder) (places : List ℕ) (rows : List (Option PlacedOrder)) → places ≡ provinces_of orders → rows ≡ rows_of orders m
    → All (λ o. o.unit.place.prov < length m.provinces) orders → situation_by m places (entry rows) ≡ situation m orders
seen_law m orders places rows p r a =
    ap (λ (ps : List ℕ). situation_by m ps (entry rows)) p ∙ ap (λ (xs : List (Option PlacedOrder)). situation_by m (provinces_of orders) (entry xs)) r ∙ ap (situation_by m (provinces_of orders)) (entries m orders a)
