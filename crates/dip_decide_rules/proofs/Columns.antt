-- Columns with an entry for each province, of which one after the other is set.
use Rattle.std.proofs.Common.{◌≡◌, ◌≢◌, ℕ, ◌+◌, ◌<◌, ◌≤◌, List, [], ◌∷◌, length, drop, map, filter, replicate, zero, suc, arith, refl, ap, sym, ◌∙◌}
use Rattle.std.specs.Prelude.{◌==◌, ◌||◌, Bool, true, false, Option, Some}
use Rattle.std.specs.List.{list_any, range_with_len, slice_index_or, slice_set}
use Rattle.std.proofs.lemmas.List.{drop_all}
use Rattle.std.proofs.lemmas.List.FromFn.{get_or-map-range_with_len}
use Rattle.std.proofs.lemmas.Bool.{ne_eqb, eq-eqb}
use Rattle.dip_map.specs.Charts.{Chart, provs}
use Rattle.dip_decide_rules.specs.declared.decisions.Step as Written
use Rattle.dip_decide_rules.specs.declared.decisions.Step.TheVariants.{Forced, Circle, Knot}
use Rattle.dip_decide_table.proofs.Columns.{alike, one_set}
use Rattle.dip_decide_rules.specs.Marks.{with_all, with_broken, with_steps}
use Rattle.dip_decide_rules.specs.Movement.{is_listed}
use Rattle.dip_decide_rules.specs.Results.{breaks, is_true, trues}

none_yet : {X : Type 0} (x : X) (a k : ℕ) → replicate k x ≡ map (λ (q : ℕ). x) (range_with_len a k)
none_yet x a zero = refl
none_yet x a (suc k) = ap (λ (xs : List _). x ∷ xs) (none_yet x (a + 1) k)

-- a column of what holds of each province
abbrev column : (ℕ → Bool) → Chart → List (Option Bool)
column f m = map (λ q. Some (f q)) (provs m)

marked_one : (f : ℕ → Bool) (p : ℕ) (m : Chart) → slice_set (column f m) p (Some true) ≡ column (λ q. f q || (p == q)) m
marked_one f p m = one_set (λ q. Some (f q)) (λ q. Some (f q || (p == q))) 0 (length m.provinces) p p (Some true) (omega arith) (here (f p)) other
  where
    here : (b : Bool) → Some (b || (p == p)) ≡ Some true
    here true = refl
    here false = rw (eq-eqb p p refl) refl

    right : (b : Bool) → b ≡ (b || false)
    right true = refl
    right false = refl

    other : (q : ℕ) → q ≢ p → Some (f q) ≡ Some (f q || (p == q))
    other q n = rw (ne_eqb p q (λ e. n (sym e))) (ap Some (right (f q)))

or_assoc : (x y z : Bool) → ((x || y) || z) ≡ (x || (y || z))
or_assoc true y z = refl
or_assoc false y z = refl

or_none : (x : Bool) → x ≡ (x || false)
or_none true = refl
or_none false = refl

alike_columns : (f g : ℕ → Bool) (m : Chart) → ((q : ℕ) → f q ≡ g q) → column f m ≡ column g m
alike_columns f g m h = alike (λ q. Some (f q)) (λ q. Some (g q)) 0 (length m.provinces) (λ q l. ap Some (h q))

marked_all : (ps : List ℕ) (f : ℕ → Bool) (m : Chart) → with_all ps (column f m) ≡ column (λ q. f q || is_listed ps q) m
marked_all [] f m = alike_columns f (λ q. f q || false) m (λ q. or_none (f q))
marked_all (p ∷ ps) f m =
    ap (with_all ps) (marked_one f p m) ∙ marked_all ps (λ q. f q || (p == q)) m
    ∙ alike_columns (λ q. (f q || (p == q)) || is_listed ps q) (λ q. f q || is_listed (p ∷ ps) q) m (λ q. or_assoc (f q) (p == q) (is_listed ps q))

marked_step : (s : Written.Step) (f : ℕ → Bool) (m : Chart) → with_broken s (column f m) ≡ column (λ q. f q || breaks s q) m
marked_step (Forced d) f m = alike_columns f (λ q. f q || false) m (λ q. or_none (f q))
marked_step (Circle ps) f m = alike_columns f (λ q. f q || false) m (λ q. or_none (f q))
marked_step (Knot ps) f m = marked_all ps.items f m

marked_steps : (steps : List Written.Step) (f : ℕ → Bool) (m : Chart) → with_steps steps (column f m) ≡ column (λ q. f q || list_any (λ s. breaks s q) steps) m
marked_steps [] f m = alike_columns f (λ q. f q || false) m (λ q. or_none (f q))
marked_steps (s ∷ steps) f m =
    ap (with_steps steps) (marked_step s f m) ∙ marked_steps steps (λ q. f q || breaks s q) m
    ∙ alike_columns (λ q. (f q || breaks s q) || list_any (λ t. breaks t q) steps) (λ q. f q || list_any (λ t. breaks t q) (s ∷ steps)) m (λ q. or_assoc (f q) (breaks s q) (list_any (λ t. breaks t q) steps))

-- the provinces that a column has marked
shown_from : (f : ℕ → Bool) (col : List (Option Bool)) (a k : ℕ) → ((q : ℕ) → a ≤ q → q < a + k → slice_index_or col q (Some false) ≡ Some (f q))
    → filter (λ p. is_true (slice_index_or col p (Some false))) (range_with_len a k) ≡ filter f (range_with_len a k)
shown_from f col a zero h = refl
shown_from f col a (suc k) h =
    rw (h a (omega arith) (omega arith), shown_from f col (a + 1) k (λ q l m. h q (omega (arith, l)) (omega (arith, m)))) refl

shown : (f : ℕ → Bool) (m : Chart) → trues (column f m) m ≡ filter f (provs m)
shown f m = shown_from f (column f m) 0 (length m.provinces) (λ q l b. get_or-map-range_with_len (λ p. Some (f p)) 0 (length m.provinces) q q (Some false) (omega (arith, b)) (omega arith))

pub broken_marked : (steps : List Written.Step) (m : Chart) (col : List (Option Bool)) → col ≡ with_steps steps (replicate (length m.provinces) (Some false))
    → trues col m ≡ filter (λ p. list_any (λ s. breaks s p) steps) (provs m)
broken_marked steps m col e =
    ap (λ (c : List (Option Bool)). trues c m) (e ∙ ap (with_steps steps) (none_yet (Some false) 0 (length m.provinces)) ∙ marked_steps steps (λ q. false) m)
    ∙ shown (λ p. list_any (λ s. breaks s p) steps) m

pub all_marked : (steps : List Written.Step) (m : Chart) (i : ℕ) (col seen : List (Option Bool)) → length steps ≤ i → seen ≡ col
    → with_steps (drop i steps) col ≡ with_steps steps (replicate (length m.provinces) (Some false)) → trues seen m ≡ filter (λ p. list_any (λ s. breaks s p) steps) (provs m)
all_marked steps m i col seen l s e =
    ap (λ (c : List (Option Bool)). trues c m) s ∙ broken_marked steps m col (ap (λ (left : List Written.Step). with_steps left col) (sym (drop_all i steps l)) ∙ e)
