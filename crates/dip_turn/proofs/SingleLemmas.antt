-- Lists of units of which no two stand in one province.
use Rattle.std.proofs.Common.{◌≡◌, ◌≢◌, inl, inr, ℕ, ◌==◌, Bool, true, false, not, suc, List, [], ◌∷◌, ◌++◌, map, filter, Option, None, Some, Contains, refl, sym, ap, ◌∙◌, subst, arith}
use Rattle.std.proofs.lemmas.Bool.{and_from, and_parts, cases_Bool, eqb-true, eq-eqb, false≢true, not-true}
use Rattle.std.proofs.lemmas.List.Elements.{Contains-append_cases}
use Rattle.std.specs.List.{cons_option, filter_map, list_any}
use Rattle.dip_map.specs.Charts.{are_units_single}
use Rattle.dip_names.specs.declared.names.Unit.{Unit as AUnit}
use Rattle.dip_orders.specs.Given.{orders_of_power}
use Rattle.dip_orders_placed.specs.Standing.{units_of}
use Rattle.dip_orders_placed.specs.declared.placed.PlacedOrder.{PlacedOrder}
use Rattle.dip_orders_placed.proofs.StandingLaws.{element_cases, made_among}
use Rattle.dip_decide.specs.Matching.{order_at}
use Rattle.dip_turn_phases.proofs.KeptLemmas.{kept_in}

-- a test that no element passes
pub nobody : {A : Type 0} (q : A → Bool) (xs : List A) → ((x : A) → Contains xs x → q x ≡ true → ⊥) → list_any q xs ≡ false
nobody q [] none = refl
nobody q (x ∷ xs) none =
    elim (cases_Bool (q x)) [
      | inl here ↦ absurd (none x (0, (omega arith), refl) here)
      | inr other ↦ rw other (nobody q xs (λ y among met. none y (suc among.0, (omega (arith, among.1)), among.2) met))
    ]

-- a test that an element passes
pub somebody : {A : Type 0} (q : A → Bool) (xs : List A) (x : A) → Contains xs x → q x ≡ true → list_any q xs ≡ true
somebody q [] x c met = absurd (omega (arith, c.1))
somebody q (y ∷ ys) x c met =
    elim (cases_Bool (q y)) [
      | inl here ↦ rw here refl
      | inr other ↦
          elim (element_cases y ys x c.0 c.1 c.2) [
            | inl is ↦ absurd (false≢true (sym other ∙ (ap q is ∙ met)))
            | inr rest ↦ rw other (somebody q ys x rest met)
          ]
    ]

pub behind : {A : Type 0} (x : A) (xs : List A) (y : A) → Contains xs y → Contains (x ∷ xs) y
behind x xs y c = (suc c.0, (omega (arith, c.1)), c.2)

pub first : {A : Type 0} (x : A) (xs : List A) → Contains (x ∷ xs) x
first x xs = (0, (omega arith), refl)

-- what is kept is an element that passes
pub kept_from : {A : Type 0} (p : A → Bool) (xs : List A) (y : A) → Contains (filter p xs) y → Contains xs y × (p y ≡ true)
kept_from p [] y c = absurd (omega (arith, c.1))
kept_from {A = A} p (x ∷ xs) y c =
    elim (cases_Bool (p x)) [
      | inl here ↦
          let among : Contains (x ∷ filter p xs) y = rw here at c in
          elim (element_cases x (filter p xs) y among.0 among.1 among.2) [
            | inl is ↦ ((0, (omega arith), is), sym (ap p is) ∙ here)
            | inr rest ↦ let (there, passes) = kept_from p xs y rest in (behind x xs y there, passes)
          ]
      | inr other ↦ let (there, passes) = kept_from p xs y (rw other at c) in (behind x xs y there, passes)
    ]

-- what is made of all is made of an element
pub made_from : {A B : Type 0} (f : A → B) (xs : List A) (y : B) → Contains (map f xs) y → (x : A) × Contains xs x × (f x ≡ y)
made_from f [] y c = absurd (omega (arith, c.1))
made_from f (x ∷ xs) y c =
    elim (element_cases (f x) (map f xs) y c.0 c.1 c.2) [
      | inl is ↦ (x, first x xs, is)
      | inr rest ↦ let (z, there, is) = made_from f xs y rest in (z, behind x xs z there, is)
    ]

-- what is given by some is given by an element
pub given_from : {A B : Type 0} (h : A → Option B) (xs : List A) (y : B) → Contains (filter_map h xs) y → (x : A) × Contains xs x × (h x ≡ Some y)
given_from h [] y c = absurd (omega (arith, c.1))
given_from {A} {B} h (x ∷ xs) y c = go (h x) refl c (λ among. given_from h xs y among)
  where
    go : (o : Option B) → h x ≡ o → Contains (cons_option o (filter_map h xs)) y → (Contains (filter_map h xs) y → (z : A) × Contains xs z × (h z ≡ Some y)) → (z : A) × Contains (x ∷ xs) z × (h z ≡ Some y)
    go None is among more = let (z, there, at) = more among in (z, behind x xs z there, at)
    go (Some w) is among more =
        elim (element_cases w (filter_map h xs) y among.0 among.1 among.2) [
          | inl same ↦ (x, first x xs, is ∙ ap Some same)
          | inr rest ↦ let (z, there, at) = more rest in (z, behind x xs z there, at)
        ]

-- of a list of which no two are in one province nobody after the first is in its province
pub alone : (u : AUnit) (us : List AUnit) → are_units_single (u ∷ us) ≡ true → (v : AUnit) → Contains us v → v.place.prov ≢ u.place.prov
alone u us single v among same =
    let none = not-true (list_any (λ w. w.place.prov == u.place.prov) us) (and_parts (not (list_any (λ w. w.place.prov == u.place.prov) us)) (are_units_single us) single).0 in
    false≢true (sym none ∙ somebody (λ w. w.place.prov == u.place.prov) us v among (eq-eqb _ _ same))

pub others_single : (u : AUnit) (us : List AUnit) → are_units_single (u ∷ us) ≡ true → are_units_single us ≡ true
others_single u us single = (and_parts (not (list_any (λ w. w.place.prov == u.place.prov) us)) (are_units_single us) single).1

pub single_cons : (u : AUnit) (us : List AUnit) → ((v : AUnit) → Contains us v → v.place.prov ≢ u.place.prov) → are_units_single us ≡ true → are_units_single (u ∷ us) ≡ true
single_cons u us apart single =
    let none = nobody (λ w. w.place.prov == u.place.prov) us (λ v among met. apart v among (eqb-true _ _ met)) in
    and_from (not (list_any (λ w. w.place.prov == u.place.prov) us)) (are_units_single us) (ap not none) single

-- those that are kept
pub single_kept : {A : Type 0} (key : A → AUnit) (p : A → Bool) (xs : List A) → are_units_single (map key xs) ≡ true → are_units_single (map key (filter p xs)) ≡ true
single_kept key p [] h = refl
single_kept key p (x ∷ xs) h =
    let more = single_kept key p xs (others_single (key x) (map key xs) h) in
    elim (cases_Bool (p x)) [
      | inl here ↦
          rw here (single_cons (key x) (map key (filter p xs)) (λ v among same.
          let (y, kept, is) = made_from key (filter p xs) v among in
          alone (key x) (map key xs) h (key y) (made_among key xs y (kept_from p xs y kept).0) (ap (λ (w : AUnit). w.place.prov) is ∙ same)) more)
      | inr other ↦ rw other more
    ]

made_itself : (us : List AUnit) → map (λ (u : AUnit). u) us ≡ us
made_itself [] = refl
made_itself (u ∷ us) = ap (λ vs. u ∷ vs) (made_itself us)

pub single_filtered : (p : AUnit → Bool) (us : List AUnit) → are_units_single us ≡ true → are_units_single (filter p us) ≡ true
single_filtered p us h =
    subst (λ (vs : List AUnit). are_units_single vs ≡ true) (made_itself (filter p us))
    (single_kept (λ (u : AUnit). u) p us (subst (λ (vs : List AUnit). are_units_single vs ≡ true) (sym (made_itself us)) h))

-- two lists, where no unit of one is in a province of the other
pub single_append : (us vs : List AUnit) → are_units_single us ≡ true → are_units_single vs ≡ true → ((u v : AUnit) → Contains us u → Contains vs v → v.place.prov ≢ u.place.prov)
    → are_units_single (us ++ vs) ≡ true
single_append [] vs one two apart = two
single_append (u ∷ us) vs one two apart =
    single_cons u (us ++ vs)
    (λ v among same.
    elim (Contains-append_cases us vs v among) [
      | inl here ↦ alone u us one v here same
      | inr there ↦ apart u v (first u us) there same
    ])
    (single_append us vs (others_single u us one) two (λ w v in_one in_two. apart w v (behind u us w in_one) in_two))

-- what a function gives, where two that it leads to one province were in one
pub single_given : {A : Type 0} (key : A → AUnit) (h : A → Option AUnit) (xs : List A) → are_units_single (map key xs) ≡ true
    → ((x y : A) (u v : AUnit) → Contains xs x → Contains xs y → h x ≡ Some u → h y ≡ Some v → u.place.prov ≡ v.place.prov → (key x).place.prov ≡ (key y).place.prov)
    → are_units_single (filter_map h xs) ≡ true
single_given key h [] single apart = refl
single_given {A} key h (x ∷ xs) single apart =
    go (h x) refl (single_given key h xs (others_single (key x) (map key xs) single) (λ y z u v in_y in_z. apart y z u v (behind x xs y in_y) (behind x xs z in_z)))
  where
    go : (o : Option AUnit) → h x ≡ o → are_units_single (filter_map h xs) ≡ true → are_units_single (cons_option o (filter_map h xs)) ≡ true
    go None is more = more
    go (Some u) is more =
        single_cons u (filter_map h xs)
        (λ v among same.
        let (y, there, at) = given_from h xs v among in
        alone (key x) (map key xs) single (key y) (made_among key xs y there) (apart y x v u (behind x xs y there) (first x xs) at is same)) more

-- what is made of all is given by all
pub made_given : {A B : Type 0} (f : A → B) (xs : List A) → filter_map (λ x. Some (f x)) xs ≡ map f xs
made_given f [] = refl
made_given f (x ∷ xs) = ap (λ ys. f x ∷ ys) (made_given f xs)

-- where no two units of orders are in one province, the order in a unit's province is its own
pub found_itself : (orders : List PlacedOrder) (o : PlacedOrder) → are_units_single (units_of orders) ≡ true → Contains orders o → order_at orders o.unit.place.prov ≡ Some o
found_itself [] o single c = absurd (omega (arith, c.1))
found_itself (w ∷ ws) o single c =
    elim (element_cases w ws o c.0 c.1 c.2) [
      | inl is ↦ let here : (w.unit.place.prov == o.unit.place.prov) ≡ true = eq-eqb _ _ (ap (λ (x : PlacedOrder). x.unit.place.prov) is) in rw here (ap Some is)
      | inr rest ↦
          let apart : (w.unit.place.prov == o.unit.place.prov) ≡ false = unlike (λ same. alone w.unit (units_of ws) single o.unit (made_among (λ x. x.unit) ws o rest) (sym same)) in
          rw apart (found_itself ws o (others_single w.unit (units_of ws) single) rest)
    ]
  where
    unlike : {p q : ℕ} → (p ≡ q → ⊥) → (p == q) ≡ false
    unlike {p} {q} differ =
        elim (cases_Bool (p == q)) [
          | inl same ↦ absurd (differ (eqb-true p q same))
          | inr other ↦ other
        ]

-- where no power has two orders in one province, and orders that pass in one province are of one power, none of those that pass are in one
pub single_by_power : (t : PlacedOrder → Bool) (xs : List PlacedOrder) → ((power : ℕ) → are_units_single (units_of (orders_of_power power xs)) ≡ true)
    → ((x y : PlacedOrder) → Contains xs x → Contains xs y → t x ≡ true → t y ≡ true → x.unit.place.prov ≡ y.unit.place.prov → x.unit.power ≡ y.unit.power)
    → are_units_single (units_of (filter t xs)) ≡ true
single_by_power t [] single one = refl
single_by_power t (x ∷ xs) single one =
    let more : are_units_single (units_of (filter t xs)) ≡ true =
    single_by_power t xs (λ power. others (λ o. o.unit.power == power) (single power)) (λ y z in_y in_z. one y z (behind x xs y in_y) (behind x xs z in_z)) in
    elim (cases_Bool (t x)) [
      | inl here ↦
          rw here (single_cons x.unit (units_of (filter t xs)) (λ v among same.
          let (y, kept, is) = made_from (λ (o : PlacedOrder). o.unit) (filter t xs) v among in
          let (inside, passes) = kept_from t xs y kept in
          let at : y.unit.place.prov ≡ x.unit.place.prov = ap (λ (w : AUnit). w.place.prov) is ∙ same in
          let mine : (y.unit.power == x.unit.power) ≡ true = eq-eqb _ _ (one y x (behind x xs y inside) (first x xs) passes here at) in
          alone x.unit (units_of (orders_of_power x.unit.power xs)) (with_first (single x.unit.power)) y.unit
          (made_among (λ (o : PlacedOrder). o.unit) (orders_of_power x.unit.power xs) y (kept_in (λ o. o.unit.power == x.unit.power) xs y inside mine)) at) more)
      | inr other ↦ rw other more
    ]
  where
    others : (q : PlacedOrder → Bool) → are_units_single (units_of (filter q (x ∷ xs))) ≡ true → are_units_single (units_of (filter q xs)) ≡ true
    others q h =
        elim (cases_Bool (q x)) [
          | inl here ↦ others_single x.unit (units_of (filter q xs)) (rw here at h)
          | inr other ↦ rw other at h
        ]

    with_first : are_units_single (units_of (orders_of_power x.unit.power (x ∷ xs))) ≡ true → are_units_single (x.unit ∷ units_of (orders_of_power x.unit.power xs)) ≡ true
    with_first h = let mine : (x.unit.power == x.unit.power) ≡ true = eq-eqb _ _ refl in rw mine at h
