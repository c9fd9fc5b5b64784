-- What a paper of a movement prints is read back.
use Rattle.std.proofs.Common.{◌≡◌, ℕ, ◌==◌, ◌&&◌, Bool, true, false, cond, not, suc, List, [], ◌∷◌, Option, Some, None, find, map, refl, sym, ap, subst, ◌∙◌, arith, inl, inr, ◌⊎◌}
use Rattle.std.specs.Prelude.{◌||◌, Contains, Ok, option_map}
use Rattle.std.specs.List.{list_any}
use Rattle.std.specs.Option.{unwrap_or}
use Rattle.std.proofs.lemmas.Bool.{and_parts, and_from, eqb-true, not-true, false≢true}
use Rattle.std.proofs.lemmas.Bool.Decides.{eqb_tells}
use Rattle.dip_names.specs.declared.names.Unit.{Unit as AUnit}
use Rattle.dip_map.specs.Charts.{are_units_single}
use Rattle.dip_map.specs.declared.boards.Dislodged.{Dislodged}
use Rattle.dip_orders.specs.Given.{orders_of_power}
use Rattle.dip_orders.specs.Laws.{LawfulOrdersAreRead, OrdersStandAlone, TextsAreReadAgain}
use Rattle.dip_orders.specs.Reading.{order_of}
use Rattle.dip_orders_placed.specs.Standing.{found_order, is_in_force, is_same_unit, order_among}
use Rattle.dip_orders.specs.Texts.{order_text}
use Rattle.dip_orders_placed.specs.declared.placed.Order.TheVariants.{Disband, Hold}
use Rattle.dip_orders_placed.specs.declared.placed.PlacedOrder.{PlacedOrder}
use Rattle.dip_orders_placed.proofs.FindLaws.{find_passes}
use Rattle.dip_orders_placed.proofs.StandingLaws.{element_cases, made_among, same_unit}
use Rattle.dip_turn.specs.Retreating.{found_retreat, is_for_dislodged}
use Rattle.dip_check_papers.specs.Laws.{GivenAreReadBack, RetreatsAreReadBack, StandingIsReadBack, StandingIsSettled}

eq_self : (n : ℕ) → (n == n) ≡ true
eq_self n = elim (eqb_tells n n) [ inl same ↦ same.0 | inr other ↦ absurd (other.1 refl) ]

found_among : {A : Type 0} (p : A → Bool) (xs : List A) (x : A) → find p xs ≡ Some x → Contains xs x
found_among p [] x h = cc
found_among {A} p (z ∷ zs) x h = go (p z) h (found_among p zs x)
  where
    go : (b : Bool) → cond b (Some z) (find p zs) ≡ Some x → (find p zs ≡ Some x → Contains zs x) → Contains (z ∷ zs) x
    go true is rest = let same : z ≡ x = cc in (0, omega arith, same)
    go false is rest = let among = rest is in (suc among.0, omega (arith, among.1), among.2)

any_among : {A : Type 0} (p : A → Bool) (xs : List A) (x : A) → Contains xs x → p x ≡ true → list_any p xs ≡ true
any_among p [] x c met = absurd (omega (arith, c.1))
any_among {A} p (z ∷ zs) x c met =
    elim (element_cases z zs x c.0 c.1 c.2) [
      | inl is ↦ subst (λ y. (p y || list_any p zs) ≡ true) (sym is) (ap (λ b. b || list_any p zs) met)
      | inr rest ↦ go (p z) (any_among p zs x rest met)
    ]
  where
    go : (b : Bool) → list_any p zs ≡ true → (b || list_any p zs) ≡ true
    go true h = refl
    go false h = h

-- the test by which a power's unit is found in a province
is_it : AUnit → AUnit → Bool
is_it u v = (v.power == u.power) && (v.place.prov == u.place.prov)

found_unit : (us : List AUnit) (u : AUnit) → are_units_single us ≡ true → Contains us u → find (λ v. (v.power == u.power) && (v.place.prov == u.place.prov)) us ≡ Some u
found_unit [] u single c = absurd (omega (arith, c.1))
found_unit (z ∷ zs) u single c = by (element_cases z zs u c.0 c.1 c.2) (found_unit zs u)
  where
    parts : (list_any (λ v. v.place.prov == z.place.prov) zs ≡ false) × (are_units_single zs ≡ true)
    parts =
        let both = and_parts (not (list_any (λ v. v.place.prov == z.place.prov) zs)) (are_units_single zs) single in
        (not-true (list_any (λ v. v.place.prov == z.place.prov) zs) both.0, both.1)

    by : (z ≡ u) ⊎ Contains zs u → (are_units_single zs ≡ true → Contains zs u → find (λ v. (v.power == u.power) && (v.place.prov == u.place.prov)) zs ≡ Some u) → find (λ v. (v.power == u.power) && (v.place.prov == u.place.prov)) (z ∷ zs) ≡ Some u
    by (inl is) more = go ((z.power == u.power) && (z.place.prov == u.place.prov)) (subst (λ y. ((y.power == u.power) && (y.place.prov == u.place.prov)) ≡ true) (sym is) (and_from _ _ (eq_self u.power) (eq_self u.place.prov)))
      where
        go : (b : Bool) → b ≡ true → cond b (Some z) (find (λ v. (v.power == u.power) && (v.place.prov == u.place.prov)) zs) ≡ Some u
        go true met = ap Some is
        go false met = absurd (false≢true met)
    by (inr rest) more = go ((z.power == u.power) && (z.place.prov == u.place.prov)) refl
      where
        go : (b : Bool) → ((z.power == u.power) && (z.place.prov == u.place.prov)) ≡ b → cond b (Some z) (find (λ v. (v.power == u.power) && (v.place.prov == u.place.prov)) zs) ≡ Some u
        go true here =
            let same : z.place.prov ≡ u.place.prov = eqb-true _ _ (and_parts (z.power == u.power) (z.place.prov == u.place.prov) here).1 in
            let met : (u.place.prov == z.place.prov) ≡ true = subst (λ n. (u.place.prov == n) ≡ true) (sym same) (eq_self u.place.prov) in
            absurd (false≢true (sym parts.0 ∙ any_among (λ v. v.place.prov == z.place.prov) zs u rest met))
        go false other = more parts.1 rest

pub standing_is_read_back : TextsAreReadAgain → OrdersStandAlone → LawfulOrdersAreRead → StandingIsReadBack
standing_is_read_back again alone read m b orders u laws of moves given there = by (found_order orders u) refl
  where
    as_ordered : Option PlacedOrder → PlacedOrder
    as_ordered found = record { unit = u; order = unwrap_or (option_map (λ o. o.order) found) Hold }

    by : (found : Option PlacedOrder) → found_order orders u ≡ found → order_of m b u.power [] (order_text m (as_ordered found)) ≡ Ok (as_ordered found)
    by None is = read m b u.power [] (record { unit = u; order = Hold }) laws of (moves, record { there = found_unit b.units u of.apart there })
    by (Some o) is =
        let passed = and_parts (is_same_unit o.unit u) (is_in_force o) (find_passes _ orders o is) in
        let unit : o.unit ≡ u = same_unit o.unit u passed.0 in
        let among : Contains orders o = found_among (λ x. is_same_unit x.unit u && is_in_force x) orders o is in
        let line = given.each o among in
        let first : order_of m b o.unit.power (orders_of_power o.unit.power orders) (order_text m o) ≡ Ok o = again m b o.unit.power _ line.0 o laws of line.1 in
        let bare : order_of m b o.unit.power [] (order_text m o) ≡ Ok o = alone m b o.unit.power _ (order_text m o) o first in
        subst (λ (v : AUnit). order_of m b v.power [] (order_text m (record { unit = v; order = o.order })) ≡ Ok (record { unit = v; order = o.order })) unit bare

-- ---- and orders that hold what stood come to the same

pub standing_is_settled : StandingIsSettled
standing_is_settled b ps qs same = all b.units (λ u there. there)
  where
    all : (us : List AUnit) → ((u : AUnit) → Contains us u → Contains b.units u) → map (order_among qs) us ≡ map (order_among ps) us
    all [] within = refl
    all (u ∷ us) within =
        let one : order_among qs u ≡ order_among ps u = ap (λ (found : Option PlacedOrder). record { unit = u; order = unwrap_or (option_map (λ o. o.order) found) Hold }) (same u (within u (0, omega arith, refl))) in
        let rest = all us (λ v there. within v (suc there.0, omega (arith, there.1), there.2)) in
        ap (λ (o : PlacedOrder). o ∷ map (order_among qs) us) one ∙ ap (λ (os : List PlacedOrder). order_among ps u ∷ os) rest

-- ---- each order that was given, and those of dislodged units

pub given_are_read_back : TextsAreReadAgain → OrdersStandAlone → GivenAreReadBack
given_are_read_back again alone m b orders o laws of given among =
    let line = given.each o among in
    alone m b o.unit.power (orders_of_power o.unit.power orders) (order_text m o) o (again m b o.unit.power (orders_of_power o.unit.power orders) line.0 o laws of line.1)

found_dislodged : (ds : List Dislodged) (d : Dislodged) → are_units_single (map (λ e. e.unit) ds) ≡ true → Contains ds d
    → find (λ e. (e.unit.power == d.unit.power) && (e.unit.place.prov == d.unit.place.prov)) ds ≡ Some d
found_dislodged [] d single c = absurd (omega (arith, c.1))
found_dislodged (z ∷ zs) d single c = by (element_cases z zs d c.0 c.1 c.2) (found_dislodged zs d)
  where
    parts : (list_any (λ v. v.place.prov == z.unit.place.prov) (map (λ e. e.unit) zs) ≡ false) × (are_units_single (map (λ e. e.unit) zs) ≡ true)
    parts =
        let both = and_parts (not (list_any (λ v. v.place.prov == z.unit.place.prov) (map (λ e. e.unit) zs))) (are_units_single (map (λ e. e.unit) zs)) single in
        (not-true (list_any (λ v. v.place.prov == z.unit.place.prov) (map (λ e. e.unit) zs)) both.0, both.1)

    by : (z ≡ d) ⊎ Contains zs d
        → (are_units_single (map (λ e. e.unit) zs) ≡ true → Contains zs d → find (λ e. (e.unit.power == d.unit.power) && (e.unit.place.prov == d.unit.place.prov)) zs ≡ Some d)
        → find (λ e. (e.unit.power == d.unit.power) && (e.unit.place.prov == d.unit.place.prov)) (z ∷ zs) ≡ Some d
    by (inl is) more = go ((z.unit.power == d.unit.power) && (z.unit.place.prov == d.unit.place.prov)) (subst (λ y. ((y.unit.power == d.unit.power) && (y.unit.place.prov == d.unit.place.prov)) ≡ true) (sym is) (and_from _ _ (eq_self d.unit.power) (eq_self d.unit.place.prov)))
      where
        go : (b : Bool) → b ≡ true → cond b (Some z) (find (λ e. (e.unit.power == d.unit.power) && (e.unit.place.prov == d.unit.place.prov)) zs) ≡ Some d
        go true met = ap Some is
        go false met = absurd (false≢true met)
    by (inr rest) more = go ((z.unit.power == d.unit.power) && (z.unit.place.prov == d.unit.place.prov)) refl
      where
        go : (b : Bool) → ((z.unit.power == d.unit.power) && (z.unit.place.prov == d.unit.place.prov)) ≡ b
            → cond b (Some z) (find (λ e. (e.unit.power == d.unit.power) && (e.unit.place.prov == d.unit.place.prov)) zs) ≡ Some d
        go true here =
            let same : z.unit.place.prov ≡ d.unit.place.prov = eqb-true _ _ (and_parts (z.unit.power == d.unit.power) (z.unit.place.prov == d.unit.place.prov) here).1 in
            let met : (d.unit.place.prov == z.unit.place.prov) ≡ true = subst (λ n. (d.unit.place.prov == n) ≡ true) (sym same) (eq_self d.unit.place.prov) in
            let made : Contains (map (λ e. e.unit) zs) d.unit = made_among (λ (e : Dislodged). e.unit) zs d rest in
            absurd (false≢true (sym parts.0 ∙ any_among (λ v. v.place.prov == z.unit.place.prov) (map (λ e. e.unit) zs) d.unit made met))
        go false other = more parts.1 rest

pub retreats_are_read_back : TextsAreReadAgain → OrdersStandAlone → LawfulOrdersAreRead → RetreatsAreReadBack
retreats_are_read_back again alone read m b orders d laws of retreats given there = by (found_retreat orders d) refl
  where
    as_ordered : Option PlacedOrder → PlacedOrder
    as_ordered found = record { unit = d.unit; order = unwrap_or (option_map (λ o. o.order) found) Disband }

    by : (found : Option PlacedOrder) → found_retreat orders d ≡ found → order_of m b d.unit.power [] (order_text m (as_ordered found)) ≡ Ok (as_ordered found)
    by None is =
        read m b d.unit.power [] (record { unit = d.unit; order = Disband }) laws of
        (retreats, (d, record { there = found_dislodged b.dislodged d of.dislodged_apart there; unit = refl }))
    by (Some o) is =
        let passed = and_parts (is_same_unit o.unit d.unit) (is_for_dislodged o.order) (find_passes _ orders o is) in
        let unit : o.unit ≡ d.unit = same_unit o.unit d.unit passed.0 in
        let among : Contains orders o = found_among (λ x. is_same_unit x.unit d.unit && is_for_dislodged x.order) orders o is in
        subst (λ (v : AUnit). order_of m b v.power [] (order_text m (record { unit = v; order = o.order })) ≡ Ok (record { unit = v; order = o.order })) unit
        (given_are_read_back again alone m b orders o laws of given among)
