-- Orders of a movement and of retreats are read whatever stands beside them, and the orders that stood stand again.
use Rattle.std.proofs.Common.{◌≡◌, ◌<◌, ◌&&◌, ℕ, Bool, true, false, List, [], ◌∷◌, length, nat_lt, find, Some, Ok, refl, sym, ap, subst, ◌∙◌, inl, inr, arith}
use Rattle.std.specs.Prelude.{All, Contains}
use Rattle.std.specs.List.{AllByRecursion, list_all}
use Rattle.std.proofs.lemmas.Bool.{and_from, and_parts, cases_Bool, false≢true, ltb-true}
use Rattle.dip_names.specs.declared.names.Kind.{Kind}
use Rattle.dip_names.specs.declared.names.Kind.TheVariants.{Army, Fleet}
use Rattle.dip_names.specs.declared.names.Unit.{Unit as AUnit}
use Rattle.dip_map.specs.Boards.{IsOf, Position}
use Rattle.dip_map.specs.Charts.{Chart, IsMap, is_unit, may_stand}
use Rattle.dip_orders.specs.Conditions.{is_adjustment}
use Rattle.dip_orders.specs.Laws.{LawfulOrdersAreRead, OrdersAreLawful}
use Rattle.dip_orders.specs.Lawful.{IsAllowed}
use Rattle.dip_orders.specs.Reading.{order_of}
use Rattle.dip_orders_placed.specs.Standing.{found_order, is_in_force, is_same_unit, order_among, standing_orders}
use Rattle.dip_orders.specs.Texts.{order_text}
use Rattle.dip_orders_placed.specs.declared.placed.Order.{Order}
use Rattle.dip_orders_placed.specs.declared.placed.Order.TheVariants.{Hold, Move, SupportHold, SupportMove, Convoy, Retreat, Disband, Build, Remove}
use Rattle.dip_orders_placed.specs.declared.placed.PlacedOrder.{PlacedOrder}
use Rattle.dip_orders_placed.proofs.StandingLaws.{made_among, orders_in_force, same_unit, unit_itself}
use Rattle.dip_check_papers.specs.Placing.{placed_by}
use Rattle.dip_check_papers.proofs.Placing.{among_cases, each_made, of_all, placed_among, placed_each}

-- an order is read back from its text, with nothing beside it
abbrev pub IsReadBack : Chart → Position → PlacedOrder → Type 0
IsReadBack m b o = order_of m b o.unit.power [] (order_text m o) ≡ Ok o

allowed_anywhere : (m : Chart) (b : Position) (power : ℕ) (ps qs : List PlacedOrder) (u : AUnit) (o : Order) → is_adjustment b.phase.season ≡ false
    → IsAllowed m b power ps u o → IsAllowed m b power qs u o
allowed_anywhere m b power ps qs u Hold other h = h
allowed_anywhere m b power ps qs u (Move to via) other h = h
allowed_anywhere m b power ps qs u (SupportHold at) other h = h
allowed_anywhere m b power ps qs u (SupportMove at to) other h = h
allowed_anywhere m b power ps qs u (Convoy at to) other h = h
allowed_anywhere m b power ps qs u (Retreat to) other h = h
allowed_anywhere m b power ps qs u Disband other h = h
allowed_anywhere m b power ps qs u Build other h = absurd (false≢true (sym other ∙ h.0))
allowed_anywhere m b power ps qs u Remove other h = absurd (false≢true (sym other ∙ h.0))

pub read_anywhere : OrdersAreLawful → LawfulOrdersAreRead → (m : Chart) (b : Position) (pending : List PlacedOrder) (o : PlacedOrder) → IsMap m → IsOf m b → is_adjustment b.phase.season ≡ false
    → IsReadBack m b o → order_of m b o.unit.power pending (order_text m o) ≡ Ok o
read_anywhere lawful read m b pending o laws of other back =
    read m b o.unit.power pending o laws of (allowed_anywhere m b o.unit.power [] pending o.unit o.order other (lawful m b o.unit.power [] (order_text m o) o laws of back))

-- ---- a unit of the map has a power and a province of it

pub on_map : (m : Chart) (u : AUnit) → is_unit m u ≡ true → (u.power < length m.realms) × (u.place.prov < length m.provinces)
on_map m u is = (ltb-true _ _ parts.0, at u.kind parts.1)
  where
    parts : (nat_lt u.power (length m.realms) ≡ true) × (may_stand m u.kind u.place ≡ true)
    parts = and_parts (nat_lt u.power (length m.realms)) (may_stand m u.kind u.place) is

    at : (k : Kind) → may_stand m k u.place ≡ true → u.place.prov < length m.provinces
    at Army h = ltb-true _ _ (and_parts (nat_lt u.place.prov (length m.provinces)) _ h).0
    at Fleet h = ltb-true _ _ (and_parts (nat_lt u.place.prov (length m.provinces)) _ h).0

pub all_among : {A : Type 0} (P : A → Type 0) (xs : List A) (x : A) → All P xs → Contains xs x → P x
all_among P xs x all c = subst P c.2 (all c.0 x c.1)

-- the only element that passes a test is found
pub find_only : {A : Type 0} (p : A → Bool) (xs : List A) (x : A) → Contains xs x → p x ≡ true → AllByRecursion (λ y. p y ≡ true → y ≡ x) xs → find p xs ≡ Some x
find_only p [] x c met only = absurd (omega (arith, c.1))
find_only {A} p (z ∷ zs) x c met only = elim (cases_Bool (p z)) [
  | inl here ↦ rw here (ap Some (only.0 here))
  | inr other ↦
      elim (among_cases z zs x c.0 c.1 c.2) [
        | inl is ↦ absurd (false≢true (sym (subst (λ y. p y ≡ false) is other) ∙ met))
        | inr rest ↦ rw other (find_only p zs x rest met only.1)
      ]
]

all_tested : {A : Type 0} (p : A → Bool) (xs : List A) → list_all p xs ≡ true → AllByRecursion (λ x. p x ≡ true) xs
all_tested p [] h = tt
all_tested p (x ∷ xs) h = let parts = and_parts (p x) (list_all p xs) h in (parts.0, all_tested p xs parts.1)

-- ---- the orders that stood are found again where they were put by power and province

abbrev pub IsAmong : Position → List PlacedOrder → PlacedOrder → Type 0
IsAmong b ps o = (u : AUnit) × Contains b.units u × (o ≡ order_among ps u)

pub stood : (b : Position) (ps : List PlacedOrder) → AllByRecursion (IsAmong b ps) (standing_orders b ps)
stood b ps = each_made (IsAmong b ps) (order_among ps) b.units (λ u c. (u, c, refl))

pub found_again : (m : Chart) (b : Position) (ps : List PlacedOrder) (u : AUnit) → IsOf m b → Contains b.units u
    → found_order (placed_by (λ (o : PlacedOrder). o.unit) m (standing_orders b ps)) u ≡ Some (order_among ps u)
found_again m b ps u of there =
    find_only (λ o. is_same_unit o.unit u && is_in_force o) (placed_by (λ (o : PlacedOrder). o.unit) m (standing_orders b ps)) (order_among ps u)
    (placed_among (λ (o : PlacedOrder). o.unit) m (standing_orders b ps) (order_among ps u) among on.0 on.1)
    (and_from (is_same_unit u u) (is_in_force (order_among ps u)) (unit_itself u)
    (of_all (λ o. is_in_force o ≡ true) (standing_orders b ps) (order_among ps u) (all_tested is_in_force (standing_orders b ps) (orders_in_force ps b.units)) among))
    (placed_each (λ (o : PlacedOrder). o.unit) m (standing_orders b ps) (λ y. (is_same_unit y.unit u && is_in_force y) ≡ true → y ≡ order_among ps u) (only (standing_orders b ps) (stood b ps)))
  where
    among : Contains (standing_orders b ps) (order_among ps u)
    among = made_among (order_among ps) b.units u there

    on : (u.power < length m.realms) × (u.place.prov < length m.provinces)
    on = on_map m u (all_among (λ v. is_unit m v ≡ true) b.units u of.units there)

    one : (y : PlacedOrder) → IsAmong b ps y → (is_same_unit y.unit u && is_in_force y) ≡ true → y ≡ order_among ps u
    one y is passes =
        let same : y.unit ≡ u = same_unit y.unit u (and_parts (is_same_unit y.unit u) (is_in_force y) passes).0 in
        let unit : y.unit ≡ is.0 = ap (λ (o : PlacedOrder). o.unit) is.2 in
        is.2 ∙ ap (order_among ps) (sym unit ∙ same)

    only : (os : List PlacedOrder) → AllByRecursion (IsAmong b ps) os → AllByRecursion (λ y. (is_same_unit y.unit u && is_in_force y) ≡ true → y ≡ order_among ps u) os
    only [] all = tt
    only (o ∷ os) all = (one o all.0, only os all.1)
