-- The orders that stand: each in force, one for each unit, and those given among them.
use Rattle.std.proofs.Common.{◌≡◌, ℕ, ◌<◌, ◌==◌, ◌&&◌, ◌⊎◌, Bool, true, false, zero, suc, length, get_or, List, [], ◌∷◌, refl, ap, subst, inl, inr, arith, Option, Some, None, find, map}
use Rattle.std.specs.Prelude.{Contains, option_map}
use Rattle.std.specs.Option.{unwrap_or}
use Rattle.std.proofs.lemmas.Bool.{cases_Bool, and_parts, and_from, eqb-true}
use Rattle.dip_names.specs.declared.names.Kind.{Kind}
use Rattle.dip_names.specs.declared.names.Kind.TheVariants.{Army, Fleet}
use Rattle.dip_names.specs.declared.names.Unit.{Unit as AUnit}
use Rattle.dip_map.specs.Boards.{Position}
use Rattle.dip_names.specs.Kinds.{is_kind}
use Rattle.dip_orders_placed.specs.Standing.{is_done_from, is_in_force, are_in_force, is_same_unit, found_order, order_among, standing_orders, units_of, IsOnly}
use Rattle.dip_orders_placed.specs.declared.placed.Order.TheVariants.{Hold}
use Rattle.dip_orders_placed.specs.declared.placed.PlacedOrder.{PlacedOrder}
use Rattle.dip_orders_placed.proofs.FindLaws.{find_passes}

-- an element is the first or one of the others
pub element_cases : {A : Type 0} (x : A) (xs : List A) (y : A) (k : ℕ) → k < length (x ∷ xs) → get_or (x ∷ xs) k y ≡ y → (x ≡ y) ⊎ Contains xs y
element_cases x xs y zero low at = inl at
element_cases x xs y (suc k) low at = inr (k, omega arith, at)

-- the only element that passes a test is found
find_only : {A : Type 0} (p : A → Bool) (xs : List A) (x : A) → Contains xs x → p x ≡ true → ((y : A) → Contains xs y → p y ≡ true → y ≡ x) → find p xs ≡ Some x
find_only p [] x c met only = absurd (omega (arith, c.1))
find_only p (z ∷ zs) x c met only =
    elim (cases_Bool (p z)) [
      | inl here ↦ let first : z ≡ x = only z (0, omega arith, refl) here in rw here (ap Some first)
      | inr other ↦
          elim (element_cases z zs x c.0 c.1 c.2) [
            | inl is ↦ let past : p x ≡ false = subst (λ y. p y ≡ false) is other in absurd (cc)
            | inr rest ↦ rw other (find_only p zs x rest met (λ y among passes. only y (suc among.0, omega (arith, among.1), among.2) passes))
          ]
    ]

-- what is made of an element is among what is made of all
pub made_among : {A B : Type 0} (f : A → B) (xs : List A) (x : A) → Contains xs x → Contains (map f xs) (f x)
made_among f [] x c = absurd (omega (arith, c.1))
made_among f (z ∷ zs) x c =
    elim (element_cases z zs x c.0 c.1 c.2) [
      | inl is ↦ (0, omega arith, ap f is)
      | inr rest ↦ let among = made_among f zs x rest in (suc among.0, omega (arith, among.1), among.2)
    ]

same_kind : (k l : Kind) → is_kind k l ≡ true → k ≡ l
same_kind Army Army h = refl
same_kind Army Fleet h = absurd (cc)
same_kind Fleet Army h = absurd (cc)
same_kind Fleet Fleet h = refl

kind_itself : (k : Kind) → is_kind k k ≡ true
kind_itself Army = refl
kind_itself Fleet = refl

-- two units that the test calls one are one
pub same_unit : (u v : AUnit) → is_same_unit u v ≡ true → u ≡ v
same_unit u v h =
    let (power, rest) = and_parts (u.power == v.power) _ h in
    let (kind, place) = and_parts (is_kind u.kind v.kind) _ rest in
    let (prov, coast) = and_parts (u.place.prov == v.place.prov) _ place in
    let e1 : u.power ≡ v.power = eqb-true _ _ power in
    let e2 : u.kind ≡ v.kind = same_kind _ _ kind in
    let e3 : u.place.prov ≡ v.place.prov = eqb-true _ _ prov in
    let e4 : u.place.coast ≡ v.place.coast = eqb-true _ _ coast in
    let parts : record { power = u.power; kind = u.kind; place = record { prov = u.place.prov; coast = u.place.coast } } ≡ record { power = v.power; kind = v.kind; place = record { prov = v.place.prov; coast = v.place.coast } } = rw (e1, e2, e3, e4) refl in
    parts

pub unit_itself : (u : AUnit) → is_same_unit u u ≡ true
unit_itself u = rw (kind_itself u.kind) (grind arith)

-- what is found for a unit is in force where it stands
found_in_force : (pending : List PlacedOrder) (u : AUnit) (found : Option PlacedOrder) → found_order pending u ≡ found → is_done_from u.place.prov (unwrap_or (option_map (λ o. o.order) found) Hold) ≡ true
found_in_force pending u None h = refl
found_in_force pending u (Some o) h =
    let (same, force) = and_parts (is_same_unit o.unit u) (is_in_force o) (find_passes _ pending o h) in
    subst (λ v. is_done_from v.place.prov o.order ≡ true) (same_unit o.unit u same) force

-- every order that stands is in force
pub orders_in_force : (pending : List PlacedOrder) (us : List AUnit) → are_in_force (map (order_among pending) us) ≡ true
orders_in_force pending [] = refl
orders_in_force pending (u ∷ us) = and_from _ _ (found_in_force pending u (found_order pending u) refl) (orders_in_force pending us)

pub standing_in_force : (b : Position) (pending : List PlacedOrder) → are_in_force (standing_orders b pending) ≡ true
standing_in_force b pending = orders_in_force pending b.units

units_of_all : (pending : List PlacedOrder) (us : List AUnit) → units_of (map (order_among pending) us) ≡ us
units_of_all pending [] = refl
units_of_all pending (u ∷ us) = ap (λ vs. u ∷ vs) (units_of_all pending us)

-- one order for each unit
pub standing_units : (b : Position) (pending : List PlacedOrder) → units_of (standing_orders b pending) ≡ b.units
standing_units b pending = units_of_all pending b.units

-- the only order of a unit is the one that is found for it
only_is_found : (pending : List PlacedOrder) (o : PlacedOrder) → Contains pending o → is_in_force o ≡ true → IsOnly o pending → found_order pending o.unit ≡ Some o
only_is_found pending o given force only =
    find_only (λ p. is_same_unit p.unit o.unit && is_in_force p) pending o given (and_from _ _ (unit_itself o.unit) force) (λ p among passes. only p among (same_unit p.unit o.unit (and_parts _ _ passes).0))

-- the only order of a unit of the board stands
pub standing_kept : (b : Position) (pending : List PlacedOrder) (o : PlacedOrder) → Contains pending o → Contains b.units o.unit → is_in_force o ≡ true → IsOnly o pending → Contains (standing_orders b pending) o
standing_kept b pending o given there force only =
    let made : Contains (map (order_among pending) b.units) (order_among pending o.unit) = made_among (order_among pending) b.units o.unit there in
    let found : found_order pending o.unit ≡ Some o = only_is_found pending o given force only in
    let is : order_among pending o.unit ≡ o = rw found refl in
    subst (λ p. Contains (standing_orders b pending) p) is made
