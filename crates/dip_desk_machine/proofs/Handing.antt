-- The orders that stand in a lawful game can be given beside one another.
use Rattle.std.proofs.Common.{◌≡◌, ℕ, ◌==◌, ◌<◌, ◌≤◌, ◌+◌, ◌&&◌, nat_lt, zero, suc, length, inl, inr, Bool, true, false, cond, List, [], ◌∷◌, ◌++◌, map, filter, flat_map, find, count_by, Some, Ok, refl, sym, ap, subst, ◌∙◌, arith, append-nil}
use Rattle.std.specs.List.{AllByRecursion, list_all, list_any, range_with_len, Contains}
use Rattle.std.proofs.lemmas.Bool.{and_from, cases_Bool, eqb-true, eqb-false, ltb-true, ltb-false}
use Rattle.std.proofs.lemmas.List.Elements.{filter-append}
use Rattle.dip_names.specs.declared.names.Unit.{Unit as AUnit}
use Rattle.dip_map.specs.declared.boards.Dislodged.{Dislodged}
use Rattle.dip_map.specs.Boards.{Position, IsOf}
use Rattle.dip_map.specs.Charts.{Chart, are_units_single}
use Rattle.dip_orders_placed.proofs.KeptLaws.{count_cons}
use Rattle.dip_orders.specs.Given.{AreGiven, orders_of_power}
use Rattle.dip_orders.specs.Laws.{IsGiven}
use Rattle.dip_orders.specs.Lawful.{IsAllowed, IsDislodged, Stands}
use Rattle.dip_orders.specs.Reading.{order_of}
use Rattle.dip_orders_placed.specs.Standing.{units_of}
use Rattle.dip_orders.specs.Texts.{order_text}
use Rattle.dip_orders_placed.specs.declared.placed.Order.{Order}
use Rattle.dip_orders_placed.specs.declared.placed.Order.TheVariants.{Hold, Move, SupportHold, SupportMove, Convoy, Retreat, Disband, Build, Remove}
use Rattle.dip_orders_placed.specs.declared.placed.PlacedOrder.{PlacedOrder}
use Rattle.dip_desk_games.proofs.ListLemmas.{all_weaker}
use Rattle.dip_desk_machine.proofs.LawfulOrders.{AreRead, standing_is}
use Rattle.dip_desk_machine.specs.Handing.{StandingOrdersAreGiven, StandingOrdersComeByPlace}
use Rattle.dip_desk_games.specs.ByPlace.{are_by_place, comes_before}
use Rattle.dip_desk_machine.specs.Lawful.{IsLawfulGame, IsLawfulSeat}
use Rattle.dip_desk_state.specs.Fitting.{AreAscending}
use Rattle.dip_desk_games.specs.Ordering.{prov_of, orders_that_stand}
use Rattle.dip_desk_state.specs.State.{Game, Part, power_in, whole_of}
use Rattle.dip_desk_games.specs.Ticking.{by_power, orders_of, orders_of_seats}
use Rattle.dip_desk_machine.proofs.Seeing.{both}

-- what is found passes
found : {A : Type 0} (test : A → Bool) (xs : List A) (x : A) → find test xs ≡ Some x → test x ≡ true
found test [] x h = absurd (cc)
found {A} test (y ∷ ys) x h = go (test y) refl (found test ys x) h
  where
    go : (b : Bool) → test y ≡ b → (find test ys ≡ Some x → test x ≡ true) → cond b (Some y) (find test ys) ≡ Some x → test x ≡ true
    go true is more same = let this : y ≡ x = cc in subst (λ (z : A). test z ≡ true) this is
    go false is more same = more same

first_true : (a b : Bool) → (a && b) ≡ true → a ≡ true
first_true true b h = refl
first_true false b h = h

standing_power : (b : Position) (power : ℕ) (u : AUnit) → Stands b power u → u.power ≡ power
standing_power b power u s =
    eqb-true u.power power (first_true (u.power == power) (u.place.prov == u.place.prov)
    (found (λ v. (v.power == power) && (v.place.prov == u.place.prov)) b.units u s.there))

dislodged_power : (b : Position) (power : ℕ) (d : Dislodged) (u : AUnit) → IsDislodged b power d u → u.power ≡ power
dislodged_power b power d u s =
    sym (ap (λ (v : AUnit). v.power) s.unit)
    ∙ eqb-true d.unit.power power (first_true (d.unit.power == power) (d.unit.place.prov == u.place.prov)
    (found (λ e. (e.unit.power == power) && (e.unit.place.prov == u.place.prov)) b.dislodged d s.there))

-- the unit of a lawful order is the power's
allowed_power : (m : Chart) (b : Position) (power : ℕ) (beside : List PlacedOrder) (u : AUnit) (o : Order) → IsAllowed m b power beside u o → u.power ≡ power
allowed_power m b power beside u Hold h = standing_power b power u h.1
allowed_power m b power beside u (Move to via) h = standing_power b power u h.1.0
allowed_power m b power beside u (SupportHold at) h = standing_power b power u h.1.0
allowed_power m b power beside u (SupportMove at to) h = standing_power b power u h.1.0
allowed_power m b power beside u (Convoy at to) h = standing_power b power u h.1.0
allowed_power m b power beside u (Retreat to) h = dislodged_power b power h.1.dislodged u h.1.there
allowed_power m b power beside u Disband h = dislodged_power b power h.1.0 u h.1.1
allowed_power m b power beside u Build h = h.1.power
allowed_power m b power beside u Remove h = standing_power b power u h.1.unit

-- the orders are all of a power
abbrev AreOf : ℕ → List PlacedOrder → Type 0
AreOf power orders = AllByRecursion (λ o. o.unit.power ≡ power) orders

all_of : (power : ℕ) (orders : List PlacedOrder) → AreOf power orders → orders_of_power power orders ≡ orders
all_of power [] all = refl
all_of power (o ∷ os) all =
    let this : (o.unit.power == power) ≡ true = ap (λ (q : ℕ). q == power) all.0 ∙ eqb-same power in
    rw this (ap (λ (ps : List PlacedOrder). o ∷ ps) (all_of power os all.1))
  where
    eqb-same : (q : ℕ) → (q == q) ≡ true
    eqb-same q = grind (arith)

none_of : (power other : ℕ) (orders : List PlacedOrder) → (other == power) ≡ false → AreOf other orders → orders_of_power power orders ≡ []
none_of power other [] differ all = refl
none_of power other (o ∷ os) differ all =
    let this : (o.unit.power == power) ≡ false = ap (λ (q : ℕ). q == power) all.0 ∙ differ in
    rw this (none_of power other os differ all.1)

-- where at most one of some seats is of a power, the orders of all that are the power's are that seat's, or none
module _ {A : Type 0} (key : A → ℕ) (orders_of : A → List PlacedOrder) where
  nobodys : (power : ℕ) (seats : List A) → AllByRecursion (λ s. AreOf (key s) (orders_of s)) seats → count_by (λ s. key s == power) seats ≡ 0
      → orders_of_power power (flat_map orders_of seats) ≡ []
  nobodys power [] own none = refl
  nobodys power (s ∷ ss) own none = go (key s == power) refl (nobodys power ss own.1)
    where
      head : count_by (λ x. key x == power) (s ∷ ss) ≡ cond (key s == power) 1 0 + count_by (λ x. key x == power) ss
      head = count_cons (λ x. key x == power) s ss

      go : (b : Bool) → (key s == power) ≡ b → (count_by (λ x. key x == power) ss ≡ 0 → orders_of_power power (flat_map orders_of ss) ≡ [])
          → orders_of_power power (orders_of s ++ flat_map orders_of ss) ≡ []
      go true is more = let one : count_by (λ x. key x == power) (s ∷ ss) ≡ 1 + count_by (λ x. key x == power) ss = head ∙ ap (λ (t : Bool). cond t 1 0 + count_by (λ x. key x == power) ss) is in absurd (omega (arith, one, none))
      go false is more =
          let rest : count_by (λ x. key x == power) ss ≡ 0 = let same : count_by (λ x. key x == power) (s ∷ ss) ≡ 0 + count_by (λ x. key x == power) ss = head ∙ ap (λ (t : Bool). cond t 1 0 + count_by (λ x. key x == power) ss) is in omega (arith, same, none) in
          filter-append (λ o. o.unit.power == power) (orders_of s) (flat_map orders_of ss)
          ∙ ap (λ (ps : List PlacedOrder). ps ++ orders_of_power power (flat_map orders_of ss)) (none_of power (key s) (orders_of s) is own.0)
          ∙ more rest

  somebodys : (P : List PlacedOrder → Type 0) (power : ℕ) (seats : List A) → AllByRecursion (λ s. AreOf (key s) (orders_of s)) seats → P []
      → AllByRecursion (λ s. key s ≡ power → P (orders_of s)) seats → count_by (λ s. key s == power) seats ≤ 1
      → P (orders_of_power power (flat_map orders_of seats))
  somebodys P power [] own empty each few = empty
  somebodys P power (s ∷ ss) own empty each few = go (key s == power) refl (λ less. somebodys P power ss own.1 empty each.1 less)
    where
      head : count_by (λ x. key x == power) (s ∷ ss) ≡ cond (key s == power) 1 0 + count_by (λ x. key x == power) ss
      head = count_cons (λ x. key x == power) s ss

      go : (b : Bool) → (key s == power) ≡ b → (count_by (λ x. key x == power) ss ≤ 1 → P (orders_of_power power (flat_map orders_of ss)))
          → P (orders_of_power power (orders_of s ++ flat_map orders_of ss))
      go true is more =
          let one : count_by (λ x. key x == power) (s ∷ ss) ≡ 1 + count_by (λ x. key x == power) ss = head ∙ ap (λ (t : Bool). cond t 1 0 + count_by (λ x. key x == power) ss) is in
          let rest : count_by (λ x. key x == power) ss ≡ 0 = omega (arith, one, few) in
          let his : key s ≡ power = eqb-true (key s) power is in
          let all : orders_of_power power (orders_of s ++ flat_map orders_of ss) ≡ orders_of s =
          filter-append (λ o. o.unit.power == power) (orders_of s) (flat_map orders_of ss)
          ∙ ap (λ (ps : List PlacedOrder). orders_of_power power (orders_of s) ++ ps) (nobodys power ss own.1 rest)
          ∙ append-nil (orders_of_power power (orders_of s))
          ∙ all_of power (orders_of s) (subst (λ (q : ℕ). AreOf q (orders_of s)) his own.0) in
          subst P (sym all) (each.0 his)
      go false is more =
          let same : count_by (λ x. key x == power) (s ∷ ss) ≡ 0 + count_by (λ x. key x == power) ss = head ∙ ap (λ (t : Bool). cond t 1 0 + count_by (λ x. key x == power) ss) is in
          let less : count_by (λ x. key x == power) ss ≤ 1 = omega (arith, same, few) in
          let rest : orders_of_power power (orders_of s ++ flat_map orders_of ss) ≡ orders_of_power power (flat_map orders_of ss) =
          filter-append (λ o. o.unit.power == power) (orders_of s) (flat_map orders_of ss)
          ∙ ap (λ (ps : List PlacedOrder). ps ++ orders_of_power power (flat_map orders_of ss)) (none_of power (key s) (orders_of s) is own.0) in
          subst P (sym rest) (more less)

-- orders by province are of units in different provinces
none_there : (p : ℕ) (orders : List PlacedOrder) → AllByRecursion (λ q. p < q) (map prov_of orders) → list_any (λ v. v.place.prov == p) (units_of orders) ≡ false
none_there p [] all = refl
none_there p (o ∷ os) all =
    let lt : p < prov_of o = all.0 in
    let differ : (prov_of o == p) ≡ false = grind (arith, lt) in
    rw differ (none_there p os all.1)

pub ascending_single : (orders : List PlacedOrder) → AreAscending (map prov_of orders) → are_units_single (units_of orders) ≡ true
ascending_single [] up = refl
ascending_single (o ∷ os) up = rw (none_there (prov_of o) os up.0) (ascending_single os up.1)

pub each_counted : (test : ℕ → Bool) (i n p : ℕ) → list_all test (range_with_len i n) ≡ true → i ≤ p → p < i + n → test p ≡ true
each_counted test i zero p all low high = absurd (omega (arith, low, high))
each_counted test i (suc n) p all low high =
    let parts = both (test i) (list_all test (range_with_len (i + 1) n)) all in
    go (i == p) refl parts.0 (λ lower. each_counted test (i + 1) n p parts.1 lower (omega (arith, high)))
  where
    go : (b : Bool) → (i == p) ≡ b → test i ≡ true → (i + 1 ≤ p → test p ≡ true) → test p ≡ true
    go true is here more = subst (λ (q : ℕ). test q ≡ true) (eqb-true i p is) here
    go false is here more = more (omega (arith, low, eqb-false i p is))

-- no seat is of a power past the map's
none_past : (most power : ℕ) (seats : List Part) → AllByRecursion (λ o. power_in o < most) seats → most ≤ power → count_by (λ o. power_in o == power) seats ≡ 0
none_past most power [] within past = refl
none_past most power (o ∷ os) within past =
    let lt : power_in o < most = within.0 in
    let differ : (power_in o == power) ≡ false = grind (arith, lt, past) in
    let head : count_by (λ (x : Part). power_in x == power) (o ∷ os) ≡ 0 + count_by (λ (x : Part). power_in x == power) os =
    count_cons (λ (x : Part). power_in x == power) o os ∙ ap (λ (t : Bool). cond t 1 0 + count_by (λ (x : Part). power_in x == power) os) differ in
    let rest : count_by (λ (x : Part). power_in x == power) os ≡ 0 = none_past most power os within.1 past in
    omega (arith, head, rest)

-- a power has at most one seat in a lawful game
few : (m : Chart) (g : Game) → IsLawfulGame m g → (power : ℕ) → count_by (λ o. power_in o == power) g.seats ≤ 1
few m g l power = go (nat_lt power (length m.realms)) refl
  where
    within : AllByRecursion (λ o. power_in o < length m.realms) g.seats
    within = all_weaker (IsLawfulSeat m g.public.board) (λ o. power_in o < length m.realms) g.seats (λ o s. s.power) l.seats

    go : (b : Bool) → nat_lt power (length m.realms) ≡ b → count_by (λ o. power_in o == power) g.seats ≤ 1
    go true is =
        let lt : power < length m.realms = ltb-true power (length m.realms) is in
        let one : (count_by (λ o. power_in o == power) g.seats == 1) ≡ true =
        each_counted (λ p. count_by (λ (o : Part). power_in o == p) g.seats == 1) 0 (length m.realms) power l.powers (omega arith) (omega (arith, lt)) in
        let same = eqb-true (count_by (λ o. power_in o == power) g.seats) 1 one in omega (arith, same)
    go false is =
        let past = ltb-false power (length m.realms) is in
        let same = none_past (length m.realms) power g.seats within (omega (arith, past)) in omega (arith, same)

-- an element of a list of which each holds
among : {A : Type 0} (P : A → Type 0) (xs : List A) (x : A) → AllByRecursion P xs → Contains xs x → P x
among P [] x all (k, low, at) = absurd (omega arith)
among P (y ∷ ys) x all (zero, low, at) = subst P at all.0
among P (y ∷ ys) x all (suc k, low, at) = among P ys x all.1 (k, (omega arith), at)

-- an element that passes is kept
kept_in : {A : Type 0} (test : A → Bool) (xs : List A) (x : A) → Contains xs x → test x ≡ true → Contains (filter test xs) x
kept_in test [] x (k, low, at) t = absurd (omega arith)
kept_in test (y ∷ ys) x (zero, low, at) t =
    let first : test y ≡ true = ap test at ∙ t in
    rw first (0, (omega arith), at)
kept_in test (y ∷ ys) x (suc k, low, at) t =
    let (n, below, there) = kept_in test ys x (k, (omega arith), at) t in
    elim (cases_Bool (test y)) [
      | inl yes_here ↦ rw yes_here (suc n, (omega arith), there)
      | inr other ↦ rw other (n, below, there)
    ]

same_number : (p : ℕ) → (p == p) ≡ true
same_number p = grind (arith)

-- the orders of all seats of a game, one seat after the other
abbrev pub orders_in : Chart → Game → List PlacedOrder
orders_in m g = flat_map (λ s. orders_that_stand m g.public.board (power_in s) s.own.pending) g.seats

whole_orders : (m : Chart) (b : Position) (seats : List Part)
    → orders_of_seats m b (map (λ s. s.own) seats) ≡ flat_map (λ s. orders_that_stand m b (power_in s) s.own.pending) seats
whole_orders m b [] = refl
whole_orders m b (s ∷ ss) = ap (λ (os : List PlacedOrder). orders_that_stand m b (power_in s) s.own.pending ++ os) (whole_orders m b ss)

-- a lawful game's orders, as they stand
pub given_in : (m : Chart) (g : Game) → AreRead m g.public.board → IsLawfulGame m g → AreGiven m g.public.board (orders_in m g)
given_in m g read l = record {
  each = λ o here.
      let q = o.unit.power in
      among (IsGiven m b q (orders_of_power q (orders_in m g))) (orders_of_power q (orders_in m g)) o
      (somebodys power_in orders_of (λ os. AllByRecursion (IsGiven m b q os) os) q g.seats own tt
      (all_weaker (IsLawfulSeat m b) (λ o. power_in o ≡ q → AllByRecursion (IsGiven m b q (orders_of o)) (orders_of o)) g.seats (λ o s is. given o s q is) l.seats) (few m g l q))
      (kept_in (λ o. o.unit.power == q) (orders_in m g) o here (same_number q));
  apart = λ power. somebodys power_in orders_of (λ os. are_units_single (units_of os) ≡ true) power g.seats own refl
      (all_weaker (IsLawfulSeat m b) (λ o. power_in o ≡ power → are_units_single (units_of (orders_of o)) ≡ true) g.seats
      (λ o s is. subst (λ (os : List PlacedOrder). are_units_single (units_of os) ≡ true) (sym (standing_is m b (power_in o) o.own.pending read s.pending))
      (ascending_single s.pending.orders s.pending.ascending)) l.seats) (few m g l power);
}
  where
    b : Position
    b = g.public.board

    orders_of : Part → List PlacedOrder
    orders_of o = orders_that_stand m b (power_in o) o.own.pending

    own : AllByRecursion (λ (o : Part). AreOf (power_in o) (orders_of o)) g.seats
    own = all_weaker (IsLawfulSeat m b) (λ o. AreOf (power_in o) (orders_of o)) g.seats
        (λ o s. subst (AreOf (power_in o)) (sym (standing_is m b (power_in o) o.own.pending read s.pending))
        (all_weaker (λ p. order_of m b (power_in o) s.pending.orders (order_text m p) ≡ Ok p) (λ p. p.unit.power ≡ power_in o) s.pending.orders
        (λ p is. allowed_power m b (power_in o) s.pending.orders p.unit p.order (read.lawful (power_in o) s.pending.orders (order_text m p) p is)) s.pending.each)) l.seats

    given : (o : Part) → IsLawfulSeat m b o → (q : ℕ) → power_in o ≡ q → AllByRecursion (IsGiven m b q (orders_of o)) (orders_of o)
    given o s q is =
        subst (λ (p : ℕ). AllByRecursion (IsGiven m b p (orders_of o)) (orders_of o)) is
        (subst (λ (os : List PlacedOrder). AllByRecursion (IsGiven m b (power_in o) os) os) (sym (standing_is m b (power_in o) o.own.pending read s.pending))
        (all_weaker (λ p. order_of m b (power_in o) s.pending.orders (order_text m p) ≡ Ok p) (IsGiven m b (power_in o) s.pending.orders) s.pending.orders
        (λ p is. (order_text m p, is)) s.pending.each))

-- an element that is kept stands in the list
kept_from : {A : Type 0} (test : A → Bool) (xs : List A) (x : A) → Contains (filter test xs) x → Contains xs x
kept_from test [] x (k, low, at) = absurd (omega (arith, low))
kept_from {A} test (y ∷ ys) x there = go (test y) (kept_from test ys x) there
  where
    further : Contains ys x → Contains (y ∷ ys) x
    further (k, low, at) = (suc k, (omega (arith, low)), at)

    go : (b : Bool) → (Contains (filter test ys) x → Contains ys x) → Contains (cond b (y ∷ filter test ys) (filter test ys)) x → Contains (y ∷ ys) x
    go true more (zero, low, at) = (zero, (omega arith), at)
    go true more (suc k, low, at) = further (more (k, (omega (arith, low)), at))
    go false more there = further (more there)

-- a power's orders among those of a power
of_one : (q p : ℕ) (orders : List PlacedOrder) → (q == p) ≡ true → orders_of_power q (orders_of_power p orders) ≡ orders_of_power q orders
of_one q p orders same = subst (λ (r : ℕ). orders_of_power q (orders_of_power r orders) ≡ orders_of_power q orders) (eqb-true q p same) (twice orders)
  where
    twice : (os : List PlacedOrder) → orders_of_power q (orders_of_power q os) ≡ orders_of_power q os
    twice [] = refl
    twice (o ∷ os) = elim (cases_Bool (o.unit.power == q)) [
      | inl is ↦ rw is (rw is (ap (λ (ps : List PlacedOrder). o ∷ ps) (twice os)))
      | inr other ↦ rw other (twice os)
    ]

of_another : (q p : ℕ) (orders : List PlacedOrder) → (q == p) ≡ false → orders_of_power q (orders_of_power p orders) ≡ []
of_another q p [] differ = refl
of_another q p (o ∷ os) differ = elim (cases_Bool (o.unit.power == p)) [
  | inl is ↦
      let his : (o.unit.power == q) ≡ false = grind (arith, eqb-true o.unit.power p is, differ) in
      rw is (rw his (of_another q p os differ))
  | inr other ↦ rw other (of_another q p os differ)
]

-- by power, from one on: a power's orders are all of its orders, or none
module _ (orders : List PlacedOrder) where
  abbrev from_power : (i n : ℕ) → List PlacedOrder
  from_power i n = flat_map (λ p. orders_of_power p orders) (range_with_len i n)

  none_before : (q i n : ℕ) → q < i → orders_of_power q (from_power i n) ≡ []
  none_before q i zero low = refl
  none_before q i (suc n) low =
      filter-append (λ o. o.unit.power == q) (orders_of_power i orders) (from_power (i + 1) n)
      ∙ ap (λ (ps : List PlacedOrder). ps ++ orders_of_power q (from_power (i + 1) n)) (of_another q i orders (grind (arith, low)))
      ∙ none_before q (i + 1) n (omega (arith, low))

  all_or_none : (P : List PlacedOrder → Type 0) (q i n : ℕ) → P [] → P (orders_of_power q orders) → P (orders_of_power q (from_power i n))
  all_or_none P q i zero none all = none
  all_or_none P q i (suc n) none all = go (q == i) refl (all_or_none P q (i + 1) n none all)
    where
      cut : orders_of_power q (from_power i (suc n)) ≡ orders_of_power q (orders_of_power i orders) ++ orders_of_power q (from_power (i + 1) n)
      cut = filter-append (λ o. o.unit.power == q) (orders_of_power i orders) (from_power (i + 1) n)

      go : (b : Bool) → (q == i) ≡ b → P (orders_of_power q (from_power (i + 1) n)) → P (orders_of_power q (from_power i (suc n)))
      go true is more =
          let here : q ≡ i = eqb-true q i is in
          let one : orders_of_power q (from_power i (suc n)) ≡ orders_of_power q orders =
          cut ∙ ap (λ (ps : List PlacedOrder). ps ++ orders_of_power q (from_power (i + 1) n)) (of_one q i orders is)
          ∙ ap (λ (ps : List PlacedOrder). orders_of_power q orders ++ ps) (none_before q (i + 1) n (omega (arith, here)))
          ∙ append-nil (orders_of_power q orders) in
          subst P (sym one) all
      go false other more =
          let one : orders_of_power q (from_power i (suc n)) ≡ orders_of_power q (from_power (i + 1) n) =
          cut ∙ ap (λ (ps : List PlacedOrder). ps ++ orders_of_power q (from_power (i + 1) n)) (of_another q i orders other) in
          subst P (sym one) more

-- orders that can be given beside one another can be so by power
pub given_by_power : (m : Chart) (b : Position) (orders : List PlacedOrder) → AreGiven m b orders → AreGiven m b (by_power m orders)
given_by_power m b orders given = record {
  each = λ o here.
      let q = o.unit.power in
      all_or_none orders (λ own. Contains own o → IsGiven m b q own o) q 0 (length m.realms) (λ (k, low, at). absurd (omega (arith, low)))
      (λ own. given.each o (kept_from (λ x. x.unit.power == q) orders o own))
      (kept_in (λ x. x.unit.power == q) (by_power m orders) o here (same_number q));
  apart = λ q. all_or_none orders (λ own. are_units_single (units_of own) ≡ true) q 0 (length m.realms) refl (given.apart q);
}

pub whole_given : (m : Chart) (g : Game) → AreRead m g.public.board → IsLawfulGame m g → AreGiven m g.public.board (orders_of m (whole_of g))
whole_given m g read l =
    given_by_power m g.public.board (orders_of_seats m g.public.board (map (λ s. s.own) g.seats))
    (subst (AreGiven m g.public.board) (sym (whole_orders m g.public.board g.seats)) (given_in m g read l))

-- ---- orders by power come by place

of_power_are : (power : ℕ) (orders : List PlacedOrder) → AreOf power (orders_of_power power orders)
of_power_are power [] = tt
of_power_are power (o ∷ os) = go (o.unit.power == power) refl (of_power_are power os)
  where
    go : (b : Bool) → (o.unit.power == power) ≡ b → AreOf power (orders_of_power power os) → AreOf power (cond b (o ∷ orders_of_power power os) (orders_of_power power os))
    go true is rest = (eqb-true o.unit.power power is, rest)
    go false is rest = rest

all_joined : {A : Type 0} (P : A → Type 0) (xs ys : List A) → AllByRecursion P xs → AllByRecursion P ys → AllByRecursion P (xs ++ ys)
all_joined P [] ys one two = two
all_joined P (x ∷ xs) ys one two = (one.0, all_joined P xs ys one.1 two)

-- an order comes before its power's later ones, and before those of later powers
before_rest : (p : ℕ) (o : PlacedOrder) (xs ys : List PlacedOrder) → o.unit.power ≡ p → AreOf p xs → AllByRecursion (λ q. prov_of o < q) (map prov_of xs)
    → AllByRecursion (λ y. p < y.unit.power) ys → list_all (comes_before o) (xs ++ ys) ≡ true
before_rest p o [] [] his own up later = refl
before_rest p o [] (y ∷ ys) his own up later =
    let this : comes_before o y ≡ true = grind (arith, his, later.0) in
    and_from (comes_before o y) (list_all (comes_before o) ys) this (before_rest p o [] ys his tt tt later.1)
before_rest p o (x ∷ xs) ys his own up later =
    let this : comes_before o x ≡ true = grind (arith, his, own.0, up.0) in
    and_from (comes_before o x) (list_all (comes_before o) (xs ++ ys)) this (before_rest p o xs ys his own.1 up.1 later)

placed_before : (p : ℕ) (xs ys : List PlacedOrder) → AreOf p xs → AreAscending (map prov_of xs) → AllByRecursion (λ y. p < y.unit.power) ys
    → are_by_place ys ≡ true → are_by_place (xs ++ ys) ≡ true
placed_before p [] ys own up later placed = placed
placed_before p (x ∷ xs) ys own up later placed =
    and_from (list_all (comes_before x) (xs ++ ys)) (are_by_place (xs ++ ys)) (before_rest p x xs ys own.0 own.1 up.0 later) (placed_before p xs ys own.1 up.1 later placed)

module _ (orders : List PlacedOrder) (each : (q : ℕ) → AreAscending (map prov_of (orders_of_power q orders))) where
  later_powers : (p i n : ℕ) → p < i → AllByRecursion (λ y. p < y.unit.power) (from_power orders i n)
  later_powers p i zero low = tt
  later_powers p i (suc n) low =
      all_joined (λ y. p < y.unit.power) (orders_of_power i orders) (from_power orders (i + 1) n)
      (all_weaker (λ y. y.unit.power ≡ i) (λ y. p < y.unit.power) (orders_of_power i orders) (λ y is. omega (arith, low, is)) (of_power_are i orders))
      (later_powers p (i + 1) n (omega (arith, low)))

  placed_from : (i n : ℕ) → are_by_place (from_power orders i n) ≡ true
  placed_from i zero = refl
  placed_from i (suc n) =
      placed_before i (orders_of_power i orders) (from_power orders (i + 1) n) (of_power_are i orders) (each i) (later_powers i (i + 1) n (omega arith)) (placed_from (i + 1) n)

pub whole_placed : (m : Chart) (g : Game) → AreRead m g.public.board → IsLawfulGame m g → are_by_place (orders_of m (whole_of g)) ≡ true
whole_placed m g read l = placed_from (orders_of_seats m b (map (λ s. s.own) g.seats)) each 0 (length m.realms)
  where
    b : Position
    b = g.public.board

    orders : Part → List PlacedOrder
    orders o = orders_that_stand m b (power_in o) o.own.pending

    own : AllByRecursion (λ (o : Part). AreOf (power_in o) (orders o)) g.seats
    own = all_weaker (IsLawfulSeat m b) (λ o. AreOf (power_in o) (orders o)) g.seats
        (λ o s. subst (AreOf (power_in o)) (sym (standing_is m b (power_in o) o.own.pending read s.pending))
        (all_weaker (λ p. order_of m b (power_in o) s.pending.orders (order_text m p) ≡ Ok p) (λ p. p.unit.power ≡ power_in o) s.pending.orders
        (λ p is. allowed_power m b (power_in o) s.pending.orders p.unit p.order (read.lawful (power_in o) s.pending.orders (order_text m p) p is)) s.pending.each)) l.seats

    up : (q : ℕ) → AreAscending (map prov_of (orders_of_power q (flat_map orders g.seats)))
    up q = somebodys power_in orders (λ os. AreAscending (map prov_of os)) q g.seats own tt
        (all_weaker (IsLawfulSeat m b) (λ o. power_in o ≡ q → AreAscending (map prov_of (orders o))) g.seats
        (λ o s is. subst (λ (os : List PlacedOrder). AreAscending (map prov_of os)) (sym (standing_is m b (power_in o) o.own.pending read s.pending)) s.pending.ascending) l.seats)
        (few m g l q)

    each : (q : ℕ) → AreAscending (map prov_of (orders_of_power q (orders_of_seats m b (map (λ s. s.own) g.seats))))
    each q = subst (λ (os : List PlacedOrder). AreAscending (map prov_of (orders_of_power q os))) (sym (whole_orders m b g.seats)) (up q)

pub all_placed : (m : Chart) → ((b : Position) → IsOf m b → AreRead m b) → StandingOrdersComeByPlace m
all_placed m read s l = all_weaker (IsLawfulGame m) (λ g. are_by_place (orders_of m (whole_of g)) ≡ true) s.games (λ g lawful. whole_placed m g (read g.public.board lawful.public.board) lawful) l.games

pub all_given : (m : Chart) → ((b : Position) → IsOf m b → AreRead m b) → StandingOrdersAreGiven m
all_given m read s l = all_weaker (IsLawfulGame m) (λ g. AreGiven m g.public.board (orders_of m (whole_of g))) s.games (λ g lawful. whole_given m g (read g.public.board lawful.public.board) lawful) l.games
