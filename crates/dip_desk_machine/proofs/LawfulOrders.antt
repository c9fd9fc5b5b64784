-- Standing orders stand together.
use Rattle.std.proofs.Common.{◌≡◌, ℕ, ◌==◌, ◌<◌, ◌≤◌, ◌+◌, ◌&&◌, Bool, true, false, cond, List, [], ◌∷◌, ◌++◌, append-nil, append_assoc, map, refl, sym, ap, subst, ◌∙◌, arith, Result, Ok, Err}
use Rattle.std.proofs.lemmas.Bool.{eqb-true, eqb-false, lt-ltb, ltb-true, ltb-false}
use Rattle.std.specs.Prelude.{nat_lt, not, count_by}
use Rattle.std.specs.List.{AllByRecursion}
use Rattle.dip_map.specs.Boards.{Position}
use Rattle.dip_map.specs.Charts.{Chart}
use Rattle.dip_names.specs.declared.names.Unit.{Unit as AUnit}
use Rattle.dip_orders_placed.proofs.KeptLaws.{count_cons}
use Rattle.dip_orders_placed.specs.Allowances.{builds_due, removals_due}
use Rattle.dip_orders.specs.Conditions.{is_build, is_remove}
use Rattle.dip_orders.specs.Lawful.{IsAllowed}
use Rattle.dip_orders.specs.Reading.{order_of}
use Rattle.dip_orders.specs.Texts.{order_text}
use Rattle.dip_orders.specs.declared.faults.OrderFault.{OrderFault}
use Rattle.dip_orders_placed.specs.declared.placed.Order.{Order}
use Rattle.dip_orders_placed.specs.declared.placed.Order.TheVariants.{Hold, Move, SupportHold, SupportMove, Convoy, Retreat, Disband, Build, Remove}
use Rattle.dip_orders_placed.specs.declared.placed.PlacedOrder.{PlacedOrder}
use Rattle.dip_desk_state.specs.Records.{Standing}
use Rattle.dip_desk_machine.specs.Lawful.{AreStanding}
use Rattle.dip_desk_state.specs.Fitting.{AreAscending}
use Rattle.dip_desk_games.specs.Ordering.{Ordered, after_line, after_lines, has_foreign, kept_orders, outcome_of_lines, orders_after, prov_of, orders_that_stand, standing_with, with_order}
use Rattle.dip_desk_games.proofs.ListLemmas.{all_weaker}
use Rattle.dip_desk_machine.proofs.Counting.{all_both, each_but_itself, elsewhere, elsewhere_all, elsewhere_but_one, elsewhere_few, kind_apart, one, unlike}

-- how orders on a board are read: what is read is lawful, what is lawful is read from its text, and what is read beside others is
-- read alone
pub record AreRead (m : Chart) (b : Position) : Type 0 where
  pub lawful : (power : ℕ) (beside : List PlacedOrder) (line : List ℕ) (o : PlacedOrder) → order_of m b power beside line ≡ Ok o → IsAllowed m b power beside o.unit o.order
  pub read : (power : ℕ) (beside : List PlacedOrder) (o : PlacedOrder) → IsAllowed m b power beside o.unit o.order → order_of m b power beside (order_text m o) ≡ Ok o
  pub alone : (power : ℕ) (beside : List PlacedOrder) (line : List ℕ) (o : PlacedOrder) → order_of m b power beside line ≡ Ok o → order_of m b power [] line ≡ Ok o

-- by province

pub all_with_order : (P : PlacedOrder → Type 0) (o : PlacedOrder) (ps : List PlacedOrder) → P o → AllByRecursion P ps → AllByRecursion P (with_order o ps)
all_with_order P o [] one all = (one, tt)
all_with_order P o (p ∷ ps) one all =
    let here : (b : Bool) → AllByRecursion P (cond b (o ∷ ps) (o ∷ p ∷ ps)) =
    elim [
      | true ↦ (one, all.1)
      | false ↦ (one, all)
    ]
    in
    let go : (a : Bool) → AllByRecursion P (cond a (p ∷ with_order o ps) (cond (prov_of p == prov_of o) (o ∷ ps) (o ∷ p ∷ ps))) =
    elim [
      | true ↦ (all.0, all_with_order P o ps one all.1)
      | false ↦ here (prov_of p == prov_of o)
    ]
    in go (nat_lt (prov_of p) (prov_of o))

below_all : (p : ℕ) (o : PlacedOrder) (ps : List PlacedOrder) → p < prov_of o → AllByRecursion (λ q. p < q) (map prov_of ps) → AllByRecursion (λ q. p < q) (map prov_of (with_order o ps))
below_all p o [] lt all = (lt, tt)
below_all p o (r ∷ rs) lt all = go (nat_lt (prov_of r) (prov_of o)) (below_all p o rs lt all.1)
  where
    here : (b : Bool) → AllByRecursion (λ q. p < q) (map prov_of (cond b (o ∷ rs) (o ∷ r ∷ rs)))
    here true = (lt, all.1)
    here false = (lt, (all.0, all.1))

    go : (a : Bool) → AllByRecursion (λ q. p < q) (map prov_of (with_order o rs))
        → AllByRecursion (λ q. p < q) (map prov_of (cond a (r ∷ with_order o rs) (cond (prov_of r == prov_of o) (o ∷ rs) (o ∷ r ∷ rs))))
    go true rest = (all.0, rest)
    go false rest = here (prov_of r == prov_of o)

all_above : (p q : ℕ) (ps : List ℕ) → p < q → AllByRecursion (λ r. q < r) ps → AllByRecursion (λ r. p < r) ps
all_above p q [] lt all = tt
all_above p q (r ∷ rs) lt all = let first : q < r = all.0 in (omega (arith, lt, first), all_above p q rs lt all.1)

pub with_order_ascending : (o : PlacedOrder) (ps : List PlacedOrder) → AreAscending (map prov_of ps) → AreAscending (map prov_of (with_order o ps))
with_order_ascending o [] all = (tt, tt)
with_order_ascending o (r ∷ rs) all = go (nat_lt (prov_of r) (prov_of o)) refl (with_order_ascending o rs all.1)
  where
    here : (b : Bool) → (prov_of r == prov_of o) ≡ b → nat_lt (prov_of r) (prov_of o) ≡ false → AreAscending (map prov_of (cond b (o ∷ rs) (o ∷ r ∷ rs)))
    here true same not_less = let is : prov_of r ≡ prov_of o = eqb-true (prov_of r) (prov_of o) same in
        (subst (λ (q : ℕ). AllByRecursion (λ (x : ℕ). q < x) (map prov_of rs)) is all.0, all.1)
    here false differ not_less =
        let less : prov_of o < prov_of r = omega (arith, ltb-false (prov_of r) (prov_of o) not_less, eqb-false (prov_of r) (prov_of o) differ) in
        ((less, all_above (prov_of o) (prov_of r) (map prov_of rs) less all.0), (all.0, all.1))

    go : (a : Bool) → nat_lt (prov_of r) (prov_of o) ≡ a → AreAscending (map prov_of (with_order o rs)) → AreAscending (map prov_of (cond a (r ∷ with_order o rs) (cond (prov_of r == prov_of o) (o ∷ rs) (o ∷ r ∷ rs))))
    go true less rest = (below_all (prov_of r) o rs (ltb-true (prov_of r) (prov_of o) less) all.0, rest)
    go false not_less rest = here (prov_of r == prov_of o) refl not_less

-- builds and removals are no more than are due

abbrev builds : PlacedOrder → Bool
builds o = is_build o.order

abbrev removals : PlacedOrder → Bool
removals o = is_remove o.order

-- a build leaves fewer builds elsewhere than are due
build_due : (m : Chart) (b : Position) (power : ℕ) (beside : List PlacedOrder) (u : AUnit) (o : Order) → IsAllowed m b power beside u o → is_build o ≡ true
    → elsewhere prov_of builds u.place.prov beside < builds_due m b power
build_due m b power beside u Hold h is = absurd (cc)
build_due m b power beside u (Move to via) h is = absurd (cc)
build_due m b power beside u (SupportHold at) h is = absurd (cc)
build_due m b power beside u (SupportMove at to) h is = absurd (cc)
build_due m b power beside u (Convoy at to) h is = absurd (cc)
build_due m b power beside u (Retreat to) h is = absurd (cc)
build_due m b power beside u Disband h is = absurd (cc)
build_due m b power beside u Build h is = h.1.due
build_due m b power beside u Remove h is = absurd (cc)

-- so does a removal
removal_due : (m : Chart) (b : Position) (power : ℕ) (beside : List PlacedOrder) (u : AUnit) (o : Order) → IsAllowed m b power beside u o → is_remove o ≡ true
    → elsewhere prov_of removals u.place.prov beside < removals_due b power
removal_due m b power beside u Hold h is = absurd (cc)
removal_due m b power beside u (Move to via) h is = absurd (cc)
removal_due m b power beside u (SupportHold at) h is = absurd (cc)
removal_due m b power beside u (SupportMove at to) h is = absurd (cc)
removal_due m b power beside u (Convoy at to) h is = absurd (cc)
removal_due m b power beside u (Retreat to) h is = absurd (cc)
removal_due m b power beside u Disband h is = absurd (cc)
removal_due m b power beside u Build h is = absurd (cc)
removal_due m b power beside u Remove h is = h.1.due

-- an order that is lawful beside none is lawful beside these, where fewer of its kind stand elsewhere than are due
beside_these : (m : Chart) (b : Position) (power : ℕ) (beside : List PlacedOrder) (u : AUnit) (o : Order) → IsAllowed m b power [] u o
    → (is_build o ≡ true → elsewhere prov_of builds u.place.prov beside < builds_due m b power)
    → (is_remove o ≡ true → elsewhere prov_of removals u.place.prov beside < removals_due b power) → IsAllowed m b power beside u o
beside_these m b power beside u Hold h few less = h
beside_these m b power beside u (Move to via) h few less = h
beside_these m b power beside u (SupportHold at) h few less = h
beside_these m b power beside u (SupportMove at to) h few less = h
beside_these m b power beside u (Convoy at to) h few less = h
beside_these m b power beside u (Retreat to) h few less = h
beside_these m b power beside u Disband h few less = h
beside_these m b power beside u Build h few less = (h.0, record { power = h.1.power; home = h.1.home; place = h.1.place; due = few refl })
beside_these m b power beside u Remove h few less = (h.0, record { unit = h.1.unit; due = less refl })

-- where each of a kind leaves fewer elsewhere than are due, there are no more than are due
kind_due : (kind : PlacedOrder → Bool) (due : ℕ) (all : List PlacedOrder) → AreAscending (map prov_of all) → (os : List PlacedOrder)
    → AllByRecursion (λ o. kind o ≡ true → elsewhere prov_of kind (prov_of o) all < due) os → (count_by kind os ≡ 0 → count_by kind all ≡ 0) → count_by kind all ≤ due
kind_due kind due all up [] each none = let is : count_by kind all ≡ 0 = none refl in omega (arith, is)
kind_due kind due all up (o ∷ os) each none = go (kind o) refl (kind_due kind due all up os each.1)
  where
    go : (c : Bool) → kind o ≡ c → ((count_by kind os ≡ 0 → count_by kind all ≡ 0) → count_by kind all ≤ due) → count_by kind all ≤ due
    go true is rest =
        let less : elsewhere prov_of kind (prov_of o) all < due = each.0 is in
        let most : count_by kind all ≤ elsewhere prov_of kind (prov_of o) all + 1 = elsewhere_but_one prov_of kind (prov_of o) all up in
        omega (arith, less, most)
    go false is rest =
        let head = count_cons kind o os in
        let off : one (kind o) ≡ 0 = ap one is in
        rest (λ empty. none (omega (arith, head, off, empty)))

-- with one more order there are no more than stand elsewhere, and itself
with_order_count : (kind : PlacedOrder → Bool) (o : PlacedOrder) (ps : List PlacedOrder) → AreAscending (map prov_of ps)
    → count_by kind (with_order o ps) ≤ elsewhere prov_of kind (prov_of o) ps + one (kind o)
with_order_count kind o [] up = let head = count_cons kind o [] in omega (arith, head)
with_order_count kind o (p ∷ ps) up = go (nat_lt (prov_of p) (prov_of o)) refl (with_order_count kind o ps up.1)
  where
    head : elsewhere prov_of kind (prov_of o) (p ∷ ps) ≡ one (kind p && not (prov_of p == prov_of o)) + elsewhere prov_of kind (prov_of o) ps
    head = count_cons (λ x. kind x && not (prov_of x == prov_of o)) p ps

    here : (c : Bool) → (prov_of p == prov_of o) ≡ c → nat_lt (prov_of p) (prov_of o) ≡ false
        → count_by kind (cond c (o ∷ ps) (o ∷ p ∷ ps)) ≤ elsewhere prov_of kind (prov_of o) (p ∷ ps) + one (kind o)
    here true same not_less =
        let is : prov_of p ≡ prov_of o = eqb-true (prov_of p) (prov_of o) same in
        let rest : elsewhere prov_of kind (prov_of o) ps ≡ count_by kind ps = elsewhere_all prov_of kind (prov_of o) ps (subst (λ (q : ℕ). AllByRecursion (λ (x : ℕ). q < x) (map prov_of ps)) is up.0) in
        let first = count_cons kind o ps in
        omega (arith, head, first, rest)
    here false differ not_less =
        let less : prov_of o < prov_of p = omega (arith, ltb-false (prov_of p) (prov_of o) not_less, eqb-false (prov_of p) (prov_of o) differ) in
        let rest : elsewhere prov_of kind (prov_of o) ps ≡ count_by kind ps = elsewhere_all prov_of kind (prov_of o) ps (all_above (prov_of o) (prov_of p) (map prov_of ps) less up.0) in
        let this : one (kind p && not (prov_of p == prov_of o)) ≡ one (kind p) = kind_apart (kind p) (prov_of p == prov_of o) differ in
        let first = count_cons kind o (p ∷ ps) in
        let next = count_cons kind p ps in
        omega (arith, head, first, next, rest, this)

    go : (a : Bool) → nat_lt (prov_of p) (prov_of o) ≡ a → count_by kind (with_order o ps) ≤ elsewhere prov_of kind (prov_of o) ps + one (kind o)
        → count_by kind (cond a (p ∷ with_order o ps) (cond (prov_of p == prov_of o) (o ∷ ps) (o ∷ p ∷ ps))) ≤ elsewhere prov_of kind (prov_of o) (p ∷ ps) + one (kind o)
    go true less rest =
        let lt : prov_of p < prov_of o = ltb-true (prov_of p) (prov_of o) less in
        let this : one (kind p && not (prov_of p == prov_of o)) ≡ one (kind p) = kind_apart (kind p) (prov_of p == prov_of o) (unlike (prov_of p) (prov_of o) lt) in
        let first = count_cons kind p (with_order o ps) in
        omega (arith, head, first, rest, this)
    go false not_less rest = here (prov_of p == prov_of o) refl not_less

-- what keeps orders together: they are by province, each is lawful by itself, and no more builds and removals than are due
pub record AreTogether (m : Chart) (b : Position) (power : ℕ) (orders : List PlacedOrder) : Type 0 where
  pub ascending : AreAscending (map prov_of orders)
  pub alone : AllByRecursion (λ o. IsAllowed m b power [] o.unit o.order) orders
  pub built : count_by builds orders ≤ builds_due m b power
  pub removed : count_by removals orders ≤ removals_due b power

abbrev IsBeside : Chart → Position → ℕ → List PlacedOrder → PlacedOrder → Type 0
IsBeside m b power beside o = order_of m b power beside (order_text m o) ≡ Ok o

-- orders each of which can be given beside them all keep together
together : (m : Chart) (b : Position) (power : ℕ) (orders : List PlacedOrder) → AreRead m b → AreAscending (map prov_of orders) → AllByRecursion (IsBeside m b power orders) orders
    → AreTogether m b power orders
together m b power orders read up each = record {
  ascending = up;
  alone = all_weaker (IsBeside m b power orders) (λ o. IsAllowed m b power [] o.unit o.order) orders
      (λ o is. read.lawful power [] (order_text m o) o (read.alone power orders (order_text m o) o is)) each;
  built = kind_due builds (builds_due m b power) orders up orders
      (all_weaker (IsBeside m b power orders) (λ o. builds o ≡ true → elsewhere prov_of builds (prov_of o) orders < builds_due m b power) orders
      (λ o is. build_due m b power orders o.unit o.order (read.lawful power orders (order_text m o) o is)) each) (λ none. none);
  removed = kind_due removals (removals_due b power) orders up orders
      (all_weaker (IsBeside m b power orders) (λ o. removals o ≡ true → elsewhere prov_of removals (prov_of o) orders < removals_due b power) orders
      (λ o is. removal_due m b power orders o.unit o.order (read.lawful power orders (order_text m o) o is)) each) (λ none. none);
}

-- fewer elsewhere than are due
fewer : (few count due : ℕ) (b : Bool) → few + one b ≤ count → count ≤ due → b ≡ true → few < due
fewer few count due true less most is = omega (arith, less, most)
fewer few count due false less most is = absurd (cc)

-- and the other way round
each_beside : (m : Chart) (b : Position) (power : ℕ) (orders : List PlacedOrder) → AreRead m b → AreTogether m b power orders → AllByRecursion (IsBeside m b power orders) orders
each_beside m b power orders read t =
    all_both (λ o. IsAllowed m b power [] o.unit o.order)
    (λ o. (builds o ≡ true → elsewhere prov_of builds (prov_of o) orders < builds_due m b power) × (removals o ≡ true → elsewhere prov_of removals (prov_of o) orders < removals_due b power))
    (IsBeside m b power orders) orders
    (λ o alone few. read.read power orders o (beside_these m b power orders o.unit o.order alone few.0 few.1)) t.alone
    (all_both (λ o. elsewhere prov_of builds (prov_of o) orders + one (builds o) ≤ count_by builds orders)
    (λ o. elsewhere prov_of removals (prov_of o) orders + one (removals o) ≤ count_by removals orders)
    (λ o. (builds o ≡ true → elsewhere prov_of builds (prov_of o) orders < builds_due m b power) × (removals o ≡ true → elsewhere prov_of removals (prov_of o) orders < removals_due b power)) orders
    (λ o some others. (
      fewer (elsewhere prov_of builds (prov_of o) orders) (count_by builds orders) (builds_due m b power) (builds o) some t.built,
      fewer (elsewhere prov_of removals (prov_of o) orders) (count_by removals orders) (removals_due b power) (removals o) others t.removed,
    ))
    (each_but_itself prov_of builds orders) (each_but_itself prov_of removals orders))

-- no more than are due with one that is allowed beside them
with_one : (new few count due : ℕ) (b : Bool) → new ≤ few + one b → few ≤ count → count ≤ due → (b ≡ true → few < due) → new ≤ due
with_one new few count due true more less most allowed = let lt : few < due = allowed refl in omega (arith, more, lt)
with_one new few count due false more less most allowed = omega (arith, more, less, most)

-- orders keep together with one more that can be given beside them
order_together : (m : Chart) (b : Position) (power : ℕ) (line : List ℕ) (o : PlacedOrder) (orders : List PlacedOrder) → AreRead m b → order_of m b power orders line ≡ Ok o
    → AreTogether m b power orders → AreTogether m b power (with_order o orders)
order_together m b power line o orders read is t =
    let beside = read.lawful power orders line o is in
    record {
      ascending = with_order_ascending o orders t.ascending;
      alone = all_with_order (λ p. IsAllowed m b power [] p.unit p.order) o orders (read.lawful power [] line o (read.alone power orders line o is)) t.alone;
      built = with_one (count_by builds (with_order o orders)) (elsewhere prov_of builds (prov_of o) orders) (count_by builds orders) (builds_due m b power) (builds o)
          (with_order_count builds o orders t.ascending) (elsewhere_few prov_of builds (prov_of o) orders) t.built (build_due m b power orders o.unit o.order beside);
      removed = with_one (count_by removals (with_order o orders)) (elsewhere prov_of removals (prov_of o) orders) (count_by removals orders) (removals_due b power) (removals o)
          (with_order_count removals o orders t.ascending) (elsewhere_few prov_of removals (prov_of o) orders) t.removed (removal_due m b power orders o.unit o.order beside);
    }

-- what is kept of orders that can be given by themselves is read as these orders
standing_kept : (m : Chart) (b : Position) (power : ℕ) (orders : List PlacedOrder) → AreAscending (map prov_of orders) → AllByRecursion (IsBeside m b power []) orders
    → orders_that_stand m b power (kept_orders m orders) ≡ orders
standing_kept m b power orders up all = kept_with_front [] orders up all
  where
    -- an order after all others
    last : (o : PlacedOrder) (ps : List PlacedOrder) → AllByRecursion (λ p. prov_of p < prov_of o) ps → with_order o ps ≡ ps ++ o ∷ []
    last o [] before = refl
    last o (p ∷ ps) before = rw (lt-ltb (prov_of p) (prov_of o) before.0) (ap (λ (qs : List PlacedOrder). p ∷ qs) (last o ps before.1))

    among : (p : ℕ) (o : PlacedOrder) (front os : List PlacedOrder) → AllByRecursion (λ q. p < q) (map prov_of (front ++ o ∷ os)) → p < prov_of o
    among p o [] os above = above.0
    among p o (f ∷ fs) os above = among p o fs os above.1

    before : (o : PlacedOrder) (front os : List PlacedOrder) → AreAscending (map prov_of (front ++ o ∷ os)) → AllByRecursion (λ p. prov_of p < prov_of o) front
    before o [] os up = tt
    before o (f ∷ fs) os up = (among (prov_of f) o fs os up.0, before o fs os up.1)

    kept_with_front : (front orders : List PlacedOrder) → AreAscending (map prov_of (front ++ orders)) → AllByRecursion (IsBeside m b power []) orders
        → standing_with m b power front (kept_orders m orders) ≡ front ++ orders
    kept_with_front front [] up all = sym (append-nil front)
    kept_with_front front (o ∷ os) up all =
        let read : order_of m b power [] (order_text m o) ≡ Ok o = all.0 in
        let apart : (front ++ o ∷ []) ++ os ≡ front ++ o ∷ os = append_assoc front (o ∷ []) os in
        ap (λ (r : Result PlacedOrder OrderFault). standing_with m b power (orders_after r front) (kept_orders m os)) read
        ∙ ap (λ (ps : List PlacedOrder). standing_with m b power ps (kept_orders m os)) (last o front (before o front os up))
        ∙ kept_with_front (front ++ o ∷ []) os (subst (λ (ps : List PlacedOrder). AreAscending (map prov_of ps)) (sym apart) up) all.1 ∙ apart

own_kept : (m : Chart) (b : Position) (power : ℕ) (orders : List PlacedOrder) → AllByRecursion (IsBeside m b power []) orders → has_foreign m b power (kept_orders m orders) ≡ false
own_kept m b power [] all = refl
own_kept m b power (o ∷ os) all =
    let read : order_of m b power [] (order_text m o) ≡ Ok o = all.0 in
    rw read (own_kept m b power os all.1)

alone_too : (m : Chart) (b : Position) (power : ℕ) (beside orders : List PlacedOrder) → AreRead m b → AllByRecursion (IsBeside m b power beside) orders → AllByRecursion (IsBeside m b power []) orders
alone_too m b power beside orders read each = all_weaker (IsBeside m b power beside) (IsBeside m b power []) orders (λ o is. read.alone power beside (order_text m o) o is) each

-- orders that stand together are no foreign ones
pub standing_own : (m : Chart) (b : Position) (power : ℕ) (kept : List Standing) → AreRead m b → AreStanding m b power kept → has_foreign m b power kept ≡ false
standing_own m b power kept read s = ap (has_foreign m b power) s.lines ∙ own_kept m b power s.orders (alone_too m b power s.orders s.orders read s.each)

line_together : (m : Chart) (b : Position) (power : ℕ) (line : List ℕ) (orders : List PlacedOrder) → AreRead m b → AreTogether m b power orders
    → AreTogether m b power (orders_after (order_of m b power orders line) orders)
line_together m b power line orders read t = go (order_of m b power orders line) refl
  where
    go : (r : Result PlacedOrder OrderFault) → order_of m b power orders line ≡ r → AreTogether m b power (orders_after r orders)
    go (Ok o) is = order_together m b power line o orders read is t
    go (Err fault) is = t

lines_together : (m : Chart) (b : Position) (power number : ℕ) (lines : List (List ℕ)) (so_far : Ordered) → AreRead m b → AreTogether m b power so_far.orders
    → AreTogether m b power (after_lines m b power number lines so_far).orders
lines_together m b power number [] so_far read t = t
lines_together m b power number (line ∷ lines) so_far read t =
    lines_together m b power (number + 1) lines (after_line m number (order_of m b power so_far.orders line) so_far) read (line_together m b power line so_far.orders read t)

-- what ORDERS leaves stands together
pub ordered_standing : (m : Chart) (b : Position) (power : ℕ) (pending : List Standing) (lines : List (List ℕ)) → AreRead m b → AreStanding m b power pending
    → AreStanding m b power (kept_orders m (outcome_of_lines m b power pending lines).orders)
ordered_standing m b power pending lines read s =
    let first : orders_that_stand m b power pending ≡ s.orders = ap (orders_that_stand m b power) s.lines ∙ standing_kept m b power s.orders s.ascending (alone_too m b power s.orders s.orders read s.each) in
    let t : AreTogether m b power (outcome_of_lines m b power pending lines).orders =
    lines_together m b power 1 lines (record { orders = orders_that_stand m b power pending; answers = [] }) read
    (subst (AreTogether m b power) (sym first) (together m b power s.orders read s.ascending s.each)) in
    record {
      orders = (outcome_of_lines m b power pending lines).orders;
      lines = refl;
      ascending = t.ascending;
      each = each_beside m b power (outcome_of_lines m b power pending lines).orders read t;
    }

-- what is kept of orders that stand together is read as these orders
pub standing_is : (m : Chart) (b : Position) (power : ℕ) (kept : List Standing) → AreRead m b → (s : AreStanding m b power kept) → orders_that_stand m b power kept ≡ s.orders
standing_is m b power kept read s = ap (orders_that_stand m b power) s.lines ∙ standing_kept m b power s.orders s.ascending (alone_too m b power s.orders s.orders read s.each)
