-- The lists of a resolution, and what they say together.
use Rattle.std.proofs.Common.{◌≡◌, ℕ, ◌≤◌, ◌<◌, ◌+◌, ◌^◌, List, [], ◌∷◌, length, All, refl, sym, subst, ap, ◌∙◌, append-nil, inl, inr, zero, suc, arith}
use Rattle.std.specs.Prelude.{◌==◌, nat_lt, Bool, true, false, ◌&&◌, ◌||◌, filter, None, Some}
use Rattle.std.specs.List.{list_any, list_all, range_with_len, AllByRecursion}
use Rattle.std.proofs.lemmas.Bool.{cases_Bool, both_ways, cases_lt, or_cases, eqb-true, or_left, or_right, and_parts, ltb-true}
use Rattle.std.proofs.lemmas.Bool.Decides.{nat_tests}
use Rattle.std.proofs.Math.Path.{fun_ext}
use mathlib.Core.Logic.{◌⊎◌}
use Rattle.std.proofs.lemmas.List.Elements.{All-from_recursion, recursion_from_All}
use Rattle.dip_names.specs.declared.names.Kind.{Kind}
use Rattle.dip_names.specs.declared.names.Kind.TheVariants.{Army, Fleet}
use Rattle.dip_names.specs.declared.names.Place.{Place}
use Rattle.dip_map.specs.Boards.{Position, IsOf, are_ascending}
use Rattle.dip_map.specs.Charts.{Chart, may_stand, is_unit, are_provs_single}
use Rattle.dip_orders_placed.specs.Standing.{units_of, are_in_force}
use Rattle.dip_decide_rules.specs.declared.decisions.Resolution.{Resolution}
use Rattle.dip_decide_rules.specs.Deciding as Deciding
use Rattle.dip_decide_rules.specs.Deciding.Step.{Forced as Forces, Circle as Circles, Knot as Knots}
use Rattle.dip_decide_rules.specs.Matching.{order_at, provinces_of, supports_in, situation}
use Rattle.dip_decide_rules.specs.Meaning.{meant_on, situation_on}
use Rattle.dip_decide_rules.proofs.Meanings.{meant_in_force, meant_units}
use Rattle.dip_decide_rules.proofs.TableLaws.{none_behind}
use Rattle.dip_decide_rules.proofs.FromSteps.{known_unbroken, satisfied, knot_open}
use Rattle.dip_decide_rules.proofs.Continuing.{give_grows}
use Rattle.dip_decide_rules.proofs.Counting.{open_among, fewer}
use Rattle.dip_decide_rules.proofs.OneAnswer.{open_one, same_self, one_answer}
use Rattle.dip_decide_rules.proofs.Progress.{no_more, listed_decision, arrives}
use Rattle.dip_decide_rules.proofs.Rises.{count_le}
use Rattle.dip_decide_rules.proofs.Rounds.{knotted}
use Rattle.dip_decide.proofs.Situated.{situated}
use Rattle.dip_orders_placed.specs.declared.placed.PlacedOrder.{PlacedOrder}
use Rattle.dip_decide_rules.specs.declared.decisions.Decision.{Decision}
use Rattle.dip_decide_rules.specs.declared.decisions.Decision.TheVariants.{Move, Path, Support}
use Rattle.dip_decide_rules.specs.declared.decisions.Step as Written
use Rattle.dip_decide_rules.specs.declared.decisions.Step.TheVariants.{Forced, Circle, Knot}
use Rattle.dip_decide_rules.specs.Deciding.{Known, Assignment, is_among, is_broken, IsCompletion, Explains, IsCircle, IsKnot, give}
use Rattle.dip_decide_rules.specs.Movement.{Situation, IsSituation, is_listed, is_decided, at_first, rule, mentions, Satisfies}
use Rattle.dip_decide_rules.specs.Results.{is_true, breaks, AreInOrder, AreExplained, IsOnly, values_in, broken_in, decided_in, mentions_in, IsListing}
use Rattle.dip_decide_rules.specs.Steps.{moves_of, paths_of, decisions, is_unknown, steps_of, IsStarted, Advances, IsComplete}
use Rattle.dip_decide_rules.proofs.ChainLaws.{listed_kept}
use Rattle.dip_decide_rules.proofs.Giving.{among_paths, single_moves}
use Rattle.dip_decide_rules.proofs.RingLaws.{among_moves, length_moves}
use Rattle.dip_decide.proofs.Tested.{bounded}

pub broken_any : (steps : List Written.Step) (p : ℕ) → is_broken (steps_of steps) (Path p) ≡ list_any (λ s. breaks s p) steps
broken_any [] p = refl
broken_any (Forced d ∷ steps) p = broken_any steps p
broken_any (Circle ps ∷ steps) p = broken_any steps p
broken_any (Knot ps ∷ steps) p = rw (among_paths ps.items p, broken_any steps p) refl

-- a number is counted where it is none before the first, and there are so many after it
listed_number : (a k p : ℕ) → a ≤ p → p < a + k → is_listed (range_with_len a k) p ≡ true
listed_number a zero p h l = absurd (omega (arith, h, l))
listed_number a (suc k) p h l = go (cases_Bool (a == p)) (λ g. listed_number (a + 1) k p g (omega (arith, l)))
  where
    go : ((a == p) ≡ true) ⊎ ((a == p) ≡ false) → (a + 1 ≤ p → is_listed (range_with_len (a + 1) k) p ≡ true) → (a == p || is_listed (range_with_len (a + 1) k) p) ≡ true
    go (inl e) _ = or_left _ _ e
    go (inr e) f = or_right (a == p) _ (f (grind (arith, nat_tests)))

-- the list of those of which something holds says it of each, where it holds of none after the provinces
pub listed_all : (t : ℕ → Bool) (n p : ℕ) → (n ≤ p → t p ≡ false) → is_listed (filter t (range_with_len 0 n)) p ≡ t p
listed_all t n p h = listed_kept t (range_with_len 0 n) p ∙ go (cases_lt p n)
  where
    right : (b : Bool) → (b && true) ≡ b
    right true = refl
    right false = refl

    go : (p < n) ⊎ (n ≤ p) → (t p && is_listed (range_with_len 0 n) p) ≡ t p
    go (inl l) = rw (listed_number 0 n p (omega arith) (omega (arith, l))) (right (t p))
    go (inr l) = rw (h l) refl

-- the numbers ascend, and so do those that are kept
ascending_above : (t : ℕ → Bool) (a k j : ℕ) → j < a → list_all (λ q. nat_lt j q) (filter t (range_with_len a k)) ≡ true
ascending_above t a zero j h = refl
ascending_above t a (suc k) j h = go (cases_Bool (t a)) (ascending_above t (a + 1) k j (omega (arith, h)))
  where
    go : (t a ≡ true) ⊎ (t a ≡ false) → list_all (λ q. nat_lt j q) (filter t (range_with_len (a + 1) k)) ≡ true → list_all (λ q. nat_lt j q) (filter t (range_with_len a (suc k))) ≡ true
    go (inl e) r = let l : nat_lt j a ≡ true = grind (arith, nat_tests) in rw (e, l, r) refl
    go (inr e) r = rw e r

pub ascending : (t : ℕ → Bool) (a k : ℕ) → are_ascending (filter t (range_with_len a k)) ≡ true
ascending t a zero = refl
ascending t a (suc k) = go (cases_Bool (t a)) (ascending t (a + 1) k)
  where
    go : (t a ≡ true) ⊎ (t a ≡ false) → are_ascending (filter t (range_with_len (a + 1) k)) ≡ true → are_ascending (filter t (range_with_len a (suc k))) ≡ true
    go (inl e) r = rw (e, ascending_above t (a + 1) k a (omega arith), r) refl
    go (inr e) r = rw e r

-- the values that are known in the end
abbrev pub known_values : Known → Assignment
known_values k d = is_true (k d)

abbrev pub IsBehind : Situation → Chart → Type 0
IsBehind s m = (p : ℕ) → length m.provinces ≤ p → (is_decided s (Move p) ≡ false) × (is_decided s (Path p) ≡ false) × (is_decided s (Support p) ≡ false)

known_right : (k : Known) → IsCompletion k (known_values k)
known_right k d v h = rw h refl

known_explained : (s : Situation) (steps : List Deciding.Step) (k : Known) → IsComplete s steps k → AreExplained s steps (known_values k)
known_explained s steps k c = rw (append-nil steps) at (c.explained.on (known_values k) [] (known_right k) (λ d. let v = c.all d in v.1 ∙ ap Some (sym (rw v.1 refl))))

module _ (s : Situation) (i : IsSituation s) (m : Chart) (behind : IsBehind s m) (steps : List Written.Step) (k : Known) (tests : ℕ) (c : IsComplete s (steps_of steps) k) (r : Resolution) (l : IsListing steps k tests m r) where
  first_known : (d : Decision) → is_decided s d ≡ false → k d ≡ Some false
  first_known d h = c.explained.grows d false (rw h refl)

  values_known : values_in r ≡ known_values k
  values_known = fun_ext go
    where
      go : (d : Decision) → values_in r d ≡ is_true (k d)
      go (Move p) = rw l.moves (listed_all (λ q. is_true (k (Move q))) (length m.provinces) p (λ h. rw (first_known (Move p) (behind p h).0) refl))
      go (Path p) = rw l.paths (listed_all (λ q. is_true (k (Path q))) (length m.provinces) p (λ h. rw (first_known (Path p) (behind p h).1) refl))
      go (Support p) = rw l.supports (listed_all (λ q. is_true (k (Support q))) (length m.provinces) p (λ h. rw (first_known (Support p) (behind p h).2) refl))

  pub explained : AreExplained s (steps_of steps) (values_in r)
  explained = rw values_known (known_explained s (steps_of steps) k c)

  no_move : (more : List Written.Step) (p : ℕ) → is_broken (steps_of more) (Move p) ≡ false
  no_move [] p = refl
  no_move (Forced d ∷ more) p = no_move more p
  no_move (Circle qs ∷ more) p = no_move more p
  no_move (Knot qs ∷ more) p = rw (apart qs.items, no_move more p) refl
    where
      apart : (qs : List ℕ) → is_among (Move p) (paths_of qs) ≡ false
      apart [] = refl
      apart (q ∷ qs) = apart qs

  no_support : (more : List Written.Step) (p : ℕ) → is_broken (steps_of more) (Support p) ≡ false
  no_support [] p = refl
  no_support (Forced d ∷ more) p = no_support more p
  no_support (Circle qs ∷ more) p = no_support more p
  no_support (Knot qs ∷ more) p = rw (apart qs.items, no_support more p) refl
    where
      apart : (qs : List ℕ) → is_among (Support p) (paths_of qs) ≡ false
      apart [] = refl
      apart (q ∷ qs) = apart qs

  pub broken : (d : Decision) → broken_in r d ≡ is_broken (steps_of steps) d
  broken (Move p) = sym (no_move steps p)
  broken (Support p) = sym (no_support steps p)
  broken (Path p) =
      rw l.broken (listed_all (λ q. list_any (λ x. breaks x q) steps) (length m.provinces) p (λ h. sym (broken_any steps p) ∙ known_unbroken (rule s) (mentions s) (values_in r) (Path p) false (steps_of steps) (at_first s) explained (rw (behind p h).1 refl))
      ∙ sym (broken_any steps p))

  pub equations : Satisfies s (broken_in r) (values_in r)
  equations d = rw (broken d) (satisfied s (steps_of steps) (values_in r) explained d)

  pub ordered : AreInOrder r
  ordered = (rw l.moves (ascending (λ q. is_true (k (Move q))) 0 (length m.provinces)), rw l.paths (ascending (λ q. is_true (k (Path q))) 0 (length m.provinces)), rw l.supports (ascending (λ q. is_true (k (Support q))) 0 (length m.provinces)), rw l.broken (ascending (λ q. list_any (λ x. breaks x q) steps) 0 (length m.provinces)))

-- units of a map stand in its provinces

place_within : (m : Chart) (kind : Kind) (a : Place) → may_stand m kind a ≡ true → a.prov < length m.provinces
place_within m Army a h = ltb-true _ _ (and_parts _ _ h).0
place_within m Fleet a h = ltb-true _ _ (and_parts _ _ h).0

orders_within : (m : Chart) (orders : List PlacedOrder) → AllByRecursion (λ u. is_unit m u ≡ true) (units_of orders) → AllByRecursion (λ o. o.unit.place.prov < length m.provinces) orders
orders_within m [] a = tt
orders_within m (o ∷ orders) a = (place_within m o.unit.kind o.unit.place (and_parts _ _ a.0).1, orders_within m orders a.1)

pub within : (m : Chart) (b : Position) (orders : List PlacedOrder) → IsOf m b → units_of orders ≡ b.units → All (λ o. o.unit.place.prov < length m.provinces) orders
within m b orders o e = All-from_recursion _ _ (orders_within m orders (recursion_from_All _ _ (rw (← e) at o.units)))

none_supported : (m : Chart) (orders : List PlacedOrder) (ps : List ℕ) → list_any (λ p. supports_in (order_at orders) None p) ps ≡ false
none_supported m orders [] = refl
none_supported m orders (p ∷ ps) = none_supported m orders ps

pub behind_all : (m : Chart) (orders : List PlacedOrder) → All (λ o. o.unit.place.prov < length m.provinces) orders → IsBehind (situation m orders) m
behind_all m orders a p h =
    let n : order_at orders p ≡ None = none_behind orders (length m.provinces) p (recursion_from_All _ _ a) h in
    (rw n refl, rw n refl, rw n (none_supported m orders (provinces_of orders)))

-- as many steps as decisions at most

advances : (s : Situation) → IsSituation s → (k : Known) → IsStarted s k → (ds : List Decision) (b : Bool) (d : Decision) → ((e : Decision) → is_among e ds ≡ true → k e ≡ None) → is_among d ds ≡ true → Advances (decisions s.places) k (give k ds b)
advances s i k z ds b d o h = record {
  grows = give_grows k ds b o;
  one = d;
  inside = listed_decision s i k z d (o d h);
  before = o d h;
  value = b;
  after = rw h refl;
}

started_on : (s : Situation) (k : Known) (ds : List Decision) (b : Bool) → IsStarted s k → ((e : Decision) → is_among e ds ≡ true → k e ≡ None) → IsStarted s (give k ds b)
started_on s k ds b z o d h = give_grows k ds b o d false (z d h)

circle_some : (s : Situation) (k : Known) (ds : List Decision) → IsCircle (rule s) k ds → (d : Decision) × (is_among d ds ≡ true)
circle_some s k [] c = absurd c.round
circle_some s k (d ∷ ds) c = (d, or_left _ _ (same_self d))

knot_some : (s : Situation) → IsSituation s → (k : Known) → IsStarted s k → (ds : List Decision) → IsKnot (rule s) (mentions s) k ds → (d : Decision) × (is_among d ds ≡ true)
knot_some s i k z ds n =
    let a = arrives s i k z n.stuck.none_forced n.stuck.no_circle n.stuck.some n.stuck.is_open in
    (a.path, (n.exact a.path).1 (knotted s i k z n.stuck.none_forced n.stuck.no_circle a.path a.is_open))

few_from : (s : Situation) → IsSituation s → (a : Assignment) (steps : List Deciding.Step) (k : Known) → IsStarted s k → Explains (rule s) (mentions s) k steps a → length steps ≤ open_among k (decisions s.places)
few_from s i a [] k z e = omega arith
few_from s i a (Forces d ∷ steps) k z e =
    let o = open_one k d e.0.is_open in
    let l = few_from s i a steps (give k (d ∷ []) (a d)) (started_on s k (d ∷ []) (a d) z o) e.1 in
    let f = fewer (decisions s.places) k (give k (d ∷ []) (a d)) (advances s i k z (d ∷ []) (a d) d o (or_left _ _ (same_self d))) in
    omega arith
few_from s i a (Circles ds ∷ steps) k z e =
    let c = circle_some s k ds e.0 in
    let l = few_from s i a steps (give k ds true) (started_on s k ds true z e.0.unknown) e.1 in
    let f = fewer (decisions s.places) k (give k ds true) (advances s i k z ds true c.0 e.0.unknown c.1) in
    omega arith
few_from s i a (Knots ds ∷ steps) k z e =
    let o = knot_open (rule s) (mentions s) k ds e.0 in
    let c = knot_some s i k z ds e.0 in
    let l = few_from s i a steps (give k ds false) (started_on s k ds false z o) e.1 in
    let f = fewer (decisions s.places) k (give k ds false) (advances s i k z ds false c.0 o c.1) in
    omega arith

open_first : (s : Situation) (d : Decision) → is_unknown (at_first s d) ≡ true → is_decided s d ≡ true
open_first s d h = go (is_decided s d) refl
  where
    go : (b : Bool) → is_decided s d ≡ b → is_decided s d ≡ true
    go true e = e
    go false e = absurd (both_ways false refl (rw e at h))

pub few : (s : Situation) → IsSituation s → (steps : List Deciding.Step) (a : Assignment) → AreExplained s steps a → length steps ≤ decided_in s
few s i steps a e =
    let l = few_from s i a steps (at_first s) (λ d h. rw h refl) e in
    let m : open_among (at_first s) (decisions s.places) ≤ decided_in s = count_le _ _ (decisions s.places) (open_first s) in
    omega arith

-- all of it together
pub record IsResolved (s : Situation) (r : Resolution) : Type 0 where
  pub equations : Satisfies s (broken_in r) (values_in r)
  pub explained : AreExplained s (steps_of r.steps.items) (values_in r)
  pub broken : (d : Decision) → broken_in r d ≡ is_broken (steps_of r.steps.items) d
  pub only : IsOnly s r
  pub few : length r.steps.items ≤ decided_in s
  pub ordered : AreInOrder r

length_steps : (steps : List Written.Step) → length (steps_of steps) ≡ length steps
length_steps [] = refl
length_steps (x ∷ steps) = ap suc (length_steps steps)

resolved : (s : Situation) → IsSituation s → (m : Chart) → IsBehind s m → (steps : List Written.Step) (k : Known) (tests : ℕ) → IsComplete s (steps_of steps) k → (r : Resolution) → IsListing steps k tests m r → IsResolved s r
resolved s i m behind steps k tests c r l =
    let e = explained s i m behind steps k tests c r l in
    let f = few s i (steps_of steps) (values_in r) e in
    let n = length_steps steps in
    let few_steps : length steps ≤ decided_in s = omega arith in
    record {
      equations = equations s i m behind steps k tests c r l;
      explained = subst (λ (x : List Written.Step). AreExplained s (steps_of x) (values_in r)) (sym l.steps) e;
      broken = subst (λ (x : List Written.Step). (d : Decision) → broken_in r d ≡ is_broken (steps_of x) d) (sym l.steps) (broken s i m behind steps k tests c r l);
      only = λ more a h d. let o = one_answer (rule s) (mentions s) (values_in r) a (steps_of steps) more (at_first s) e h in (o.values d, broken s i m behind steps k tests c r l d ∙ o.broken d);
      few = subst (λ (x : List Written.Step). length x ≤ decided_in s) (sym l.steps) few_steps;
      ordered = ordered s i m behind steps k tests c r l;
    }

-- the orders of a board as they are meant on it are a situation
pub situated_on : (m : Chart) (b : Position) (orders : List PlacedOrder) → IsOf m b → units_of orders ≡ b.units → are_in_force orders ≡ true → IsSituation (situation_on m b orders)
situated_on m b orders o u f =
    let own : units_of (meant_on m b orders) ≡ b.units = meant_units m b orders ∙ u in
    situated m (meant_on m b orders) (meant_in_force m b orders ∙ f) (rw own o.apart)

-- and what is resolved of them
pub resolved_board : (m : Chart) (b : Position) (orders : List PlacedOrder) → IsOf m b → units_of orders ≡ b.units → are_in_force orders ≡ true → (steps : List Written.Step) (k : Known) (tests : ℕ) (t : Situation) → t ≡ situation_on m b orders → IsComplete t (steps_of steps) k → (r : Resolution) → IsListing steps k tests m r → IsResolved (situation_on m b orders) r
resolved_board m b orders o u f steps k tests t e c r l =
    resolved (situation_on m b orders) (situated_on m b orders o u f) m (behind_all m (meant_on m b orders) (within m b (meant_on m b orders) o (meant_units m b orders ∙ u))) steps k tests (subst (λ (x : Situation). IsComplete x (steps_of steps) k) e c) r l

-- the units of a board stand in provinces of a map, so that there are few

length_numbers : (a n : ℕ) → length (range_with_len a n) ≡ n
length_numbers a zero = refl
length_numbers a (suc n) = ap suc (length_numbers (a + 1) n)

moves_only : (d : Decision) (ps : List ℕ) → is_among d (moves_of ps) ≡ true → (p : ℕ) × (d ≡ Move p)
moves_only (Move p) ps h = (p, refl)
moves_only (Path p) [] h = absurd (both_ways false refl h)
moves_only (Path p) (q ∷ ps) h = moves_only (Path p) ps h
moves_only (Support p) [] h = absurd (both_ways false refl h)
moves_only (Support p) (q ∷ ps) h = moves_only (Support p) ps h

listed_below : (ps : List ℕ) (n p : ℕ) → AllByRecursion (λ q. q < n) ps → is_listed ps p ≡ true → p < n
listed_below [] n p a h = absurd (both_ways false refl h)
listed_below (q ∷ ps) n p a h = go (or_cases _ _ h) (listed_below ps n p a.1)
  where
    go : ((q == p) ≡ true) ⊎ (is_listed ps p ≡ true) → (is_listed ps p ≡ true → p < n) → p < n
    go (inl e) _ = subst (λ (x : ℕ). x < n) (eqb-true q p e) a.0
    go (inr m) f = f m

few_places : (ps : List ℕ) (n : ℕ) → are_provs_single ps ≡ true → AllByRecursion (λ q. q < n) ps → length ps ≤ n
few_places ps n s a =
    let l = no_more (moves_of ps) (moves_of (range_with_len 0 n)) (single_moves ps s) inside in
    let x = length_moves ps in
    let y = length_moves (range_with_len 0 n) in
    let z = length_numbers 0 n in
    omega arith
  where
    inside : (d : Decision) → is_among d (moves_of ps) ≡ true → is_among d (moves_of (range_with_len 0 n)) ≡ true
    inside d h =
        let m = moves_only d ps h in
        let g : is_listed ps m.0 ≡ true = sym (among_moves ps m.0) ∙ rw m.1 at h in
        rw (m.1, among_moves (range_with_len 0 n) m.0) (listed_number 0 n m.0 (omega arith) (let b = listed_below ps n m.0 a g in omega arith))

places_below : (orders : List PlacedOrder) (n : ℕ) → AllByRecursion (λ o. o.unit.place.prov < n) orders → AllByRecursion (λ q. q < n) (provinces_of orders)
places_below [] n a = tt
places_below (o ∷ orders) n a = (a.0, places_below orders n a.1)

bounded_by : (m : Chart) (b : Position) (orders : List PlacedOrder) → IsOf m b → units_of orders ≡ b.units → are_in_force orders ≡ true → length m.provinces ≤ 200 → decided_in (situation m orders) + mentions_in (situation m orders) < 2 ^ 64
bounded_by m b orders o u f h =
    let i = situated m orders f (rw u o.apart) in
    let l = few_places (provinces_of orders) (length m.provinces) i.distinct (places_below orders (length m.provinces) (recursion_from_All _ _ (within m b orders o u))) in
    let d = bounded (situation m orders) (let r : length (provinces_of orders) ≤ 200 = omega arith in r) in
    omega arith

pub bounded_board : (m : Chart) (b : Position) (orders : List PlacedOrder) → IsOf m b → units_of orders ≡ b.units → are_in_force orders ≡ true → length m.provinces ≤ 200 → decided_in (situation_on m b orders) + mentions_in (situation_on m b orders) < 2 ^ 64
bounded_board m b orders o u f h = bounded_by m b (meant_on m b orders) o (meant_units m b orders ∙ u) (meant_in_force m b orders ∙ f) h
