-- How many units a Winter leaves a power.
use Rattle.std.proofs.Common.{◌≡◌, ◌≢◌, inl, inr, ℕ, ◌<◌, ◌≤◌, ◌+◌, ◌-◌, ◌==◌, ◌&&◌, Bool, true, false, not, min, cond, zero, suc, List, [], ◌∷◌, length, get_or, filter, nat_le, nat_lt, count_by, Contains, refl, sym, ap, ◌∙◌, subst, arith}
use Rattle.std.proofs.lemmas.Bool.{and_from, and_parts, cases_Bool, cases_lt, eqb-true, false≢true, ltb-false, ltb-true}
use Rattle.std.proofs.lemmas.List.{length-map}
use Rattle.std.proofs.lemmas.List.Elements.{All-contains, Contains-append_right, Contains-get_or}
use Rattle.std.proofs.lemmas.List.Filters.{length-filter_both}
use Rattle.std.proofs.lemmas.List.Sums.{count_by-le-length, length-filter}
use Rattle.dip_names.specs.declared.names.Unit.{Unit as AUnit}
use Rattle.dip_map.specs.Charts.{Chart, IsMap, are_units_single, is_unit, may_stand, powers}
use Rattle.dip_map.specs.declared.boards.Season.{Season}
use Rattle.dip_map.specs.declared.boards.Season.TheVariants.{SpringMoves, Winter}
use Rattle.dip_map.specs.Boards.{IsOf, Position, centres_owned, units_counted}
use Rattle.dip_orders_placed.specs.Allowances.{builds_due, removals_due, vacant_homes}
use Rattle.dip_orders.specs.Conditions.{builds_elsewhere, is_build, is_remove, removals_elsewhere}
use Rattle.dip_orders.specs.Given.{AreGiven, orders_of_power}
use Rattle.dip_orders.specs.Laws.{OrdersAreLawful}
use Rattle.dip_orders.specs.Lawful.{IsAllowed, MayGo}
use Rattle.dip_orders_placed.specs.Standing.{is_same_unit, units_of}
use Rattle.dip_orders_placed.specs.declared.placed.Order.{Order}
use Rattle.dip_orders_placed.specs.declared.placed.Order.TheVariants.{Hold, Move, SupportHold, SupportMove, Convoy, Retreat, Disband, Build, Remove}
use Rattle.dip_orders_placed.specs.declared.placed.PlacedOrder.{PlacedOrder}
use Rattle.dip_orders_placed.proofs.KeptLaws.{count_cons}
use Rattle.dip_orders.proofs.LawfulReadLaws.{any_at}
use Rattle.dip_orders_placed.proofs.StandingLaws.{same_unit, unit_itself, made_among}
use Rattle.dip_turn_phases.specs.Adjusting.{after_adjustment, builds_given, disorder, disorder_of, is_among, is_given, removals_given, removals_owed, units_built, units_kept, units_of_power, units_staying}
use Rattle.dip_turn.specs.Laws.{BuildsStand, IsEvened, WintersEvenUnits}
use Rattle.dip_turn_phases.specs.Phases.{Sequel, follow, has_dislodged, in_phase, last_year, new_year, sequel}
use Rattle.dip_turn.specs.Reports.{IsPlayed, Leaves, LeavesAdjusted}
use Rattle.dip_turn_phases.specs.declared.report.Account.{Account}
use Rattle.dip_turn_phases.specs.declared.report.Account.TheVariants.{Movement as OfMovement, Retreats as OfRetreats, Adjustment as OfAdjustment}
use Rattle.dip_turn_phases.specs.declared.lines.Course.TheVariants.{GoesOn, Ended}
use Rattle.dip_turn_phases.specs.declared.report.Report.{Report}
use Rattle.dip_turn.proofs.CountLemmas.{count_append, count_kept, count_map, fewer, flat_among, flat_from, number_among, kept_alike, kept_in_turn, one_if, some_or_none}
use Rattle.dip_turn.proofs.DisorderCounts.{goes_among, stays_count}
use Rattle.dip_turn_phases.proofs.KeptLemmas.{kept_in}
use Rattle.dip_turn.proofs.MapLemmas.{AreEachLawful, come_of, each_lawful}
use Rattle.dip_turn.proofs.RefugeLemmas.{found_in}
use Rattle.dip_turn.proofs.SingleLemmas.{alone, behind, first, kept_from, made_from, others_single, single_filtered, single_kept, somebody}

-- of units of which no two stand in one province, two in one are one
same_stands : (us : List AUnit) (u v : AUnit) → are_units_single us ≡ true → Contains us u → Contains us v → u.place.prov ≡ v.place.prov → u ≡ v
same_stands [] u v single in_u in_v same = absurd (omega (arith, in_u.1))
same_stands (w ∷ ws) u v single (zero, low, is) (zero, below, also) same = sym is ∙ also
same_stands (w ∷ ws) u v single (zero, low, is) (suc l, below, also) same =
    absurd (alone w ws single v (l, (omega (arith, below)), also) (sym same ∙ sym (ap (λ (x : AUnit). x.place.prov) is)))
same_stands (w ∷ ws) u v single (suc k, low, is) (zero, below, also) same =
    absurd (alone w ws single u (k, (omega (arith, low)), is) (same ∙ sym (ap (λ (x : AUnit). x.place.prov) also)))
same_stands (w ∷ ws) u v single (suc k, low, is) (suc l, below, also) same =
    same_stands ws u v (others_single w ws single) (k, (omega (arith, low)), is) (l, (omega (arith, below)), also) same

-- who goes in disorder

kept_single : (m : Chart) (b : Position) (pending : List PlacedOrder) → IsOf m b → are_units_single (units_kept b pending) ≡ true
kept_single m b pending of = single_filtered (λ u. not (is_given pending u)) b.units of.apart

-- of a power's units those go that go of its own
goes_of_own : (m : Chart) (b : Position) (pending : List PlacedOrder) (power : ℕ) (u : AUnit) → IsOf m b → power < length m.realms
    → Contains (units_of_power power (units_kept b pending)) u → is_among (disorder m b pending) u ≡ is_among (disorder_of m b pending power) u
goes_of_own m b pending power u of low among = go (is_among (disorder_of m b pending power) u) refl
  where
    go : (c : Bool) → is_among (disorder_of m b pending power) u ≡ c → is_among (disorder m b pending) u ≡ c
    go true is =
        let (k, there, met) = any_at (λ v. v.place.prov == u.place.prov) (disorder_of m b pending power) is in
        let v : AUnit = get_or (disorder_of m b pending power) k u in
        somebody (λ w. w.place.prov == u.place.prov) (disorder m b pending) v
        (flat_among (disorder_of m b pending) (powers m) power v (number_among 0 (length m.realms) power power low (omega arith)) (Contains-get_or (disorder_of m b pending power) k u there)) (met u)
    go false is =
        elim (cases_Bool (is_among (disorder m b pending) u)) [
          | inr none ↦ none
          | inl some ↦
              let (k, there, met) = any_at (λ v. v.place.prov == u.place.prov) (disorder m b pending) some in
              let v : AUnit = get_or (disorder m b pending) k u in
              let (q, in_q, goes) = flat_from (disorder_of m b pending) (powers m) v (Contains-get_or (disorder m b pending) k u there) in
              let (stood, of_q) = kept_from (λ (w : AUnit). w.power == q) (units_kept b pending) v (goes_among m q (removals_owed b pending q) (units_of_power q (units_kept b pending)) v goes) in
              let (here, mine) = kept_from (λ (w : AUnit). w.power == power) (units_kept b pending) u among in
              let same : v ≡ u = same_stands (units_kept b pending) v u (kept_single m b pending of) stood here (eqb-true _ _ (met u)) in
              let whose : q ≡ power = sym (eqb-true _ _ of_q) ∙ ap (λ (w : AUnit). w.power) same ∙ eqb-true _ _ mine in
              let own : Contains (disorder_of m b pending power) v = subst (λ (r : ℕ). Contains (disorder_of m b pending r) v) whose goes in
              absurd (false≢true (sym is ∙ somebody (λ w. w.place.prov == u.place.prov) (disorder_of m b pending power) v own (met u)))
        ]

no_power : (m : Chart) (b : Position) (pending : List PlacedOrder) (power : ℕ) → IsOf m b → length m.realms ≤ power → length (units_of_power power (units_kept b pending)) ≡ 0
no_power m b pending power of past =
    elim (some_or_none (units_of_power power (units_kept b pending))) [
      | inl none ↦ none
      | inr (u, among) ↦
          let (kept, mine) = kept_from (λ (w : AUnit). w.power == power) (units_kept b pending) u among in
          let stood = (kept_from (λ w. not (is_given pending w)) b.units u kept).0 in
          let on = All-contains (λ w. is_unit m w ≡ true) b.units u of.units stood in
          let low = ltb-true _ _ (and_parts (nat_lt u.power (length m.realms)) (may_stand m u.kind u.place) on).0 in
          absurd (omega (arith, low, past, eqb-true _ _ mine))
    ]

-- how many of a power's units stay: those whose removal wasn't ordered, less those that it owed
staying_count : (m : Chart) (b : Position) (pending : List PlacedOrder) (power : ℕ) → IsOf m b
    → count_by (λ u. u.power == power) (units_staying m b pending) ≡ length (units_of_power power (units_kept b pending)) - removals_owed b pending power
staying_count m b pending power of =
    let own : AUnit → Bool = λ u. u.power == power in
    let stays : AUnit → Bool = λ u. not (is_among (disorder m b pending) u) in
    let mine : List AUnit = units_of_power power (units_kept b pending) in
    let turned : length (filter stays mine) ≡ count_by own (units_staying m b pending) =
    ap (λ (us : List AUnit). length us) (kept_in_turn stays own (units_kept b pending)) ∙ length-filter own (units_staying m b pending) in
    elim (cases_lt power (length m.realms)) [
      | inl low ↦
          let alike : filter stays mine ≡ filter (λ u. not (is_among (disorder_of m b pending power) u)) mine =
          kept_alike stays (λ u. not (is_among (disorder_of m b pending power) u)) mine (λ u among. ap not (goes_of_own m b pending power u of low among)) in
          sym turned ∙ ap (λ (us : List AUnit). length us) alike
          ∙ stays_count m power (removals_owed b pending power) mine (single_filtered own (units_kept b pending) (kept_single m b pending of))
      | inr past ↦
          omega (arith, turned, no_power m b pending power of past, length-filter stays mine, count_by-le-length stays mine)
    ]

-- whose removal was ordered

remove_allowed : (m : Chart) (b : Position) (power : ℕ) (pending : List PlacedOrder) (u : AUnit) (k : Order) → is_remove k ≡ true → IsAllowed m b power pending u k → MayGo m b power pending u
remove_allowed m b power pending u Hold is h = absurd (false≢true is)
remove_allowed m b power pending u (Move to via) is h = absurd (false≢true is)
remove_allowed m b power pending u (SupportHold at) is h = absurd (false≢true is)
remove_allowed m b power pending u (SupportMove at to) is h = absurd (false≢true is)
remove_allowed m b power pending u (Convoy at to) is h = absurd (false≢true is)
remove_allowed m b power pending u (Retreat to) is h = absurd (false≢true is)
remove_allowed m b power pending u Disband is h = absurd (false≢true is)
remove_allowed m b power pending u Build is h = absurd (false≢true is)
remove_allowed m b power pending u Remove is h = h.1

go_of : (m : Chart) (b : Position) (pending : List PlacedOrder) (o : PlacedOrder) → AreEachLawful m b pending → Contains pending o → is_remove o.order ≡ true
    → MayGo m b o.unit.power (orders_of_power o.unit.power pending) o.unit
go_of m b pending o lawful among is = remove_allowed m b o.unit.power (orders_of_power o.unit.power pending) o.unit o.order is (lawful o among)

-- a power's orders to remove, and its units whose removal was ordered
removals : ℕ → List PlacedOrder → List PlacedOrder
removals power pending = filter (λ o. is_remove o.order) (orders_of_power power pending)

leaving : Position → ℕ → List PlacedOrder → List AUnit
leaving b power pending = filter (is_given pending) (units_of_power power b.units)

ordered_leaves : (m : Chart) (b : Position) (pending : List PlacedOrder) (power : ℕ) (v : AUnit) → AreEachLawful m b pending → Contains (units_of (removals power pending)) v
    → Contains (leaving b power pending) v
unfolding removals leaving
ordered_leaves m b pending power v lawful c =
    let (o, inside, is) = made_from (λ (x : PlacedOrder). x.unit) (filter (λ x. is_remove x.order) (orders_of_power power pending)) v c in
    let (own, remove) = kept_from (λ x. is_remove x.order) (orders_of_power power pending) o inside in
    let (among, mine) = kept_from (λ (x : PlacedOrder). x.unit.power == power) pending o own in
    let may = go_of m b pending o lawful among remove in
    let stands : Contains b.units o.unit = found_in (λ w. (w.power == o.unit.power) && (w.place.prov == o.unit.place.prov)) b.units o.unit may.unit.there in
    let given : is_given pending o.unit ≡ true =
    somebody (λ x. is_remove x.order && is_same_unit x.unit o.unit) pending o among (and_from (is_remove o.order) (is_same_unit o.unit o.unit) remove (unit_itself o.unit)) in
    subst (λ (w : AUnit). Contains (filter (is_given pending) (units_of_power power b.units)) w) is
    (kept_in (is_given pending) (units_of_power power b.units) o.unit (kept_in (λ (w : AUnit). w.power == power) b.units o.unit stands mine) given)

leaving_ordered : (b : Position) (pending : List PlacedOrder) (power : ℕ) (u : AUnit) → Contains (leaving b power pending) u → Contains (units_of (removals power pending)) u
unfolding removals leaving
leaving_ordered b pending power u c =
    let (own, given) = kept_from (is_given pending) (units_of_power power b.units) u c in
    let (stands, mine) = kept_from (λ (w : AUnit). w.power == power) b.units u own in
    let (k, low, met) = any_at (λ x. is_remove x.order && is_same_unit x.unit u) pending given in
    let o : PlacedOrder = get_or pending k (record { unit = u; order = Remove }) in
    let among : Contains pending o = Contains-get_or pending k (record { unit = u; order = Remove }) low in
    let (remove, same) = and_parts (is_remove o.order) (is_same_unit o.unit u) (met (record { unit = u; order = Remove })) in
    let is : o.unit ≡ u = same_unit o.unit u same in
    let whose : (o.unit.power == power) ≡ true = ap (λ (w : AUnit). w.power == power) is ∙ mine in
    subst (λ (w : AUnit). Contains (units_of (filter (λ x. is_remove x.order) (orders_of_power power pending))) w) is
    (made_among (λ (x : PlacedOrder). x.unit) (filter (λ x. is_remove x.order) (orders_of_power power pending)) o
    (kept_in (λ x. is_remove x.order) (orders_of_power power pending) o (kept_in (λ (x : PlacedOrder). x.unit.power == power) pending o among whose) remove))

-- as many of a power's units leave by order as orders to remove are its own
leaving_count : (m : Chart) (b : Position) (pending : List PlacedOrder) (power : ℕ) → IsOf m b → AreGiven m b pending → AreEachLawful m b pending → length (leaving b power pending) ≡ removals_given pending power
unfolding removals leaving
leaving_count m b pending power of given lawful =
    let own : PlacedOrder → Bool = λ o. o.unit.power == power in
    let orders : List PlacedOrder = filter (λ o. is_remove o.order) (orders_of_power power pending) in
    let count : length orders ≡ removals_given pending power = length-filter (λ o. is_remove o.order) (orders_of_power power pending) ∙ count_kept (λ o. is_remove o.order) own pending in
    let few : length (leaving b power pending) ≤ length (units_of orders) =
    fewer (leaving b power pending) (units_of orders) (single_filtered (is_given pending) (units_of_power power b.units) (single_filtered (λ (w : AUnit). w.power == power) b.units of.apart))
    (λ u among. (u, leaving_ordered b pending power u among, refl)) in
    let many : length (units_of orders) ≤ length (leaving b power pending) =
    fewer (units_of orders) (leaving b power pending) (single_kept (λ (o : PlacedOrder). o.unit) (λ o. is_remove o.order) (orders_of_power power pending) (given.apart power))
    (λ u among. (u, ordered_leaves m b pending power u lawful among, refl)) in
    omega (arith, count, few, many, length-map orders (λ (o : PlacedOrder). o.unit))

-- those that were not ordered to leave, and those that were, are all
kept_count : (m : Chart) (b : Position) (pending : List PlacedOrder) (power : ℕ) → IsOf m b → AreGiven m b pending → AreEachLawful m b pending
    → length (units_of_power power (units_kept b pending)) + removals_given pending power ≡ count_by (λ u. u.power == power) b.units
unfolding leaving
kept_count m b pending power of given lawful =
    let own : AUnit → Bool = λ u. u.power == power in
    let unordered : AUnit → Bool = λ u. not (is_given pending u) in
    omega (
      arith,
      ap {B = ℕ} (λ (us : List AUnit). length us) (kept_in_turn own unordered b.units),
      length-filter_both unordered (is_given pending) (λ u. twice (is_given pending u)) (units_of_power power b.units),
      leaving_count m b pending power of given lawful,
      length-filter own b.units,
    )
  where
    twice : (c : Bool) → c ≡ not (not c)
    twice true = refl
    twice false = refl

-- no more orders to build and to remove than are due

one_elsewhere : (c d : Bool) → d ≡ false → one_if (c && not d) ≡ one_if c
one_elsewhere true d is = ap (λ (x : Bool). one_if (not x)) is
one_elsewhere false d is = refl

one_most : (c : Bool) → one_if c ≤ 1
one_most true = omega arith
one_most false = omega arith

elsewhere_all : (t : PlacedOrder → Bool) (p : ℕ) (xs : List PlacedOrder) → ((x : PlacedOrder) → Contains xs x → x.unit.place.prov ≢ p)
    → count_by t xs ≡ count_by (λ o. t o && not (o.unit.place.prov == p)) xs
elsewhere_all t p [] apart = refl
elsewhere_all t p (x ∷ xs) apart =
    elim (cases_Bool (x.unit.place.prov == p)) [
      | inl same ↦ absurd (apart x (first x xs) (eqb-true _ _ same))
      | inr other ↦
          omega (arith, count_cons t x xs, count_cons (λ o. t o && not (o.unit.place.prov == p)) x xs, one_elsewhere (t x) (x.unit.place.prov == p) other, elsewhere_all t p xs (λ y among. apart y (behind x xs y among)))
    ]

-- of orders of which no two are in one province one at most is in p
elsewhere_most : (t : PlacedOrder → Bool) (p : ℕ) (xs : List PlacedOrder) → are_units_single (units_of xs) ≡ true
    → count_by t xs ≤ count_by (λ o. t o && not (o.unit.place.prov == p)) xs + 1
elsewhere_most t p [] single = omega arith
elsewhere_most t p (x ∷ xs) single =
    elim (cases_Bool (x.unit.place.prov == p)) [
      | inl here ↦
          let rest = elsewhere_all t p xs (λ y among same. alone x.unit (units_of xs) single y.unit (made_among (λ (o : PlacedOrder). o.unit) xs y among) (same ∙ sym (eqb-true _ _ here))) in
          omega (arith, count_cons t x xs, count_cons (λ o. t o && not (o.unit.place.prov == p)) x xs, one_most (t x), rest)
      | inr other ↦
          omega (arith, count_cons t x xs, count_cons (λ o. t o && not (o.unit.place.prov == p)) x xs, one_elsewhere (t x) (x.unit.place.prov == p) other, elsewhere_most t p xs (others_single x.unit (units_of xs) single))
    ]

-- orders of a power that pass are no more than are due, where for each of them fewer stand elsewhere
most_due : (t : PlacedOrder → Bool) (xs : List PlacedOrder) (due : ℕ) → are_units_single (units_of xs) ≡ true
    → ((o : PlacedOrder) → Contains xs o → t o ≡ true → count_by (λ x. t x && not (x.unit.place.prov == o.unit.place.prov)) xs < due) → count_by t xs ≤ due
most_due t xs due single fit =
    elim (some_or_none (filter t xs)) [
      | inl none ↦ omega (arith, length-filter t xs, none)
      | inr (o, inside) ↦
          let (among, passes) = kept_from t xs o inside in
          omega (arith, elsewhere_most t o.unit.place.prov xs single, fit o among passes)
    ]

removals_fit : (m : Chart) (b : Position) (pending : List PlacedOrder) (power : ℕ) → AreGiven m b pending → AreEachLawful m b pending → removals_given pending power ≤ removals_due b power
removals_fit m b pending power given lawful =
    let own : PlacedOrder → Bool = λ o. o.unit.power == power in
    let fit = most_due (λ o. is_remove o.order) (orders_of_power power pending) (removals_due b power) (given.apart power)
    (λ o inside remove.
    let (among, mine) = kept_from own pending o inside in
    subst (λ (r : ℕ). removals_elsewhere (orders_of_power r pending) o.unit.place.prov < removals_due b r) (eqb-true _ _ mine) (go_of m b pending o lawful among remove).due) in
    omega (arith, count_kept (λ o. is_remove o.order) own pending, fit)

builds_fit : (m : Chart) (b : Position) (pending : List PlacedOrder) (power : ℕ) → AreGiven m b pending → AreEachLawful m b pending → builds_given pending power ≤ builds_due m b power
builds_fit m b pending power given lawful =
    let own : PlacedOrder → Bool = λ o. o.unit.power == power in
    let fit = most_due (λ o. is_build o.order) (orders_of_power power pending) (builds_due m b power) (given.apart power)
    (λ o inside build.
    let (among, mine) = kept_from own pending o inside in
    subst (λ (r : ℕ). builds_elsewhere (orders_of_power r pending) o.unit.place.prov < builds_due m b r) (eqb-true _ _ mine) (come_of m b pending o lawful among build).due) in
    omega (arith, count_kept (λ o. is_build o.order) own pending, fit)

both_ways : (c d : Bool) → one_if (c && d) ≡ one_if (d && c)
both_ways true true = refl
both_ways true false = refl
both_ways false true = refl
both_ways false false = refl

built_count : (pending : List PlacedOrder) (power : ℕ) → count_by (λ u. u.power == power) (units_built pending) ≡ builds_given pending power
built_count pending power =
    count_map (λ (u : AUnit). u.power == power) (λ (o : PlacedOrder). o.unit) (filter (λ o. is_build o.order) pending)
    ∙ count_kept (λ (o : PlacedOrder). o.unit.power == power) (λ o. is_build o.order) pending
    ∙ turned pending
  where
    turned : (xs : List PlacedOrder) → count_by (λ o. (o.unit.power == power) && is_build o.order) xs ≡ count_by (λ o. is_build o.order && (o.unit.power == power)) xs
    turned [] = refl
    turned (x ∷ xs) =
        omega (arith, count_cons (λ o. (o.unit.power == power) && is_build o.order) x xs, count_cons (λ o. is_build o.order && (o.unit.power == power)) x xs, both_ways (x.unit.power == power) (is_build x.order), turned xs)

-- the whole

nobody_left : (b : Position) (power : ℕ) → has_dislodged b ≡ false → count_by (λ d. d.unit.power == power) b.dislodged ≡ 0
nobody_left b power none = omega (arith, ltb-false _ _ none, count_by-le-length (λ d. d.unit.power == power) b.dislodged)

-- the numbers: centres, units, homes, those kept, removals and builds that were ordered
evened : (c u h k g built : ℕ) → k + g ≡ u → g ≤ u - c → built ≤ min (c - u) h
    → (((k - ((u - c) - g)) + built ≤ c) × (c ≤ u → (k - ((u - c) - g)) + built ≡ c)) × (u ≤ c → (k - ((u - c) - g)) + built ≡ u + built)
evened c u h k g built all fit room =
    ((omega (arith, all, fit, room), λ more. omega (arith, all, fit, room, more)), λ less. omega (arith, all, fit, room, less))

adjusted_evenly : OrdersAreLawful → (m : Chart) (b : Position) (pending : List PlacedOrder) (power : ℕ) → IsMap m → IsOf m b → AreGiven m b pending → has_dislodged b ≡ false
    → IsEvened b pending (after_adjustment m b pending) power
adjusted_evenly law m b pending power ok of given none =
    let lawful : AreEachLawful m b pending = each_lawful law m b pending ok of given.each in
    let c : ℕ = centres_owned b power in
    let u : ℕ = count_by (λ v. v.power == power) b.units in
    let k : ℕ = length (units_of_power power (units_kept b pending)) in
    let before : units_counted b power ≡ u = omega (arith, nobody_left b power none) in
    let due : removals_due b power ≡ u - c = ap (λ (n : ℕ). n - c) before in
    let fit : removals_given pending power ≤ u - c = subst (λ (n : ℕ). removals_given pending power ≤ n) due (removals_fit m b pending power given lawful) in
    let room : builds_given pending power ≤ min (c - u) (vacant_homes m b power) =
    subst (λ (n : ℕ). builds_given pending power ≤ min (c - n) (vacant_homes m b power)) before (builds_fit m b pending power given lawful) in
    let numbers = evened c u (vacant_homes m b power) k (removals_given pending power) (builds_given pending power) (kept_count m b pending power of given lawful) fit room in
    let staying : count_by (λ v. v.power == power) (units_staying m b pending) ≡ k - ((u - c) - removals_given pending power) =
    staying_count m b pending power of ∙ ap (λ (n : ℕ). k - (n - removals_given pending power)) due in
    let after : units_counted (after_adjustment m b pending) power ≡ (k - ((u - c) - removals_given pending power)) + builds_given pending power =
    omega (arith, count_append (λ (v : AUnit). v.power == power) (units_staying m b pending) (units_built pending), staying, built_count pending power) in
    record {
      within = subst (λ (n : ℕ). n ≤ c) (sym after) numbers.0.0;
      least = λ more. after ∙ numbers.0.1 (subst (λ (n : ℕ). c ≤ n) before more);
      most = λ less. after ∙ numbers.1 (subst (λ (n : ℕ). n ≤ c) before less) ∙ ap (λ (n : ℕ). n + builds_given pending power) (sym before);
    }

-- what a Winter leaves is what follows, but for its phase
left_adjusted : (m : Chart) (b : Position) (pending : List PlacedOrder) (left : Position) (t : Account) → LeavesAdjusted m b pending left t → left ≡ after_adjustment m b pending
left_adjusted m b pending left (OfMovement t) h = absurd h
left_adjusted m b pending left (OfRetreats t) h = absurd h
left_adjusted m b pending left (OfAdjustment t) h = h.board

follows_winter : (P : Position → Type 0) (m : Chart) (b : Position) (pending : List PlacedOrder) (new : Position) (report : Report) → b.phase.season ≡ Winter → IsPlayed m b pending new report
    → ((x : Position) (year : ℕ) → P x → P (in_phase x year SpringMoves)) → P (after_adjustment m b pending) → P new
follows_winter P m b pending new report winter h keeps made =
    let leaves : LeavesAdjusted m b pending h.left report.account = subst (λ (s : Season). Leaves m s b pending h.left report.account) winter h.account in
    let at_left : P h.left = subst P (sym (left_adjusted m b pending h.left report.account leaves)) made in
    let next : sequel new report.course ≡ new_year h.left = h.next ∙ ap (λ (s : Season). follow m s h.left) winter in
    subst (λ (s : Sequel). P s.board) (sym next) (by_year (nat_le last_year h.left.phase.year) at_left)
  where
    by_year : (c : Bool) → P h.left → P (cond c (sequel h.left Ended) (sequel (in_phase h.left (h.left.phase.year + 1) SpringMoves) GoesOn)).board
    by_year true x = x
    by_year false x = keeps h.left (h.left.phase.year + 1) x

in_next : (b : Position) (pending : List PlacedOrder) (power : ℕ) (x : Position) (year : ℕ) → IsEvened b pending x power → IsEvened b pending (in_phase x year SpringMoves) power
in_next b pending power x year h = record { within = h.within; least = h.least; most = h.most }

pub winters_even_units : OrdersAreLawful → WintersEvenUnits
winters_even_units law m b pending new report power ok of given winter none h =
    follows_winter (λ x. IsEvened b pending x power) m b pending new report winter h (in_next b pending power) (adjusted_evenly law m b pending power ok of given none)

pub builds_stand : BuildsStand
builds_stand m b pending new report o winter h among is =
    let built : Contains (units_built pending) o.unit =
    made_among (λ (x : PlacedOrder). x.unit) (filter (λ x. is_build x.order) pending) o (kept_in (λ x. is_build x.order) pending o among (ap is_build is)) in
    follows_winter (λ x. Contains x.units o.unit) m b pending new report winter h (λ x year c. c) (Contains-append_right (units_staying m b pending) (units_built pending) o.unit built)
