-- The builds and the given removals that a Winter's paper tells are, by power and province, the orders that were given.
use Rattle.std.proofs.Common.{◌≡◌, ◌≢◌, ◌<◌, ◌==◌, ◌&&◌, ◌⊎◌, inl, inr, ℕ, Bool, true, false, not, List, [], ◌∷◌, ◌++◌, get_or, map, filter, nat_lt, refl, sym, ap, ap₂, subst, ◌∙◌, arith}
use Rattle.std.specs.Prelude.{Contains}
use Rattle.std.specs.List.{AllByRecursion, list_all, list_any}
use Rattle.std.proofs.lemmas.Bool.{and_parts, eq-eqb, eqb-true, false≢true, ltb-true, not-true, or_cases}
use Rattle.std.proofs.lemmas.List.Elements.{All-contains, Contains-append_cases, Contains-append_left, Contains-append_right, Contains-get_or}
use Rattle.dip_names.specs.declared.names.Unit.{Unit as AUnit}
use Rattle.dip_map.specs.Boards.{IsOf, Position, is_held, is_left, is_vacant, owns}
use Rattle.dip_map.specs.Charts.{Chart, IsMap, are_units_single, home, is_home, is_unit}
use Rattle.dip_map.specs.declared.boards.Season.{Season}
use Rattle.dip_map.specs.declared.boards.Season.TheVariants.{SpringMoves, SpringRetreats, FallMoves, FallRetreats, Winter}
use Rattle.dip_orders.specs.Conditions.{is_adjustment, is_build, is_movement, is_remove, is_retreat}
use Rattle.dip_orders.specs.Given.{AreGiven, orders_of_power}
use Rattle.dip_orders.specs.Lawful.{IsAllowed, MayCome, MayGo}
use Rattle.dip_orders_placed.specs.Standing.{is_same_unit}
use Rattle.dip_orders_placed.specs.declared.placed.Order.{Order}
use Rattle.dip_orders_placed.specs.declared.placed.Order.TheVariants.{Hold, Move, SupportHold, SupportMove, Convoy, Retreat, Disband, Build, Remove}
use Rattle.dip_orders_placed.specs.declared.placed.PlacedOrder.{PlacedOrder}
use Rattle.dip_orders.proofs.LawfulReadLaws.{any_at}
use Rattle.dip_orders_placed.proofs.StandingLaws.{made_among, same_unit, unit_itself}
use Rattle.dip_turn.specs.Adjusting.{is_given, units_built, units_given}
use Rattle.dip_turn.proofs.MapLemmas.{AreEachLawful, come_of}
use Rattle.dip_turn.proofs.PlaceLemmas.{built_unit}
use Rattle.dip_turn.proofs.RefugeLemmas.{found_in}
use Rattle.dip_turn.proofs.SingleLemmas.{kept_from, made_from, single_append, single_by_power, single_filtered, somebody}
use Rattle.dip_desk_games.specs.ByPlace.{are_by_place, comes_before}
use Rattle.dip_check_papers.specs.Placing.{placed_by}
use Rattle.dip_check_papers.proofs.MovesBack.{come_by_place}
use Rattle.dip_check_papers.proofs.Placing.{among_cases, among_filter, first_among, later_among, of_all, placed_among, placed_each}
use Rattle.dip_check_papers.proofs.ReadAnywhere.{on_map}

-- ---- two lists by place with the same orders are one

abbrev IsBefore : PlacedOrder → PlacedOrder → Type 0
IsBefore o x = (o.unit.power < x.unit.power) ⊎ ((o.unit.power ≡ x.unit.power) × (o.unit.place.prov < x.unit.place.prov))

before : (o x : PlacedOrder) → comes_before o x ≡ true → IsBefore o x
before o x h =
    elim (or_cases (nat_lt o.unit.power x.unit.power) ((o.unit.power == x.unit.power) && nat_lt o.unit.place.prov x.unit.place.prov) h) [
      | inl lt ↦ inl (ltb-true o.unit.power x.unit.power lt)
      | inr both ↦
          let parts = and_parts (o.unit.power == x.unit.power) (nat_lt o.unit.place.prov x.unit.place.prov) both in
          inr (eqb-true o.unit.power x.unit.power parts.0, ltb-true o.unit.place.prov x.unit.place.prov parts.1)
    ]

not_both : (o x : PlacedOrder) → IsBefore o x → IsBefore x o → ⊥
not_both o x (inl a) (inl c) = omega (arith, a, c)
not_both o x (inl a) (inr c) = omega (arith, a, c.0)
not_both o x (inr a) (inl c) = omega (arith, a.0, c)
not_both o x (inr a) (inr c) = omega (arith, a.1, c.1)

pub all_at : {A : Type 0} (p : A → Bool) (xs : List A) (x : A) → list_all p xs ≡ true → Contains xs x → p x ≡ true
all_at p [] x all c = absurd (omega (arith, c.1))
all_at p (z ∷ zs) x all c =
    let parts = and_parts (p z) (list_all p zs) all in
    elim (among_cases z zs x c.0 c.1 c.2) [
      | inl is ↦ subst (λ y. p y ≡ true) is parts.0
      | inr rest ↦ all_at p zs x parts.1 rest
    ]

first_same : (x y : PlacedOrder) (xs ys : List PlacedOrder) → list_all (comes_before x) xs ≡ true → list_all (comes_before y) ys ≡ true
    → Contains (y ∷ ys) x → Contains (x ∷ xs) y → x ≡ y
first_same x y xs ys all_x all_y in_y in_x =
    elim (among_cases y ys x in_y.0 in_y.1 in_y.2) [
      | inl is ↦ sym is
      | inr rest ↦
          elim (among_cases x xs y in_x.0 in_x.1 in_x.2) [
            | inl is ↦ is
            | inr more ↦ absurd (not_both x y (before x y (all_at (comes_before x) xs y all_x more)) (before y x (all_at (comes_before y) ys x all_y rest)))
          ]
    ]

others_among : (x y o : PlacedOrder) (xs ys : List PlacedOrder) → x ≡ y → list_all (comes_before x) xs ≡ true → Contains xs o → Contains (y ∷ ys) o → Contains ys o
others_among x y o xs ys same all c there =
    elim (among_cases y ys o there.0 there.1 there.2) [
      | inl is ↦
          let itself : IsBefore o o = before o o (subst (λ z. comes_before z o ≡ true) (same ∙ is) (all_at (comes_before x) xs o all c)) in
          absurd (not_both o o itself itself)
      | inr rest ↦ rest
    ]

same_by_place : (xs ys : List PlacedOrder) → are_by_place xs ≡ true → are_by_place ys ≡ true → ((o : PlacedOrder) → Contains xs o → Contains ys o)
    → ((o : PlacedOrder) → Contains ys o → Contains xs o) → xs ≡ ys
same_by_place [] [] one two to back = refl
same_by_place [] (y ∷ ys) one two to back = let c = back y (first_among y ys) in absurd (omega (arith, c.1))
same_by_place (x ∷ xs) [] one two to back = let c = to x (first_among x xs) in absurd (omega (arith, c.1))
same_by_place (x ∷ xs) (y ∷ ys) one two to back =
    let parts = and_parts (list_all (comes_before x) xs) (are_by_place xs) one in
    let others = and_parts (list_all (comes_before y) ys) (are_by_place ys) two in
    let same : x ≡ y = first_same x y xs ys parts.0 others.0 (to x (first_among x xs)) (back y (first_among y ys)) in
    ap₂ (λ (o : PlacedOrder) (os : List PlacedOrder). o ∷ os) same
    (same_by_place xs ys parts.1 others.1 (λ o c. others_among x y o xs ys same parts.0 c (to o (later_among x xs o c)))
    (λ o c. others_among y x o ys xs (sym same) others.0 c (back o (later_among y ys o c))))

-- ---- in Winter each order that is given builds or removes

pub built_is : (k : Order) → is_build k ≡ true → k ≡ Build
built_is Hold is = absurd (false≢true is)
built_is (Move to via) is = absurd (false≢true is)
built_is (SupportHold at) is = absurd (false≢true is)
built_is (SupportMove at to) is = absurd (false≢true is)
built_is (Convoy at to) is = absurd (false≢true is)
built_is (Retreat to) is = absurd (false≢true is)
built_is Disband is = absurd (false≢true is)
built_is Build is = refl
built_is Remove is = absurd (false≢true is)

removed_is : (k : Order) → is_remove k ≡ true → k ≡ Remove
removed_is Hold is = absurd (false≢true is)
removed_is (Move to via) is = absurd (false≢true is)
removed_is (SupportHold at) is = absurd (false≢true is)
removed_is (SupportMove at to) is = absurd (false≢true is)
removed_is (Convoy at to) is = absurd (false≢true is)
removed_is (Retreat to) is = absurd (false≢true is)
removed_is Disband is = absurd (false≢true is)
removed_is Build is = absurd (false≢true is)
removed_is Remove is = refl

no_movement : (s : Season) → is_adjustment s ≡ true → is_movement s ≡ true → ⊥
no_movement SpringMoves winter h = false≢true winter
no_movement SpringRetreats winter h = false≢true winter
no_movement FallMoves winter h = false≢true winter
no_movement FallRetreats winter h = false≢true winter
no_movement Winter winter h = false≢true h

no_retreat : (s : Season) → is_adjustment s ≡ true → is_retreat s ≡ true → ⊥
no_retreat SpringMoves winter h = false≢true winter
no_retreat SpringRetreats winter h = false≢true winter
no_retreat FallMoves winter h = false≢true winter
no_retreat FallRetreats winter h = false≢true winter
no_retreat Winter winter h = false≢true h

winter_kind : (m : Chart) (b : Position) (power : ℕ) (pending : List PlacedOrder) (u : AUnit) (k : Order) → is_adjustment b.phase.season ≡ true
    → IsAllowed m b power pending u k → (k ≡ Build) ⊎ ((k ≡ Remove) × MayGo m b power pending u)
winter_kind m b power pending u Hold winter h = absurd (no_movement b.phase.season winter h.0)
winter_kind m b power pending u (Move to via) winter h = absurd (no_movement b.phase.season winter h.0)
winter_kind m b power pending u (SupportHold at) winter h = absurd (no_movement b.phase.season winter h.0)
winter_kind m b power pending u (SupportMove at to) winter h = absurd (no_movement b.phase.season winter h.0)
winter_kind m b power pending u (Convoy at to) winter h = absurd (no_movement b.phase.season winter h.0)
winter_kind m b power pending u (Retreat to) winter h = absurd (no_retreat b.phase.season winter h.0)
winter_kind m b power pending u Disband winter h = absurd (no_retreat b.phase.season winter h.0)
winter_kind m b power pending u Build winter h = inl refl
winter_kind m b power pending u Remove winter h = inr (refl, h.1)

-- ---- what is told

abbrev pub order_to : Order → AUnit → PlacedOrder
order_to k u = record { unit = u; order = k }

-- the orders that a Winter's lines tell
abbrev pub told_orders : Position → List PlacedOrder → List PlacedOrder
told_orders b ps = map (order_to Build) (units_built ps) ++ map (order_to Remove) (units_given b ps)

units_made : (k : Order) (us : List AUnit) → map (λ (o : PlacedOrder). o.unit) (map (order_to k) us) ≡ us
units_made k [] = refl
units_made k (u ∷ us) = ap (λ (vs : List AUnit). u ∷ vs) (units_made k us)

units_both : (os xs : List PlacedOrder) → map (λ (o : PlacedOrder). o.unit) (os ++ xs) ≡ map (λ (o : PlacedOrder). o.unit) os ++ map (λ (o : PlacedOrder). o.unit) xs
units_both [] xs = refl
units_both (o ∷ os) xs = ap (λ (us : List AUnit). o.unit ∷ us) (units_both os xs)

each_of : {A : Type 0} (P : A → Type 0) (xs : List A) → ((x : A) → Contains xs x → P x) → AllByRecursion P xs
each_of P [] all = tt
each_of P (x ∷ xs) all = (all x (first_among x xs), each_of P xs (λ y c. all y (later_among x xs y c)))

-- a build is in a home centre of its power, where no unit stands
at_home : (m : Chart) (b : Position) (power : ℕ) (pending : List PlacedOrder) (u : AUnit) → MayCome m b power pending u
    → (is_home m power u.place.prov ≡ true) × (is_held b u.place.prov ≡ false)
at_home m b power pending u come =
    let (at, more) = and_parts (list_any (λ x. x == u.place.prov) (home m power)) _ come.home in
    let (own, rest) = and_parts (owns b power u.place.prov) _ more in
    let (vacant, fit) = and_parts (is_vacant b u.place.prov) _ rest in
    (at, not-true _ (and_parts (not (is_held b u.place.prov)) (not (is_left b u.place.prov)) vacant).0)

module _ (m : Chart) (b : Position) (ps : List PlacedOrder) (laws : IsMap m) (of : IsOf m b) (given : AreGiven m b ps) (lawful : AreEachLawful m b ps) (winter : is_adjustment b.phase.season ≡ true) where
  come : (o : PlacedOrder) → Contains ps o → is_build o.order ≡ true → MayCome m b o.unit.power (orders_of_power o.unit.power ps) o.unit
  come o c is = come_of m b ps o lawful c is

  kind_of : (o : PlacedOrder) → Contains ps o → (o.order ≡ Build) ⊎ ((o.order ≡ Remove) × MayGo m b o.unit.power (orders_of_power o.unit.power ps) o.unit)
  kind_of o c = winter_kind m b o.unit.power (orders_of_power o.unit.power ps) o.unit o.order winter (lawful o c)

  stands : (o : PlacedOrder) → MayGo m b o.unit.power (orders_of_power o.unit.power ps) o.unit → Contains b.units o.unit
  stands o may = found_in (λ w. (w.power == o.unit.power) && (w.place.prov == o.unit.place.prov)) b.units o.unit may.unit.there

  pub unit_on : (o : PlacedOrder) → Contains ps o → is_unit m o.unit ≡ true
  unit_on o c = elim (kind_of o c) [
    | inl build ↦ built_unit m b o.unit.power (orders_of_power o.unit.power ps) o.unit laws (come o c (ap is_build build))
    | inr remove ↦ All-contains (λ v. is_unit m v ≡ true) b.units o.unit of.units (stands o remove.1)
  ]

  -- each order that was given is told
  given_told : (o : PlacedOrder) → Contains ps o → Contains (told_orders b ps) o
  given_told o c = elim (kind_of o c) [
    | inl build ↦
        let among : Contains (units_built ps) o.unit =
        made_among (λ (x : PlacedOrder). x.unit) (filter (λ x. is_build x.order) ps) o (among_filter (λ (x : PlacedOrder). is_build x.order) ps o c (ap is_build build)) in
        Contains-append_left (map (order_to Build) (units_built ps)) (map (order_to Remove) (units_given b ps)) o
        (subst (Contains (map (order_to Build) (units_built ps))) (ap (λ (k : Order). order_to k o.unit) (sym build)) (made_among (order_to Build) (units_built ps) o.unit among))
    | inr remove ↦
        let stays : is_given ps o.unit ≡ true =
        somebody (λ x. is_remove x.order && is_same_unit x.unit o.unit) ps o c (ap₂ (λ (k : Order) (s : Bool). is_remove k && s) remove.0 (unit_itself o.unit)) in
        let among : Contains (units_given b ps) o.unit = among_filter (is_given ps) b.units o.unit (stands o remove.1) stays in
        Contains-append_right (map (order_to Build) (units_built ps)) (map (order_to Remove) (units_given b ps)) o
        (subst (Contains (map (order_to Remove) (units_given b ps))) (ap (λ (k : Order). order_to k o.unit) (sym remove.0)) (made_among (order_to Remove) (units_given b ps) o.unit among))
  ]

  built_given : (o : PlacedOrder) → Contains (map (order_to Build) (units_built ps)) o → Contains ps o
  built_given o c =
      let (u, there, is) = made_from (order_to Build) (units_built ps) o c in
      let (x, kept, at) = made_from (λ (y : PlacedOrder). y.unit) (filter (λ y. is_build y.order) ps) u there in
      let (among, build) = kept_from (λ (y : PlacedOrder). is_build y.order) ps x kept in
      subst (Contains ps) (ap₂ order_to (built_is x.order build) at ∙ is) among

  removed_given : (o : PlacedOrder) → Contains (map (order_to Remove) (units_given b ps)) o → Contains ps o
  removed_given o c =
      let (u, there, is) = made_from (order_to Remove) (units_given b ps) o c in
      let (stood, passes) = kept_from (is_given ps) b.units u there in
      let (k, low, met) = any_at (λ (y : PlacedOrder). is_remove y.order && is_same_unit y.unit u) ps passes in
      let x : PlacedOrder = get_or ps k o in
      let both = and_parts (is_remove x.order) (is_same_unit x.unit u) (met o) in
      subst (Contains ps) (ap₂ order_to (removed_is x.order both.0) (same_unit x.unit u both.1) ∙ is) (Contains-get_or ps k o low)

  -- each that is told was given
  told_given : (o : PlacedOrder) → Contains (told_orders b ps) o → Contains ps o
  told_given o c = elim (Contains-append_cases (map (order_to Build) (units_built ps)) (map (order_to Remove) (units_given b ps)) o c) [
    | inl built ↦ built_given o built
    | inr removed ↦ removed_given o removed
  ]

  built_single : are_units_single (units_built ps) ≡ true
  built_single =
      single_by_power (λ o. is_build o.order) ps given.apart
      (λ x y in_x in_y is_x is_y same.
      let one = (at_home m b x.unit.power (orders_of_power x.unit.power ps) x.unit (come x in_x is_x)).0 in
      let two = (at_home m b y.unit.power (orders_of_power y.unit.power ps) y.unit (come y in_y is_y)).0 in
      laws.homes_apart y.unit.place.prov x.unit.power y.unit.power (subst (λ p. is_home m x.unit.power p ≡ true) same one) two)

  -- no unit is removed where one is built
  built_apart : (u v : AUnit) → Contains (units_built ps) u → Contains (units_given b ps) v → v.place.prov ≢ u.place.prov
  built_apart u v in_u in_v same =
      let (x, kept, at) = made_from (λ (y : PlacedOrder). y.unit) (filter (λ y. is_build y.order) ps) u in_u in
      let (among, build) = kept_from (λ (y : PlacedOrder). is_build y.order) ps x kept in
      let (stood, passes) = kept_from (is_given ps) b.units v in_v in
      let empty = (at_home m b x.unit.power (orders_of_power x.unit.power ps) x.unit (come x among build)).1 in
      let there : v.place.prov ≡ x.unit.place.prov = same ∙ sym (ap (λ (w : AUnit). w.place.prov) at) in
      false≢true (sym empty ∙ somebody (λ w. w.place.prov == x.unit.place.prov) b.units v stood (eq-eqb _ _ there))

  told_single : are_units_single (map (λ (o : PlacedOrder). o.unit) (told_orders b ps)) ≡ true
  told_single =
      let units : map (λ (o : PlacedOrder). o.unit) (told_orders b ps) ≡ units_built ps ++ units_given b ps =
      units_both (map (order_to Build) (units_built ps)) (map (order_to Remove) (units_given b ps)) ∙ ap₂ (λ (us vs : List AUnit). us ++ vs) (units_made Build (units_built ps)) (units_made Remove (units_given b ps)) in
      ap are_units_single units ∙ single_append (units_built ps) (units_given b ps) built_single (single_filtered (is_given ps) b.units of.apart) built_apart

  -- by power and province they are the orders that were given
  pub told_are_given : are_by_place ps ≡ true → placed_by (λ (o : PlacedOrder). o.unit) m (told_orders b ps) ≡ ps
  told_are_given placed =
      same_by_place (placed_by (λ (o : PlacedOrder). o.unit) m (told_orders b ps)) ps (come_by_place m (told_orders b ps) told_single) placed
      (λ o c. told_given o (of_all (Contains (told_orders b ps)) (placed_by (λ (x : PlacedOrder). x.unit) m (told_orders b ps)) o
      (placed_each (λ (x : PlacedOrder). x.unit) m (told_orders b ps) (Contains (told_orders b ps)) (each_of (Contains (told_orders b ps)) (told_orders b ps) (λ x there. there))) c))
      (λ o c. let on = on_map m o.unit (unit_on o c) in placed_among (λ (x : PlacedOrder). x.unit) m (told_orders b ps) o (given_told o c) on.0 on.1)
