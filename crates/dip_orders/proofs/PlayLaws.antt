-- The laws of orders in a player's words.
use Rattle.std.proofs.Common.{◌≡◌, ◌≢◌, ℕ, ◌≤◌, ◌+◌, ◌-◌, ◌==◌, ◌&&◌, ◌||◌, not, min, eqb, pos, negsuc, ◌-ℤ◌, suc, Bool, true, false, length, get_or, Contains, List, [], ◌∷◌, refl, sym, ◌∙◌, ap, subst, inl, inr, arith, filter, map, find, Option, Some, None, Ok}
use Rattle.std.proofs.lemmas.Bool.{and_from, and_parts, cases_Bool, eqb-true, eq-eqb, not-true, false≢true}
use Rattle.std.proofs.lemmas.Int.{ints}
use Rattle.std.proofs.lemmas.List.Sums.{length-filter}
use Rattle.std.proofs.lemmas.Map.Made.{is_member-Decides, length-le_from_is_member}
use Rattle.std.specs.Cmp.{nat_eq_equiv, unsigned_Decides}
use Rattle.std.specs.List.{list_any}
use Rattle.std.specs.Option.{unwrap_or}
use Rattle.dip_names.specs.declared.names.Kind.{Kind}
use Rattle.dip_names.specs.declared.names.Kind.TheVariants.{Army, Fleet}
use Rattle.dip_names.specs.declared.names.Place.{Place}
use Rattle.dip_names.specs.declared.names.Unit.{Unit as AUnit}
use Rattle.dip_map.specs.declared.boards.Dislodged.{Dislodged}
use Rattle.dip_map.specs.declared.boards.Season.{Season}
use Rattle.dip_map.specs.declared.boards.Season.TheVariants.{SpringMoves, SpringRetreats, FallMoves, FallRetreats, Winter}
use Rattle.dip_map.specs.Charts.{Chart, IsMap, are_provs_single, are_units_single, fleet_next, home, is_fleet_next}
use Rattle.dip_map.specs.Boards.{Position, IsOf, centres_owned, is_left, is_power, is_vacant, owner, owns, units_counted, is_held}
use Rattle.dip_orders_placed.specs.Allowances.{vacant_homes}
use Rattle.dip_orders.specs.Laws.{AidersCouldMove, AreVacantHomes, BuildsAreInVacantHomes, BuildsHaveRoom, CouldMove, HoldersCouldMove, IsEmpty, IsGiven, IsNeighbour, IsVacantHome, LawfulOrdersAreRead, NoMoreHaveRoom, NoneRetreatsToItsAttacker, OnlyMovementIsInForce, OrdersAreOfTheirPhase, RemovalsAreSurplus, RetreatsAreToVacantProvinces, belongs, is_of_movement, is_of_retreats, is_of_winter}
use Rattle.dip_orders.specs.Lawful.{IsAllowed, IsLawful, Reaches, Stands}
use Rattle.dip_orders.specs.Reading.{order_of}
use Rattle.dip_orders_placed.specs.Retreats.{MayRetreat, is_origin}
use Rattle.dip_orders_placed.specs.Standing.{is_done_from, is_in_force, standing_orders}
use Rattle.dip_orders.specs.Conditions.{could_move, dislodged_at, first_in, is_adjustment, is_movement, is_retreat, may_convoy, no_place}
use Rattle.dip_orders.specs.Texts.{order_text}
use Rattle.dip_orders_placed.specs.declared.placed.Order.{Order}
use Rattle.dip_orders_placed.specs.declared.placed.Order.TheVariants.{Hold, Move, SupportHold, SupportMove, Convoy, Retreat, Disband, Build, Remove}
use Rattle.dip_orders_placed.specs.declared.placed.PlacedOrder.{PlacedOrder}
use Rattle.dip_orders_placed.proofs.AllowanceLaws.{distinct_from}
use Rattle.dip_orders_placed.proofs.FindLaws.{find_any, find_passes, some_is}
use Rattle.dip_orders_placed.proofs.KeptLaws.{any_kept}
use Rattle.dip_orders.proofs.LawfulReadLaws.{any_at, home_centre}
use Rattle.dip_orders.proofs.PlaceLaws.{place_itself}
use Rattle.dip_orders_placed.proofs.RetreatLaws.{retreats_exact}
use Rattle.dip_orders.proofs.SpotLaws.{test_at}
use Rattle.dip_orders_placed.proofs.StandingLaws.{element_cases, standing_in_force}

-- what is known of orders that are read
abbrev pub AreLawful : Type 0
AreLawful = (m : Chart) (b : Position) (power : ℕ) (pending : List PlacedOrder) (line : List ℕ) (o : PlacedOrder) → IsMap m → IsOf m b → order_of m b power pending line ≡ Ok o → IsLawful m b power pending o

-- a test that an element passes
contains_met : {A : Type 0} (q : A → Bool) (xs : List A) (x : A) → Contains xs x → q x ≡ true → list_any q xs ≡ true
contains_met q [] x c met = absurd (omega (arith, c.1))
contains_met q (y ∷ ys) x c met =
    elim (cases_Bool (q y)) [
      | inl here ↦ rw here refl
      | inr other ↦
          elim (element_cases y ys x c.0 c.1 c.2) [
            | inl is ↦ absurd (false≢true (sym other ∙ (ap q is ∙ met)))
            | inr rest ↦ rw other (contains_met q ys x rest met)
          ]
    ]

none_met : {A : Type 0} (q : A → Bool) (xs : List A) (x : A) → list_any q xs ≡ false → Contains xs x → q x ≡ true → ⊥
none_met q xs x none c met = false≢true (sym none ∙ contains_met q xs x c met)

contains_any : (xs : List ℕ) (p : ℕ) → list_any (λ x. x == p) xs ≡ true → Contains xs p
contains_any xs p h = let (k, low, met) = any_at (λ x. x == p) xs h in (k, low, eqb-true _ _ (met p))

any_contains : (xs : List ℕ) (p : ℕ) → Contains xs p → list_any (λ x. x == p) xs ≡ true
any_contains xs p c = contains_met (λ x. x == p) xs p c (eq-eqb p p refl)

not_held : (b : Position) (p : ℕ) → is_held b p ≡ false → IsEmpty b p
not_held b p none u among at = none_met (λ v. v.place.prov == p) b.units u none among (eq-eqb _ _ at)

not_left : (b : Position) (p : ℕ) → is_left b p ≡ false → (d : Dislodged) → Contains b.dislodged d → d.unit.place.prov ≢ p
not_left b p none d among at = none_met (λ e. e.unit.place.prov == p) b.dislodged d none among (eq-eqb _ _ at)

-- who owns it
is_owner : (power : ℕ) (o : Option ℕ) → is_power power o ≡ true → o ≡ Some power
is_owner power None h = absurd (false≢true h)
is_owner power (Some r) h = ap (λ x. Some x) (eqb-true r power h)

vacant_home : (m : Chart) (b : Position) (power p : ℕ) → IsMap m → list_any (λ x. x == p) (home m power) ≡ true → owns b power p ≡ true → is_vacant b p ≡ true → IsVacantHome m b power p
vacant_home m b power p ok at_home own vacant =
    let (held, left) = and_parts (not (is_held b p)) (not (is_left b p)) vacant in
    record {
      at_home = contains_any (home m power) p at_home;
      centre = home_centre m power p ok at_home;
      owned = is_owner power (owner b p) own;
      empty = not_held b p (not-true _ held);
      left = not_left b p (not-true _ left);
    }

-- the test that the count of vacant homes makes
abbrev is_free_home : Position → ℕ → ℕ → Bool
is_free_home b power p = owns b power p && is_vacant b p

kept_any : (keep : ℕ → Bool) (p : ℕ) (xs : List ℕ) → list_any (λ x. x == p) (filter keep xs) ≡ (keep p && list_any (λ x. x == p) xs)
kept_any keep p xs = any_kept keep (λ x. x == p) (keep p) (λ x e. ap keep (eqb-true x p e)) xs

kept_single : (keep : ℕ → Bool) (xs : List ℕ) → are_provs_single xs ≡ true → are_provs_single (filter keep xs) ≡ true
kept_single keep [] h = refl
kept_single keep (x ∷ xs) h =
    let parts = and_parts (not (list_any (λ q. q == x) xs)) (are_provs_single xs) h in
    grind (arith, parts.0, parts.1, kept_any keep x xs, kept_single keep xs parts.1)

free_homes : (m : Chart) (b : Position) (power : ℕ) → IsMap m → AreVacantHomes m b power (filter (is_free_home b power) (home m power))
free_homes m b power ok = record {
  single = kept_single (is_free_home b power) (home m power) (ok.homes_single power);
  each = λ p among.
      let (free, at_home) = and_parts (is_free_home b power p) (list_any (λ x. x == p) (home m power)) (sym (kept_any (is_free_home b power) p (home m power)) ∙ any_contains _ p among) in
      let (own, vacant) = and_parts (owns b power p) (is_vacant b p) free in
      vacant_home m b power p ok at_home own vacant;
}

-- numbers of an allowance
record Room (c u h n : ℕ) : Type 0 where
  pub homes : n ≤ h
  pub centres : n + u ≤ c
  pub most : (k : ℕ) → k ≤ h → k + u ≤ c → k ≤ n

room : (c u h n : ℕ) → pos (min (c - u) h) -ℤ pos (u - c) ≡ pos n → Room c u h n
room c u h n e = record { homes = omega (arith, ints, e); centres = omega (arith, ints, e); most = λ k low fits. omega (arith, ints, e, low, fits) }

surplus : (c u h n : ℕ) → pos (min (c - u) h) -ℤ pos (u - c) ≡ negsuc n → u ≡ c + suc n
surplus c u h n e = omega (arith, ints, e)

pub builds_have_room : BuildsHaveRoom
builds_have_room m b power n ok may =
    let numbers = room (centres_owned b power) (units_counted b power) (vacant_homes m b power) n may in
    let ps : List ℕ = filter (is_free_home b power) (home m power) in
    let count : length ps ≡ vacant_homes m b power = length-filter (is_free_home b power) (home m power) in
    (ps, free_homes m b power ok, subst (λ k. n ≤ k) (sym count) numbers.homes, numbers.centres)

is_free : (b : Position) (m : Chart) (power p : ℕ) → IsVacantHome m b power p → is_free_home b power p ≡ true
is_free b m power p v =
    let own : owns b power p ≡ true = ap (λ o. is_power power o) v.owned ∙ eq-eqb power power refl in
    let held : is_held b p ≡ false = nobody (λ u. u.place.prov == p) b.units (λ u among met. v.empty u among (eqb-true _ _ met)) in
    let left : is_left b p ≡ false = nobody (λ d. d.unit.place.prov == p) b.dislodged (λ d among met. v.left d among (eqb-true _ _ met)) in
    and_from _ _ own (and_from _ _ (ap (λ x. not x) held) (ap (λ x. not x) left))
  where
    nobody : {A : Type 0} (q : A → Bool) (xs : List A) → ((x : A) → Contains xs x → q x ≡ true → ⊥) → list_any q xs ≡ false
    nobody q [] none = refl
    nobody q (x ∷ xs) none =
        elim (cases_Bool (q x)) [
          | inl here ↦ absurd (none x (0, omega arith, refl) here)
          | inr other ↦ rw other (nobody q xs (λ y among met. none y (suc among.0, omega (arith, among.1), among.2) met))
        ]

homes_few : (m : Chart) (b : Position) (power : ℕ) (ps : List ℕ) → AreVacantHomes m b power ps → length ps ≤ vacant_homes m b power
homes_few m b power ps vacant =
    let free : List ℕ = filter (is_free_home b power) (home m power) in
    let within : (q : ℕ) → list_any (eqb q) ps ≡ true → list_any (eqb q) free ≡ true = λ q mem.
    let v = vacant.each q ((is_member-Decides unsigned_Decides ps q).0 mem) in
    let there : list_any (λ x. x == q) free ≡ true = kept_any (is_free_home b power) q (home m power) ∙ and_from _ _ (is_free b m power q v) (any_contains (home m power) q v.at_home) in
    (is_member-Decides unsigned_Decides free q).1 (contains_any free q there) in
    let few : length ps ≤ length free = length-le_from_is_member nat_eq_equiv ps free (distinct_from ps vacant.single) within in
    subst (λ k. length ps ≤ k) (length-filter (is_free_home b power) (home m power)) few

pub no_more_have_room : NoMoreHaveRoom
no_more_have_room m b power n ps ok may vacant fits =
    (room (centres_owned b power) (units_counted b power) (vacant_homes m b power) n may).most (length ps) (homes_few m b power ps vacant) fits

pub removals_are_surplus : RemovalsAreSurplus
removals_are_surplus m b power n may = surplus (centres_owned b power) (units_counted b power) (vacant_homes m b power) n may

-- of the dislodged units of a board one is in a province
one_dislodged : (test : Dislodged → Bool) (ds : List Dislodged) (x d : Dislodged) → are_units_single (map (λ e. e.unit) ds) ≡ true → find test ds ≡ Some x → Contains ds d → d.unit.place.prov ≡ x.unit.place.prov → x ≡ d
one_dislodged test [] x d single found among at = absurd (omega (arith, among.1))
one_dislodged test (e ∷ es) x d single found among at =
    let (alone, more) = and_parts (not (list_any (λ v. v.place.prov == e.unit.place.prov) (map (λ f. f.unit) es))) _ single in
    let apart : list_any (λ f. f.unit.place.prov == e.unit.place.prov) es ≡ false = sym (mapped e.unit.place.prov es) ∙ not-true _ alone in
    elim (cases_Bool (test e)) [
      | inl here ↦
          let is : Some e ≡ Some x = rw here at found in
          let same : e ≡ x = cc in
          elim (element_cases e es d among.0 among.1 among.2) [
            | inl first ↦ sym same ∙ first
            | inr rest ↦ absurd (none_met (λ f. f.unit.place.prov == e.unit.place.prov) es d apart rest (eq-eqb _ _ (at ∙ ap (λ (f : Dislodged). f.unit.place.prov) (sym same))))
          ]
      | inr other ↦
          let behind : find test es ≡ Some x = rw other at found in
          elim (element_cases e es d among.0 among.1 among.2) [
            | inl first ↦
                let here : (x.unit.place.prov == e.unit.place.prov) ≡ true = eq-eqb _ _ (sym at ∙ ap (λ (f : Dislodged). f.unit.place.prov) (sym first)) in
                absurd (false≢true (sym apart ∙ find_any test (λ f. f.unit.place.prov == e.unit.place.prov) es x here behind))
            | inr rest ↦ one_dislodged test es x d more behind rest at
          ]
    ]
  where
    mapped : (p : ℕ) (ds : List Dislodged) → list_any (λ v. v.place.prov == p) (map (λ f. f.unit) ds) ≡ list_any (λ f. f.unit.place.prov == p) ds
    mapped p [] = refl
    mapped p (f ∷ fs) = rw (mapped p fs) refl

-- the attacker's origin is told of no other province
not_from : (o : Option ℕ) (p : ℕ) → is_origin o p ≡ false → o ≢ Some p
not_from None p past h = absurd (cc)
not_from (Some q) p past h = let e : q ≡ p = cc in false≢true (sym past ∙ eq-eqb q p e)

-- what holds of a retreat that was given
record Left (m : Chart) (b : Position) (power : ℕ) (u : AUnit) (to : Place) : Type 0 where
  pub dislodged : Dislodged
  pub found : dislodged_at b power u.place.prov ≡ Some dislodged
  pub unit : dislodged.unit ≡ u
  pub may : MayRetreat m b dislodged to

left_given : AreLawful → (m : Chart) (b : Position) (power : ℕ) (pending : List PlacedOrder) (u : AUnit) (to : Place) → IsMap m → IsOf m b → IsGiven m b power pending (record { unit = u; order = Retreat to }) → Left m b power u to
left_given lawful m b power pending u to ok of given =
    let leave = (lawful m b power pending given.0 (record { unit = u; order = Retreat to }) ok of given.1).1 in
    record { dislodged = leave.dislodged; found = leave.there.there; unit = leave.there.unit; may = (retreats_exact m b leave.dislodged to).0 leave.retreat }

pub none_retreats_to_its_attacker : AreLawful → NoneRetreatsToItsAttacker
none_retreats_to_its_attacker lawful m b power pending u to d ok of given among is =
    let left = left_given lawful m b power pending u to ok of given in
    let at : d.unit.place.prov ≡ left.dislodged.unit.place.prov = ap (λ (x : AUnit). x.place.prov) (is ∙ sym left.unit) in
    let same : left.dislodged ≡ d = one_dislodged (λ x. (x.unit.power == power) && (x.unit.place.prov == u.place.prov)) b.dislodged left.dislodged d of.dislodged_apart left.found among at in
    subst (λ (x : Dislodged). x.origin ≢ Some to.prov) same (not_from left.dislodged.origin to.prov left.may.not_origin)

pub retreats_are_to_vacant_provinces : AreLawful → RetreatsAreToVacantProvinces
retreats_are_to_vacant_provinces lawful m b power pending u to ok of given =
    let left = left_given lawful m b power pending u to ok of given in
    (not_held b to.prov left.may.empty, λ among. none_met (λ q. q == to.prov) b.standoff to.prov left.may.no_standoff among (eq-eqb _ _ refl))

pub builds_are_in_vacant_homes : AreLawful → BuildsAreInVacantHomes
builds_are_in_vacant_homes lawful m b power pending u ok of given =
    let come = (lawful m b power pending given.0 (record { unit = u; order = Build }) ok of given.1).1 in
    let (at_home, more) = and_parts (list_any (λ x. x == u.place.prov) (home m power)) _ come.home in
    let (own, rest) = and_parts (owns b power u.place.prov) _ more in
    let (vacant, fit) = and_parts (is_vacant b u.place.prov) _ rest in
    (come.power, vacant_home m b power u.place.prov ok at_home own vacant)

-- a unit that could move to a province could be ordered to
could_move_to : LawfulOrdersAreRead → (m : Chart) (b : Position) (power : ℕ) (pending : List PlacedOrder) (u : AUnit) (p : ℕ) → IsMap m → IsOf m b → is_movement b.phase.season ≡ true
    → Stands b power u → could_move m u.kind u.place p ≡ true → CouldMove m b power pending u p
could_move_to readable m b power pending u p ok of now stands reach = by_kind u.kind refl reach
  where
    moves : (to : Place) → to.prov ≡ p → IsNeighbour m u.kind u.place to → IsLawful m b power pending (record { unit = u; order = Move to false }) → CouldMove m b power pending u p
    moves to there next lawful = record { to = to; there = there; next = next; given = (order_text m (record { unit = u; order = Move to false }), readable m b power pending (record { unit = u; order = Move to false }) ok of lawful) }

    by_kind : (k : Kind) → u.kind ≡ k → could_move m k u.place p ≡ true → CouldMove m b power pending u p
    by_kind Army is near =
        let to : Place = record { prov = p; coast = 0 } in
        moves to refl (subst (λ k. IsNeighbour m k u.place to) (sym is) near)
        (now, (stands, subst (λ k. Reaches m k u.place to false) (sym is) (refl, ap (λ x. x || may_convoy m u.place.prov p) near)))
    by_kind Fleet is near =
        let to : Place = unwrap_or (first_in (fleet_next m u.place) p) no_place in
        let found : first_in (fleet_next m u.place) p ≡ Some to = some_is (first_in (fleet_next m u.place) p) no_place near in
        let next : is_fleet_next m u.place to ≡ true = find_any (λ x. x.prov == p) (λ x. (x.prov == to.prov) && (x.coast == to.coast)) (fleet_next m u.place) to (place_itself to) found in
        moves to (eqb-true _ _ (find_passes (λ x. x.prov == p) (fleet_next m u.place) to found)) (subst (λ k. IsNeighbour m k u.place to) (sym is) next)
        (now, (stands, subst (λ k. Reaches m k u.place to false) (sym is) (refl, next)))

pub holders_could_move : AreLawful → LawfulOrdersAreRead → HoldersCouldMove
holders_could_move lawful readable m b power pending u at ok of given =
    let (now, (stands, may)) = lawful m b power pending given.0 (record { unit = u; order = SupportHold at }) ok of given.1 in
    could_move_to readable m b power pending u at.prov ok of now stands may.reach

pub aiders_could_move : AreLawful → LawfulOrdersAreRead → AidersCouldMove
aiders_could_move lawful readable m b power pending u at to ok of given =
    let (now, (stands, may)) = lawful m b power pending given.0 (record { unit = u; order = SupportMove at to }) ok of given.1 in
    could_move_to readable m b power pending u to ok of now stands may.reach

in_movement : (s : Season) (o : Order) → is_movement s ≡ true → is_of_movement o ≡ true → belongs s o ≡ true
in_movement SpringMoves o now is = is
in_movement SpringRetreats o now is = absurd (false≢true now)
in_movement FallMoves o now is = is
in_movement FallRetreats o now is = absurd (false≢true now)
in_movement Winter o now is = absurd (false≢true now)

in_retreats : (s : Season) (o : Order) → is_retreat s ≡ true → is_of_retreats o ≡ true → belongs s o ≡ true
in_retreats SpringMoves o now is = absurd (false≢true now)
in_retreats SpringRetreats o now is = is
in_retreats FallMoves o now is = absurd (false≢true now)
in_retreats FallRetreats o now is = is
in_retreats Winter o now is = absurd (false≢true now)

in_winter : (s : Season) (o : Order) → is_adjustment s ≡ true → is_of_winter o ≡ true → belongs s o ≡ true
in_winter SpringMoves o now is = absurd (false≢true now)
in_winter SpringRetreats o now is = absurd (false≢true now)
in_winter FallMoves o now is = absurd (false≢true now)
in_winter FallRetreats o now is = absurd (false≢true now)
in_winter Winter o now is = is

allowed_belongs : (m : Chart) (b : Position) (power : ℕ) (pending : List PlacedOrder) (u : AUnit) (o : Order) → IsAllowed m b power pending u o → belongs b.phase.season o ≡ true
allowed_belongs m b power pending u Hold h = in_movement b.phase.season Hold h.0 refl
allowed_belongs m b power pending u (Move to via) h = in_movement b.phase.season (Move to via) h.0 refl
allowed_belongs m b power pending u (SupportHold at) h = in_movement b.phase.season (SupportHold at) h.0 refl
allowed_belongs m b power pending u (SupportMove at to) h = in_movement b.phase.season (SupportMove at to) h.0 refl
allowed_belongs m b power pending u (Convoy at to) h = in_movement b.phase.season (Convoy at to) h.0 refl
allowed_belongs m b power pending u (Retreat to) h = in_retreats b.phase.season (Retreat to) h.0 refl
allowed_belongs m b power pending u Disband h = in_retreats b.phase.season Disband h.0 refl
allowed_belongs m b power pending u Build h = in_winter b.phase.season Build h.0 refl
allowed_belongs m b power pending u Remove h = in_winter b.phase.season Remove h.0 refl

pub orders_are_of_their_phase : AreLawful → OrdersAreOfTheirPhase
orders_are_of_their_phase lawful m b power pending o ok of given = allowed_belongs m b power pending o.unit o.order (lawful m b power pending given.0 o ok of given.1)

done_in_movement : (p : ℕ) (o : Order) → is_done_from p o ≡ true → is_of_movement o ≡ true
done_in_movement p Hold h = refl
done_in_movement p (Move to via) h = refl
done_in_movement p (SupportHold at) h = refl
done_in_movement p (SupportMove at to) h = refl
done_in_movement p (Convoy at to) h = refl
done_in_movement p (Retreat to) h = absurd (false≢true h)
done_in_movement p Disband h = absurd (false≢true h)
done_in_movement p Build h = absurd (false≢true h)
done_in_movement p Remove h = absurd (false≢true h)

pub only_movement_is_in_force : OnlyMovementIsInForce
only_movement_is_in_force b pending o among =
    let there : is_in_force (get_or (standing_orders b pending) among.0 o) ≡ true = test_at is_in_force (standing_orders b pending) among.0 o (standing_in_force b pending) among.1 in
    done_in_movement o.unit.place.prov o.order (ap is_in_force (sym among.2) ∙ there)
