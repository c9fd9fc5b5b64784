-- Where retreats lead: never to an occupied province, a standoff or where the attacker came from, and no two to one province.
use Rattle.std.proofs.Common.{◌≡◌, ℕ, ◌<◌, ◌≤◌, ◌+◌, ◌==◌, ◌&&◌, Bool, true, false, cond, zero, suc, List, [], ◌∷◌, length, get_or, Option, Some, None, find, count_by, Contains, refl, sym, ap, subst, ◌∙◌, inl, inr, arith, if◌then◌else◌}
use Rattle.std.proofs.lemmas.Bool.{and_parts, cases_Bool, cases_lt, eqb-true, eq-eqb}
use Rattle.std.specs.Option.{unwrap_or}
use Rattle.std.specs.Prelude.{option_map}
use Rattle.dip_names.specs.declared.names.Place.{Place}
use Rattle.dip_names.specs.declared.names.Unit.{Unit as AUnit}
use Rattle.dip_map.specs.declared.boards.Dislodged.{Dislodged}
use Rattle.dip_orders.specs.Given.{orders_of_power}
use Rattle.dip_orders.specs.Laws.{IsGiven, NoneRetreatsToItsAttacker, RetreatsAreToVacantProvinces}
use Rattle.dip_orders_placed.specs.Standing.{is_same_unit}
use Rattle.dip_orders_placed.specs.declared.placed.Order.{Order}
use Rattle.dip_orders_placed.specs.declared.placed.Order.TheVariants.{Hold, Move, SupportHold, SupportMove, Convoy, Retreat, Disband, Build, Remove}
use Rattle.dip_orders_placed.specs.declared.placed.PlacedOrder.{PlacedOrder}
use Rattle.dip_orders_placed.proofs.FindLaws.{find_passes}
use Rattle.dip_orders_placed.proofs.KeptLaws.{count_cons}
use Rattle.dip_orders_placed.proofs.StandingLaws.{same_unit}
use Rattle.dip_turn.specs.Laws.{RetreatsAreOpen, RetreatsMeetNowhere}
use Rattle.dip_turn_phases.specs.Retreating.{after_retreat, at_refuge, found_retreat, goal, is_for_dislodged, is_in, is_sought_by_one, refuge}

-- what is found is an element
pub found_in : {A : Type 0} (p : A → Bool) (xs : List A) (y : A) → find p xs ≡ Some y → Contains xs y
found_in p [] y h = absurd (cc)
found_in p (x ∷ xs) y h =
    elim (cases_Bool (p x)) [
      | inl here ↦ let is : Some x ≡ Some y = rw here at h in let e : x ≡ y = cc in (0, (omega arith), e)
      | inr other ↦ let (k, low, at) = found_in p xs y (rw other at h) in (suc k, (omega arith), at)
    ]

-- the unit retreats to that place by an order of its own, and nobody else is to come to the province
pub record IsRefuge (pending : List PlacedOrder) (ds : List Dislodged) (d : Dislodged) (u : AUnit) : Type 0 where
  pub order : PlacedOrder
  pub among : Contains pending order
  pub own : order.unit ≡ d.unit
  pub to : order.order ≡ Retreat u.place
  pub one : is_sought_by_one pending ds u.place.prov ≡ true
  pub power : u.power ≡ d.unit.power
  pub kind : u.kind ≡ d.unit.kind

-- a unit that stands after the retreats was ordered there
pub refuge_of : (pending : List PlacedOrder) (ds : List Dislodged) (d : Dislodged) (u : AUnit) → after_retreat pending ds d ≡ Some u → IsRefuge pending ds d u
refuge_of pending ds d u h = found (found_retreat pending d) refl h
  where
    alone : (o : PlacedOrder) (to : Place) (b : Bool) → found_retreat pending d ≡ Some o → o.order ≡ Retreat to → is_sought_by_one pending ds to.prov ≡ b
        → (if b then Some (record { power = d.unit.power; kind = d.unit.kind; place = to }) else None) ≡ Some u → IsRefuge pending ds d u
    alone o to false is e one h = absurd (cc)
    alone o to true is e one h =
        let made : AUnit = record { power = d.unit.power; kind = d.unit.kind; place = to } in
        let same : Some made ≡ Some u = h in
        let there : made ≡ u = cc in
        let place : to ≡ u.place = ap (λ (x : AUnit). x.place) there in
        let own = (and_parts (is_same_unit o.unit d.unit) (is_for_dislodged o.order) (find_passes (λ x. is_same_unit x.unit d.unit && is_for_dislodged x.order) pending o is)).0 in
        record {
          order = o;
          among = found_in (λ x. is_same_unit x.unit d.unit && is_for_dislodged x.order) pending o is;
          own = same_unit o.unit d.unit own;
          to = e ∙ ap (λ (a : Place). Retreat a) place;
          one = subst (λ (a : Place). is_sought_by_one pending ds a.prov ≡ true) place one;
          power = ap (λ (x : AUnit). x.power) (sym there);
          kind = ap (λ (x : AUnit). x.kind) (sym there);
        }

    ordered : (o : PlacedOrder) (k : Order) → found_retreat pending d ≡ Some o → o.order ≡ k → at_refuge pending ds d.unit (refuge k) ≡ Some u → IsRefuge pending ds d u
    ordered o (Retreat to) is e h = alone o to (is_sought_by_one pending ds to.prov) is e refl h
    ordered o Hold is e h = absurd (cc)
    ordered o (Move to via) is e h = absurd (cc)
    ordered o (SupportHold at) is e h = absurd (cc)
    ordered o (SupportMove at to) is e h = absurd (cc)
    ordered o (Convoy at to) is e h = absurd (cc)
    ordered o Disband is e h = absurd (cc)
    ordered o Build is e h = absurd (cc)
    ordered o Remove is e h = absurd (cc)

    found : (f : Option PlacedOrder) → found_retreat pending d ≡ f → at_refuge pending ds d.unit (refuge (unwrap_or (option_map (λ o. o.order) f) Disband)) ≡ Some u → IsRefuge pending ds d u
    found None is h = absurd (cc)
    found (Some o) is h = ordered o o.order is refl h

pub retreats_are_open : NoneRetreatsToItsAttacker → RetreatsAreToVacantProvinces → RetreatsAreOpen
retreats_are_open attacker vacant m b pending d u ok on given among h =
    let r = refuge_of pending b.dislodged d u h in
    let o : PlacedOrder = r.order in
    let own : List PlacedOrder = orders_of_power o.unit.power pending in
    let mine : IsGiven m b o.unit.power own (record { unit = o.unit; order = Retreat u.place }) =
    subst (λ (k : Order). IsGiven m b o.unit.power own (record { unit = o.unit; order = k })) r.to (given o r.among) in
    let (empty, closed) = vacant m b o.unit.power own o.unit u.place ok on mine in
    record { empty = empty; no_standoff = closed; not_origin = attacker m b o.unit.power own o.unit u.place d ok on mine among (sym r.own) }

counted : {A : Type 0} (f : A → Bool) (x : A) (xs : List A) → f x ≡ true → count_by f (x ∷ xs) ≡ 1 + count_by f xs
counted f x xs t = count_cons f x xs ∙ ap (λ (b : Bool). cond b 1 0 + count_by f xs) t

one_counted : {A : Type 0} (f : A → Bool) (xs : List A) (k : ℕ) (d : A) → k < length xs → f (get_or xs k d) ≡ true → 1 ≤ count_by f xs
one_counted f [] k d low t = absurd (omega arith)
one_counted f (x ∷ xs) zero d low t = omega (arith, counted f x xs t)
one_counted f (x ∷ xs) (suc k) d low t = omega (arith, count_cons f x xs, one_counted f xs k d (omega arith) t)

two_counted : {A : Type 0} (f : A → Bool) (xs : List A) (k l : ℕ) (d e : A) → k < l → l < length xs → f (get_or xs k d) ≡ true → f (get_or xs l e) ≡ true → 2 ≤ count_by f xs
two_counted f [] k l d e less low t s = absurd (omega arith)
two_counted f (x ∷ xs) k zero d e less low t s = absurd (omega arith)
two_counted f (x ∷ xs) zero (suc l) d e less low t s = omega (arith, counted f x xs t, one_counted f xs l e (omega arith) s)
two_counted f (x ∷ xs) (suc k) (suc l) d e less low t s = omega (arith, count_cons f x xs, two_counted f xs k l d e (omega arith) (omega arith) t s)

-- where one of a list passes, two that pass are one
one_passes : {A : Type 0} (f : A → Bool) (xs : List A) (d e : A) → (count_by f xs == 1) ≡ true → Contains xs d → Contains xs e → f d ≡ true → f e ≡ true → d ≡ e
one_passes {A = A} f xs d e one (k, low, at) (l, below, there) t s =
    let single : count_by f xs ≡ 1 = eqb-true (count_by f xs) 1 one in
    let first : f (get_or xs k d) ≡ true = ap f at ∙ t in
    let second : f (get_or xs l e) ≡ true = ap f there ∙ s in
    elim (cases_lt k l) [
      | inl less ↦ absurd (omega (arith, single, two_counted f xs k l d e less below first second))
      | inr past ↦
          elim (cases_lt l k) [
            | inl less ↦ absurd (omega (arith, single, two_counted f xs l k e d less low second first))
            | inr over ↦
                let same : k ≡ l = omega (arith, past, over) in
                sym at ∙ ap (λ (n : ℕ). get_or xs n d) same ∙ other xs l below ∙ there
          ]
    ]
  where
    other : (ys : List A) (n : ℕ) → n < length ys → get_or ys n d ≡ get_or ys n e
    other [] n h = absurd (omega arith)
    other (y ∷ ys) zero h = refl
    other (y ∷ ys) (suc n) h = other ys n (omega arith)

pub retreats_meet_nowhere : RetreatsMeetNowhere
retreats_meet_nowhere b pending d e u v in_d in_e h k same =
    let r = refuge_of pending b.dislodged d u h in
    one_passes (λ x. is_in (goal pending x) u.place.prov) b.dislodged d e r.one in_d in_e (goes d u h u.place.prov refl) (goes e v k u.place.prov (sym same))
  where
    goes : (x : Dislodged) (y : AUnit) → after_retreat pending b.dislodged x ≡ Some y → (p : ℕ) → y.place.prov ≡ p → is_in (goal pending x) p ≡ true
    goes x y is p e = step (goal pending x) is
      where
        step : (g : Option Place) → at_refuge pending b.dislodged x.unit g ≡ Some y → is_in g p ≡ true
        step None h = absurd (cc)
        step (Some to) h = alone (is_sought_by_one pending b.dislodged to.prov) h
          where
            alone : (c : Bool) → (if c then Some (record { power = x.unit.power; kind = x.unit.kind; place = to }) else None) ≡ Some y → (to.prov == p) ≡ true
            alone false h = absurd (cc)
            alone true h =
                let made : AUnit = record { power = x.unit.power; kind = x.unit.kind; place = to } in
                let same : Some made ≡ Some y = h in
                let there : made ≡ y = cc in
                eq-eqb to.prov p (ap (λ (z : AUnit). z.place.prov) there ∙ e)
