-- The orders of a board, one for each unit and in force, make a situation.
use Rattle.std.proofs.Common.{◌≡◌, ℕ, List, [], ◌∷◌, refl, sym, subst, ap, ◌∙◌, inl, inr}
use Rattle.std.specs.Prelude.{◌==◌, Bool, true, false, not, ◌||◌, Option, None, Some, is_some}
use Rattle.std.specs.List.{list_any}
use Rattle.std.proofs.lemmas.Bool.{cases_Bool, both_ways, or_left, or_right, eqb-true, and_parts, not-true}
use mathlib.Core.Logic.{◌⊎◌}
use Rattle.dip_names.specs.declared.names.Kind.TheVariants.{Army, Fleet}
use Rattle.dip_names.specs.declared.names.Kind.{Kind}
use Rattle.dip_names.specs.declared.names.Unit.{Unit as AUnit}
use Rattle.dip_map.specs.Charts.{Chart, are_provs_single, are_units_single}
use Rattle.dip_orders_placed.specs.Standing.{is_in_force, are_in_force, units_of}
use Rattle.dip_orders_placed.specs.declared.placed.Order.{Order}
use Rattle.dip_orders_placed.specs.declared.placed.Order.TheVariants.{Hold, Move, SupportHold, SupportMove, Convoy, Retreat, Disband, Build, Remove}
use Rattle.dip_orders_placed.specs.declared.placed.PlacedOrder.{PlacedOrder}
use Rattle.dip_decide_rules.specs.Matching.{Standing, order_at, provinces_of, destination, target_of, goes_by_convoy, is_convoyed, is_there, is_matched, supports_in, direction, aim_of, is_carried, convoys_in, situation}
use Rattle.dip_decide_rules.specs.Movement.{IsSituation, is_at, is_listed}

-- the order of a unit is that unit's, in force, and its province is listed
pub record Found (orders : List PlacedOrder) (p : ℕ) (o : PlacedOrder) : Type 0 where
  pub there : o.unit.place.prov ≡ p
  pub force : is_in_force o ≡ true
  pub listed : is_listed (provinces_of orders) p ≡ true

found : (orders : List PlacedOrder) (p : ℕ) (o : PlacedOrder) → are_in_force orders ≡ true → order_at orders p ≡ Some o → Found orders p o
found [] p o f h = absurd (cc)
found (x ∷ orders) p o f h = go (cases_Bool (x.unit.place.prov == p)) (found orders p o e.1)
  where
    e : (is_in_force x ≡ true) × (are_in_force orders ≡ true)
    e = and_parts _ _ f

    go : ((x.unit.place.prov == p) ≡ true) ⊎ ((x.unit.place.prov == p) ≡ false) → (order_at orders p ≡ Some o → Found orders p o) → Found (x ∷ orders) p o
    go (inl y) _ =
        let s : Some x ≡ Some o = rw y at h in
        let q : x ≡ o = cc in
        record { there = subst (λ (z : PlacedOrder). z.unit.place.prov ≡ p) q (eqb-true _ _ y); force = subst (λ (z : PlacedOrder). is_in_force z ≡ true) q e.0; listed = or_left _ _ y }
    go (inr y) r = let k = r (rw y at h) in record { there = k.there; force = k.force; listed = or_right (x.unit.place.prov == p) _ k.listed }

distinct_places : (orders : List PlacedOrder) → are_provs_single (provinces_of orders) ≡ are_units_single (units_of orders)
distinct_places [] = refl
distinct_places (o ∷ orders) = rw (others orders, distinct_places orders) refl
  where
    others : (more : List PlacedOrder) → list_any (λ q. q == o.unit.place.prov) (provinces_of more) ≡ list_any (λ (v : AUnit). v.place.prov == o.unit.place.prov) (units_of more)
    others [] = refl
    others (x ∷ more) = ap (λ (b : Bool). (x.unit.place.prov == o.unit.place.prov) || b) (others more)

-- the provinces of a board's units, by their orders
pub single : (orders : List PlacedOrder) (units : List AUnit) → units_of orders ≡ units → are_units_single units ≡ true → are_provs_single (provinces_of orders) ≡ true
single orders units e a = distinct_places orders ∙ ap are_units_single e ∙ a

module _ (m : Chart) (orders : List PlacedOrder) (force : are_in_force orders ≡ true) where
  who : Standing
  who = order_at orders

  elsewhere : (p : ℕ) → is_at (target_of (order_at orders p)) p ≡ false
  elsewhere p = go (order_at orders p) refl
    where
      moved : (o : PlacedOrder) (order : Order) → o.order ≡ order → o.unit.place.prov ≡ p → is_in_force o ≡ true → is_at (destination order) p ≡ false
      moved o Hold e t f = refl
      moved o (Move to via) e t f = rw (← t) (not-true _ (rw e at f))
      moved o (SupportHold at) e t f = refl
      moved o (SupportMove at to) e t f = refl
      moved o (Convoy at to) e t f = refl
      moved o (Retreat to) e t f = refl
      moved o Disband e t f = refl
      moved o Build e t f = refl
      moved o Remove e t f = refl

      go : (o : Option PlacedOrder) → order_at orders p ≡ o → is_at (target_of o) p ≡ false
      go None e = refl
      go (Some o) e = let f = found orders p o force e in moved o o.order refl f.there f.force

  stands : (p : ℕ) (t : Option PlacedOrder → Bool) → t None ≡ false → t (order_at orders p) ≡ true → is_listed (provinces_of orders) p ≡ true
  stands p t n h = go (order_at orders p) refl
    where
      go : (o : Option PlacedOrder) → order_at orders p ≡ o → is_listed (provinces_of orders) p ≡ true
      go None e = absurd (both_ways _ n (rw e at h))
      go (Some o) e = (found orders p o force e).listed

  convoyed_moves : (o : Option PlacedOrder) → is_convoyed m o ≡ true → is_some (target_of o) ≡ true
  convoyed_moves None h = absurd (both_ways false refl h)
  convoyed_moves (Some o) h = go o.unit.kind o.order h
    where
      go : (k : Kind) (order : Order) → goes_by_convoy m k o.unit.place.prov order ≡ true → is_some (destination order) ≡ true
      go Army Hold h = absurd (both_ways false refl h)
      go Army (Move to via) h = refl
      go Army (SupportHold at) h = absurd (both_ways false refl h)
      go Army (SupportMove at to) h = absurd (both_ways false refl h)
      go Army (Convoy at to) h = absurd (both_ways false refl h)
      go Army (Retreat to) h = absurd (both_ways false refl h)
      go Army Disband h = absurd (both_ways false refl h)
      go Army Build h = absurd (both_ways false refl h)
      go Army Remove h = absurd (both_ways false refl h)
      go Fleet order h = absurd (both_ways false refl h)

  -- what an order that matches as a support is
  pub record Helps (order : Order) (p : ℕ) : Type 0 where
    pub stays : destination order ≡ None
    pub aims : direction order ≡ target_of (order_at orders p)
    pub one : (q : ℕ) → is_matched (order_at orders) order q ≡ true → p ≡ q
    pub no_convoy : (q : ℕ) → is_carried m (order_at orders) order q ≡ true → ⊥

  none_is : (o : Option ℕ) → not (is_some o) ≡ true → None ≡ o
  none_is None h = refl
  none_is (Some x) h = absurd (both_ways false refl h)

  some_at : (o : Option ℕ) (q : ℕ) → is_at o q ≡ true → Some q ≡ o
  some_at None q h = absurd (both_ways false refl h)
  some_at (Some x) q h = ap Some (sym (eqb-true x q h))

  helps : (order : Order) (p : ℕ) → is_matched (order_at orders) order p ≡ true → Helps order p
  helps Hold p h = absurd (both_ways false refl h)
  helps (Move to via) p h = absurd (both_ways false refl h)
  helps (SupportHold at) p h =
      let e = and_parts (at.prov == p) _ h in
      let f = and_parts (is_there at (order_at orders p)) _ e.1 in
      record {
        stays = refl;
        aims = none_is _ f.1;
        one = λ q g. sym (eqb-true at.prov p e.0) ∙ eqb-true at.prov q (and_parts (at.prov == q) _ g).0;
        no_convoy = λ q g. both_ways false refl g;
      }
  helps (SupportMove at to) p h =
      let e = and_parts (at.prov == p) _ h in
      let f = and_parts (is_there at (order_at orders p)) _ e.1 in
      record {
        stays = refl;
        aims = some_at _ to f.1;
        one = λ q g. sym (eqb-true at.prov p e.0) ∙ eqb-true at.prov q (and_parts (at.prov == q) _ g).0;
        no_convoy = λ q g. both_ways false refl g;
      }
  helps (Convoy at to) p h = absurd (both_ways false refl h)
  helps (Retreat to) p h = absurd (both_ways false refl h)
  helps Disband p h = absurd (both_ways false refl h)
  helps Build p h = absurd (both_ways false refl h)
  helps Remove p h = absurd (both_ways false refl h)

  pub record Carries (order : Order) (p : ℕ) : Type 0 where
    pub stays : destination order ≡ None
    pub one : (q : ℕ) → is_carried m (order_at orders) order q ≡ true → p ≡ q

  carries : (order : Order) (p : ℕ) → is_carried m (order_at orders) order p ≡ true → Carries order p
  carries Hold p h = absurd (both_ways false refl h)
  carries (Move to via) p h = absurd (both_ways false refl h)
  carries (SupportHold at) p h = absurd (both_ways false refl h)
  carries (SupportMove at to) p h = absurd (both_ways false refl h)
  carries (Convoy at to) p h =
      let e = and_parts (at.prov == p) _ h in
      record { stays = refl; one = λ q g. sym (eqb-true at.prov p e.0) ∙ eqb-true at.prov q (and_parts (at.prov == q) _ g).0 }
  carries (Retreat to) p h = absurd (both_ways false refl h)
  carries Disband p h = absurd (both_ways false refl h)
  carries Build p h = absurd (both_ways false refl h)
  carries Remove p h = absurd (both_ways false refl h)

  one_carried : (o : Option PlacedOrder) (p q : ℕ) → convoys_in m (order_at orders) o p ≡ true → convoys_in m (order_at orders) o q ≡ true → p ≡ q
  one_carried None p q h g = absurd (both_ways false refl h)
  one_carried (Some o) p q h g = (carries o.order p (and_parts _ _ (and_parts _ _ h).1).1).one q (and_parts _ _ (and_parts _ _ g).1).1

  one_helped : (o : Option PlacedOrder) (p q : ℕ) → supports_in (order_at orders) o p ≡ true → supports_in (order_at orders) o q ≡ true → p ≡ q
  one_helped None p q h g = absurd (both_ways false refl h)
  one_helped (Some o) p q h g = (helps o.order p h).one q g

  carrier_helps_none : (o : Option PlacedOrder) (p q : ℕ) → convoys_in m (order_at orders) o p ≡ true → supports_in (order_at orders) o q ≡ true → ⊥
  carrier_helps_none None p q h g = both_ways false refl h
  carrier_helps_none (Some o) p q h g = (helps o.order q g).no_convoy p (and_parts _ _ (and_parts _ _ h).1).1

  helper_stays : (o : Option PlacedOrder) (p : ℕ) → supports_in (order_at orders) o p ≡ true → target_of o ≡ None
  helper_stays None p h = refl
  helper_stays (Some o) p h = (helps o.order p h).stays

  carrier_stays : (o : Option PlacedOrder) (p : ℕ) → convoys_in m (order_at orders) o p ≡ true → target_of o ≡ None
  carrier_stays None p h = refl
  carrier_stays (Some o) p h = (carries o.order p (and_parts _ _ (and_parts _ _ h).1).1).stays

  aiming : (o : Option PlacedOrder) (p : ℕ) → supports_in (order_at orders) o p ≡ true → aim_of o ≡ target_of (order_at orders p)
  aiming None p h = absurd (both_ways false refl h)
  aiming (Some o) p h = (helps o.order p h).aims

  pub situated : are_units_single (units_of orders) ≡ true → IsSituation (situation m orders)
  situated u = record {
    distinct = distinct_places orders ∙ u;
    elsewhere = elsewhere;
    listed = λ p q h. stands p (λ o. is_at (target_of o) q) refl h;
    helper_listed = λ h p e. stands h (λ o. supports_in (order_at orders) o p) refl e;
    carrier_listed = λ x p e. stands x (λ o. convoys_in m (order_at orders) o p) refl e;
    sailor_moves = λ p h. convoyed_moves (order_at orders p) h;
    helper_stays = λ h p e. helper_stays (order_at orders h) p e;
    carrier_stays = λ x p e. carrier_stays (order_at orders x) p e;
    one_carried = λ x p q e f. one_carried (order_at orders x) p q e f;
    carrier_helps_none = λ x p q e f. carrier_helps_none (order_at orders x) p q e f;
    one_helped = λ h p q e f. one_helped (order_at orders h) p q e f;
    aims = λ h p e. aiming (order_at orders h) p e;
  }
