-- Orders in which the unit of a move without a path holds, and nobody supports it to stay.
use Rattle.std.proofs.Common.{◌≡◌, ℕ, ◌⊎◌, inl, inr, List, refl, sym, ap, ◌∙◌}
use Rattle.std.specs.Prelude.{◌==◌, Bool, true, false, not, ◌&&◌, cond, Contains, Option, None, Some, is_some, option_map}
use Rattle.std.proofs.lemmas.Bool.{eqb-true, eq-eqb, cases_Bool, both_ways, or_left, or_right}
use Rattle.std.proofs.Math.Path.{fun_ext}
use Rattle.dip_names.specs.declared.names.Kind.{Kind}
use Rattle.dip_names.specs.declared.names.Kind.TheVariants.{Army, Fleet}
use Rattle.dip_names.specs.Kinds.{is_kind, is_sea}
use Rattle.dip_map.specs.Charts.{Chart, province, are_units_single}
use Rattle.dip_map.specs.Boards.{Position}
use Rattle.dip_orders_placed.specs.Standing.{units_of}
use Rattle.dip_orders_placed.specs.declared.placed.Other.{Other}
use Rattle.dip_orders_placed.specs.declared.placed.Order.{Order}
use Rattle.dip_orders_placed.specs.declared.placed.Order.TheVariants.{Hold, Move, SupportHold, SupportMove, Convoy, Retreat, Disband, Build, Remove}
use Rattle.dip_orders_placed.specs.declared.placed.PlacedOrder.{PlacedOrder}
use Rattle.dip_decide.specs.Decision.TheVariants.{Support as Supports}
use Rattle.dip_decide.specs.Deciding.{Assignment}
use Rattle.dip_decide.specs.Matching.{Standing, destination, target_of, direction, aim_of, goes_by_convoy, is_convoyed, is_there, is_matched, supports_in, is_carried, convoys_in, order_at, situation}
use Rattle.dip_decide.specs.Movement.{IsSituation, is_at}
use Rattle.dip_decide.specs.Statements.{BoardsAreSituations}
use Rattle.dip_decide_laws.specs.Words.{IsDecided, prov, held_if, holding, is_a_move, is_in, is_stay_support, is_in_or_stays, is_own_way, goes_itself, was_carried}
use Rattle.dip_decide_laws.specs.Laws.{IsTheSameBut}
use Rattle.dip_decide_laws.proofs.OrderLemmas as order
use Rattle.dip_decide_laws.proofs.PlayLemmas.{single}
use Rattle.dip_decide_laws.proofs.HoldLemmas as hold
use Rattle.dip_decide_laws.proofs.SilentLemmas.{silenced, unhelped, silent}
use Rattle.dip_decide_laws.proofs.HoldLemmas.{hold_walks}
use Rattle.dip_decide_laws.proofs.ListLemmas.{and_no}

-- orders by themselves

far_moves : (m : Chart) (k : Kind) (p : ℕ) (r : Order) → is_own_way m k p r ≡ false → is_a_move r ≡ true
far_moves m Fleet p r h = absurd (both_ways true h refl)
far_moves m Army p Hold h = absurd (both_ways true h refl)
far_moves m Army p (Move to via) h = refl
far_moves m Army p (SupportHold at) h = absurd (both_ways true h refl)
far_moves m Army p (SupportMove at to) h = absurd (both_ways true h refl)
far_moves m Army p (Convoy at to) h = absurd (both_ways true h refl)
far_moves m Army p (Retreat to) h = absurd (both_ways true h refl)
far_moves m Army p Disband h = absurd (both_ways true h refl)
far_moves m Army p Build h = absurd (both_ways true h refl)
far_moves m Army p Remove h = absurd (both_ways true h refl)

-- what a move is beside
pub record IsMoveAlone (m : Chart) (r : Order) : Type 0 where
  pub matches_none : (who : Standing) (p : ℕ) → is_matched who r p ≡ false
  pub carries_none : (who : Standing) (p : ℕ) → is_carried m who r p ≡ false
  pub aims_nowhere : direction r ≡ None

move_alone : (m : Chart) (r : Order) → is_a_move r ≡ true → IsMoveAlone m r
move_alone m Hold h = absurd (both_ways false refl h)
move_alone m (Move to via) h = record { matches_none = λ who p. refl; carries_none = λ who p. refl; aims_nowhere = refl }
move_alone m (SupportHold at) h = absurd (both_ways false refl h)
move_alone m (SupportMove at to) h = absurd (both_ways false refl h)
move_alone m (Convoy at to) h = absurd (both_ways false refl h)
move_alone m (Retreat to) h = absurd (both_ways false refl h)
move_alone m Disband h = absurd (both_ways false refl h)
move_alone m Build h = absurd (both_ways false refl h)
move_alone m Remove h = absurd (both_ways false refl h)

-- what a support to stay is
pub record IsStayAlone (m : Chart) (p : ℕ) (r : Order) : Type 0 where
  pub goes_nowhere : destination r ≡ None
  pub walks : (k : Kind) (q : ℕ) → goes_by_convoy m k q r ≡ false
  pub carries_none : (who : Standing) (q : ℕ) → is_carried m who r q ≡ false
  pub aims_nowhere : direction r ≡ None
  pub matches_there : (who : Standing) (q : ℕ) → (q == p) ≡ false → is_matched who r q ≡ false

stay_walks : (m : Chart) (at : Other) (k : Kind) (q : ℕ) → goes_by_convoy m k q (SupportHold at) ≡ false
stay_walks m at Army q = refl
stay_walks m at Fleet q = refl

apart : (x p q : ℕ) → (x == p) ≡ true → (q == p) ≡ false → (x == q) ≡ false
apart x p q e n = go (cases_Bool (x == q))
  where
    go : ((x == q) ≡ true) ⊎ ((x == q) ≡ false) → (x == q) ≡ false
    go (inr f) = f
    go (inl f) = absurd (both_ways _ n (eq-eqb q p (sym (eqb-true x q f) ∙ eqb-true x p e)))

stay_alone : (m : Chart) (p : ℕ) (r : Order) → is_stay_support r p ≡ true → IsStayAlone m p r
stay_alone m p Hold h = absurd (both_ways false refl h)
stay_alone m p (Move to via) h = absurd (both_ways false refl h)
stay_alone m p (SupportHold at) h = record {
  goes_nowhere = refl;
  walks = stay_walks m at;
  carries_none = λ who q. refl;
  aims_nowhere = refl;
  matches_there = λ who q n. ap (λ (b : Bool). b && (is_there at (who q) && not (is_some (target_of (who q))))) (apart at.prov p q h n);
}
stay_alone m p (SupportMove at to) h = absurd (both_ways false refl h)
stay_alone m p (Convoy at to) h = absurd (both_ways false refl h)
stay_alone m p (Retreat to) h = absurd (both_ways false refl h)
stay_alone m p Disband h = absurd (both_ways false refl h)
stay_alone m p Build h = absurd (both_ways false refl h)
stay_alone m p Remove h = absurd (both_ways false refl h)

same_either : {X : Type 0} (b : Bool) (x : X) → x ≡ cond b x x
same_either true x = refl
same_either false x = refl

within : (x y b c : Bool) → (x && (y && cond b false c)) ≡ cond b false (x && (y && c))
within x y true c = ap (λ (z : Bool). x && z) (and_no y) ∙ and_no x
within x y false c = refl

module _ (m : Chart) (orders : List PlacedOrder) (one : are_units_single (units_of orders) ≡ true) (o : PlacedOrder) (c : Contains orders o) (far : goes_itself m o ≡ false) where
  p : ℕ
  p = prov o

  alone : IsMoveAlone m o.order
  alone = move_alone m o.order (far_moves m o.unit.kind (prov o) o.order far)

  -- whether a unit holds instead
  pub data Case (r : PlacedOrder) : Type 0 where
    Itself : is_in (prov o) r ≡ true → Case r
    Staying : is_in (prov o) r ≡ false → is_stay_support r.order (prov o) ≡ true → Case r
    Elsewhere : is_in (prov o) r ≡ false → is_stay_support r.order (prov o) ≡ false → Case r

  which : (r : PlacedOrder) → Case r
  which r = go (cases_Bool (is_in (prov o) r)) (cases_Bool (is_stay_support r.order (prov o)))
    where
      go : (is_in (prov o) r ≡ true) ⊎ (is_in (prov o) r ≡ false) → (is_stay_support r.order (prov o) ≡ true) ⊎ (is_stay_support r.order (prov o) ≡ false) → Case r
      go (inl e) _ = Itself e
      go (inr e) (inl f) = Staying e f
      go (inr e) (inr f) = Elsewhere e f

  changed_itself : (r : PlacedOrder) → is_in (prov o) r ≡ true → held_if (is_in_or_stays (prov o)) r ≡ hold.held r
  changed_itself r e = hold.changed (is_in_or_stays (prov o)) r (or_left _ _ e)

  changed_staying : (r : PlacedOrder) → is_stay_support r.order (prov o) ≡ true → held_if (is_in_or_stays (prov o)) r ≡ hold.held r
  changed_staying r e = hold.changed (is_in_or_stays (prov o)) r (or_right (is_in (prov o) r) _ e)

  unchanged : (r : PlacedOrder) → is_in (prov o) r ≡ false → is_stay_support r.order (prov o) ≡ false → held_if (is_in_or_stays (prov o)) r ≡ r
  unchanged r e f = hold.unchanged (is_in_or_stays (prov o)) r (rw (e, f) refl)

  -- who is in p is this unit
  itself : (x : ℕ) (r : PlacedOrder) → order_at orders x ≡ Some r → is_in (prov o) r ≡ true → r ≡ o
  itself x r e h =
      let t = order.met orders x r e in
      let i : prov r ≡ prov o = eqb-true _ _ h in
      let k : Some r ≡ Some o = sym e ∙ ap (order_at orders) (sym t.there ∙ i) ∙ order.found orders o one c in
      cc

  here : (x : ℕ) (r : PlacedOrder) (b : Bool) → order_at orders x ≡ Some r → is_in (prov o) r ≡ b → (x == prov o) ≡ b
  here x r b e h = ap (λ (y : ℕ). y == prov o) (sym (order.met orders x r e).there) ∙ h

  -- what an order that isn't there, or to hold, has
  replaced : {X : Type 0} (f : Option PlacedOrder → X) (d : X) → f None ≡ d → ((r : PlacedOrder) → f (Some (hold.held r)) ≡ d) → ((r : PlacedOrder) → is_stay_support r.order (prov o) ≡ true → f (Some r) ≡ d)
      → (x : ℕ) → f (order_at (holding (is_in_or_stays (prov o)) orders) x) ≡ cond (x == prov o) d (f (order_at orders x))
  replaced {X = X} f d none held stays x = ap f (hold.standing_kept (is_in_or_stays (prov o)) orders x) ∙ go (order_at orders x) refl
    where
      go : (w : Option PlacedOrder) → order_at orders x ≡ w → f (option_map (held_if (is_in_or_stays (prov o))) w) ≡ cond (x == prov o) d (f w)
      go None e = none ∙ same_either (x == prov o) d ∙ ap (λ (y : X). cond (x == prov o) d y) (sym none)
      go (Some r) e = test (which r)
        where
          test : Case r → f (Some (held_if (is_in_or_stays (prov o)) r)) ≡ cond (x == prov o) d (f (Some r))
          test (Itself h) = ap (λ (y : PlacedOrder). f (Some y)) (changed_itself r h) ∙ held r ∙ sym (ap (λ (b : Bool). cond b d (f (Some r))) (here x r true e h))
          test (Staying h k) = ap (λ (y : PlacedOrder). f (Some y)) (changed_staying r k) ∙ held r ∙ sym (ap (λ (b : Bool). cond b d (f (Some r))) (here x r false e h) ∙ stays r k)
          test (Elsewhere h k) = ap (λ (y : PlacedOrder). f (Some y)) (unchanged r h k) ∙ sym (ap (λ (b : Bool). cond b d (f (Some r))) (here x r false e h))

  targets : (x : ℕ) → target_of (order_at (holding (is_in_or_stays (prov o)) orders) x) ≡ cond (x == prov o) None (target_of (order_at orders x))
  targets = replaced target_of None refl (λ r. refl) (λ r k. (stay_alone m (prov o) r.order k).goes_nowhere)

  convoyeds : (x : ℕ) → is_convoyed m (order_at (holding (is_in_or_stays (prov o)) orders) x) ≡ cond (x == prov o) false (is_convoyed m (order_at orders x))
  convoyeds = replaced (is_convoyed m) false refl (λ r. hold_walks m r.unit.kind r.unit.place.prov) (λ r k. (stay_alone m (prov o) r.order k).walks r.unit.kind r.unit.place.prov)

  aims : (x : ℕ) → aim_of (order_at (holding (is_in_or_stays (prov o)) orders) x) ≡ aim_of (order_at orders x)
  aims x = replaced aim_of None refl (λ r. refl) (λ r k. (stay_alone m (prov o) r.order k).aims_nowhere) x ∙ go (cases_Bool (x == prov o))
    where
      go : ((x == prov o) ≡ true) ⊎ ((x == prov o) ≡ false) → cond (x == prov o) None (aim_of (order_at orders x)) ≡ aim_of (order_at orders x)
      go (inr e) = rw e refl
      go (inl e) = rw e (sym (ap (λ (y : ℕ). aim_of (order_at orders y)) (eqb-true _ _ e) ∙ ap aim_of (order.found orders o one c) ∙ alone.aims_nowhere))

  theres : (at : Other) (x : ℕ) → is_there at (order_at (holding (is_in_or_stays (prov o)) orders) x) ≡ is_there at (order_at orders x)
  theres at x = hold.theres_kept (is_in_or_stays (prov o)) orders at x

  -- which supports match then
  matcheds : (r : Order) (x : ℕ) → is_stay_support r (prov o) ≡ false → is_matched (order_at (holding (is_in_or_stays (prov o)) orders)) r x ≡ cond (x == prov o) false (is_matched (order_at orders) r x)
  matcheds Hold x k = same_either (x == prov o) false
  matcheds (Move to via) x k = same_either (x == prov o) false
  matcheds (SupportHold at) x k = go (cases_Bool (x == prov o))
    where
      go : ((x == prov o) ≡ true) ⊎ ((x == prov o) ≡ false) → ((at.prov == x) && (is_there at (order_at (holding (is_in_or_stays (prov o)) orders) x) && not (is_some (target_of (order_at (holding (is_in_or_stays (prov o)) orders) x)))))
          ≡ cond (x == prov o) false ((at.prov == x) && (is_there at (order_at orders x) && not (is_some (target_of (order_at orders x)))))
      go (inl e) = ap (λ (b : Bool). b && (is_there at (order_at (holding (is_in_or_stays (prov o)) orders) x) && not (is_some (target_of (order_at (holding (is_in_or_stays (prov o)) orders) x)))))
          (ap (λ (y : ℕ). at.prov == y) (eqb-true _ _ e) ∙ k) ∙ sym (ap (λ (b : Bool). cond b false ((at.prov == x) && (is_there at (order_at orders x) && not (is_some (target_of (order_at orders x)))))) e)
      go (inr e) = rw (theres at x, targets x, e) refl
  matcheds (SupportMove at to) x k = go (cases_Bool (x == prov o))
    where
      go : ((x == prov o) ≡ true) ⊎ ((x == prov o) ≡ false) → ((at.prov == x) && (is_there at (order_at (holding (is_in_or_stays (prov o)) orders) x) && is_at (target_of (order_at (holding (is_in_or_stays (prov o)) orders) x)) to))
          ≡ cond (x == prov o) false ((at.prov == x) && (is_there at (order_at orders x) && is_at (target_of (order_at orders x)) to))
      go (inl e) = rw (targets x, e) (ap (λ (b : Bool). (at.prov == x) && b) (and_no _) ∙ and_no (at.prov == x))
      go (inr e) = rw (theres at x, targets x, e) refl
  matcheds (Convoy at to) x k = same_either (x == prov o) false
  matcheds (Retreat to) x k = same_either (x == prov o) false
  matcheds Disband x k = same_either (x == prov o) false
  matcheds Build x k = same_either (x == prov o) false
  matcheds Remove x k = same_either (x == prov o) false

  carrieds : (r : Order) (x : ℕ) → is_carried m (order_at (holding (is_in_or_stays (prov o)) orders)) r x ≡ cond (x == prov o) false (is_carried m (order_at orders) r x)
  carrieds Hold x = same_either (x == prov o) false
  carrieds (Move to via) x = same_either (x == prov o) false
  carrieds (SupportHold at) x = same_either (x == prov o) false
  carrieds (SupportMove at to) x = same_either (x == prov o) false
  carrieds (Convoy at to) x = go (cases_Bool (x == prov o))
    where
      go : ((x == prov o) ≡ true) ⊎ ((x == prov o) ≡ false) → ((at.prov == x) && (is_there at (order_at (holding (is_in_or_stays (prov o)) orders) x)
          && (is_convoyed m (order_at (holding (is_in_or_stays (prov o)) orders) x) && is_at (target_of (order_at (holding (is_in_or_stays (prov o)) orders) x)) to)))
          ≡ cond (x == prov o) false ((at.prov == x) && (is_there at (order_at orders x) && (is_convoyed m (order_at orders x) && is_at (target_of (order_at orders x)) to)))
      go (inl e) = rw (convoyeds x, e) (ap (λ (b : Bool). (at.prov == x) && b) (and_no _) ∙ and_no (at.prov == x))
      go (inr e) = rw (theres at x, convoyeds x, targets x, e) refl
  carrieds (Retreat to) x = same_either (x == prov o) false
  carrieds Disband x = same_either (x == prov o) false
  carrieds Build x = same_either (x == prov o) false
  carrieds Remove x = same_either (x == prov o) false

  supports_kept : (h x : ℕ) → (situation m (holding (is_in_or_stays (prov o)) orders)).supports h x ≡ cond (x == prov o) false ((situation m orders).supports h x)
  supports_kept h x = ap (λ (w : Option PlacedOrder). supports_in (order_at (holding (is_in_or_stays (prov o)) orders)) w x) (hold.standing_kept (is_in_or_stays (prov o)) orders h) ∙ go (order_at orders h) refl
    where
      who : Standing
      who = order_at (holding (is_in_or_stays (prov o)) orders)

      go : (w : Option PlacedOrder) → order_at orders h ≡ w → supports_in (order_at (holding (is_in_or_stays (prov o)) orders)) (option_map (held_if (is_in_or_stays (prov o))) w) x ≡ cond (x == prov o) false (supports_in (order_at orders) w x)
      go None e = same_either (x == prov o) false
      go (Some r) e = test (which r)
        where
          test : Case r → is_matched (order_at (holding (is_in_or_stays (prov o)) orders)) (held_if (is_in_or_stays (prov o)) r).order x ≡ cond (x == prov o) false (is_matched (order_at orders) r.order x)
          test (Itself k) = ap (λ (y : PlacedOrder). is_matched (order_at (holding (is_in_or_stays (prov o)) orders)) y.order x) (changed_itself r k)
              ∙ same_either (x == prov o) false ∙ ap (λ (b : Bool). cond (x == prov o) false b) (sym (ap (λ (y : PlacedOrder). is_matched (order_at orders) y.order x) (itself h r e k) ∙ alone.matches_none (order_at orders) x))
          test (Staying k l) = ap (λ (y : PlacedOrder). is_matched (order_at (holding (is_in_or_stays (prov o)) orders)) y.order x) (changed_staying r l) ∙ sym (none (cases_Bool (x == prov o)))
            where
              none : ((x == prov o) ≡ true) ⊎ ((x == prov o) ≡ false) → cond (x == prov o) false (is_matched (order_at orders) r.order x) ≡ false
              none (inl f) = rw f refl
              none (inr f) = rw f ((stay_alone m (prov o) r.order l).matches_there (order_at orders) x f)
          test (Elsewhere k l) = ap (λ (y : PlacedOrder). is_matched (order_at (holding (is_in_or_stays (prov o)) orders)) y.order x) (unchanged r k l) ∙ matcheds r.order x l

  convoys_kept : (h x : ℕ) → (situation m (holding (is_in_or_stays (prov o)) orders)).convoys h x ≡ cond (x == prov o) false ((situation m orders).convoys h x)
  convoys_kept h x = ap (λ (w : Option PlacedOrder). convoys_in m (order_at (holding (is_in_or_stays (prov o)) orders)) w x) (hold.standing_kept (is_in_or_stays (prov o)) orders h) ∙ go (order_at orders h) refl
    where
      nothing : (r : PlacedOrder) (b : Bool) → b ≡ false → (is_kind r.unit.kind Fleet && (is_sea (province m r.unit.place.prov).terrain && b)) ≡ false
      nothing r b n = rw n (ap (λ (z : Bool). is_kind r.unit.kind Fleet && z) (and_no _) ∙ and_no (is_kind r.unit.kind Fleet))

      go : (w : Option PlacedOrder) → order_at orders h ≡ w → convoys_in m (order_at (holding (is_in_or_stays (prov o)) orders)) (option_map (held_if (is_in_or_stays (prov o))) w) x ≡ cond (x == prov o) false (convoys_in m (order_at orders) w x)
      go None e = same_either (x == prov o) false
      go (Some r) e = test (which r)
        where
          test : Case r → convoys_in m (order_at (holding (is_in_or_stays (prov o)) orders)) (Some (held_if (is_in_or_stays (prov o)) r)) x ≡ cond (x == prov o) false (convoys_in m (order_at orders) (Some r) x)
          test (Itself k) = ap (λ (y : PlacedOrder). convoys_in m (order_at (holding (is_in_or_stays (prov o)) orders)) (Some y) x) (changed_itself r k) ∙ nothing r false refl
              ∙ same_either (x == prov o) false ∙ ap (λ (b : Bool). cond (x == prov o) false b) (sym (nothing r _ (ap (λ (y : PlacedOrder). is_carried m (order_at orders) y.order x) (itself h r e k) ∙ alone.carries_none (order_at orders) x)))
          test (Staying k l) = ap (λ (y : PlacedOrder). convoys_in m (order_at (holding (is_in_or_stays (prov o)) orders)) (Some y) x) (changed_staying r l) ∙ nothing r false refl
              ∙ same_either (x == prov o) false ∙ ap (λ (b : Bool). cond (x == prov o) false b) (sym (nothing r _ ((stay_alone m (prov o) r.order l).carries_none (order_at orders) x)))
          test (Elsewhere k l) = ap (λ (y : PlacedOrder). convoys_in m (order_at (holding (is_in_or_stays (prov o)) orders)) (Some y) x) (unchanged r k l)
              ∙ ap (λ (b : Bool). is_kind r.unit.kind Fleet && (is_sea (province m r.unit.place.prov).terrain && b)) (carrieds r.order x)
              ∙ within (is_kind r.unit.kind Fleet) (is_sea (province m r.unit.place.prov).terrain) (x == prov o) (is_carried m (order_at orders) r.order x)

  pub silenced_is : situation m (holding (is_in_or_stays (prov o)) orders) ≡ silenced (situation m orders) (prov o)
  silenced_is = hold.alike _ _ _ _ _ _ _ _ _ _ _ _ _ _ _ _ _
      (hold.provinces_kept (is_in_or_stays (prov o)) orders)
      (fun_ext (λ x. hold.occupied_kept (is_in_or_stays (prov o)) m orders x))
      (fun_ext (λ x. fun_ext (λ y. hold.powers_kept (is_in_or_stays (prov o)) m orders x y)))
      (fun_ext targets) (fun_ext convoyeds) (fun_ext (λ h. fun_ext (λ x. supports_kept h x))) (fun_ext aims) (fun_ext (λ h. fun_ext (λ x. convoys_kept h x)))

pub pathless_law : BoardsAreSituations → (m : Chart) (b : Position) (orders : List PlacedOrder) (a : Assignment) (o : PlacedOrder) → IsDecided m b orders a → Contains orders o → goes_itself m o ≡ false → was_carried a o ≡ false
    → (new : Assignment) × IsDecided m b (holding (is_in_or_stays (prov o)) orders) new × IsTheSameBut orders o a new
pathless_law boards m b orders a o d c far lost = (unhelped (situation m orders) (prov o) a, decided, same)
  where
    one : are_units_single (units_of orders) ≡ true
    one = single m b orders d.standing

    i : IsSituation (situation m orders)
    i = boards m b orders d.standing

    given : (g k : Bool) → k ≡ false → (g && not k) ≡ g
    given true k e = rw e refl
    given false k e = refl

    decided : IsDecided m b (holding (is_in_or_stays (prov o)) orders) (unhelped (situation m orders) (prov o) a)
    decided = record {
      standing = hold.orders_kept (is_in_or_stays (prov o)) m b orders d.standing;
      broken = d.broken;
      paths_alone = d.paths_alone;
      equations = rw (silenced_is m orders one o c far) (silent (situation m orders) (prov o) d.broken d.paths_alone a d.equations i.one_helped
          (order.move_law m orders one o c ∙ far_moves m o.unit.kind (prov o) o.order far) (order.convoyed_law m orders one o c ∙ ap not far) lost);
    }

    same : IsTheSameBut orders o a (unhelped (situation m orders) (prov o) a)
    same = record {
      moved = λ x. refl;
      carried = λ x. refl;
      helped = λ h e n. given (a (Supports (prov h))) _ (order.supports_law m orders one h o e c ∙ n);
    }
