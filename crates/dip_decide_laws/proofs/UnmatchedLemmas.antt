-- A support that matches nothing changes nothing.
use Rattle.std.proofs.Common.{◌≡◌, ℕ, ◌⊎◌, inl, inr, List, refl, sym, subst, ap, ◌∙◌}
use Rattle.std.specs.Prelude.{◌==◌, ◌↔◌, Bool, true, false, not, ◌&&◌, Contains, Option, None, Some, option_map, if◌then◌else◌}
use Rattle.std.specs.List.{list_all}
use Rattle.std.proofs.lemmas.Bool.{eqb-true, eq-eqb, cases_Bool, both_ways}
use Rattle.std.proofs.Math.Path.{fun_ext}
use Rattle.dip_names.specs.declared.names.Kind.{Kind}
use Rattle.dip_names.specs.declared.names.Kind.TheVariants.{Army, Fleet}
use Rattle.dip_names.specs.Kinds.{is_kind, is_sea}
use Rattle.dip_map.specs.Charts.{Chart, province, are_units_single}
use Rattle.dip_map.specs.Boards.{Position}
use Rattle.dip_orders_placed.specs.Standing.{units_of}
use Rattle.dip_orders_placed.specs.declared.placed.Order.{Order}
use Rattle.dip_orders_placed.specs.declared.placed.Order.TheVariants.{Hold, Move, SupportHold, SupportMove, Convoy, Retreat, Disband, Build, Remove}
use Rattle.dip_orders_placed.specs.declared.placed.PlacedOrder.{PlacedOrder}
use Rattle.dip_decide.specs.Decision.{Decision}
use Rattle.dip_decide.specs.Decision.TheVariants.{Move as Moves, Path as Paths, Support as Supports}
use Rattle.dip_decide.specs.Deciding.{Assignment}
use Rattle.dip_decide.specs.Laws.{AreOrders}
use Rattle.dip_decide.specs.Matching.{Standing, destination, target_of, aim_of, goes_by_convoy, is_convoyed, is_matched, supports_in, is_carried, convoys_in, order_at, situation}
use Rattle.dip_decide.specs.Movement.{Situation, is_at, goes, has_path, is_support, move_rule, path_rule, rule, cuts}
use Rattle.dip_decide_laws.specs.Words.{IsDecided, prov, held_if, holding, is_in, is_a_support, helps}
use Rattle.dip_decide_laws.proofs.EquationLemmas.{given_is}
use Rattle.dip_decide_laws.proofs.ListLemmas.{and_no, any_none}
use Rattle.dip_decide_laws.proofs.OrderLemmas as order
use Rattle.dip_decide_laws.proofs.PlayLemmas.{single}
use Rattle.dip_decide_laws.proofs.HoldLemmas as hold

-- another aim of supports that match nothing changes no equation

abbrev aimed : Situation → (ℕ → Option ℕ) → Situation
aimed s aim = hold.made s.places s.is_occupied s.same_power s.target s.convoyed s.supports aim s.convoys s.next

aimed_move : (s : Situation) (aim : ℕ → Option ℕ) (a : Assignment) (p : ℕ) (t : Option ℕ) → move_rule (aimed s aim) a p t ≡ move_rule s a p t
aimed_move s aim a p None = refl
aimed_move s aim a p (Some q) = refl

aimed_path : (s : Situation) (aim : ℕ → Option ℕ) (a : Assignment) (p : ℕ) (t : Option ℕ) → path_rule (aimed s aim) a p t ≡ path_rule s a p t
aimed_path s aim a p None = refl
aimed_path s aim a p (Some q) = refl

pub aimed_rule : (s : Situation) (aim : ℕ → Option ℕ) → ((h : ℕ) → is_support s h ≡ true → aim h ≡ s.aim h) → (d : Decision) (a : Assignment) → rule (aimed s aim) d a ≡ rule s d a
aimed_rule s aim h (Moves p) a = aimed_move s aim a p (s.target p)
aimed_rule s aim h (Paths p) a = ap (λ (b : Bool). s.convoyed p && b) (aimed_path s aim a p (s.target p))
aimed_rule s aim h (Supports p) a = go (cases_Bool (is_support s p))
  where
    uncut : Option ℕ → Bool
    uncut t = list_all (λ x. not ((goes s x p && not (s.same_power x p)) && (if is_at t x then a (Moves x) else has_path s a x))) s.places

    go : (is_support s p ≡ true) ⊎ (is_support s p ≡ false) → (is_support s p && uncut (aim p)) ≡ (is_support s p && uncut (s.aim p))
    go (inl e) = ap (λ (t : Option ℕ). is_support s p && uncut t) (h p e)
    go (inr e) = ap (λ (b : Bool). b && uncut (aim p)) e ∙ sym (ap (λ (b : Bool). b && uncut (s.aim p)) e)

-- what a support isn't

support_stays : (r : Order) → is_a_support r ≡ true → None ≡ destination r
support_stays Hold h = absurd (both_ways false refl h)
support_stays (Move to via) h = absurd (both_ways false refl h)
support_stays (SupportHold at) h = refl
support_stays (SupportMove at to) h = refl
support_stays (Convoy at to) h = absurd (both_ways false refl h)
support_stays (Retreat to) h = absurd (both_ways false refl h)
support_stays Disband h = absurd (both_ways false refl h)
support_stays Build h = absurd (both_ways false refl h)
support_stays Remove h = absurd (both_ways false refl h)

support_walks : (m : Chart) (k : Kind) (p : ℕ) (r : Order) → is_a_support r ≡ true → goes_by_convoy m k p Hold ≡ goes_by_convoy m k p r
support_walks m Fleet p r h = refl
support_walks m Army p Hold h = refl
support_walks m Army p (Move to via) h = absurd (both_ways false refl h)
support_walks m Army p (SupportHold at) h = refl
support_walks m Army p (SupportMove at to) h = refl
support_walks m Army p (Convoy at to) h = refl
support_walks m Army p (Retreat to) h = refl
support_walks m Army p Disband h = refl
support_walks m Army p Build h = refl
support_walks m Army p Remove h = refl

support_carries_none : (m : Chart) (who : Standing) (r : Order) (p : ℕ) → is_a_support r ≡ true → false ≡ is_carried m who r p
support_carries_none m who Hold p h = refl
support_carries_none m who (Move to via) p h = refl
support_carries_none m who (SupportHold at) p h = refl
support_carries_none m who (SupportMove at to) p h = refl
support_carries_none m who (Convoy at to) p h = absurd (both_ways false refl h)
support_carries_none m who (Retreat to) p h = refl
support_carries_none m who Disband p h = refl
support_carries_none m who Build p h = refl
support_carries_none m who Remove p h = refl

-- nobody there is supported
nobody_matched : (who : Standing) (r : Order) (p : ℕ) → who p ≡ None → is_matched who r p ≡ false
nobody_matched who Hold p e = refl
nobody_matched who (Move to via) p e = refl
nobody_matched who (SupportHold at) p e = rw e (and_no (at.prov == p))
nobody_matched who (SupportMove at to) p e = rw e (and_no (at.prov == p))
nobody_matched who (Convoy at to) p e = refl
nobody_matched who (Retreat to) p e = refl
nobody_matched who Disband p e = refl
nobody_matched who Build p e = refl
nobody_matched who Remove p e = refl

module _ (m : Chart) (orders : List PlacedOrder) (one : are_units_single (units_of orders) ≡ true) (h : PlacedOrder) (c : Contains orders h) (supports : is_a_support h.order ≡ true)
    (unmatched : (o : PlacedOrder) → Contains orders o → helps h o ≡ false) where
  others : List PlacedOrder
  others = holding (is_in (prov h)) orders

  at_held : order_at (holding (is_in (prov h)) orders) (prov h) ≡ Some (hold.held h)
  at_held = hold.standing_kept (is_in (prov h)) orders (prov h) ∙ ap (option_map (held_if (is_in (prov h)))) (order.found orders h one c)
      ∙ ap Some (hold.changed (is_in (prov h)) h (eq-eqb (prov h) (prov h) refl))

  elsewhere : (p : ℕ) → (p == prov h) ≡ false → order_at (holding (is_in (prov h)) orders) p ≡ order_at orders p
  elsewhere p e = hold.standing_kept (is_in (prov h)) orders p ∙ go (order_at orders p) refl
    where
      go : (o : Option PlacedOrder) → order_at orders p ≡ o → option_map (held_if (is_in (prov h))) o ≡ o
      go None k = refl
      go (Some o) k = let t = order.met orders p o k in ap Some (hold.unchanged (is_in (prov h)) o (ap (λ (x : ℕ). x == prov h) t.there ∙ e))

  kept_by : {X : Type 0} (f : Option PlacedOrder → X) → f (Some (hold.held h)) ≡ f (Some h) → (p : ℕ) → f (order_at (holding (is_in (prov h)) orders) p) ≡ f (order_at orders p)
  kept_by f same p = go (cases_Bool (p == prov h))
    where
      go : ((p == prov h) ≡ true) ⊎ ((p == prov h) ≡ false) → f (order_at (holding (is_in (prov h)) orders) p) ≡ f (order_at orders p)
      go (inl e) = subst (λ (x : ℕ). f (order_at (holding (is_in (prov h)) orders) x) ≡ f (order_at orders x)) (sym (eqb-true _ _ e)) (ap f at_held ∙ same ∙ sym (ap f (order.found orders h one c)))
      go (inr e) = ap f (elsewhere p e)

  targets : (p : ℕ) → target_of (order_at (holding (is_in (prov h)) orders) p) ≡ target_of (order_at orders p)
  targets = kept_by target_of (support_stays h.order supports)

  convoyeds : (p : ℕ) → is_convoyed m (order_at (holding (is_in (prov h)) orders) p) ≡ is_convoyed m (order_at orders p)
  convoyeds = kept_by (is_convoyed m) (support_walks m h.unit.kind h.unit.place.prov h.order supports)

  matcheds : (r : Order) (p : ℕ) → is_matched (order_at (holding (is_in (prov h)) orders)) r p ≡ is_matched (order_at orders) r p
  matcheds Hold p = refl
  matcheds (Move to via) p = refl
  matcheds (SupportHold at) p = rw (hold.theres_kept (is_in (prov h)) orders at p, targets p) refl
  matcheds (SupportMove at to) p = rw (hold.theres_kept (is_in (prov h)) orders at p, targets p) refl
  matcheds (Convoy at to) p = refl
  matcheds (Retreat to) p = refl
  matcheds Disband p = refl
  matcheds Build p = refl
  matcheds Remove p = refl

  carrieds : (r : Order) (p : ℕ) → is_carried m (order_at (holding (is_in (prov h)) orders)) r p ≡ is_carried m (order_at orders) r p
  carrieds Hold p = refl
  carrieds (Move to via) p = refl
  carrieds (SupportHold at) p = refl
  carrieds (SupportMove at to) p = refl
  carrieds (Convoy at to) p = rw (hold.theres_kept (is_in (prov h)) orders at p, convoyeds p, targets p) refl
  carrieds (Retreat to) p = refl
  carrieds Disband p = refl
  carrieds Build p = refl
  carrieds Remove p = refl

  none_matched : (p : ℕ) → is_matched (order_at orders) h.order p ≡ false
  none_matched p = go (order_at orders p) refl
    where
      go : (o : Option PlacedOrder) → order_at orders p ≡ o → is_matched (order_at orders) h.order p ≡ false
      go None e = nobody_matched (order_at orders) h.order p e
      go (Some o) e = let t = order.met orders p o e in subst (λ (x : ℕ). is_matched (order_at orders) h.order x ≡ false) t.there (order.matches m orders one o h.order t.among ∙ unmatched o t.among)

  supports_kept : (p q : ℕ) → (situation m (holding (is_in (prov h)) orders)).supports p q ≡ (situation m orders).supports p q
  supports_kept p q = row (order_at (holding (is_in (prov h)) orders) p) ∙ kept_by (λ o. supports_in (order_at orders) o q) (sym (none_matched q)) p
    where
      row : (o : Option PlacedOrder) → supports_in (order_at (holding (is_in (prov h)) orders)) o q ≡ supports_in (order_at orders) o q
      row None = refl
      row (Some o) = matcheds o.order q

  convoys_kept : (p q : ℕ) → (situation m (holding (is_in (prov h)) orders)).convoys p q ≡ (situation m orders).convoys p q
  convoys_kept p q = row (order_at (holding (is_in (prov h)) orders) p) ∙ kept_by (λ o. convoys_in m (order_at orders) o q)
      (ap (λ (b : Bool). is_kind h.unit.kind Fleet && (is_sea (province m h.unit.place.prov).terrain && b)) (support_carries_none m (order_at orders) h.order q supports)) p
    where
      row : (o : Option PlacedOrder) → convoys_in m (order_at (holding (is_in (prov h)) orders)) o q ≡ convoys_in m (order_at orders) o q
      row None = refl
      row (Some o) = ap (λ (b : Bool). is_kind o.unit.kind Fleet && (is_sea (province m o.unit.place.prov).terrain && b)) (carrieds o.order q)

  pub unsupporting : is_support (situation m orders) (prov h) ≡ false
  unsupporting = any_none _ _ (λ q. ap (λ (o : Option PlacedOrder). supports_in (order_at orders) o q) (order.found orders h one c) ∙ none_matched q)

  same_but_aim : situation m (holding (is_in (prov h)) orders) ≡ aimed (situation m orders) (situation m (holding (is_in (prov h)) orders)).aim
  same_but_aim = hold.alike _ _ _ _ _ _ _ _ _ _ _ _ _ _ _ _ _
      (hold.provinces_kept (is_in (prov h)) orders)
      (fun_ext (λ p. hold.occupied_kept (is_in (prov h)) m orders p))
      (fun_ext (λ p. fun_ext (λ q. hold.powers_kept (is_in (prov h)) m orders p q)))
      (fun_ext targets) (fun_ext convoyeds) (fun_ext (λ p. fun_ext (λ q. supports_kept p q))) refl (fun_ext (λ p. fun_ext (λ q. convoys_kept p q)))

  pub rules_kept : (d : Decision) (a : Assignment) → rule (situation m (holding (is_in (prov h)) orders)) d a ≡ rule (situation m orders) d a
  rules_kept d a = ap (λ (s : Situation). rule s d a) same_but_aim ∙ aimed_rule (situation m orders) (situation m (holding (is_in (prov h)) orders)).aim aims d a
    where
      aims : (p : ℕ) → is_support (situation m orders) p ≡ true → (situation m (holding (is_in (prov h)) orders)).aim p ≡ (situation m orders).aim p
      aims p k = go (cases_Bool (p == prov h))
        where
          go : ((p == prov h) ≡ true) ⊎ ((p == prov h) ≡ false) → (situation m (holding (is_in (prov h)) orders)).aim p ≡ (situation m orders).aim p
          go (inl e) = absurd (both_ways _ (ap (is_support (situation m orders)) (eqb-true _ _ e) ∙ unsupporting) k)
          go (inr e) = ap aim_of (elsewhere p e)

pub unmatched_law : (m : Chart) (b : Position) (orders : List PlacedOrder) (a : Assignment) (h : PlacedOrder) → AreOrders m b orders → Contains orders h → is_a_support h.order ≡ true
    → ((o : PlacedOrder) → Contains orders o → helps h o ≡ false) → IsDecided m b orders a ↔ IsDecided m b (holding (is_in (prov h)) orders) a
unmatched_law m b orders a h o c s n = (there, back)
  where
    kept : (d : Decision) → rule (situation m (holding (is_in (prov h)) orders)) d a ≡ rule (situation m orders) d a
    kept d = rules_kept m orders (single m b orders o) h c s n d a

    there : IsDecided m b orders a → IsDecided m b (holding (is_in (prov h)) orders) a
    there d = record {
      standing = hold.orders_kept (is_in (prov h)) m b orders o;
      broken = d.broken;
      paths_alone = d.paths_alone;
      equations = λ x. d.equations x ∙ ap (λ (r : Bool). not (d.broken x) && r) (sym (kept x));
    }

    back : IsDecided m b (holding (is_in (prov h)) orders) a → IsDecided m b orders a
    back d = record {
      standing = o;
      broken = d.broken;
      paths_alone = d.paths_alone;
      equations = λ x. d.equations x ∙ ap (λ (r : Bool). not (d.broken x) && r) (kept x);
    }

pub void_law : (m : Chart) (b : Position) (orders : List PlacedOrder) (a : Assignment) (h : PlacedOrder) → IsDecided m b orders a → Contains orders h → is_a_support h.order ≡ true
    → ((o : PlacedOrder) → Contains orders o → helps h o ≡ false) → a (Supports (prov h)) ≡ false
void_law m b orders a h d c s n =
    given_is (situation m orders) d.broken d.paths_alone a d.equations (prov h) ∙ ap (λ (x : Bool). x && list_all (λ y. not (cuts (situation m orders) a (prov h) y)) (situation m orders).places) (unsupporting m orders (single m b orders d.standing) h c s n)
