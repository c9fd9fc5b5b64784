-- Who comes by convoy was carried by a chain of fleets, none of them dislodged.
use Rattle.std.proofs.Common.{◌≡◌, ℕ, ◌<◌, ◌⊎◌, inl, inr, zero, suc, List, [], ◌∷◌, length, refl, sym, subst, ap, ◌∙◌, arith}
use Rattle.std.specs.Prelude.{◌==◌, Bool, true, false, not, ◌&&◌, ◌||◌, Contains, Option, None, Some, slice_index_or}
use Rattle.std.specs.List.{list_any}
use Rattle.std.proofs.lemmas.Bool.{eqb-true, eq-eqb, or_left, or_right, both_ways, and_parts, and_from, not-true}
use Rattle.dip_names.specs.declared.names.Kind.{Kind}
use Rattle.dip_names.specs.declared.names.Kind.TheVariants.{Army, Fleet}
use Rattle.dip_names.specs.declared.names.Place.{Place}
use Rattle.dip_names.specs.declared.names.Terrain.{Terrain}
use Rattle.dip_names.specs.declared.names.Terrain.TheVariants.{Inland, Coast, Sea}
use Rattle.dip_names.specs.Kinds.{is_kind, is_sea}
use Rattle.dip_map.specs.Charts.{Chart, Shore, no_shore, province, shore, are_units_single}
use Rattle.dip_map.specs.Boards.{Position}
use Rattle.dip_orders_placed.specs.Standing.{units_of}
use Rattle.dip_orders_placed.specs.declared.placed.Other.{Other}
use Rattle.dip_orders_placed.specs.declared.placed.Order.{Order}
use Rattle.dip_orders_placed.specs.declared.placed.Order.TheVariants.{Hold, Move, SupportHold, SupportMove, Convoy, Retreat, Disband, Build, Remove}
use Rattle.dip_orders_placed.specs.declared.placed.PlacedOrder.{PlacedOrder}
use Rattle.dip_decide.specs.Decision.TheVariants.{Move as Moves, Path as Paths}
use Rattle.dip_decide.specs.Deciding.{Assignment}
use Rattle.dip_decide.specs.Laws.{AreJoined}
use Rattle.dip_decide.specs.Matching.{order_at, convoys_in, is_carried, is_there, is_convoyed, is_sea_next, situation}
use Rattle.dip_decide.specs.Movement.{is_at, goes, is_entered, is_listed, joins, path_rule, rule, serves}
use Rattle.dip_decide.specs.Statements.{ChainsAreFound}
use Rattle.dip_decide_laws.specs.Words.{IsDecided, prov, goes_to, goes_itself, names, has_moved, has_entered}
use Rattle.dip_decide_laws.specs.Laws.{AreNextAtSea, Carries, AreCarrying, IsCarried}
use Rattle.dip_decide_laws.proofs.EquationLemmas as equations
use Rattle.dip_decide_laws.proofs.OrderLemmas as order
use Rattle.dip_decide_laws.proofs.ListLemmas.{any_at, first_or_other, one_passes}
use Rattle.dip_decide_laws.proofs.PlayLemmas.{single}

-- lists

pub passes : {A : Type 0} (t : A → Bool) (xs : List A) (x : A) → Contains xs x → t x ≡ true → list_any t xs ≡ true
passes t [] x (k, low, is) h = absurd (omega arith)
passes t (y ∷ xs) x c h = go (first_or_other y xs x c) (λ d. passes t xs x d h)
  where
    go : (y ≡ x) ⊎ Contains xs x → (Contains xs x → list_any t xs ≡ true) → list_any t (y ∷ xs) ≡ true
    go (inl s) f = or_left _ _ (ap t s ∙ h)
    go (inr d) f = or_right (t y) _ (f d)

index_any : {A : Type 0} (xs : List A) (k : ℕ) (d e : A) → k < length xs → slice_index_or xs k d ≡ slice_index_or xs k e
index_any [] k d e l = absurd (omega arith)
index_any (x ∷ xs) zero d e l = refl
index_any (x ∷ xs) (suc k) d e l = index_any xs k d e (omega arith)

-- provinces next to one another for a fleet

same_place : (b : Place) → ((b.prov == b.prov) && (b.coast == b.coast)) ≡ true
same_place b = and_from _ _ (eq-eqb b.prov b.prov refl) (eq-eqb b.coast b.coast refl)

pub next_at_sea : (m : Chart) (p q : ℕ) → is_sea_next m p q ≡ true → AreNextAtSea m p q
next_at_sea m p q h =
    let f = one_passes (λ (s : Shore). list_any (λ (b : Place). b.prov == q) s.next) (province m p).shores h in
    let t = one_passes (λ (b : Place). b.prov == q) f.0.next f.2 in
    let k = f.1 in
    let here : shore m (record { prov = p; coast = k.0 }) ≡ f.0 = index_any (province m p).shores k.0 no_shore f.0 k.1 ∙ k.2 in
    record {
      from = record { prov = p; coast = k.0 };
      to = t.0;
      starts = refl;
      ends = eqb-true _ _ t.2;
      next = ap (λ (s : Shore). list_any (λ (x : Place). (x.prov == t.0.prov) && (x.coast == t.0.coast)) s.next) here ∙ passes _ f.0.next t.0 t.1 (same_place t.0);
    }

-- kinds

pub a_fleet : (k : Kind) → is_kind k Fleet ≡ true → k ≡ Fleet
a_fleet Army h = absurd (both_ways false refl h)
a_fleet Fleet h = refl

pub a_sea : (t : Terrain) → is_sea t ≡ true → t ≡ Sea
a_sea Inland h = absurd (both_ways false refl h)
a_sea Coast h = absurd (both_ways false refl h)
a_sea Sea h = refl

at_some : (o : Option ℕ) (q : ℕ) → is_at o q ≡ true → o ≡ Some q
at_some None q h = absurd (both_ways false refl h)
at_some (Some x) q h = ap Some (eqb-true x q h)

-- the fleet in x, where it serves
pub record Server (m : Chart) (a : Assignment) (orders : List PlacedOrder) (o : PlacedOrder) (q x : ℕ) : Type 0 where
  pub fleet : PlacedOrder
  pub there : prov fleet ≡ x
  pub carries : Carries m a orders o q fleet

-- what an order that matches as a convoy is
pub record ConvoyOf (o : PlacedOrder) (q : ℕ) (r : Order) : Type 0 where
  pub at : Other
  pub named : names at o ≡ true
  pub convoys : r ≡ Convoy at q

module _ (m : Chart) (b : Position) (orders : List PlacedOrder) (a : Assignment) (d : IsDecided m b orders a) (o : PlacedOrder) (c : Contains orders o) (q : ℕ) (g : goes_to o q ≡ true) where
  one : are_units_single (units_of orders) ≡ true
  one = single m b orders d.standing

  convoy_of : (r : Order) → is_carried m (order_at orders) r (prov o) ≡ true → ConvoyOf o q r
  convoy_of Hold h = absurd (both_ways false refl h)
  convoy_of (Move to via) h = absurd (both_ways false refl h)
  convoy_of (SupportHold at) h = absurd (both_ways false refl h)
  convoy_of (SupportMove at to) h = absurd (both_ways false refl h)
  convoy_of (Convoy at to) h =
      let x = and_parts (at.prov == prov o) _ h in
      let y = and_parts (is_there at (order_at orders (prov o))) _ x.1 in
      let z = and_parts (is_convoyed m (order_at orders (prov o))) _ y.1 in
      let there : is_kind o.unit.kind at.kind ≡ true = sym (ap (is_there at) (order.found orders o one c)) ∙ y.0 in
      let leads : goes_to o to ≡ true = sym (order.goes_law m orders one o to c) ∙ z.1 in
      record { at = at; named = and_from _ _ x.0 there; convoys = ap (Convoy at) (order.goes_once o to q leads g) }
  convoy_of (Retreat to) h = absurd (both_ways false refl h)
  convoy_of Disband h = absurd (both_ways false refl h)
  convoy_of Build h = absurd (both_ways false refl h)
  convoy_of Remove h = absurd (both_ways false refl h)

  unentered : (x w : PlacedOrder) → Contains orders w → is_entered (situation m orders) a (prov x) ≡ false → has_entered a w (prov x) ≡ true → ⊥
  unentered x w e n h =
      let y = and_parts (goes_to w (prov x)) _ h in
      both_ways _ n (any_at (λ p. goes (situation m orders) p (prov x) && a (Moves p)) (situation m orders).places (prov w) (order.listed_law m orders one w e) (and_from _ _ (order.goes_law m orders one w (prov x) e ∙ y.0) y.1))

  server : (x : ℕ) → serves (situation m orders) a (prov o) x ≡ true → Server m a orders o q x
  server x h = go (order_at orders x) refl (and_parts ((situation m orders).convoys x (prov o)) _ h)
    where
      go : (r : Option PlacedOrder) → order_at orders x ≡ r → ((situation m orders).convoys x (prov o) ≡ true) × (not (is_entered (situation m orders) a x) ≡ true) → Server m a orders o q x
      go None e k = absurd (both_ways false refl (rw e at k.0))
      go (Some r) e k =
          let t = order.met orders x r e in
          let u : convoys_in m (order_at orders) (Some r) (prov o) ≡ true = sym (ap (λ (y : Option PlacedOrder). convoys_in m (order_at orders) y (prov o)) e) ∙ k.0 in
          let v = and_parts (is_kind r.unit.kind Fleet) _ u in
          let w = and_parts (is_sea (province m r.unit.place.prov).terrain) _ v.1 in
          let i = convoy_of r.order w.1 in
          let n : is_entered (situation m orders) a (prov r) ≡ false = ap (is_entered (situation m orders) a) t.there ∙ not-true _ k.1 in
          record {
            fleet = r;
            there = t.there;
            carries = record {
              ordered = t.among;
              fleet = a_fleet _ v.0;
              at_sea = a_sea _ w.0;
              at = i.at;
              named = i.named;
              convoys = i.convoys;
              stayed = λ y. unentered r y.0 y.1 n (and_parts (not (has_moved a r)) _ y.2).1;
            };
          }

  server_listed : (x : ℕ) → serves (situation m orders) a (prov o) x ≡ true → is_listed (situation m orders).places x ≡ true
  server_listed x h = let f = server x h in subst (λ (y : ℕ). is_listed (situation m orders).places y ≡ true) f.there (order.listed_law m orders one f.fleet f.carries.ordered)

  -- a chain of provinces is one of orders
  carrying : (p : ℕ) (xs : List ℕ) → AreJoined (serves (situation m orders) a (prov o)) (situation m orders).next q p xs
      → (fleets : List PlacedOrder) × (length fleets ≡ length xs) × AreCarrying m a orders o q p fleets
  carrying p [] j = ([], refl, next_at_sea m p q j)
  carrying p (x ∷ xs) j =
      let f = server x j.0 in
      let r = carrying x xs j.2 in
      (f.fleet ∷ r.0, ap suc r.1, (subst (λ (y : ℕ). AreNextAtSea m p y) (sym f.there) (next_at_sea m p x j.1), f.carries, subst (λ (y : ℕ). AreCarrying m a orders o q y r.0) (sym f.there) r.2))

  pub carried : ChainsAreFound → goes_itself m o ≡ false → has_moved a o ≡ true → IsCarried m a orders o q
  carried found by_convoy moved =
      let s = situation m orders in
      let far : s.convoyed (prov o) ≡ true = order.convoyed_law m orders one o c ∙ ap not by_convoy in
      let leads : goes s (prov o) q ≡ true = order.goes_law m orders one o q c ∙ g in
      let way : a (Paths (prov o)) ≡ true = needed _ _ far (equations.came s d.broken d.paths_alone a d.equations (prov o) q leads moved) in
      let ruled : path_rule s a (prov o) (s.target (prov o)) ≡ true = (and_parts (s.convoyed (prov o)) (path_rule s a (prov o) (s.target (prov o))) (and_parts (not (d.broken (Paths (prov o)))) (rule s (Paths (prov o)) a) (sym (d.equations (Paths (prov o))) ∙ way)).1).1 in
      let joined : joins (serves s a (prov o)) s.next s.places q (suc (length s.places)) (prov o) ≡ true = ap (path_rule s a (prov o)) (sym (at_some _ q leads)) ∙ ruled in
      let chain = (found (serves s a (prov o)) s.next s.places q (prov o) server_listed).0 joined in
      let r = carrying (prov o) chain.0 chain.1.1 in
      let l = chain.1.0 in
      let n = r.1 in
      (r.0, (omega arith), r.2)
    where
      needed : (convoyed path : Bool) → convoyed ≡ true → (not convoyed || path) ≡ true → path ≡ true
      needed true path e h = h
      needed false path e h = absurd (both_ways false refl e)
