-- What the option INTENT means, in a player's words.
use Rattle.std.proofs.Common.{◌≡◌, ℕ, List, [], ◌∷◌, map, refl, sym, subst, ap, ◌∙◌, arith, zero, Contains}
use Rattle.std.specs.Prelude.{◌==◌, ◌↔◌, Bool, true, false, not, ◌&&◌, ◌||◌, cond}
use Rattle.std.specs.List.{list_any}
use Rattle.std.proofs.lemmas.Bool.{eqb-true, eq-eqb, both_ways, and_parts, and_from}
use Rattle.dip_names.specs.declared.names.Kind.{Kind}
use Rattle.dip_names.specs.declared.names.Kind.TheVariants.{Army, Fleet}
use Rattle.dip_names.specs.declared.names.Unit.{Unit as AUnit}
use Rattle.dip_names.specs.Kinds.{is_kind, is_sea}
use Rattle.dip_map.specs.Charts.{Chart, is_army_next, province}
use Rattle.dip_orders_placed.specs.declared.placed.Other.{Other}
use Rattle.dip_orders_placed.specs.declared.placed.Order.{Order}
use Rattle.dip_orders_placed.specs.declared.placed.Order.TheVariants.{Hold, Move, SupportHold, SupportMove, Convoy, Retreat, Disband, Build, Remove}
use Rattle.dip_orders_placed.specs.declared.placed.PlacedOrder.{PlacedOrder}
use Rattle.dip_decide.specs.Meaning.{are_coastal, carries_for, is_convoy_of, is_meant_by_sea, meant, meant_of, meant_order}
use Rattle.dip_decide_laws.specs.Laws.{IsCarriedByOwn, IsOwnCarrier, MeansTheSame}
use Rattle.dip_decide_laws.specs.Words.{goes_itself, goes_to, held_if, holding, is_a_convoy, is_a_move, is_move_to, is_own_way, prov}
use Rattle.dip_decide_laws.proofs.ConvoyLemmas.{a_fleet, a_sea, passes}
use Rattle.dip_decide_laws.proofs.ListLemmas.{contains_more, one_passes}

an_army : (k : Kind) → is_kind k Army ≡ true → k ≡ Army
an_army Army h = refl
an_army Fleet h = absurd (both_ways false refl h)

-- what a convoy of a move names
record IsConvoyOf (p q : ℕ) (order : Order) : Type 0 where
  at : Other
  army : at.kind ≡ Army
  from : at.prov ≡ p
  is : order ≡ Convoy at q

convoy_of : (p q : ℕ) (order : Order) → is_convoy_of p q order ≡ true → IsConvoyOf p q order
convoy_of p q (Convoy at to) h =
    let a = and_parts _ _ h in
    let b = and_parts _ _ a.1 in
    record { at = at; army = an_army at.kind a.0; from = eqb-true _ _ b.0; is = ap (Convoy at) (eqb-true _ _ b.1) }
convoy_of p q Hold h = absurd (both_ways false refl h)
convoy_of p q (Move to via) h = absurd (both_ways false refl h)
convoy_of p q (SupportHold at) h = absurd (both_ways false refl h)
convoy_of p q (SupportMove at to) h = absurd (both_ways false refl h)
convoy_of p q (Retreat to) h = absurd (both_ways false refl h)
convoy_of p q Disband h = absurd (both_ways false refl h)
convoy_of p q Build h = absurd (both_ways false refl h)
convoy_of p q Remove h = absurd (both_ways false refl h)

-- who carries is one of the orders' fleets
carrier_from : (m : Chart) (orders : List PlacedOrder) (o x : PlacedOrder) (q : ℕ) → o.unit.kind ≡ Army → Contains orders x
    → carries_for m o.unit.power (prov o) q x ≡ true → IsOwnCarrier m orders o q x
carrier_from m orders o x q army among h =
    let a = and_parts _ _ h in
    let b = and_parts _ _ a.1 in
    let c = and_parts _ _ b.1 in
    let k = convoy_of (prov o) q x.order c.1 in
    let kinds : is_kind o.unit.kind k.at.kind ≡ true = rw (army, k.army) refl in
    record {
      ordered = among;
      own = eqb-true _ _ a.0;
      fleet = a_fleet x.unit.kind b.0;
      at_sea = a_sea (province m (prov x)).terrain c.0;
      at = k.at;
      named = and_from _ _ (eq-eqb _ _ k.from) kinds;
      convoys = k.is;
    }

carrier_to : (m : Chart) (orders : List PlacedOrder) (o x : PlacedOrder) (q : ℕ) → o.unit.kind ≡ Army → IsOwnCarrier m orders o q x
    → carries_for m o.unit.power (prov o) q x ≡ true
carrier_to m orders o x q army c =
    let n = and_parts _ _ c.named in
    let k : is_kind c.at.kind Army ≡ true = kinds c.at.kind (rw army at n.1) in
    rw (c.convoys, c.fleet, c.at_sea) (and_from _ _ (eq-eqb _ _ c.own) (and_from _ _ k (and_from _ _ n.0 (eq-eqb q q refl))))
  where
    kinds : (j : Kind) → is_kind Army j ≡ true → is_kind j Army ≡ true
    kinds Army h = refl
    kinds Fleet h = absurd (both_ways false refl h)

carried_from : (m : Chart) (orders : List PlacedOrder) (o : PlacedOrder) (q : ℕ) → is_meant_by_sea m orders o.unit q ≡ true → IsCarriedByOwn m orders o q
carried_from m orders o q h =
    let a = and_parts _ _ h in
    let b = and_parts _ _ a.1 in
    let (x, among, passes) = one_passes (carries_for m o.unit.power (prov o) q) orders b.1 in
    let army : o.unit.kind ≡ Army = an_army o.unit.kind a.0 in
    record { army = army; coasts = b.0; carrier = x; carries = carrier_from m orders o x q army among passes }

carried_to : (m : Chart) (orders : List PlacedOrder) (o : PlacedOrder) (q : ℕ) → IsCarriedByOwn m orders o q → is_meant_by_sea m orders o.unit q ≡ true
carried_to m orders o q c =
    let army : is_kind o.unit.kind Army ≡ true = rw c.army refl in
    and_from _ _ army (and_from _ _ c.coasts (passes (carries_for m o.unit.power (prov o) q) orders c.carrier c.carries.ordered (carrier_to m orders o c.carrier q c.army c.carries)))

-- a move of an army by land is meant by sea exactly where it goes itself no more
way_by : (m : Chart) (p : ℕ) (via next sea : Bool) → (not via && next) ≡ true → ((not (via || sea) && next) ≡ false) ↔ (sea ≡ true)
way_by m p false true true h = (λ e. refl, λ e. refl)
way_by m p false true false h = (λ e. absurd (both_ways true e refl), λ e. absurd (both_ways false refl e))
way_by m p false false sea h = absurd (both_ways false refl h)
way_by m p true next sea h = absurd (both_ways false refl h)

sea_by : (m : Chart) (orders : List PlacedOrder) (o : PlacedOrder) (q : ℕ) (kind : Kind) (order : Order) → o.unit.kind ≡ kind → is_move_to order q ≡ true
    → is_own_way m kind (prov o) order ≡ true
    → (is_own_way m kind (prov o) (meant_order m orders o.unit order) ≡ false) ↔ (is_meant_by_sea m orders o.unit q ≡ true)
sea_by m orders o q Fleet order is to way =
    (λ e. absurd (both_ways true e refl), λ e. let army : is_kind o.unit.kind Army ≡ true = (and_parts _ _ e).0 in absurd (both_ways false refl (rw is at army)))
sea_by m orders o q Army (Move place via) is to way =
    let same : place.prov ≡ q = eqb-true _ _ to in
    let both = way_by m (prov o) via (is_army_next m (prov o) place.prov) (is_meant_by_sea m orders o.unit place.prov) way in
    (λ e. subst (λ (x : ℕ). is_meant_by_sea m orders o.unit x ≡ true) same (both.0 e), λ e. both.1 (subst (λ (x : ℕ). is_meant_by_sea m orders o.unit x ≡ true) (sym same) e))
sea_by m orders o q Army Hold is to way = absurd (both_ways false refl to)
sea_by m orders o q Army (SupportHold at) is to way = absurd (both_ways false refl to)
sea_by m orders o q Army (SupportMove at by) is to way = absurd (both_ways false refl to)
sea_by m orders o q Army (Convoy at by) is to way = absurd (both_ways false refl to)
sea_by m orders o q Army (Retreat place) is to way = absurd (both_ways false refl to)
sea_by m orders o q Army Disband is to way = absurd (both_ways false refl to)
sea_by m orders o q Army Build is to way = absurd (both_ways false refl to)
sea_by m orders o q Army Remove is to way = absurd (both_ways false refl to)

pub own_carry : (m : Chart) (orders : List PlacedOrder) (o : PlacedOrder) (q : ℕ) → goes_to o q ≡ true → goes_itself m o ≡ true
    → (goes_itself m (meant_of m orders o) ≡ false) ↔ IsCarriedByOwn m orders o q
own_carry m orders o q to way =
    let both = sea_by m orders o q o.unit.kind o.order refl to way in
    (λ e. carried_from m orders o q (both.0 e), λ c. both.1 (carried_to m orders o q c))

-- orders and what they mean

to_still : (m : Chart) (all : List PlacedOrder) (u : AUnit) (q : ℕ) (order : Order) → is_move_to (meant_order m all u order) q ≡ is_move_to order q
to_still m all u q Hold = refl
to_still m all u q (Move to via) = refl
to_still m all u q (SupportHold at) = refl
to_still m all u q (SupportMove at to) = refl
to_still m all u q (Convoy at to) = refl
to_still m all u q (Retreat to) = refl
to_still m all u q Disband = refl
to_still m all u q Build = refl
to_still m all u q Remove = refl

other_still : (m : Chart) (all : List PlacedOrder) (u : AUnit) (order : Order) → is_a_move order ≡ false → meant_order m all u order ≡ order
other_still m all u Hold h = refl
other_still m all u (Move to via) h = absurd (both_ways true h refl)
other_still m all u (SupportHold at) h = refl
other_still m all u (SupportMove at to) h = refl
other_still m all u (Convoy at to) h = refl
other_still m all u (Retreat to) h = refl
other_still m all u Disband h = refl
other_still m all u Build h = refl
other_still m all u Remove h = refl

pub means_the_same : (m : Chart) (orders : List PlacedOrder) (o : PlacedOrder) → MeansTheSame o (meant_of m orders o)
means_the_same m orders o = record {
  unit = refl;
  goes = λ q. to_still m orders o.unit q o.order;
  others = λ h. ap (λ (k : Order). record { unit = o.unit; order = k }) (other_still m orders o.unit o.order h);
}

-- units that hold

module _ (m : Chart) (test : PlacedOrder → Bool) where
  -- who isn't ordered to convoy carries nobody, nor where it holds
  idle : (power p q : ℕ) (x : PlacedOrder) → is_a_convoy x.order ≡ false → carries_for m power p q x ≡ false
  idle power p q x h = go (x.unit.power == power) (is_kind x.unit.kind Fleet) (is_sea (province m (prov x)).terrain) (no_convoy x.order h)
    where
      no_convoy : (order : Order) → is_a_convoy order ≡ false → is_convoy_of p q order ≡ false
      no_convoy Hold h = refl
      no_convoy (Move to via) h = refl
      no_convoy (SupportHold at) h = refl
      no_convoy (SupportMove at to) h = refl
      no_convoy (Convoy at to) h = absurd (both_ways true h refl)
      no_convoy (Retreat to) h = refl
      no_convoy Disband h = refl
      no_convoy Build h = refl
      no_convoy Remove h = refl

      go : (a b c : Bool) → is_convoy_of p q x.order ≡ false → (a && (b && (c && is_convoy_of p q x.order))) ≡ false
      go true true true e = e
      go true true false e = refl
      go true false c e = refl
      go false b c e = refl

  carries_still : (power p q : ℕ) (x : PlacedOrder) → (test x ≡ true → is_a_convoy x.order ≡ false) → carries_for m power p q (held_if test x) ≡ carries_for m power p q x
  carries_still power p q x quiet = go (test x) refl
    where
      go : (b : Bool) → test x ≡ b → carries_for m power p q (cond b (record { unit = x.unit; order = Hold }) x) ≡ carries_for m power p q x
      go true e = idle power p q (record { unit = x.unit; order = Hold }) refl ∙ sym (idle power p q x (quiet e))
      go false e = refl

  any_still : (power p q : ℕ) (orders : List PlacedOrder) → ((o : PlacedOrder) → Contains orders o → test o ≡ true → is_a_convoy o.order ≡ false)
      → list_any (carries_for m power p q) (holding test orders) ≡ list_any (carries_for m power p q) orders
  any_still power p q [] quiet = refl
  any_still power p q (x ∷ orders) quiet =
      ap (λ (b : Bool). b || list_any (carries_for m power p q) (holding test orders)) (carries_still power p q x (quiet x (zero, omega arith, refl)))
      ∙ ap (λ (b : Bool). carries_for m power p q x || b) (any_still power p q orders (λ o h. quiet o (contains_more x orders o h)))

  sea_still : (u : AUnit) (q : ℕ) (orders : List PlacedOrder) → ((o : PlacedOrder) → Contains orders o → test o ≡ true → is_a_convoy o.order ≡ false)
      → is_meant_by_sea m (holding test orders) u q ≡ is_meant_by_sea m orders u q
  sea_still u q orders quiet = ap (λ (b : Bool). is_kind u.kind Army && (are_coastal m u.place.prov q && b)) (any_still u.power u.place.prov q orders quiet)

  order_still : (all : List PlacedOrder) → ((o : PlacedOrder) → Contains all o → test o ≡ true → is_a_convoy o.order ≡ false) → (u : AUnit) (order : Order)
      → meant_order m (holding test all) u order ≡ meant_order m all u order
  order_still all quiet u (Move to via) = ap (λ (b : Bool). Move to (via || b)) (sea_still u to.prov all quiet)
  order_still all quiet u Hold = refl
  order_still all quiet u (SupportHold at) = refl
  order_still all quiet u (SupportMove at to) = refl
  order_still all quiet u (Convoy at to) = refl
  order_still all quiet u (Retreat to) = refl
  order_still all quiet u Disband = refl
  order_still all quiet u Build = refl
  order_still all quiet u Remove = refl

  one_still : (all : List PlacedOrder) → ((o : PlacedOrder) → Contains all o → test o ≡ true → is_a_convoy o.order ≡ false)
      → ((o : PlacedOrder) → test (meant_of m all o) ≡ test o) → (o : PlacedOrder)
      → meant_of m (holding test all) (held_if test o) ≡ held_if test (meant_of m all o)
  one_still all quiet same o = go (test o) refl
    where
      go : (b : Bool) → test o ≡ b → meant_of m (holding test all) (cond b (record { unit = o.unit; order = Hold }) o) ≡ cond (test (meant_of m all o)) (record { unit = o.unit; order = Hold }) (meant_of m all o)
      go true e = rw (same o ∙ e) refl
      go false e = rw (same o ∙ e) (ap (λ (k : Order). record { unit = o.unit; order = k }) (order_still all quiet o.unit o.order))

  each_still : (all : List PlacedOrder) → ((o : PlacedOrder) → Contains all o → test o ≡ true → is_a_convoy o.order ≡ false)
      → ((o : PlacedOrder) → test (meant_of m all o) ≡ test o) → (orders : List PlacedOrder)
      → map (meant_of m (holding test all)) (holding test orders) ≡ holding test (map (meant_of m all) orders)
  each_still all quiet same [] = refl
  each_still all quiet same (o ∷ orders) =
      ap (λ (x : PlacedOrder). x ∷ map (meant_of m (holding test all)) (holding test orders)) (one_still all quiet same o)
      ∙ ap (λ (xs : List PlacedOrder). held_if test (meant_of m all o) ∷ xs) (each_still all quiet same orders)

  pub held_still : (intent : Bool) (orders : List PlacedOrder) → ((o : PlacedOrder) → test (meant_of m orders o) ≡ test o)
      → ((o : PlacedOrder) → Contains orders o → test o ≡ true → is_a_convoy o.order ≡ false)
      → meant m intent (holding test orders) ≡ holding test (meant m intent orders)
  held_still true orders same quiet = each_still orders quiet same orders
  held_still false orders same quiet = refl
