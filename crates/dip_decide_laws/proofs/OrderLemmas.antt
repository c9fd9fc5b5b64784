-- What the situation of orders says of each unit, in a player's words.
use Rattle.std.proofs.Common.{◌≡◌, ℕ, ◌⊎◌, inl, inr, List, [], ◌∷◌, refl, sym, ap, ◌∙◌, arith}
use Rattle.std.specs.Prelude.{◌==◌, Bool, true, false, not, ◌&&◌, ◌||◌, Contains, Option, None, Some, is_some}
use Rattle.std.specs.List.{list_any}
use Rattle.std.proofs.lemmas.Bool.{eqb-true, eq-eqb, or_left, or_right, cases_Bool, both_ways, and_parts, not-true}
use Rattle.dip_names.specs.declared.names.Kind.{Kind}
use Rattle.dip_names.specs.declared.names.Kind.TheVariants.{Army, Fleet}
use Rattle.dip_names.specs.declared.names.Unit.{Unit as AUnit}
use Rattle.dip_names.specs.Kinds.{is_kind}
use Rattle.dip_map.specs.Charts.{Chart, is_army_next, are_units_single}
use Rattle.dip_orders_placed.specs.declared.placed.Order.{Order}
use Rattle.dip_orders_placed.specs.declared.placed.Order.TheVariants.{Hold, Move, SupportHold, SupportMove, Convoy, Retreat, Disband, Build, Remove}
use Rattle.dip_orders_placed.specs.declared.placed.PlacedOrder.{PlacedOrder}
use Rattle.dip_orders_placed.specs.Standing.{units_of}
use Rattle.dip_decide.specs.Deciding.{Assignment}
use Rattle.dip_decide.specs.Decision.TheVariants.{Support as Supports}
use Rattle.dip_decide.specs.Matching.{destination, direction, order_at, provinces_of, goes_by_convoy, is_matched, situation}
use Rattle.dip_decide.specs.Movement.{Situation, is_at, is_listed, goes, has_move, head_to_head, support, support_against}
use Rattle.dip_decide_laws.specs.Words.{prov, is_a_move, is_move_to, moves, goes_to, is_own_way, goes_itself, are_head_to_head, is_support_of, is_support_into, helps, helpers, helpers_but}
use Rattle.dip_decide_laws.proofs.ListLemmas.{first_or_other, contains_more, count_map, count_alike}

-- orders by themselves

pub at_is_move : (r : Order) (q : ℕ) → is_at (destination r) q ≡ is_move_to r q
at_is_move Hold q = refl
at_is_move (Move to via) q = refl
at_is_move (SupportHold at) q = refl
at_is_move (SupportMove at to) q = refl
at_is_move (Convoy at to) q = refl
at_is_move (Retreat to) q = refl
at_is_move Disband q = refl
at_is_move Build q = refl
at_is_move Remove q = refl

pub some_is_move : (r : Order) → is_some (destination r) ≡ is_a_move r
some_is_move Hold = refl
some_is_move (Move to via) = refl
some_is_move (SupportHold at) = refl
some_is_move (SupportMove at to) = refl
some_is_move (Convoy at to) = refl
some_is_move (Retreat to) = refl
some_is_move Disband = refl
some_is_move Build = refl
some_is_move Remove = refl

pub into_is : (r : Order) (q : ℕ) → is_at (direction r) q ≡ is_support_into r q
into_is Hold q = refl
into_is (Move to via) q = refl
into_is (SupportHold at) q = refl
into_is (SupportMove at to) q = refl
into_is (Convoy at to) q = refl
into_is (Retreat to) q = refl
into_is Disband q = refl
into_is Build q = refl
into_is Remove q = refl

either_way : (v n : Bool) → (v || not n) ≡ not (not v && n)
either_way true n = refl
either_way false n = refl

pub convoy_is : (m : Chart) (k : Kind) (p : ℕ) (r : Order) → goes_by_convoy m k p r ≡ not (is_own_way m k p r)
convoy_is m Fleet p r = refl
convoy_is m Army p Hold = refl
convoy_is m Army p (Move to via) = either_way via (is_army_next m p to.prov)
convoy_is m Army p (SupportHold at) = refl
convoy_is m Army p (SupportMove at to) = refl
convoy_is m Army p (Convoy at to) = refl
convoy_is m Army p (Retreat to) = refl
convoy_is m Army p Disband = refl
convoy_is m Army p Build = refl
convoy_is m Army p Remove = refl

-- a unit goes to one province
one_move : (r : Order) (x y : ℕ) → is_move_to r x ≡ true → is_move_to r y ≡ true → x ≡ y
one_move Hold x y h l = absurd (both_ways false refl h)
one_move (Move to via) x y h l = sym (eqb-true _ _ h) ∙ eqb-true _ _ l
one_move (SupportHold at) x y h l = absurd (both_ways false refl h)
one_move (SupportMove at to) x y h l = absurd (both_ways false refl h)
one_move (Convoy at to) x y h l = absurd (both_ways false refl h)
one_move (Retreat to) x y h l = absurd (both_ways false refl h)
one_move Disband x y h l = absurd (both_ways false refl h)
one_move Build x y h l = absurd (both_ways false refl h)
one_move Remove x y h l = absurd (both_ways false refl h)

pub goes_once : (o : PlacedOrder) (x y : ℕ) → goes_to o x ≡ true → goes_to o y ≡ true → x ≡ y
goes_once o x y h l = one_move o.order x y h l

-- the order of each unit

-- two units of one province aren't apart
apart : (x o : PlacedOrder) (orders : List PlacedOrder) → Contains orders o → (prov x == prov o) ≡ true → list_any (λ (v : AUnit). v.place.prov == x.unit.place.prov) (units_of orders) ≡ true
apart x o [] (k, low, is) e = absurd (omega arith)
apart x o (y ∷ orders) c e = go (first_or_other y orders o c) (λ d. apart x o orders d e)
  where
    go : (y ≡ o) ⊎ Contains orders o → (Contains orders o → list_any (λ (v : AUnit). v.place.prov == x.unit.place.prov) (units_of orders) ≡ true) → list_any (λ (v : AUnit). v.place.prov == x.unit.place.prov) (units_of (y ∷ orders)) ≡ true
    go (inl s) f = let q = eqb-true _ _ e in or_left _ _ (eq-eqb (prov y) (prov x) (ap prov s ∙ sym q))
    go (inr d) f = or_right (prov y == prov x) _ (f d)

pub found : (orders : List PlacedOrder) (o : PlacedOrder) → are_units_single (units_of orders) ≡ true → Contains orders o → order_at orders (prov o) ≡ Some o
found [] o u (k, low, is) = absurd (omega arith)
found (x ∷ orders) o u c = let w = and_parts _ _ u in go (first_or_other x orders o c) w.0 (cases_Bool (prov x == prov o)) (found orders o w.1)
  where
    go : (x ≡ o) ⊎ Contains orders o → not (list_any (λ (v : AUnit). v.place.prov == x.unit.place.prov) (units_of orders)) ≡ true
        → ((prov x == prov o) ≡ true) ⊎ ((prov x == prov o) ≡ false) → (Contains orders o → order_at orders (prov o) ≡ Some o) → order_at (x ∷ orders) (prov o) ≡ Some o
    go (inl s) w d f = rw (eq-eqb (prov x) (prov o) (ap prov s)) (ap Some s)
    go (inr l) w (inl e) f = absurd (both_ways _ (not-true _ w) (apart x o orders l e))
    go (inr l) w (inr e) f = rw e (f l)

-- whose order it is
pub record Met (orders : List PlacedOrder) (p : ℕ) (o : PlacedOrder) : Type 0 where
  pub among : Contains orders o
  pub there : prov o ≡ p
  pub listed : is_listed (provinces_of orders) p ≡ true

pub met : (orders : List PlacedOrder) (p : ℕ) (o : PlacedOrder) → order_at orders p ≡ Some o → Met orders p o
met [] p o h = absurd (cc)
met (x ∷ orders) p o h = go (cases_Bool (x.unit.place.prov == p)) (met orders p o)
  where
    go : ((x.unit.place.prov == p) ≡ true) ⊎ ((x.unit.place.prov == p) ≡ false) → (order_at orders p ≡ Some o → Met orders p o) → Met (x ∷ orders) p o
    go (inl e) f =
        let s : Some x ≡ Some o = rw e at h in
        let q : x ≡ o = cc in
        record { among = (0, omega arith, q); there = ap prov (sym q) ∙ eqb-true _ _ e; listed = or_left _ _ e }
    go (inr e) f = let r = f (rw e at h) in record { among = contains_more x orders o r.among; there = r.there; listed = or_right (x.unit.place.prov == p) _ r.listed }

-- who goes somewhere has an order to
pub record Goer (orders : List PlacedOrder) (p q : ℕ) : Type 0 where
  pub order : PlacedOrder
  pub is : Met orders p order
  pub goes : goes_to order q ≡ true

module _ (m : Chart) (orders : List PlacedOrder) where
  s : Situation
  s = situation m orders

  pub goer : (p q : ℕ) → goes (situation m orders) p q ≡ true → Goer orders p q
  goer p q h = go (order_at orders p) refl
    where
      go : (o : Option PlacedOrder) → order_at orders p ≡ o → Goer orders p q
      go None e = absurd (both_ways false refl (rw e at h))
      go (Some o) e = record { order = o; is = met orders p o e; goes = sym (at_is_move o.order q) ∙ (rw e at h) }

module _ (m : Chart) (orders : List PlacedOrder) (single : are_units_single (units_of orders) ≡ true) where
  pub goes_law : (o : PlacedOrder) (q : ℕ) → Contains orders o → goes (situation m orders) (prov o) q ≡ goes_to o q
  goes_law o q c = rw (found orders o single c) (at_is_move o.order q)

  pub move_law : (o : PlacedOrder) → Contains orders o → has_move (situation m orders) (prov o) ≡ moves o
  move_law o c = rw (found orders o single c) (some_is_move o.order)

  pub convoyed_law : (o : PlacedOrder) → Contains orders o → (situation m orders).convoyed (prov o) ≡ not (goes_itself m o)
  convoyed_law o c = rw (found orders o single c) (convoy_is m o.unit.kind o.unit.place.prov o.order)

  pub occupied_law : (o : PlacedOrder) → Contains orders o → (situation m orders).is_occupied (prov o) ≡ true
  occupied_law o c = rw (found orders o single c) refl

  pub power_law : (o w : PlacedOrder) → Contains orders o → Contains orders w → (situation m orders).same_power (prov o) (prov w) ≡ (o.unit.power == w.unit.power)
  power_law o w c d = rw (found orders o single c, found orders w single d) refl

  pub aim_law : (h : PlacedOrder) (q : ℕ) → Contains orders h → is_at ((situation m orders).aim (prov h)) q ≡ is_support_into h.order q
  aim_law h q c = rw (found orders h single c) (into_is h.order q)

  thrice : (x y z : Bool) → (x && (y && z)) ≡ ((x && y) && z)
  thrice true y z = refl
  thrice false y z = refl

  pub matches : (o : PlacedOrder) (r : Order) → Contains orders o → is_matched (order_at orders) r (prov o) ≡ is_support_of r o
  matches o Hold c = refl
  matches o (Move to via) c = refl
  matches o (SupportHold at) c = rw (found orders o single c, some_is_move o.order) (thrice (at.prov == prov o) (is_kind o.unit.kind at.kind) (not (moves o)))
  matches o (SupportMove at to) c = rw (found orders o single c, at_is_move o.order to) (thrice (at.prov == prov o) (is_kind o.unit.kind at.kind) (goes_to o to))
  matches o (Convoy at to) c = refl
  matches o (Retreat to) c = refl
  matches o Disband c = refl
  matches o Build c = refl
  matches o Remove c = refl

  pub supports_law : (h o : PlacedOrder) → Contains orders h → Contains orders o → (situation m orders).supports (prov h) (prov o) ≡ helps h o
  supports_law h o c d = rw (found orders h single c) (matches o h.order d)

  pub head_law : (o w : PlacedOrder) → Contains orders o → Contains orders w → head_to_head (situation m orders) (prov o) (prov w) ≡ are_head_to_head m o w
  head_law o w c d = rw (goes_law o (prov w) c, goes_law w (prov o) d, convoyed_law o c, convoyed_law w d) (twice (goes_to o (prov w) && goes_to w (prov o)) (goes_itself m o) (goes_itself m w))
    where
      twice : (x y z : Bool) → (x && (not (not y) && not (not z))) ≡ (x && (y && z))
      twice true true true = refl
      twice true true false = refl
      twice true false z = refl
      twice false y z = refl

  pub listed_law : (o : PlacedOrder) → Contains orders o → is_listed (situation m orders).places (prov o) ≡ true
  listed_law o c = (met orders (prov o) o (found orders o single c)).listed

  -- strengths
  pub support_law : (a : Assignment) (o : PlacedOrder) → Contains orders o → support (situation m orders) a (prov o) ≡ helpers a orders o
  support_law a o c =
      count_map (λ h. (situation m orders).supports h (prov o) && a (Supports h)) prov orders
      ∙ count_alike _ _ orders (λ h d. ap (λ (b : Bool). b && a (Supports (prov h))) (supports_law h o d c))

  pub against_law : (a : Assignment) (o w : PlacedOrder) → Contains orders o → Contains orders w → support_against (situation m orders) a (prov o) (prov w) ≡ helpers_but a orders o w.unit.power
  against_law a o w c e =
      count_map (λ h. ((situation m orders).supports h (prov o) && a (Supports h)) && not ((situation m orders).same_power h (prov w))) prov orders
      ∙ count_alike _ _ orders (λ h d. rw (supports_law h o d c, power_law h w d e) refl)
