-- Supports and convoys that match.
use Rattle.std.proofs.Common.{◌≡◌, ℕ, Bool, true, false, List, [], ◌∷◌, Option, Some, None, refl, ap, ◌∙◌, sym}
use Rattle.std.specs.Prelude.{◌||◌, ◌&&◌}
use Rattle.std.specs.List.{list_any}
use Rattle.dip_names.specs.declared.names.Kind.TheVariants.{Fleet}
use Rattle.dip_map.specs.Charts.{Chart, province}
use Rattle.dip_names.specs.Kinds.{is_kind, is_sea}
use Rattle.dip_orders_placed.specs.declared.placed.PlacedOrder.{PlacedOrder}
use Rattle.dip_decide_rules.specs.Matching.{is_matched, is_carried, order_at, provinces_of, situation, supports_in, convoys_in}
use Rattle.dip_decide_rules.specs.Movement.{is_support}
use Rattle.dip_turn_phases.specs.Outcomes.{is_convoy}

any_province : (f : ℕ → Bool) (orders : List PlacedOrder) → list_any (λ o. f o.unit.place.prov) orders ≡ list_any f (provinces_of orders)
any_province f [] = refl
any_province f (o ∷ os) = ap (λ (b : Bool). f o.unit.place.prov || b) (any_province f os)

none_passes : (ps : List ℕ) → list_any (λ p. false) ps ≡ false
none_passes [] = refl
none_passes (p ∷ ps) = none_passes ps

any_both : (a b : Bool) (f : ℕ → Bool) (ps : List ℕ) → list_any (λ p. a && (b && f p)) ps ≡ ((a && b) && list_any f ps)
any_both true true f ps = refl
any_both true false f ps = none_passes ps
any_both false b f ps = none_passes ps

-- the support of a unit matches where it is for one of the units
pub supported : (m : Chart) (orders : List PlacedOrder) (h : ℕ) (o : PlacedOrder) → order_at orders h ≡ Some o
    → list_any (λ w. is_matched (order_at orders) o.order w.unit.place.prov) orders ≡ is_support (situation m orders) h
supported m orders h o is =
    any_province (is_matched (order_at orders) o.order) orders
    ∙ sym (ap (λ (x : Option PlacedOrder). list_any (λ p. supports_in (order_at orders) x p) (provinces_of orders)) is)

pub unsupported : (m : Chart) (orders : List PlacedOrder) (h : ℕ) → order_at orders h ≡ None → false ≡ is_support (situation m orders) h
unsupported m orders h is =
    sym (ap (λ (x : Option PlacedOrder). list_any (λ p. supports_in (order_at orders) x p) (provinces_of orders)) is ∙ none_passes (provinces_of orders))

-- the convoy of a fleet in a sea matches where it is for one of the units
convoyed : (m : Chart) (orders : List PlacedOrder) (x : ℕ) (o : PlacedOrder) → order_at orders x ≡ Some o
    → ((is_kind o.unit.kind Fleet && is_sea (province m o.unit.place.prov).terrain) && list_any (λ w. is_carried m (order_at orders) o.order w.unit.place.prov) orders)
    ≡ is_convoy (situation m orders) x
convoyed m orders x o is =
    let sails : Bool = is_kind o.unit.kind Fleet && is_sea (province m o.unit.place.prov).terrain in
    ap (λ (b : Bool). sails && b) (any_province (is_carried m (order_at orders) o.order) orders)
    ∙ sym (any_both (is_kind o.unit.kind Fleet) (is_sea (province m o.unit.place.prov).terrain) (is_carried m (order_at orders) o.order) (provinces_of orders))
    ∙ sym (ap (λ (w : Option PlacedOrder). list_any (λ p. convoys_in m (order_at orders) w p) (provinces_of orders)) is)

and_true : (s b : Bool) → s ≡ true → b ≡ (s && b)
and_true true b is = refl
and_true false b is = absurd (cc)

and_false : (s b : Bool) → s ≡ false → s ≡ (s && b)
and_false true b is = absurd (cc)
and_false false b is = refl

pub convoyed_at_sea : (m : Chart) (orders : List PlacedOrder) (x : ℕ) (o : PlacedOrder) → order_at orders x ≡ Some o
    → (is_kind o.unit.kind Fleet && is_sea (province m o.unit.place.prov).terrain) ≡ true
    → list_any (λ w. is_carried m (order_at orders) o.order w.unit.place.prov) orders ≡ is_convoy (situation m orders) x
convoyed_at_sea m orders x o is sails =
    and_true (is_kind o.unit.kind Fleet && is_sea (province m o.unit.place.prov).terrain) (list_any (λ w. is_carried m (order_at orders) o.order w.unit.place.prov) orders) sails
    ∙ convoyed m orders x o is

pub convoyed_elsewhere : (m : Chart) (orders : List PlacedOrder) (x : ℕ) (o : PlacedOrder) → order_at orders x ≡ Some o
    → (is_kind o.unit.kind Fleet && is_sea (province m o.unit.place.prov).terrain) ≡ false
    → (is_kind o.unit.kind Fleet && is_sea (province m o.unit.place.prov).terrain) ≡ is_convoy (situation m orders) x
convoyed_elsewhere m orders x o is stays =
    and_false (is_kind o.unit.kind Fleet && is_sea (province m o.unit.place.prov).terrain) (list_any (λ w. is_carried m (order_at orders) o.order w.unit.place.prov) orders) stays
    ∙ convoyed m orders x o is

pub unconvoyed : (m : Chart) (orders : List PlacedOrder) (x : ℕ) → order_at orders x ≡ None → false ≡ is_convoy (situation m orders) x
unconvoyed m orders x is =
    sym (ap (λ (w : Option PlacedOrder). list_any (λ p. convoys_in m (order_at orders) w p) (provinces_of orders)) is ∙ none_passes (provinces_of orders))
