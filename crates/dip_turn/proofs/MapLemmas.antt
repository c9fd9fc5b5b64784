-- The board after a phase is one of the map.
use Rattle.std.proofs.Common.{◌≡◌, ◌⊎◌, inl, inr, ℕ, ◌<◌, ◌+◌, ◌==◌, ◌&&◌, Bool, true, false, not, cond, zero, suc, List, [], ◌∷◌, length, get_or, map, filter, nat_le, nat_lt, Option, None, Some, is_some, Contains, refl, sym, ap, ◌∙◌, subst, arith}
use Rattle.std.proofs.lemmas.Bool.{and_from, and_parts, eq-eqb, lt-ltb, not-true, false≢true}
use Rattle.std.proofs.lemmas.List.Elements.{All-append, All-contains, All-filter, All-map, All-weaker, Contains-get_or}
use Rattle.std.specs.Prelude.{All, option_map}
use Rattle.std.specs.List.{filter_map, list_any}
use Rattle.std.specs.Option.{unwrap_or}
use Rattle.dip_names.specs.declared.names.Place.{Place}
use Rattle.dip_names.specs.declared.names.Unit.{Unit as AUnit}
use Rattle.dip_map.specs.Charts.{Chart, IsMap, are_units_single, home, is_centre, is_home, is_unit, may_stand}
use Rattle.dip_map.specs.declared.boards.Dislodged.{Dislodged}
use Rattle.dip_map.specs.declared.boards.Season.{Season}
use Rattle.dip_map.specs.declared.boards.Season.TheVariants.{SpringMoves, SpringRetreats, FallMoves, FallRetreats, Winter}
use Rattle.dip_map.specs.Boards.{IsOf, Position, is_dislodged, is_held, is_left, is_power_if_any, is_prov_if_any, is_vacant, owns}
use Rattle.dip_orders.specs.Conditions.{is_build}
use Rattle.dip_orders.specs.Given.{AreGiven, IsEachGiven, orders_of_power}
use Rattle.dip_orders.specs.Laws.{OrdersAreLawful, StandingIsInForce, UnitsHaveOneOrder}
use Rattle.dip_orders.specs.Lawful.{IsAllowed, IsLawful, MayCome, MayLeave}
use Rattle.dip_orders_placed.specs.Standing.{found_order, is_in_force, is_same_unit, order_among, standing_orders, units_of}
use Rattle.dip_orders_placed.specs.declared.placed.Order.{Order}
use Rattle.dip_orders_placed.specs.declared.placed.Order.TheVariants.{Hold, Move, SupportHold, SupportMove, Convoy, Retreat, Disband, Build, Remove}
use Rattle.dip_orders_placed.specs.declared.placed.PlacedOrder.{PlacedOrder}
use Rattle.dip_orders_placed.proofs.FindLaws.{find_passes}
use Rattle.dip_orders.proofs.SpotLaws.{place_low, stands_at}
use Rattle.dip_orders_placed.proofs.StandingLaws.{same_unit}
use Rattle.dip_decide.specs.Deciding.{Assignment, Step, is_broken}
use Rattle.dip_decide.specs.Laws.{AreOrders}
use Rattle.dip_decide.specs.Matching.{is_convoyed, situation}
use Rattle.dip_decide.specs.Meaning.{meant, meant_of, meant_on, meant_order, situation_on}
use Rattle.dip_decide.specs.Results.{AreExplained, values_in}
use Rattle.dip_decide.specs.Statements.{ExplainedSatisfies, MeantAreOrders}
use Rattle.dip_decide.specs.Steps.{steps_of}
use Rattle.dip_turn_phases.specs.Adjusting.{after_adjustment, disorder, is_among, is_given, units_built, units_kept, units_staying}
use Rattle.dip_turn_phases.specs.Centres.{holder, owner_by, owners_after, winner, with_owners}
use Rattle.dip_turn.specs.Laws.{BoardsStayOfTheirMap, RetreatsAreOpen}
use Rattle.dip_turn.specs.Laws.{UnitsStandApart}
use Rattle.dip_turn_phases.specs.Moving.{after_moves, at_destination, dislodged_after, dislodged_unit, entrant, enters, has_moved, is_driven_out, leads_to, may_go, moved_board, origin, prov, standing_after, unit_after}
use Rattle.dip_turn_phases.specs.Phases.{Sequel, after_count, follow, goes_on, has_dislodged, in_phase, last_year, needs_adjustment, new_year, sequel, year_end}
use Rattle.dip_turn.specs.Reports.{Leaves, LeavesAdjusted, LeavesMoved, LeavesRetreated}
use Rattle.dip_turn_phases.specs.Retreating.{after_retreat, after_retreats}
use Rattle.dip_turn_phases.specs.declared.report.Account.{Account}
use Rattle.dip_turn_phases.specs.declared.report.Account.TheVariants.{Movement as OfMovement, Retreats as OfRetreats, Adjustment as OfAdjustment}
use Rattle.dip_turn_phases.specs.declared.lines.Course.TheVariants.{GoesOn, Ended}
use Rattle.dip_turn.proofs.CentreLaws.{owners_at, owners_count}
use Rattle.dip_turn_phases.proofs.KeptLemmas.{movements_keep_units, not_true}
use Rattle.dip_turn.proofs.KeptLemmas.{retreats_lose_nobody_else}
use Rattle.dip_turn.proofs.PlaceLemmas.{built_unit, led_unit, retreat_place}
use Rattle.dip_turn.proofs.RefugeLemmas.{found_in, refuge_of, retreats_meet_nowhere}
use Rattle.dip_turn.proofs.SingleLemmas.{found_itself, given_from, kept_from, made_from, made_given, single_append, single_by_power, single_filtered, single_given, single_kept, somebody}
use Rattle.dip_turn_phases.proofs.StandoffLemmas.{standoffs_are_lawful}

-- each of the orders is lawful beside those of its power
abbrev pub AreEachLawful : Chart → Position → List PlacedOrder → Type 0
AreEachLawful m b pending = (o : PlacedOrder) → Contains pending o → IsLawful m b o.unit.power (orders_of_power o.unit.power pending) o

pub each_lawful : OrdersAreLawful → (m : Chart) (b : Position) (pending : List PlacedOrder) → IsMap m → IsOf m b → IsEachGiven m b pending → AreEachLawful m b pending
each_lawful lawful m b pending ok of given o among =
    let g = given o among in
    lawful m b o.unit.power (orders_of_power o.unit.power pending) g.0 o ok of g.1

-- a movement

led_by : (m : Chart) (b : Position) (pending : List PlacedOrder) (u : AUnit) (found : Option PlacedOrder) → IsMap m → AreEachLawful m b pending → is_unit m u ≡ true → found_order pending u ≡ found
    → is_unit m (at_destination (record { unit = u; order = unwrap_or (option_map (λ o. o.order) found) Hold })) ≡ true
led_by m b pending u None ok lawful on is = on
led_by m b pending u (Some o) ok lawful on is =
    let test : PlacedOrder → Bool = λ p. is_same_unit p.unit u && is_in_force p in
    let same : o.unit ≡ u = same_unit o.unit u (and_parts (is_same_unit o.unit u) (is_in_force o) (find_passes test pending o is)).0 in
    let here : is_unit m o.unit ≡ true = subst (λ (v : AUnit). is_unit m v ≡ true) (sym same) on in
    subst (λ (v : AUnit). is_unit m (record { power = v.power; kind = v.kind; place = leads_to v.place o.order }) ≡ true) same
    (led_unit m b o.unit.power (orders_of_power o.unit.power pending) o.unit o.order ok here (lawful o (found_in test pending o is)))

either_unit : (m : Chart) (c : Bool) (u v : AUnit) → is_unit m u ≡ true → is_unit m v ≡ true → is_unit m (cond c u v) ≡ true
either_unit m true u v one two = one
either_unit m false u v one two = two

-- whose order stands is a unit of the board
given_unit : (m : Chart) (b : Position) (pending : List PlacedOrder) (o : PlacedOrder) → IsOf m b → Contains (standing_orders b pending) o → is_unit m o.unit ≡ true
given_unit m b pending o of among =
    let (u, there, is) = made_from (order_among pending) b.units o among in
    subst (λ (x : PlacedOrder). is_unit m x.unit ≡ true) is (All-contains (λ v. is_unit m v ≡ true) b.units u of.units there)

given_moved : (m : Chart) (b : Position) (pending : List PlacedOrder) (a : Assignment) (o : PlacedOrder) → IsMap m → IsOf m b → AreEachLawful m b pending → Contains (standing_orders b pending) o
    → is_unit m (unit_after a o) ≡ true
given_moved m b pending a o ok of lawful among =
    let (u, there, is) = made_from (order_among pending) b.units o among in
    let on : is_unit m u ≡ true = All-contains (λ v. is_unit m v ≡ true) b.units u of.units there in
    subst (λ (x : PlacedOrder). is_unit m (unit_after a x) ≡ true) is
    (either_unit m (has_moved a (order_among pending u)) (at_destination (order_among pending u)) u (led_by m b pending u (found_order pending u) ok lawful on refl) on)

-- what an order means is of its unit, and leads it to the same place
record IsAsGiven (x o : PlacedOrder) : Type 0 where
  unit : o.unit ≡ x.unit
  leads : at_destination o ≡ at_destination x

led_still : (m : Chart) (all : List PlacedOrder) (u : AUnit) (a : Place) (order : Order) → leads_to a (meant_order m all u order) ≡ leads_to a order
led_still m all u a Hold = refl
led_still m all u a (Move to via) = refl
led_still m all u a (SupportHold at) = refl
led_still m all u a (SupportMove at to) = refl
led_still m all u a (Convoy at to) = refl
led_still m all u a (Retreat to) = refl
led_still m all u a Disband = refl
led_still m all u a Build = refl
led_still m all u a Remove = refl

as_given : (m : Chart) (intent : Bool) (orders : List PlacedOrder) (o : PlacedOrder) → Contains (meant m intent orders) o → (x : PlacedOrder) × Contains orders x × IsAsGiven x o
as_given m true orders o among =
    let (x, there, is) = made_from (meant_of m orders) orders o among in
    let same : IsAsGiven x (meant_of m orders x) = record {
      unit = refl;
      leads = ap (λ (p : Place). record { power = x.unit.power; kind = x.unit.kind; place = p }) (led_still m orders x.unit x.unit.place x.order);
    } in
    (x, there, subst (λ (y : PlacedOrder). IsAsGiven x y) is same)
as_given m false orders o among = (o, among, record { unit = refl; leads = refl })

-- the orders that stand, as they are meant
abbrev meant_orders : Chart → Position → List PlacedOrder → List PlacedOrder
meant_orders m b pending = meant_on m b (standing_orders b pending)

ordered_unit : (m : Chart) (b : Position) (pending : List PlacedOrder) (o : PlacedOrder) → IsOf m b → Contains (meant_orders m b pending) o → is_unit m o.unit ≡ true
ordered_unit m b pending o of among =
    let (x, there, same) = as_given m b.intent (standing_orders b pending) o among in
    subst (λ (u : AUnit). is_unit m u ≡ true) (sym same.unit) (given_unit m b pending x of there)

moved_unit : (m : Chart) (b : Position) (pending : List PlacedOrder) (a : Assignment) (o : PlacedOrder) → IsMap m → IsOf m b → AreEachLawful m b pending → Contains (meant_orders m b pending) o
    → is_unit m (unit_after a o) ≡ true
moved_unit m b pending a o ok of lawful among =
    let (x, there, same) = as_given m b.intent (standing_orders b pending) o among in
    let led : is_unit m (at_destination x) ≡ true = given_moved m b pending (λ d. true) x ok of lawful there in
    either_unit m (has_moved a o) (at_destination o) o.unit (subst (λ (u : AUnit). is_unit m u ≡ true) (sym same.leads) led) (ordered_unit m b pending o of among)

unit_low : (m : Chart) (u : AUnit) → is_unit m u ≡ true → u.place.prov < length m.provinces
unit_low m u on = place_low m u.kind u.place (stands_at m u.kind u.place (and_parts (nat_lt u.power (length m.realms)) (may_stand m u.kind u.place) on).1)

origin_within : (m : Chart) (b : Position) (pending : List PlacedOrder) (a : Assignment) (p : ℕ) (w : Option PlacedOrder) → IsOf m b
    → entrant a (meant_orders m b pending) p ≡ w → is_prov_if_any m (origin m w) ≡ true
origin_within m b pending a p None of is = refl
origin_within m b pending a p (Some w) of is = by_way (is_convoyed m (Some w))
  where
    by_way : (c : Bool) → is_prov_if_any m (cond c None (Some (prov w))) ≡ true
    by_way true = refl
    by_way false = lt-ltb _ _ (unit_low m w.unit (ordered_unit m b pending w of (found_in (enters a p) (meant_orders m b pending) w is)))

dislodged_on : (m : Chart) (b : Position) (pending : List PlacedOrder) (a : Assignment) (o : PlacedOrder) → IsOf m b → Contains (meant_orders m b pending) o
    → is_dislodged m (dislodged_unit m a (meant_orders m b pending) o) ≡ true
dislodged_on m b pending a o of among =
    and_from (is_unit m o.unit) (is_prov_if_any m (origin m (entrant a (meant_orders m b pending) (prov o)))) (ordered_unit m b pending o of among)
    (origin_within m b pending a (prov o) (entrant a (meant_orders m b pending) (prov o)) of refl)

same_units : (m : Chart) (a : Assignment) (orders os : List PlacedOrder) → map (λ (d : Dislodged). d.unit) (map (dislodged_unit m a orders) os) ≡ units_of os
same_units m a orders [] = refl
same_units m a orders (o ∷ os) = ap (λ us. o.unit ∷ us) (same_units m a orders os)

-- two of the orders whose units come to one province are of one province
meets : UnitsStandApart → ExplainedSatisfies → (m : Chart) (b : Position) (orders : List PlacedOrder) (steps : List Step) (a : Assignment) → AreOrders m b orders → AreExplained (situation m orders) steps a
    → are_units_single (units_of orders) ≡ true → (x y : PlacedOrder) (u v : AUnit) → Contains (filter (λ o. not (is_driven_out a orders o)) orders) x
    → Contains (filter (λ o. not (is_driven_out a orders o)) orders) y → Some (unit_after a x) ≡ Some u → Some (unit_after a y) ≡ Some v → u.place.prov ≡ v.place.prov → prov x ≡ prov y
meets apart satisfies m b orders steps a are told single x y u v in_x in_y is_u is_v same =
    let stays : PlacedOrder → Bool = λ o. not (is_driven_out a orders o) in
    let (x_among, x_stays) = kept_from stays orders x in_x in
    let (y_among, y_stays) = kept_from stays orders y in_y in
    let one : unit_after a x ≡ u = cc in
    let two : unit_after a y ≡ v = cc in
    apart m b orders (is_broken steps) a x y are (satisfies (situation m orders) steps a told) (found_itself orders x single x_among) (found_itself orders y single y_among)
    (not_true (is_driven_out a orders x) x_stays) (not_true (is_driven_out a orders y) y_stays)
    (ap (λ (w : AUnit). w.place.prov) one ∙ same ∙ sym (ap (λ (w : AUnit). w.place.prov) two))

moved_of : UnitsStandApart → ExplainedSatisfies → (m : Chart) (b : Position) (pending : List PlacedOrder) (steps : List Step) (a : Assignment) → IsMap m → IsOf m b → AreEachLawful m b pending
    → AreOrders m b (meant_orders m b pending) → AreExplained (situation m (meant_orders m b pending)) steps a → IsOf m (after_moves m b a (meant_orders m b pending))
moved_of apart satisfies m b pending steps a ok of lawful are told =
    let orders : List PlacedOrder = meant_orders m b pending in
    let stays : PlacedOrder → Bool = λ o. not (is_driven_out a orders o) in
    let single : are_units_single (units_of orders) ≡ true = subst (λ (us : List AUnit). are_units_single us ≡ true) (sym are.units) of.apart in
    let kept = movements_keep_units m a orders in
    let closed = standoffs_are_lawful m b a orders in
    let left : are_units_single (map (λ (d : Dislodged). d.unit) (dislodged_after m a orders)) ≡ true =
    subst (λ (us : List AUnit). are_units_single us ≡ true) (sym (same_units m a orders (filter (is_driven_out a orders) orders)))
    (single_kept (λ (o : PlacedOrder). o.unit) (is_driven_out a orders) orders single) in
    record {
      units = All-weaker (λ u. (o : PlacedOrder) × Contains orders o × (is_driven_out a orders o ≡ false) × (u ≡ unit_after a o)) (λ u. is_unit m u ≡ true)
          (λ u h. let (o, among, stands, is) = h in subst (λ (v : AUnit). is_unit m v ≡ true) (sym is) (moved_unit m b pending a o ok of lawful among)) (standing_after a orders) kept.standing;
      apart = subst (λ (us : List AUnit). are_units_single us ≡ true) (made_given (unit_after a) (filter stays orders))
          (single_given (λ (o : PlacedOrder). o.unit) (λ o. Some (unit_after a o)) (filter stays orders) (single_kept (λ (o : PlacedOrder). o.unit) stays orders single)
          (meets apart satisfies m b orders steps a are told single));
      dislodged = All-filter (may_go m (moved_board m b a orders)) (λ d. is_dislodged m d ≡ true) (dislodged_after m a orders)
          (All-weaker (λ d. (o : PlacedOrder) × Contains orders o × (is_driven_out a orders o ≡ true) × (d ≡ dislodged_unit m a orders o)) (λ d. is_dislodged m d ≡ true)
          (λ d h. let (o, among, driven, is) = h in subst (λ (x : Dislodged). is_dislodged m x ≡ true) (sym is) (dislodged_on m b pending a o of among)) (dislodged_after m a orders) kept.dislodged);
      dislodged_apart = single_kept (λ (d : Dislodged). d.unit) (may_go m (moved_board m b a orders)) (dislodged_after m a orders) left;
      standoff = closed.within;
      standoff_once = closed.once;
      standoff_empty = closed.empty;
      owners = of.owners;
      owners_count = of.owners_count;
      owners_centres = of.owners_centres;
    }

-- retreats

retreat_allowed : (m : Chart) (b : Position) (power : ℕ) (pending : List PlacedOrder) (u v : AUnit) (k : Order) → IsMap m → IsAllowed m b power pending u k → k ≡ Retreat v.place → v.kind ≡ u.kind
    → may_stand m v.kind v.place ≡ true
retreat_allowed m b power pending u v k ok h is kind =
    let leave : MayLeave m b power u v.place = (subst (λ (x : Order). IsAllowed m b power pending u x) is h).1 in
    subst (λ k. may_stand m k v.place ≡ true) (ap (λ (x : AUnit). x.kind) leave.there.unit ∙ sym kind) (retreat_place m b leave.dislodged v.place ok leave.retreat)

retreated_unit : (m : Chart) (b : Position) (pending : List PlacedOrder) (d : Dislodged) (u : AUnit) → IsMap m → IsOf m b → AreEachLawful m b pending → Contains b.dislodged d
    → after_retreat pending b.dislodged d ≡ Some u → is_unit m u ≡ true
retreated_unit m b pending d u ok of lawful among is =
    let r = refuge_of pending b.dislodged d u is in
    let on = (and_parts (is_unit m d.unit) (is_prov_if_any m d.origin) (All-contains (λ x. is_dislodged m x ≡ true) b.dislodged d of.dislodged among)).0 in
    and_from (nat_lt u.power (length m.realms)) (may_stand m u.kind u.place)
    (ap (λ r. nat_lt r (length m.realms)) r.power ∙ (and_parts (nat_lt d.unit.power (length m.realms)) (may_stand m d.unit.kind d.unit.place) on).0)
    (retreat_allowed m b r.order.unit.power (orders_of_power r.order.unit.power pending) r.order.unit u r.order.order ok (lawful r.order r.among) r.to
    (r.kind ∙ ap (λ (x : AUnit). x.kind) (sym r.own)))

retreated_of : RetreatsAreOpen → (m : Chart) (b : Position) (pending : List PlacedOrder) → IsMap m → IsOf m b → IsEachGiven m b pending → AreEachLawful m b pending → IsOf m (after_retreats b pending)
retreated_of are_open m b pending ok of given lawful =
    let goes : Dislodged → Option AUnit = after_retreat pending b.dislodged in
    record {
      units = All-weaker (λ u. Contains b.units u ⊎ ((d : Dislodged) × Contains b.dislodged d × (after_retreat pending b.dislodged d ≡ Some u))) (λ u. is_unit m u ≡ true)
          (λ u h. elim h [
            | inl stood ↦ All-contains (λ v. is_unit m v ≡ true) b.units u of.units stood
            | inr came ↦ let (d, among, is) = came in retreated_unit m b pending d u ok of lawful among is
          ]) (after_retreats b pending).units (retreats_lose_nobody_else b pending).units;
      apart = single_append b.units (filter_map goes b.dislodged) of.apart
          (single_given (λ (d : Dislodged). d.unit) goes b.dislodged of.dislodged_apart
          (λ d e u v in_d in_e is_u is_v same. ap (λ (x : Dislodged). x.unit.place.prov) (retreats_meet_nowhere b pending d e u v in_d in_e is_u is_v same)))
          (λ u v in_u in_v same.
          let (d, among, is) = given_from goes b.dislodged v in_v in
          (are_open m b pending d v ok of given among is).empty u in_u (sym same));
      dislodged = λ k d h. absurd (omega arith);
      dislodged_apart = refl;
      standoff = λ k d h. absurd (omega arith);
      standoff_once = refl;
      standoff_empty = λ k d h. absurd (omega arith);
      owners = of.owners;
      owners_count = of.owners_count;
      owners_centres = of.owners_centres;
    }

-- builds and removals

pub build_allowed : (m : Chart) (b : Position) (power : ℕ) (pending : List PlacedOrder) (u : AUnit) (k : Order) → is_build k ≡ true → IsAllowed m b power pending u k → MayCome m b power pending u
build_allowed m b power pending u Hold is h = absurd (false≢true is)
build_allowed m b power pending u (Move to via) is h = absurd (false≢true is)
build_allowed m b power pending u (SupportHold at) is h = absurd (false≢true is)
build_allowed m b power pending u (SupportMove at to) is h = absurd (false≢true is)
build_allowed m b power pending u (Convoy at to) is h = absurd (false≢true is)
build_allowed m b power pending u (Retreat to) is h = absurd (false≢true is)
build_allowed m b power pending u Disband is h = absurd (false≢true is)
build_allowed m b power pending u Build is h = h.1
build_allowed m b power pending u Remove is h = absurd (false≢true is)

pub come_of : (m : Chart) (b : Position) (pending : List PlacedOrder) (o : PlacedOrder) → AreEachLawful m b pending → Contains pending o → is_build o.order ≡ true
    → MayCome m b o.unit.power (orders_of_power o.unit.power pending) o.unit
come_of m b pending o lawful among is = build_allowed m b o.unit.power (orders_of_power o.unit.power pending) o.unit o.order is (lawful o among)

-- a build is at a home of its power, where nobody stands
at_home : (m : Chart) (b : Position) (power : ℕ) (pending : List PlacedOrder) (u : AUnit) → MayCome m b power pending u → (is_home m power u.place.prov ≡ true) × (is_held b u.place.prov ≡ false)
at_home m b power pending u come =
    let (home, more) = and_parts (list_any (λ x. x == u.place.prov) (home m power)) _ come.home in
    let (own, rest) = and_parts (owns b power u.place.prov) _ more in
    let (vacant, fit) = and_parts (is_vacant b u.place.prov) _ rest in
    (home, not-true _ (and_parts (not (is_held b u.place.prov)) (not (is_left b u.place.prov)) vacant).0)

built_single : (m : Chart) (b : Position) (pending : List PlacedOrder) → IsMap m → AreGiven m b pending → AreEachLawful m b pending → are_units_single (units_built pending) ≡ true
built_single m b pending ok given lawful =
    single_by_power (λ o. is_build o.order) pending given.apart
    (λ x y in_x in_y is_x is_y same.
    let one = (at_home m b x.unit.power (orders_of_power x.unit.power pending) x.unit (come_of m b pending x lawful in_x is_x)).0 in
    let two = (at_home m b y.unit.power (orders_of_power y.unit.power pending) y.unit (come_of m b pending y lawful in_y is_y)).0 in
    ok.homes_apart y.unit.place.prov x.unit.power y.unit.power (subst (λ p. is_home m x.unit.power p ≡ true) same one) two)

adjusted_of : (m : Chart) (b : Position) (pending : List PlacedOrder) → IsMap m → IsOf m b → AreGiven m b pending → AreEachLawful m b pending → IsOf m (after_adjustment m b pending)
adjusted_of m b pending ok of given lawful =
    let kept : AUnit → Bool = λ u. not (is_given pending u) in
    let stays : AUnit → Bool = λ u. not (is_among (disorder m b pending) u) in
    record {
      units = All-append (λ u. is_unit m u ≡ true) (units_staying m b pending) (units_built pending)
          (All-filter stays (λ u. is_unit m u ≡ true) (units_kept b pending) (All-filter kept (λ u. is_unit m u ≡ true) b.units of.units))
          (All-map (λ u. is_unit m u ≡ true) (λ (o : PlacedOrder). o.unit) (filter (λ o. is_build o.order) pending) (λ k d low.
          let o : PlacedOrder = get_or (filter (λ x. is_build x.order) pending) k d in
          let (among, is) = kept_from (λ x. is_build x.order) pending o (Contains-get_or (filter (λ x. is_build x.order) pending) k d low) in
          built_unit m b o.unit.power (orders_of_power o.unit.power pending) o.unit ok (come_of m b pending o lawful among is)));
      apart = single_append (units_staying m b pending) (units_built pending) (single_filtered stays (units_kept b pending) (single_filtered kept b.units of.apart)) (built_single m b pending ok given lawful)
          (λ u v in_u in_v same.
          let stood = (kept_from kept b.units u (kept_from stays (units_kept b pending) u in_u).0).0 in
          let (o, inside, is) = made_from (λ (x : PlacedOrder). x.unit) (filter (λ x. is_build x.order) pending) v in_v in
          let (among, build) = kept_from (λ x. is_build x.order) pending o inside in
          let empty = (at_home m b o.unit.power (orders_of_power o.unit.power pending) o.unit (come_of m b pending o lawful among build)).1 in
          false≢true (sym empty ∙ somebody (λ w. w.place.prov == o.unit.place.prov) b.units u stood (eq-eqb _ _ (sym same ∙ sym (ap (λ (w : AUnit). w.place.prov) is)))));
      dislodged = λ k d h. absurd (omega arith);
      dislodged_apart = refl;
      standoff = λ k d h. absurd (omega arith);
      standoff_once = refl;
      standoff_empty = λ k d h. absurd (omega arith);
      owners = of.owners;
      owners_count = of.owners_count;
      owners_centres = of.owners_centres;
    }

-- what follows

phased_of : (m : Chart) (b : Position) (year : ℕ) (season : Season) → IsOf m b → IsOf m (in_phase b year season)
phased_of m b year season of = record {
  units = of.units;
  apart = of.apart;
  dislodged = of.dislodged;
  dislodged_apart = of.dislodged_apart;
  standoff = of.standoff;
  standoff_once = of.standoff_once;
  standoff_empty = of.standoff_empty;
  owners = of.owners;
  owners_count = of.owners_count;
  owners_centres = of.owners_centres;
}

owner_on : (m : Chart) (b : Position) (o : Option ℕ) (h : Option AUnit) (p : ℕ) → IsOf m b → holder b.units p ≡ h → is_power_if_any m o ≡ true → is_power_if_any m (owner_by h o) ≡ true
owner_on m b o None p of is on = on
owner_on m b o (Some u) p of is on =
    (and_parts (nat_lt u.power (length m.realms)) (may_stand m u.kind u.place)
    (All-contains (λ v. is_unit m v ≡ true) b.units u of.units (found_in (λ v. v.place.prov == p) b.units u is))).0

either_owner : (m : Chart) (c : Bool) (one two : Option ℕ) → is_power_if_any m one ≡ true → is_power_if_any m two ≡ true → is_power_if_any m (cond c one two) ≡ true
either_owner m true one two x y = x
either_owner m false one two x y = y

owners_on : (m : Chart) (b : Position) (os : List (Option ℕ)) (i : ℕ) → IsOf m b → All (λ o. is_power_if_any m o ≡ true) os → All (λ o. is_power_if_any m o ≡ true) (owners_after m b.units i os)
owners_on m b [] i of all k d h = absurd (omega arith)
owners_on m b (o ∷ os) i of all zero d h =
    either_owner m (is_centre m i) (owner_by (holder b.units i) o) o (owner_on m b o (holder b.units i) i of refl (all 0 o (omega arith))) (all 0 o (omega arith))
owners_on m b (o ∷ os) i of all (suc k) d h = owners_on m b os (i + 1) of (λ j e l. all (suc j) e (omega arith)) k d (omega arith)

owned_of : (m : Chart) (b : Position) → IsOf m b → IsOf m (with_owners m b)
owned_of m b of = record {
  units = of.units;
  apart = of.apart;
  dislodged = of.dislodged;
  dislodged_apart = of.dislodged_apart;
  standoff = of.standoff;
  standoff_once = of.standoff_once;
  standoff_empty = of.standoff_empty;
  owners = owners_on m b b.owners 0 of of.owners;
  owners_count = owners_count m b.units b.owners 0 ∙ of.owners_count;
  owners_centres = λ p h. elim (owners_at m b.units b.owners 0 p p (omega arith)) [
    | inl same ↦ of.owners_centres p (sym (ap (λ (o : Option ℕ). is_some o) same) ∙ h)
    | inr taken ↦ taken.0
  ];
}

-- of a board and of what follows it
abbrev Stays : Chart → Sequel → Type 0
Stays m s = IsOf m s.board

stays_either : (m : Chart) (c : Bool) (x y : Sequel) → Stays m x → Stays m y → Stays m (cond c x y)
stays_either m true x y first second = first
stays_either m false x y first second = second

goes_of : (m : Chart) (b : Position) (season : Season) → IsOf m b → Stays m (goes_on b season)
goes_of m b season of = phased_of m b b.phase.year season of

year_of : (m : Chart) (b : Position) → IsOf m b → Stays m (new_year b)
year_of m b of = stays_either m (nat_le last_year b.phase.year) (sequel b Ended) (sequel (in_phase b (b.phase.year + 1) SpringMoves) GoesOn) of (phased_of m b (b.phase.year + 1) SpringMoves of)

count_of : (m : Chart) (b : Position) (won : Option ℕ) → IsOf m b → Stays m (after_count m b won)
count_of m b (Some power) of = of
count_of m b None of = stays_either m (needs_adjustment m b) (goes_on b Winter) (new_year b) (goes_of m b Winter of) (year_of m b of)

end_of : (m : Chart) (b : Position) → IsOf m b → Stays m (year_end m b)
end_of m b of = count_of m (with_owners m b) (winner m (with_owners m b)) (owned_of m b of)

follow_of : (m : Chart) (season : Season) (b : Position) → IsOf m b → Stays m (follow m season b)
follow_of m SpringMoves b of = stays_either m (has_dislodged b) (goes_on b SpringRetreats) (goes_on b FallMoves) (goes_of m b SpringRetreats of) (goes_of m b FallMoves of)
follow_of m SpringRetreats b of = goes_of m b FallMoves of
follow_of m FallMoves b of = stays_either m (has_dislodged b) (goes_on b FallRetreats) (year_end m b) (goes_of m b FallRetreats of) (end_of m b of)
follow_of m FallRetreats b of = end_of m b of
follow_of m Winter b of = year_of m b of

-- the whole

-- what lower laws say
pub record Lower : Type 0 where
  pub apart : UnitsStandApart
  pub satisfies : ExplainedSatisfies
  pub meant : MeantAreOrders
  pub are_open : RetreatsAreOpen
  pub lawful : OrdersAreLawful
  pub units : UnitsHaveOneOrder
  pub in_force : StandingIsInForce

-- a board of the map, with orders that were given
record Before (m : Chart) (b : Position) (pending : List PlacedOrder) : Type 0 where
  ok : IsMap m
  of : IsOf m b
  given : AreGiven m b pending
  lawful : AreEachLawful m b pending

left_moved : Lower → (m : Chart) (b : Position) (pending : List PlacedOrder) (left : Position) (t : Account) → Before m b pending → LeavesMoved m b pending left t → IsOf m left
left_moved lower m b pending left (OfMovement t) before h =
    let are : AreOrders m b (meant_orders m b pending) = lower.meant m b (standing_orders b pending) (record { is_of = before.of; units = lower.units b pending; in_force = lower.in_force b pending }) in
    let values : Assignment = values_in t.resolution in
    let steps : List Step = steps_of t.resolution.steps.items in
    let made : IsOf m (after_moves m b values (meant_on m b t.orders)) =
    subst (λ (os : List PlacedOrder). AreExplained (situation_on m b os) steps values → IsOf m (after_moves m b values (meant_on m b os))) (sym h.orders)
    (moved_of lower.apart lower.satisfies m b pending steps values before.ok before.of before.lawful are) h.explained in
    subst (λ (p : Position). IsOf m p) (sym h.board) made
left_moved lower m b pending left (OfRetreats t) before h = absurd h
left_moved lower m b pending left (OfAdjustment t) before h = absurd h

left_retreated : Lower → (m : Chart) (b : Position) (pending : List PlacedOrder) (left : Position) (t : Account) → Before m b pending → LeavesRetreated b pending left t → IsOf m left
left_retreated lower m b pending left (OfMovement t) before h = absurd h
left_retreated lower m b pending left (OfRetreats t) before h =
    subst (λ (p : Position). IsOf m p) (sym h.0) (retreated_of lower.are_open m b pending before.ok before.of before.given.each before.lawful)
left_retreated lower m b pending left (OfAdjustment t) before h = absurd h

left_adjusted : (m : Chart) (b : Position) (pending : List PlacedOrder) (left : Position) (t : Account) → Before m b pending → LeavesAdjusted m b pending left t → IsOf m left
left_adjusted m b pending left (OfMovement t) before h = absurd h
left_adjusted m b pending left (OfRetreats t) before h = absurd h
left_adjusted m b pending left (OfAdjustment t) before h = subst (λ (p : Position). IsOf m p) (sym h.board) (adjusted_of m b pending before.ok before.of before.given before.lawful)

left_of : Lower → (m : Chart) (season : Season) (b : Position) (pending : List PlacedOrder) (left : Position) (t : Account) → Before m b pending → Leaves m season b pending left t → IsOf m left
left_of lower m SpringMoves b pending left t before h = left_moved lower m b pending left t before h
left_of lower m SpringRetreats b pending left t before h = left_retreated lower m b pending left t before h
left_of lower m FallMoves b pending left t before h = left_moved lower m b pending left t before h
left_of lower m FallRetreats b pending left t before h = left_retreated lower m b pending left t before h
left_of lower m Winter b pending left t before h = left_adjusted m b pending left t before h

pub boards_stay_of_their_map : Lower → BoardsStayOfTheirMap
boards_stay_of_their_map lower m b pending new report ok of given h =
    let before : Before m b pending = record { ok = ok; of = of; given = given; lawful = each_lawful lower.lawful m b pending ok of given.each } in
    subst (λ (s : Sequel). IsOf m s.board) (sym h.next) (follow_of m b.phase.season h.left (left_of lower m b.phase.season b pending h.left report.account before h.account))
