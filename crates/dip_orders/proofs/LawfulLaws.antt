-- An order that was read is lawful.
use Rattle.std.proofs.Common.{◌≡◌, ℕ, ◌==◌, ◌&&◌, ◌||◌, not, Bool, true, false, List, [], ◌∷◌, ◌++◌, refl, ◌∙◌, ap, subst, Option, Some, None, Ok, nat_lt, find, option_map}
use Rattle.std.proofs.lemmas.Bool.{and_parts, eq-eqb, ltb-true, not-true, false≢true}
use Rattle.std.specs.Option.{unwrap_or}
use Rattle.std.specs.Str.{bytes_eq}
use Rattle.std.specs.Cmp.Derive.{both_true}
use Rattle.std.specs.List.{list_any}
use Rattle.dip_names.specs.declared.names.Kind.{Kind}
use Rattle.dip_names.specs.declared.names.Kind.TheVariants.{Army, Fleet}
use Rattle.dip_names.specs.declared.names.Place.{Place}
use Rattle.dip_names.specs.declared.names.Unit.{Unit as AUnit}
use Rattle.dip_map.specs.declared.boards.Dislodged.{Dislodged}
use Rattle.dip_map.specs.Charts.{Chart, IsMap, fleet_next, home, province, shore}
use Rattle.dip_map.specs.Boards.{Position, IsOf, is_vacant, owns}
use Rattle.dip_orders_lines.specs.Forms.{is_form, is_spot}
use Rattle.dip_orders_lines.specs.declared.forms.Form.{Form}
use Rattle.dip_orders_lines.specs.declared.forms.Form.TheVariants.{Hold as HoldForm, Move as MoveForm, SupportHold, SupportMove, Convoy, Retreat, Disband, Build, Remove}
use Rattle.dip_orders_placed.specs.Allowances.{builds_due, removals_due}
use Rattle.dip_orders.specs.Checks.{Check, must}
use Rattle.dip_orders.specs.Lawful.{IsLawful, IsSite, Reaches}
use Rattle.dip_orders_placed.specs.Retreats.{is_place_among, retreats_of}
use Rattle.dip_orders.specs.Reading.{order_of}
use Rattle.dip_orders.specs.Rules.{unit_checks, sail_checks, move_checks, move_place, other_checks, retreat_checks, site, site_checks, is_supportable, unit_of, the_unit, dislodged_of, the_dislodged, the_other, checks_of, order_in}
use Rattle.dip_orders.specs.Conditions.{prov_named, no_place, no_unit, other_at, knows_coast, first_in, named_in, place_in, could_move, could_come, may_convoy, may_build, builds_elsewhere, removals_elsewhere}
use Rattle.dip_names.specs.Kinds.{is_kind, is_coastal, is_sea}
use Rattle.dip_orders.specs.declared.faults.OrderFault.{OrderFault}
use Rattle.dip_orders.specs.declared.faults.OrderFault.TheVariants.{OutOfReach, SupportOutOfReach, WrongKind, NoConvoyThere, WrongCoast, AllowanceUsed, NoSuchRetreat}
use Rattle.dip_orders_placed.specs.declared.placed.PlacedOrder.{PlacedOrder}
use Rattle.dip_orders.proofs.AgainLaws.{built_again, dislodged_again, unit_again}
use Rattle.dip_orders.proofs.CheckLaws.{Hold, hold_back, hold_front, ok_holds}
use Rattle.dip_orders_placed.proofs.FindLaws.{find_any, some_is}
use Rattle.dip_orders.proofs.ReadingLaws.{Forms, read_form}
use Rattle.dip_orders.proofs.RoundTrip.{coast_fine}
use Rattle.dip_orders.proofs.SpotLaws.{IsPlaceOf, named_low}

-- what is found is among the places
among_found : (p : Place → Bool) (places : List Place) (a : Place) → find p places ≡ Some a → is_place_among a places ≡ true
among_found p places a h = find_any p (λ x. (x.prov == a.prov) && (x.coast == a.coast)) places a (both_true (eq-eqb a.prov a.prov refl) (eq-eqb a.coast a.coast refl)) h

sailed_among : (m : Chart) (places : List Place) (q : ℕ) (coast : Option (List ℕ)) (none : OrderFault) → Hold (sail_checks m places q coast none) → is_place_among (place_in m places q coast) places ≡ true
sailed_among m places q None none h = among_found (λ a. a.prov == q) places _ (some_is (first_in places q) no_place h.0)
sailed_among m places q (Some c) none h = among_found (λ a. (a.prov == q) && bytes_eq (shore m a).name c) places _ (some_is (named_in m places q c) no_place h.1.0)

left_among : (m : Chart) (k : Kind) (places : List Place) (q : ℕ) (coast : Option (List ℕ)) → Hold (retreat_checks m k places q coast) → is_place_among (place_in m places q coast) places ≡ true
left_among m Army places q None h = among_found (λ a. a.prov == q) places _ (some_is (first_in places q) no_place h.0)
left_among m Army places q (Some c) h = absurd (false≢true h.1.0)
left_among m Fleet places q coast h = sailed_among m places q coast NoSuchRetreat h

moved_reaches : (m : Chart) (k : Kind) (a : Place) (q : ℕ) (coast : Option (List ℕ)) (via : Bool) → Hold (move_checks m k a q coast via) → Reaches m k a (move_place m k a q coast) via
moved_reaches m Army a q coast true h = (refl, h.1.0)
moved_reaches m Army a q coast false h = (refl, h.1.0)
moved_reaches m Fleet a q coast via h = (h.0, sailed_among m (fleet_next m a) q coast OutOfReach h.1)

is_a_fleet : (k : Kind) → is_kind k Fleet ≡ true → k ≡ Fleet
is_a_fleet Army h = absurd (false≢true h)
is_a_fleet Fleet h = refl

site_of : (m : Chart) (k : Kind) (p : ℕ) (coast : Option (List ℕ)) → IsPlaceOf m k (site m p coast) → Hold (site_checks m k p coast) → IsSite m k (site m p coast)
site_of m Army p None on h = refl
site_of m Army p (Some c) on h = absurd (false≢true h.0)
site_of m Fleet p coast on h = on

lawful_form : (m : Chart) (b : Position) (power : ℕ) (pending : List PlacedOrder) (d : Form) → IsMap m → IsOf m b → is_form d ≡ true → Hold (checks_of m b power pending d)
    → IsLawful m b power pending (order_in m b power d)
lawful_form m b power pending (HoldForm u) ok of fine h = (h.0, record { there = (unit_again m b power u ok of h.1.1).found })
lawful_form m b power pending (MoveForm u to via) ok of fine h =
    let the : AUnit = the_unit m b power u in
    let moves : List Check = move_checks m the.kind the.place (prov_named m to) to.coast via in
    let unit = unit_again m b power u ok of (hold_front (unit_checks m (unit_of m b power u) u) moves h.1.1.1) in
    (h.0, (record { there = unit.found }, moved_reaches m the.kind the.place (prov_named m to) to.coast via (hold_back (unit_checks m (unit_of m b power u) u) moves h.1.1.1)))
lawful_form m b power pending (SupportHold u other held) ok of fine h =
    let the : AUnit = the_unit m b power u in
    let q : ℕ = prov_named m other.at in
    let reach : List Check = must (could_move m the.kind the.place q) SupportOutOfReach ∷ [] in
    let there : List Check = other_checks m b other.kind q other.at.coast in
    let unit = unit_again m b power u ok of (hold_front (unit_checks m (unit_of m b power u) u) (there ++ reach) h.1.1.1) in
    let rest = hold_back (unit_checks m (unit_of m b power u) u) (there ++ reach) h.1.1.1 in (
      h.0,
      (
        record { there = unit.found },
        record {
          other = the_other m b other;
          there = record { there = some_is (other_at b other.kind q) no_unit (hold_front there reach rest).0 };
          reach = (hold_back there reach rest).0;
        },
      ),
    )
lawful_form m b power pending (SupportMove u other to) ok of fine h =
    let the : AUnit = the_unit m b power u in
    let p : ℕ = prov_named m other.at in
    let q : ℕ = prov_named m to in
    let reach : List Check = must (is_supportable m the (the_other m b other) q) SupportOutOfReach ∷ [] in
    let there : List Check = other_checks m b other.kind p other.at.coast in
    let unit = unit_again m b power u ok of (hold_front (unit_checks m (unit_of m b power u) u) (there ++ reach) h.1.1.1.1) in
    let rest = hold_back (unit_checks m (unit_of m b power u) u) (there ++ reach) h.1.1.1.1 in
    let (moves, more) = and_parts (could_move m the.kind the.place q) (not ((the_other m b other).place.prov == the.place.prov) && could_come m (the_other m b other) q) (hold_back there reach rest).0 in
    let (apart, comes) = and_parts (not ((the_other m b other).place.prov == the.place.prov)) (could_come m (the_other m b other) q) more in (
      h.0,
      (
        record { there = unit.found },
        record {
          other = the_other m b other;
          there = record { there = some_is (other_at b other.kind p) no_unit (hold_front there reach rest).0 };
          apart = not-true _ apart;
          reach = moves;
          comes = comes;
        },
      ),
    )
lawful_form m b power pending (Convoy u army to) ok of fine h =
    let the : AUnit = the_unit m b power u in
    let p : ℕ = prov_named m army in
    let q : ℕ = prov_named m to in
    let last : List Check = must (knows_coast m q to.coast) WrongCoast ∷ must (may_convoy m p q) NoConvoyThere ∷ [] in
    let there : List Check = other_checks m b Army p army.coast in
    let others : List Check = must (is_kind the.kind Fleet) WrongKind ∷ must (is_sea (province m the.place.prov).terrain) NoConvoyThere ∷ (there ++ last) in
    let unit = unit_again m b power u ok of (hold_front (unit_checks m (unit_of m b power u) u) others h.1.1.1.1) in
    let rest = hold_back (unit_checks m (unit_of m b power u) u) others h.1.1.1.1 in (
      h.0,
      (
        record { there = unit.found },
        record {
          fleet = is_a_fleet the.kind rest.0;
          sea = rest.1.0;
          army = refl;
          other = unwrap_or (other_at b Army p) no_unit;
          there = record { there = some_is (other_at b Army p) no_unit (hold_front there last rest.1.1).0 };
          coasts = (hold_back there last rest.1.1).1.0;
        },
      ),
    )
lawful_form m b power pending (Retreat u to) ok of fine h =
    let the : Dislodged = the_dislodged m b power u in
    let q : ℕ = prov_named m to in
    let checks : List Check = unit_checks m (option_map (λ d. d.unit) (dislodged_of m b power u)) u in
    let leaves : List Check = retreat_checks m the.unit.kind (retreats_of m b the) q to.coast in
    let unit = dislodged_again m b power u ok of (hold_front checks leaves h.1.1.1) in (
      h.0,
      record {
        dislodged = the;
        there = record { there = unit.found; unit = refl };
        retreat = left_among m the.unit.kind (retreats_of m b the) q to.coast (hold_back checks leaves h.1.1.1);
      },
    )
lawful_form m b power pending (Disband u) ok of fine h = (h.0, (the_dislodged m b power u, record { there = (dislodged_again m b power u ok of h.1.1).found; unit = refl }))
lawful_form m b power pending (Build u) ok of fine h =
    let p : ℕ = prov_named m u.at in
    let due : List Check = must (nat_lt (builds_elsewhere pending p) (builds_due m b power)) AllowanceUsed ∷ [] in
    let sites : List Check = site_checks m u.kind p u.at.coast in
    let (home, more) = and_parts (list_any (λ x. x == p) (home m power)) _ h.1.1.0 in
    let (owned, vacant) = and_parts (owns b power p) (is_vacant b p && (is_kind u.kind Army || is_coastal (province m p).terrain)) more in
    let (empty, fit) = and_parts (is_vacant b p) (is_kind u.kind Army || is_coastal (province m p).terrain) vacant in
    let built = built_again m ok u.kind p u.at.coast (coast_fine u.at (and_parts (is_spot u.at) true fine).0) (named_low m u.at h.1.0) fit (hold_front sites due h.1.1.1) in (
      h.0,
      record {
        power = refl;
        home = ap (λ n. may_build m b power u.kind n) built.at ∙ h.1.1.0;
        place = site_of m u.kind p u.at.coast built.on (hold_front sites due h.1.1.1);
        due = ltb-true _ _ (ap (λ n. nat_lt (builds_elsewhere pending n) (builds_due m b power)) built.at ∙ (hold_back sites due h.1.1.1).0);
      },
    )
lawful_form m b power pending (Remove u) ok of fine h =
    let p : ℕ = prov_named m u.at in
    let due : List Check = must (nat_lt (removals_elsewhere pending p) (removals_due b power)) AllowanceUsed ∷ [] in
    let unit = unit_again m b power u ok of (hold_front (unit_checks m (unit_of m b power u) u) due h.1.1) in (
      h.0,
      record {
        unit = record { there = unit.found };
        due = ltb-true _ _ (ap (λ n. nat_lt (removals_elsewhere pending n) (removals_due b power)) unit.prov ∙ (hold_back (unit_checks m (unit_of m b power u) u) due h.1.1).0);
      },
    )

-- the order that a line states on a board of the map, beside those that stand, is lawful there
pub read_lawful : Forms → (m : Chart) (b : Position) (power : ℕ) (pending : List PlacedOrder) (line : List ℕ) (o : PlacedOrder) → IsMap m → IsOf m b → order_of m b power pending line ≡ Ok o
    → IsLawful m b power pending o
read_lawful forms m b power pending line o ok of h =
    let (d, is, found) = read_form m b power pending line o h in
    let (checks, same) = ok_holds (checks_of m b power pending d) (order_in m b power d) o found in
    subst (λ (x : PlacedOrder). IsLawful m b power pending x) same (lawful_form m b power pending d ok of (forms.read line d is).places checks)
