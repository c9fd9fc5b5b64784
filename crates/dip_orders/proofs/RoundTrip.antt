-- The text of an order that was read is read again as the same order.
use Rattle.std.proofs.Common.{◌≡◌, ℕ, ◌<◌, ◌==◌, ◌&&◌, ◌||◌, Bool, true, List, [], ◌∷◌, ◌++◌, refl, sym, ◌∙◌, ap, subst, Option, None, Ok, is_some, nat_lt, option_map, arith}
use Rattle.std.proofs.lemmas.Bool.{and_parts, lt-ltb, ltb-true}
use Rattle.std.specs.List.{list_any}
use Rattle.std.specs.Option.{unwrap_or}
use Rattle.std.specs.Cmp.Derive.{both_true}
use Rattle.dip_names.specs.declared.names.Kind.{Kind}
use Rattle.dip_names.specs.declared.names.Kind.TheVariants.{Army, Fleet}
use Rattle.dip_names.specs.declared.names.Place.{Place}
use Rattle.dip_names.specs.declared.names.Unit.{Unit as AUnit}
use Rattle.dip_map.specs.declared.boards.Dislodged.{Dislodged}
use Rattle.dip_map.specs.Charts.{Chart, IsMap, home, province}
use Rattle.dip_map.specs.Boards.{Position, IsOf, is_vacant, owns}
use Rattle.dip_orders_lines.specs.Forms.{is_coast, are_letters, is_spot, is_form}
use Rattle.dip_orders_lines.specs.Texts.{canonical_text}
use Rattle.dip_orders_lines.specs.declared.forms.Spot.{Spot}
use Rattle.dip_orders_lines.specs.declared.forms.Mention.{Mention}
use Rattle.dip_orders_lines.specs.declared.forms.Form.{Form}
use Rattle.dip_orders_lines.specs.declared.forms.Form.TheVariants.{Hold as HoldForm, Move as MoveForm, SupportHold, SupportMove, Convoy, Retreat, Disband, Build, Remove}
use Rattle.dip_orders_placed.specs.Allowances.{builds_due, removals_due}
use Rattle.dip_orders.specs.Checks.{Check, must}
use Rattle.dip_orders_placed.specs.Retreats.{retreats_of}
use Rattle.dip_orders.specs.Rules.{site, site_checks, unit_checks, move_checks, move_place, other_checks, retreat_checks, is_supportable, unit_of, the_unit, dislodged_of, the_dislodged, the_other, checks_of, order_in, answer}
use Rattle.dip_orders.specs.Conditions.{builds_elsewhere, may_build, is_on_map, prov_named, no_unit, other_at, knows_coast, place_in, could_move, may_convoy, removals_elsewhere}
use Rattle.dip_names.specs.Kinds.{is_coastal, is_kind, is_sea}
use Rattle.dip_orders.specs.Texts.{order_text}
use Rattle.dip_orders.specs.declared.faults.OrderFault.TheVariants.{SupportOutOfReach, WrongKind, NoConvoyThere, WrongCoast, AllowanceUsed}
use Rattle.dip_orders_placed.specs.declared.placed.Order.TheVariants.{Hold as Holds, Move as Moves, SupportHold as SupportsHold, SupportMove as SupportsMove, Convoy as Convoys, Retreat as Retreats, Disband as Disbands, Build as Builds, Remove as Removes}
use Rattle.dip_orders_placed.specs.declared.placed.PlacedOrder.{PlacedOrder}
use Rattle.dip_orders.proofs.AgainLaws.{built_again, dislodged_again, left_again, moved_again, unit_again}
use Rattle.dip_orders.proofs.CheckLaws.{Hold, hold_back, hold_both, hold_front, holds_ok, ok_holds}
use Rattle.dip_orders.proofs.FormLaws.{NamesArmy, order_canonical, printed}
use Rattle.dip_orders.proofs.SpotLaws.{bare_fine, bare_spot, code_named, code_on_map, coast_for, mention_of, named_low, place_low, spot_fine, spot_of}

-- an order is what its own text says
pub record Again (m : Chart) (b : Position) (power : ℕ) (pending : List PlacedOrder) (o : PlacedOrder) : Type 0 where
  pub fine : is_form (printed m o.unit o.order) ≡ true
  pub text : order_text m o ≡ canonical_text (printed m o.unit o.order)
  pub same : answer m b power pending (printed m o.unit o.order) ≡ Ok o

make : (m : Chart) (b : Position) (power : ℕ) (pending : List PlacedOrder) (o : PlacedOrder) → NamesArmy o.order → is_form (printed m o.unit o.order) ≡ true
    → Hold (checks_of m b power pending (printed m o.unit o.order)) → order_in m b power (printed m o.unit o.order) ≡ o → Again m b power pending o
make m b power pending o army fine checks same = record {
  fine = fine;
  text = order_canonical m o.unit o.order army;
  same = holds_ok (checks_of m b power pending (printed m o.unit o.order)) (order_in m b power (printed m o.unit o.order)) checks ∙ ap (λ x. Ok x) same;
}

-- the coast of a word of a place
pub coast_fine : (s : Spot) → is_spot s ≡ true → is_coast s.coast ≡ true
coast_fine s h = (and_parts (are_letters 3 s.code) (is_coast s.coast) h).1

pub hold_again : (m : Chart) (b : Position) (power : ℕ) (pending : List PlacedOrder) (u : Mention) → IsMap m → IsOf m b → Hold (checks_of m b power pending (HoldForm u))
    → Again m b power pending (order_in m b power (HoldForm u))
hold_again m b power pending u ok of h =
    let unit = unit_again m b power u ok of h.1.1 in
    let the : AUnit = the_unit m b power u in
    make m b power pending (order_in m b power (HoldForm u)) tt (both_true (spot_fine m ok the.kind the.place unit.place) refl) (h.0, (unit.on, unit.checks))
    (ap (λ x. record { unit = x; order = Holds }) unit.same)

-- a move whose unit and destination are told in other words
move_back : (m : Chart) (v unit : AUnit) (r q : ℕ) (coast : Option (List ℕ)) (via : Bool) → v ≡ unit → r ≡ q → Hold (move_checks m unit.kind unit.place q coast via) → Hold (move_checks m v.kind v.place r coast via)
move_back m v unit r q coast via e f h =
    subst (λ (x : AUnit). Hold (move_checks m x.kind x.place r coast via)) (sym e) (subst (λ (n : ℕ). Hold (move_checks m unit.kind unit.place n coast via)) (sym f) h)

moved_order : (m : Chart) (v unit : AUnit) (r q : ℕ) (coast : Option (List ℕ)) (via : Bool) (to : Place) → v ≡ unit → r ≡ q → move_place m unit.kind unit.place q coast ≡ to
    → ◌≡◌ {A = PlacedOrder} (record { unit = v; order = Moves (move_place m v.kind v.place r coast) via }) (record { unit = unit; order = Moves to via })
moved_order m v unit r q coast via to e f h =
    ap (λ (x : AUnit). record { unit = x; order = Moves (move_place m x.kind x.place r coast) via }) e
    ∙ (ap (λ (n : ℕ). record { unit = unit; order = Moves (move_place m unit.kind unit.place n coast) via }) f ∙ ap (λ (a : Place). record { unit = unit; order = Moves a via }) h)

pub move_again : (m : Chart) (b : Position) (power : ℕ) (pending : List PlacedOrder) (u : Mention) (to : Spot) (via : Bool) → IsMap m → IsOf m b → is_form (MoveForm u to via) ≡ true
    → Hold (checks_of m b power pending (MoveForm u to via)) → Again m b power pending (order_in m b power (MoveForm u to via))
move_again m b power pending u to via ok of fine h =
    let q : ℕ = prov_named m to in
    let the : AUnit = the_unit m b power u in
    let word = (and_parts (is_spot to) true (and_parts (is_spot u.at) (is_spot to && true) fine).1).0 in
    let unit = unit_again m b power u ok of (hold_front (unit_checks m (unit_of m b power u) u) _ h.1.1.1) in
    let moved = moved_again m ok the.kind the.place q to.coast via (coast_fine to word) (named_low m to h.1.1.0) (hold_back (unit_checks m (unit_of m b power u) u) _ h.1.1.1) in
    let place : Place = move_place m the.kind the.place q to.coast in
    let low = place_low m the.kind place moved.on in
    let named : prov_named m (spot_of m the.kind place) ≡ q = code_named m ok place.prov (coast_for m the.kind place) low ∙ moved.at in
    make m b power pending (order_in m b power (MoveForm u to via)) tt
    (both_true (spot_fine m ok the.kind the.place unit.place) (both_true (spot_fine m ok the.kind place moved.on) refl)) (
      h.0,
      (
        unit.on,
        (
          code_on_map m ok place.prov (coast_for m the.kind place) low,
          hold_both (unit_checks m (unit_of m b power (mention_of m the.kind the.place)) (mention_of m the.kind the.place)) _ unit.checks (move_back m _ the _ q (coast_for m the.kind place) via unit.same named moved.checks),
        ),
      ),
    )
    (moved_order m _ the _ q (coast_for m the.kind place) via place unit.same named moved.same)

-- the other unit, told in other words
other_back : (m : Chart) (b : Position) (k : Kind) (p q : ℕ) (coast : Option (List ℕ)) → p ≡ q → Hold (other_checks m b k q coast) → Hold (other_checks m b k p None)
other_back m b k p q coast e h = (ap (λ n. is_some (other_at b k n)) e ∙ h.0, (refl, tt))

-- a province that is named, told by its code alone
bare_named : (m : Chart) → IsMap m → (s : Spot) → is_on_map m s ≡ true → prov_named m (bare_spot m (prov_named m s)) ≡ prov_named m s
bare_named m ok s on = code_named m ok (prov_named m s) None (named_low m s on)

bare_on : (m : Chart) → IsMap m → (s : Spot) → is_on_map m s ≡ true → is_on_map m (bare_spot m (prov_named m s)) ≡ true
bare_on m ok s on = code_on_map m ok (prov_named m s) None (named_low m s on)

reach_back : (m : Chart) (v unit : AUnit) (r q : ℕ) → v ≡ unit → r ≡ q → could_move m unit.kind unit.place q ≡ true → could_move m v.kind v.place r ≡ true
reach_back m v unit r q e f h = ap (λ (x : AUnit). could_move m x.kind x.place r) e ∙ (ap (λ n. could_move m unit.kind unit.place n) f ∙ h)

held_order : (v unit : AUnit) (k : Kind) (r q : ℕ) → v ≡ unit → r ≡ q
    → ◌≡◌ {A = PlacedOrder} (record { unit = v; order = SupportsHold (record { kind = k; prov = r }) }) (record { unit = unit; order = SupportsHold (record { kind = k; prov = q }) })
held_order v unit k r q e f = λ i. record { unit = e i; order = SupportsHold (record { kind = k; prov = f i }) }

pub support_hold_again : (m : Chart) (b : Position) (power : ℕ) (pending : List PlacedOrder) (u other : Mention) (held : Bool) → IsMap m → IsOf m b
    → Hold (checks_of m b power pending (SupportHold u other held)) → Again m b power pending (order_in m b power (SupportHold u other held))
support_hold_again m b power pending u other held ok of h =
    let q : ℕ = prov_named m other.at in
    let the : AUnit = the_unit m b power u in
    let reach : List Check = must (could_move m the.kind the.place q) SupportOutOfReach ∷ [] in
    let others : List Check = other_checks m b other.kind q other.at.coast ++ reach in
    let unit = unit_again m b power u ok of (hold_front (unit_checks m (unit_of m b power u) u) others h.1.1.1) in
    let rest = hold_back (unit_checks m (unit_of m b power u) u) others h.1.1.1 in
    let there = hold_front (other_checks m b other.kind q other.at.coast) reach rest in
    let near = hold_back (other_checks m b other.kind q other.at.coast) reach rest in
    let again : AUnit = the_unit m b power (mention_of m the.kind the.place) in
    let r : ℕ = prov_named m (bare_spot m q) in
    let behind : List Check = must (could_move m again.kind again.place r) SupportOutOfReach ∷ [] in
    let named = bare_named m ok other.at h.1.1.0 in
    make m b power pending (order_in m b power (SupportHold u other held)) tt
    (both_true (spot_fine m ok the.kind the.place unit.place) (both_true (bare_fine m ok q (named_low m other.at h.1.1.0)) refl)) (
      h.0,
      (
        unit.on,
        (
          bare_on m ok other.at h.1.1.0,
          hold_both (unit_checks m (unit_of m b power (mention_of m the.kind the.place)) (mention_of m the.kind the.place)) (other_checks m b other.kind r None ++ behind) unit.checks
              (hold_both (other_checks m b other.kind r None) behind (other_back m b other.kind r q other.at.coast named there)
              (reach_back m again the r q unit.same named near.0, tt)),
        ),
      ),
    )
    (held_order _ the other.kind _ q unit.same named)

supportable_back : (m : Chart) (v unit x y : AUnit) (r q : ℕ) → v ≡ unit → x ≡ y → r ≡ q → is_supportable m unit y q ≡ true → is_supportable m v x r ≡ true
supportable_back m v unit x y r q e f g h = ap (λ z. is_supportable m z x r) e ∙ (ap (λ z. is_supportable m unit z r) f ∙ (ap (λ n. is_supportable m unit y n) g ∙ h))

aided_order : (v unit : AUnit) (k : Kind) (r q to there : ℕ) → v ≡ unit → r ≡ q → to ≡ there
    → ◌≡◌ {A = PlacedOrder} (record { unit = v; order = SupportsMove (record { kind = k; prov = r }) to }) (record { unit = unit; order = SupportsMove (record { kind = k; prov = q }) there })
aided_order v unit k r q to there e f g = λ i. record { unit = e i; order = SupportsMove (record { kind = k; prov = f i }) (g i) }

pub support_move_again : (m : Chart) (b : Position) (power : ℕ) (pending : List PlacedOrder) (u other : Mention) (to : Spot) → IsMap m → IsOf m b
    → Hold (checks_of m b power pending (SupportMove u other to)) → Again m b power pending (order_in m b power (SupportMove u other to))
support_move_again m b power pending u other to ok of h =
    let p : ℕ = prov_named m other.at in
    let q : ℕ = prov_named m to in
    let the : AUnit = the_unit m b power u in
    let reach : List Check = must (is_supportable m the (the_other m b other) q) SupportOutOfReach ∷ [] in
    let others : List Check = other_checks m b other.kind p other.at.coast ++ reach in
    let unit = unit_again m b power u ok of (hold_front (unit_checks m (unit_of m b power u) u) others h.1.1.1.1) in
    let rest = hold_back (unit_checks m (unit_of m b power u) u) others h.1.1.1.1 in
    let there = hold_front (other_checks m b other.kind p other.at.coast) reach rest in
    let near = hold_back (other_checks m b other.kind p other.at.coast) reach rest in
    let again : AUnit = the_unit m b power (mention_of m the.kind the.place) in
    let r : ℕ = prov_named m (bare_spot m p) in
    let t : ℕ = prov_named m (bare_spot m q) in
    let mover : AUnit = unwrap_or (other_at b other.kind r) no_unit in
    let behind : List Check = must (is_supportable m again mover t) SupportOutOfReach ∷ [] in
    let from = bare_named m ok other.at h.1.1.0 in
    let named = bare_named m ok to h.1.1.1.0 in
    make m b power pending (order_in m b power (SupportMove u other to)) tt
    (both_true (spot_fine m ok the.kind the.place unit.place) (both_true (bare_fine m ok p (named_low m other.at h.1.1.0)) (both_true (bare_fine m ok q (named_low m to h.1.1.1.0)) refl))) (
      h.0,
      (
        unit.on,
        (
          bare_on m ok other.at h.1.1.0,
          (
            bare_on m ok to h.1.1.1.0,
            hold_both (unit_checks m (unit_of m b power (mention_of m the.kind the.place)) (mention_of m the.kind the.place)) (other_checks m b other.kind r None ++ behind) unit.checks
                (hold_both (other_checks m b other.kind r None) behind (other_back m b other.kind r p other.at.coast from there)
                (supportable_back m again the mover (the_other m b other) t q unit.same (ap (λ n. unwrap_or (other_at b other.kind n) no_unit) from) named near.0, tt)),
          ),
        ),
      ),
    )
    (aided_order _ the other.kind _ p _ q unit.same from named)

carried_order : (v unit : AUnit) (r q to there : ℕ) → v ≡ unit → r ≡ q → to ≡ there
    → ◌≡◌ {A = PlacedOrder} (record { unit = v; order = Convoys (record { kind = Army; prov = r }) to }) (record { unit = unit; order = Convoys (record { kind = Army; prov = q }) there })
carried_order v unit r q to there e f g = λ i. record { unit = e i; order = Convoys (record { kind = Army; prov = f i }) (g i) }

-- what is checked of a convoy after its fleet, told by codes alone
abbrev again_checks : Chart → Position → AUnit → ℕ → ℕ → List Check
again_checks m b x r t =
    must (is_kind x.kind Fleet) WrongKind
    ∷ must (is_sea (province m x.place.prov).terrain) NoConvoyThere
    ∷ (other_checks m b Army r None ++ must (knows_coast m t None) WrongCoast ∷ must (may_convoy m r t) NoConvoyThere ∷ [])

pub convoy_again : (m : Chart) (b : Position) (power : ℕ) (pending : List PlacedOrder) (u : Mention) (army to : Spot) → IsMap m → IsOf m b
    → Hold (checks_of m b power pending (Convoy u army to)) → Again m b power pending (order_in m b power (Convoy u army to))
convoy_again m b power pending u army to ok of h =
    let p : ℕ = prov_named m army in
    let q : ℕ = prov_named m to in
    let the : AUnit = the_unit m b power u in
    let last : List Check = must (knows_coast m q to.coast) WrongCoast ∷ must (may_convoy m p q) NoConvoyThere ∷ [] in
    let others : List Check = must (is_kind the.kind Fleet) WrongKind ∷ must (is_sea (province m the.place.prov).terrain) NoConvoyThere ∷ (other_checks m b Army p army.coast ++ last) in
    let unit = unit_again m b power u ok of (hold_front (unit_checks m (unit_of m b power u) u) others h.1.1.1.1) in
    let rest = hold_back (unit_checks m (unit_of m b power u) u) others h.1.1.1.1 in
    let there = hold_front (other_checks m b Army p army.coast) last rest.1.1 in
    let near = hold_back (other_checks m b Army p army.coast) last rest.1.1 in
    let r : ℕ = prov_named m (bare_spot m p) in
    let t : ℕ = prov_named m (bare_spot m q) in
    let from = bare_named m ok army h.1.1.0 in
    let named = bare_named m ok to h.1.1.1.0 in
    make m b power pending (order_in m b power (Convoy u army to)) refl
    (both_true (spot_fine m ok the.kind the.place unit.place) (both_true (bare_fine m ok p (named_low m army h.1.1.0)) (both_true (bare_fine m ok q (named_low m to h.1.1.1.0)) refl))) (
      h.0,
      (
        unit.on,
        (
          bare_on m ok army h.1.1.0,
          (
            bare_on m ok to h.1.1.1.0,
            hold_both (unit_checks m (unit_of m b power (mention_of m the.kind the.place)) (mention_of m the.kind the.place)) (again_checks m b (the_unit m b power (mention_of m the.kind the.place)) r t) unit.checks (
              ap (λ (x : AUnit). is_kind x.kind Fleet) unit.same ∙ rest.0,
              (
                ap (λ (x : AUnit). is_sea (province m x.place.prov).terrain) unit.same ∙ rest.1.0,
                hold_both (other_checks m b Army r None) (must (knows_coast m t None) WrongCoast ∷ must (may_convoy m r t) NoConvoyThere ∷ []) (other_back m b Army r p army.coast from there)
                    (refl, (ap (λ n. may_convoy m n t) from ∙ (ap (λ n. may_convoy m p n) named ∙ near.1.0), tt)),
              ),
            ),
          ),
        ),
      ),
    )
    (carried_order _ the _ p _ q unit.same from named)

pub disband_again : (m : Chart) (b : Position) (power : ℕ) (pending : List PlacedOrder) (u : Mention) → IsMap m → IsOf m b → Hold (checks_of m b power pending (Disband u))
    → Again m b power pending (order_in m b power (Disband u))
disband_again m b power pending u ok of h =
    let unit = dislodged_again m b power u ok of h.1.1 in
    let the : Dislodged = the_dislodged m b power u in
    make m b power pending (order_in m b power (Disband u)) tt (both_true (spot_fine m ok the.unit.kind the.unit.place unit.place) refl) (h.0, (unit.on, unit.checks))
    (ap (λ (x : Dislodged). record { unit = x.unit; order = Disbands }) unit.same)

-- a retreat whose unit and destination are told in other words
left_back : (m : Chart) (b : Position) (v d : Dislodged) (r q : ℕ) (coast : Option (List ℕ)) → v ≡ d → r ≡ q → Hold (retreat_checks m d.unit.kind (retreats_of m b d) q coast)
    → Hold (retreat_checks m v.unit.kind (retreats_of m b v) r coast)
left_back m b v d r q coast e f h =
    subst (λ (x : Dislodged). Hold (retreat_checks m x.unit.kind (retreats_of m b x) r coast)) (sym e)
    (subst (λ (n : ℕ). Hold (retreat_checks m d.unit.kind (retreats_of m b d) n coast)) (sym f) h)

left_order : (m : Chart) (b : Position) (v d : Dislodged) (r q : ℕ) (coast : Option (List ℕ)) (to : Place) → v ≡ d → r ≡ q → place_in m (retreats_of m b d) q coast ≡ to
    → ◌≡◌ {A = PlacedOrder} (record { unit = v.unit; order = Retreats (place_in m (retreats_of m b v) r coast) }) (record { unit = d.unit; order = Retreats to })
left_order m b v d r q coast to e f h =
    ap (λ (x : Dislodged). record { unit = x.unit; order = Retreats (place_in m (retreats_of m b x) r coast) }) e
    ∙ (ap (λ (n : ℕ). record { unit = d.unit; order = Retreats (place_in m (retreats_of m b d) n coast) }) f ∙ ap (λ (a : Place). record { unit = d.unit; order = Retreats a }) h)

pub retreat_again : (m : Chart) (b : Position) (power : ℕ) (pending : List PlacedOrder) (u : Mention) (to : Spot) → IsMap m → IsOf m b → is_form (Retreat u to) ≡ true
    → Hold (checks_of m b power pending (Retreat u to)) → Again m b power pending (order_in m b power (Retreat u to))
retreat_again m b power pending u to ok of fine h =
    let q : ℕ = prov_named m to in
    let the : Dislodged = the_dislodged m b power u in
    let word = (and_parts (is_spot to) true (and_parts (is_spot u.at) (is_spot to && true) fine).1).0 in
    let checks = unit_checks m (option_map (λ d. d.unit) (dislodged_of m b power u)) u in
    let unit = dislodged_again m b power u ok of (hold_front checks _ h.1.1.1) in
    let left = left_again m ok b the.origin the.unit.kind the.unit.place q to.coast (coast_fine to word) (named_low m to h.1.1.0) (hold_back checks _ h.1.1.1) in
    let place : Place = place_in m (retreats_of m b the) q to.coast in
    let low = place_low m the.unit.kind place left.on in
    let named : prov_named m (spot_of m the.unit.kind place) ≡ q = code_named m ok place.prov (coast_for m the.unit.kind place) low ∙ left.at in
    make m b power pending (order_in m b power (Retreat u to)) tt
    (both_true (spot_fine m ok the.unit.kind the.unit.place unit.place) (both_true (spot_fine m ok the.unit.kind place left.on) refl)) (
      h.0,
      (
        unit.on,
        (
          code_on_map m ok place.prov (coast_for m the.unit.kind place) low,
          hold_both (unit_checks m (option_map (λ d. d.unit) (dislodged_of m b power (mention_of m the.unit.kind the.unit.place))) (mention_of m the.unit.kind the.unit.place)) _ unit.checks
              (left_back m b _ the _ q (coast_for m the.unit.kind place) unit.same named left.checks),
        ),
      ),
    )
    (left_order m b _ the _ q (coast_for m the.unit.kind place) place unit.same named left.same)

pub remove_again : (m : Chart) (b : Position) (power : ℕ) (pending : List PlacedOrder) (u : Mention) → IsMap m → IsOf m b → Hold (checks_of m b power pending (Remove u))
    → Again m b power pending (order_in m b power (Remove u))
remove_again m b power pending u ok of h =
    let unit = unit_again m b power u ok of (hold_front (unit_checks m (unit_of m b power u) u) (must (nat_lt (removals_elsewhere pending (prov_named m u.at)) (removals_due b power)) AllowanceUsed ∷ []) h.1.1) in
    let due = hold_back (unit_checks m (unit_of m b power u) u) (must (nat_lt (removals_elsewhere pending (prov_named m u.at)) (removals_due b power)) AllowanceUsed ∷ []) h.1.1 in
    let the : AUnit = the_unit m b power u in
    make m b power pending (order_in m b power (Remove u)) tt (both_true (spot_fine m ok the.kind the.place unit.place) refl) (
      h.0,
      (
        unit.on,
        hold_both (unit_checks m (unit_of m b power (mention_of m the.kind the.place)) (mention_of m the.kind the.place))
            (must (nat_lt (removals_elsewhere pending (prov_named m (spot_of m the.kind the.place))) (removals_due b power)) AllowanceUsed ∷ []) unit.checks
            (ap (λ n. nat_lt (removals_elsewhere pending n) (removals_due b power)) unit.named ∙ due.0, tt),
      ),
    )
    (ap (λ x. record { unit = x; order = Removes }) unit.same)

built_order : (m : Chart) (power : ℕ) (k : Kind) (r p : ℕ) (coast : Option (List ℕ)) (a : Place) → r ≡ p → site m p coast ≡ a
    → ◌≡◌ {A = PlacedOrder} (record { unit = record { power = power; kind = k; place = site m r coast }; order = Builds }) (record { unit = record { power = power; kind = k; place = a }; order = Builds })
built_order m power k r p coast a e f =
    ap (λ n. record { unit = record { power = power; kind = k; place = site m n coast }; order = Builds }) e ∙ ap (λ x. record { unit = record { power = power; kind = k; place = x }; order = Builds }) f

pub build_again : (m : Chart) (b : Position) (power : ℕ) (pending : List PlacedOrder) (u : Mention) → IsMap m → is_form (Build u) ≡ true → Hold (checks_of m b power pending (Build u))
    → Again m b power pending (order_in m b power (Build u))
build_again m b power pending u ok fine h =
    let p : ℕ = prov_named m u.at in
    let low = named_low m u.at h.1.0 in
    let coast = coast_fine u.at (and_parts (is_spot u.at) true fine).0 in
    let due : List Check = must (nat_lt (builds_elsewhere pending p) (builds_due m b power)) AllowanceUsed ∷ [] in
    let (home, more) = and_parts (list_any (λ x. x == p) (home m power)) _ h.1.1.0 in
    let (owned, vacant) = and_parts (owns b power p) (is_vacant b p && (is_kind u.kind Army || is_coastal (province m p).terrain)) more in
    let (empty, fit) = and_parts (is_vacant b p) (is_kind u.kind Army || is_coastal (province m p).terrain) vacant in
    let built = built_again m ok u.kind p u.at.coast coast low fit (hold_front (site_checks m u.kind p u.at.coast) due h.1.1.1) in
    let used = hold_back (site_checks m u.kind p u.at.coast) due h.1.1.1 in
    let place : Place = site m p u.at.coast in
    let r : ℕ = prov_named m (spot_of m u.kind place) in
    let named : r ≡ p = code_named m ok place.prov (coast_for m u.kind place) (place_low m u.kind place built.on) ∙ built.at in
    make m b power pending (order_in m b power (Build u)) tt (both_true (spot_fine m ok u.kind place built.on) refl) (
      h.0,
      (
        code_on_map m ok place.prov (coast_for m u.kind place) (place_low m u.kind place built.on),
        (
          ap (λ n. may_build m b power u.kind n) named ∙ h.1.1.0,
          hold_both (site_checks m u.kind r (coast_for m u.kind place)) (must (nat_lt (builds_elsewhere pending r) (builds_due m b power)) AllowanceUsed ∷ [])
              (subst (λ (n : ℕ). Hold (site_checks m u.kind n (coast_for m u.kind place))) (sym named) built.checks)
              (ap (λ n. nat_lt (builds_elsewhere pending n) (builds_due m b power)) named ∙ used.0, tt),
        ),
      ),
    )
    (built_order m power u.kind r p (coast_for m u.kind place) place named built.same)

-- an order that was read is what its own text says
pub order_again : (m : Chart) (b : Position) (power : ℕ) (pending : List PlacedOrder) (d : Form) (o : PlacedOrder) → IsMap m → IsOf m b → is_form d ≡ true → answer m b power pending d ≡ Ok o
    → Again m b power pending o
order_again m b power pending d o ok of fine h =
    let (checks, same) = ok_holds (checks_of m b power pending d) (order_in m b power d) o h in
    subst (λ (x : PlacedOrder). Again m b power pending x) same (by_form d fine checks)
  where
    by_form : (c : Form) → is_form c ≡ true → Hold (checks_of m b power pending c) → Again m b power pending (order_in m b power c)
    by_form (HoldForm u) fine h = hold_again m b power pending u ok of h
    by_form (MoveForm u to via) fine h = move_again m b power pending u to via ok of fine h
    by_form (SupportHold u other held) fine h = support_hold_again m b power pending u other held ok of h
    by_form (SupportMove u other to) fine h = support_move_again m b power pending u other to ok of h
    by_form (Convoy u army to) fine h = convoy_again m b power pending u army to ok of h
    by_form (Retreat u to) fine h = retreat_again m b power pending u to ok of fine h
    by_form (Disband u) fine h = disband_again m b power pending u ok of h
    by_form (Build u) fine h = build_again m b power pending u ok fine h
    by_form (Remove u) fine h = remove_again m b power pending u ok of h

-- what stands besides can only refuse an order
none_elsewhere : (n due : ℕ) → nat_lt n due ≡ true → nat_lt 0 due ≡ true
none_elsewhere n due h = let low : n < due = ltb-true _ _ h in lt-ltb _ _ (omega arith)

pub checks_alone : (m : Chart) (b : Position) (power : ℕ) (pending : List PlacedOrder) (d : Form) → Hold (checks_of m b power pending d) → Hold (checks_of m b power [] d)
checks_alone m b power pending (HoldForm u) h = h
checks_alone m b power pending (MoveForm u to via) h = h
checks_alone m b power pending (SupportHold u other held) h = h
checks_alone m b power pending (SupportMove u other to) h = h
checks_alone m b power pending (Convoy u army to) h = h
checks_alone m b power pending (Retreat u to) h = h
checks_alone m b power pending (Disband u) h = h
checks_alone m b power pending (Build u) h =
    let p : ℕ = prov_named m u.at in
    let site_ok : List Check = site_checks m u.kind p u.at.coast in
    let due : List Check = must (nat_lt (builds_elsewhere pending p) (builds_due m b power)) AllowanceUsed ∷ [] in (
      h.0,
      (
        h.1.0,
        (
          h.1.1.0,
          hold_both site_ok (must (nat_lt 0 (builds_due m b power)) AllowanceUsed ∷ []) (hold_front site_ok due h.1.1.1)
              (none_elsewhere (builds_elsewhere pending p) (builds_due m b power) (hold_back site_ok due h.1.1.1).0, tt),
        ),
      ),
    )
checks_alone m b power pending (Remove u) h =
    let p : ℕ = prov_named m u.at in
    let unit : List Check = unit_checks m (unit_of m b power u) u in
    let due : List Check = must (nat_lt (removals_elsewhere pending p) (removals_due b power)) AllowanceUsed ∷ [] in (
      h.0,
      (
        h.1.0,
        hold_both unit (must (nat_lt 0 (removals_due b power)) AllowanceUsed ∷ []) (hold_front unit due h.1.1)
            (none_elsewhere (removals_elsewhere pending p) (removals_due b power) (hold_back unit due h.1.1).0, tt),
      ),
    )
