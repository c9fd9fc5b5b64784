-- The reader goes step by step through the checks of the rules.
use Rattle.std.proofs.Common.{◌≡◌, ℕ, ◌==◌, Bool, true, false, List, [], ◌∷◌, ◌++◌, length, refl, ◌∙◌, ap, Option, Some, None, Result, Ok, Err, is_some, is_none, map, filter, option_map, nat_le, if◌then◌else◌, inl, inr}
use Rattle.std.specs.Option.{ok_or, unwrap_or}
use Rattle.std.specs.List.{list_any}
use Rattle.std.proofs.lemmas.Bool.{cases_Bool, eqb-true}
use Rattle.dip_names.specs.declared.names.Kind.{Kind}
use Rattle.dip_names.specs.declared.names.Kind.TheVariants.{Army, Fleet}
use Rattle.dip_names.specs.declared.names.Place.{Place}
use Rattle.dip_names.specs.declared.names.Unit.{Unit as AUnit}
use Rattle.dip_map.specs.declared.boards.Dislodged.{Dislodged}
use Rattle.dip_map.specs.Charts.{Chart, province, army_next, fleet_next, is_army_next, coast_of, prov_of}
use Rattle.dip_map.specs.Boards.{Position}
use Rattle.dip_orders_lines.specs.declared.forms.Spot.{Spot}
use Rattle.dip_orders_lines.specs.declared.forms.Mention.{Mention}
use Rattle.dip_orders_lines.specs.declared.forms.Form.{Form}
use Rattle.dip_orders_lines.specs.declared.forms.Form.TheVariants.{Hold as HoldForm, Move as MoveForm, SupportHold, SupportMove, Convoy, Retreat, Disband, Build, Remove}
use Rattle.dip_orders_lines.specs.Forms.{spots_of}
use Rattle.dip_orders.specs.Checks.{Check, must, outcome}
use Rattle.dip_orders_placed.specs.Retreats.{is_open, next_places, on_foot}
use Rattle.dip_orders.specs.Rules.{unit_checks, sail_checks, move_checks, move_place, other_checks, site_checks, site, unit_of, the_unit, dislodged_of, the_dislodged, retreat_checks, own_checks, order_in, answer}
use Rattle.dip_orders.specs.Checking.{need, prov_at, checked_unit, sail_to, go_to, checked_other, site_at, order_steps, in_phase, hold_order, move_order, support_hold_order, support_move_order, convoy_order, carrier, build_order, remove_order, checked_dislodged, leave_to, retreat_order, disband_order}
use Rattle.dip_names.specs.Results.{◌>>=◌}
use Rattle.dip_orders.specs.Conditions.{is_in_phase, is_on_map, prov_named, no_place, no_unit, no_dislodged, army_place, other_at, knows_coast, first_in, count_in, named_in, place_in, may_convoy, may_travel}
use Rattle.dip_names.specs.Kinds.{is_kind, is_sea}
use Rattle.dip_orders.specs.declared.faults.OrderFault.{OrderFault}
use Rattle.dip_orders.specs.declared.faults.OrderFault.TheVariants.{UnknownProvince, WrongKind, OutOfReach, CoastNeeded, WrongCoast, NoSuchUnit, NoConvoyThere, NotInThisPhase, NoSuchRetreat}
use Rattle.dip_orders_placed.specs.declared.placed.Order.TheVariants.{Move as Moves, Retreat as Retreats}
use Rattle.dip_orders_placed.specs.declared.placed.PlacedOrder.{PlacedOrder}
use Rattle.dip_orders.proofs.OpenLaws.{first_open, count_open, named_open}
use Rattle.dip_orders.proofs.CheckLaws.{Comes, if_step, need_step, need_last, found_step}
use Rattle.dip_orders.proofs.AgainLaws.{opened}

unit_tests : {B : Type 0} (k c : Bool) (x : AUnit) (f : AUnit → Result B OrderFault) (cs : List Check) (y : B) → f x ≡ outcome cs y
    → ((need k WrongKind x >>= (λ kept. need c WrongCoast kept)) >>= f) ≡ outcome (must k WrongKind ∷ must c WrongCoast ∷ cs) y
unit_tests true true x f cs y h = h
unit_tests true false x f cs y h = refl
unit_tests false c x f cs y h = refl

-- the ordered unit, and what is after it
unit_step : {B : Type 0} (m : Chart) (found : Option AUnit) (u : Mention) (f : AUnit → Result B OrderFault) (cs : List Check) (y : B) → Comes (f (unwrap_or found no_unit)) cs y
    → Comes (checked_unit m found u (prov_named m u.at) >>= f) (unit_checks m found u ++ cs) y
unit_step m None u f cs y h = record { is = refl }
unit_step m (Some x) u f cs y h = record { is = unit_tests (is_kind x.kind u.kind) (knows_coast m (prov_named m u.at) u.at.coast) x f cs y h.is }

other_tests : {B : Type 0} (c : Bool) (x : AUnit) (f : AUnit → Result B OrderFault) (cs : List Check) (y : B) → f x ≡ outcome cs y
    → (need c WrongCoast x >>= f) ≡ outcome (must c WrongCoast ∷ cs) y
other_tests true x f cs y h = h
other_tests false x f cs y h = refl

-- the other unit, and what is after it
other_step : {B : Type 0} (m : Chart) (b : Position) (k : Kind) (p : ℕ) (coast : Option (List ℕ)) (f : AUnit → Result B OrderFault) (cs : List Check) (y : B)
    → Comes (f (unwrap_or (other_at b k p) no_unit)) cs y → Comes (checked_other m b k p coast >>= f) (other_checks m b k p coast ++ cs) y
other_step m b k p coast f cs y h = record { is = go (other_at b k p) h.is }
  where
    go : (o : Option AUnit) → f (unwrap_or o no_unit) ≡ outcome cs y
        → ((ok_or o NoSuchUnit >>= (λ unit. need (knows_coast m p coast) WrongCoast unit)) >>= f) ≡ outcome (must (is_some o) NoSuchUnit ∷ must (knows_coast m p coast) WrongCoast ∷ cs) y
    go None h = refl
    go (Some x) h = other_tests (knows_coast m p coast) x f cs y h

bare_tests : {B : Type 0} (o : Option Place) (t : Bool) (none : OrderFault) (g : Place → B)
    → ((ok_or o none >>= (λ r. need t CoastNeeded r)) >>= (λ x. Ok (g x))) ≡ outcome (must (is_some o) none ∷ must true WrongCoast ∷ must t CoastNeeded ∷ []) (g (unwrap_or o no_place))
bare_tests None t none g = refl
bare_tests (Some x) true none g = refl
bare_tests (Some x) false none g = refl

named_tests : {B : Type 0} (o n : Option Place) (none : OrderFault) (g : Place → B)
    → ((ok_or o none >>= (λ r. ok_or n WrongCoast)) >>= (λ x. Ok (g x))) ≡ outcome (must (is_some o) none ∷ must (is_some n) WrongCoast ∷ must true CoastNeeded ∷ []) (g (unwrap_or n no_place))
named_tests None n none g = refl
named_tests (Some x) None none g = refl
named_tests (Some x) (Some y) none g = refl

-- where a fleet goes
pub sail_last : {B : Type 0} (m : Chart) (places : List Place) (q : ℕ) (coast : Option (List ℕ)) (none : OrderFault) (g : Place → B)
    → (sail_to m places q coast none >>= (λ x. Ok (g x))) ≡ outcome (sail_checks m places q coast none) (g (place_in m places q coast))
sail_last m places q None none g = bare_tests (first_in places q) (nat_le (count_in places q) 1) none g
sail_last m places q (Some name) none g = named_tests (first_in places q) (named_in m places q name) none g

march_tests : {B : Type 0} (s t : Bool) (e : OrderFault) (q : ℕ) (g : Place → B)
    → ((need s WrongCoast q >>= (λ bare. need t e (army_place bare))) >>= (λ x. Ok (g x))) ≡ outcome (must s WrongCoast ∷ must t e ∷ []) (g (army_place q))
march_tests true true e q g = refl
march_tests true false e q g = refl
march_tests false t e q g = refl

-- where a unit goes
go_last : {B : Type 0} (m : Chart) (k : Kind) (a : Place) (q : ℕ) (coast : Option (List ℕ)) (via : Bool) (g : Place → B)
    → (go_to m k a q coast via >>= (λ x. Ok (g x))) ≡ outcome (move_checks m k a q coast via) (g (move_place m k a q coast))
go_last m Army a q coast true g = march_tests (is_none coast) (may_convoy m a.prov q) NoConvoyThere q g
go_last m Army a q coast false g = march_tests (is_none coast) (may_travel m a.prov q) OutOfReach q g
go_last m Fleet a q coast true g = refl
go_last m Fleet a q coast false g = sail_last m (fleet_next m a) q coast OutOfReach g

last : {B : Type 0} {r : Result B OrderFault} {cs : List Check} {y : B} → r ≡ outcome cs y → Comes r cs y
last h = record { is = h }

-- the code of a place, and what is after it
code_step : {B : Type 0} (m : Chart) (s : Spot) (f : ℕ → Result B OrderFault) (cs : List Check) (y : B) → Comes (f (prov_named m s)) cs y
    → Comes (prov_at m s >>= f) (must (is_on_map m s) UnknownProvince ∷ cs) y
code_step m s f cs y h = found_step (prov_of m s.code) UnknownProvince (length m.provinces) f cs y h

carrier_step : {B : Type 0} (m : Chart) (x : AUnit) (f : AUnit → Result B OrderFault) (cs : List Check) (y : B) → Comes (f x) cs y
    → Comes (carrier m x >>= f) (must (is_kind x.kind Fleet) WrongKind ∷ must (is_sea (province m x.place.prov).terrain) NoConvoyThere ∷ cs) y
carrier_step m x f cs y h = record { is = go (is_kind x.kind Fleet) }
  where
    at_sea : (c : Bool) → (need c NoConvoyThere x >>= f) ≡ outcome (must c NoConvoyThere ∷ cs) y
    at_sea true = h.is
    at_sea false = refl

    go : (k : Bool) → ((need k WrongKind x >>= (λ fleet. need (is_sea (province m fleet.place.prov).terrain) NoConvoyThere fleet)) >>= f)
        ≡ outcome (must k WrongKind ∷ must (is_sea (province m x.place.prov).terrain) NoConvoyThere ∷ cs) y
    go true = at_sea (is_sea (province m x.place.prov).terrain)
    go false = refl

-- the place of a unit that is built, and what is after it
site_step : {B : Type 0} (m : Chart) (k : Kind) (p : ℕ) (coast : Option (List ℕ)) (f : Place → Result B OrderFault) (cs : List Check) (y : B) → Comes (f (site m p coast)) cs y
    → Comes (site_at m k p coast >>= f) (site_checks m k p coast ++ cs) y
site_step m Army p None f cs y h = record { is = h.is }
site_step m Army p (Some name) f cs y h = record { is = refl }
site_step m Fleet p None f cs y h = record { is = bare (nat_le (length (province m p).shores) 1) }
  where
    bare : (t : Bool) → (need t CoastNeeded (army_place p) >>= f) ≡ outcome (must true WrongCoast ∷ must t CoastNeeded ∷ cs) y
    bare true = h.is
    bare false = refl
site_step m Fleet p (Some name) f cs y h = record { is = named (coast_of m p name) h.is }
  where
    named : (o : Option ℕ) → f (record { prov = p; coast = unwrap_or o 0 }) ≡ outcome cs y
        → ((ok_or o WrongCoast >>= (λ coast. Ok (record { prov = p; coast = coast }))) >>= f) ≡ outcome (must (is_some o) WrongCoast ∷ must true CoastNeeded ∷ cs) y
    named None h = refl
    named (Some x) h = h

hold_steps : (m : Chart) (b : Position) (power : ℕ) (pending : List PlacedOrder) (u : Mention)
    → Comes (hold_order m b power u) (must (is_on_map m u.at) UnknownProvince ∷ own_checks m b power pending (HoldForm u)) (order_in m b power (HoldForm u))
hold_steps m b power pending u = code_step m u.at _ _ _ (unit_step m (unit_of m b power u) u _ [] _ (record { is = refl }))

move_steps : (m : Chart) (b : Position) (power : ℕ) (pending : List PlacedOrder) (u : Mention) (to : Spot) (via : Bool)
    → Comes (move_order m b power u to via) (must (is_on_map m u.at) UnknownProvince ∷ must (is_on_map m to) UnknownProvince ∷ own_checks m b power pending (MoveForm u to via)) (order_in m b power (MoveForm u to via))
move_steps m b power pending u to via =
    code_step m u.at _ _ _ (code_step m to _ _ _ (unit_step m (unit_of m b power u) u _ _ _
    (last (go_last m (the_unit m b power u).kind (the_unit m b power u).place (prov_named m to) to.coast via (λ place. record { unit = the_unit m b power u; order = Moves place via })))))

support_hold_steps : (m : Chart) (b : Position) (power : ℕ) (pending : List PlacedOrder) (u other : Mention) (held : Bool)
    → Comes (support_hold_order m b power u other) (must (is_on_map m u.at) UnknownProvince ∷ must (is_on_map m other.at) UnknownProvince ∷ own_checks m b power pending (SupportHold u other held)) (order_in m b power (SupportHold u other held))
support_hold_steps m b power pending u other held =
    code_step m u.at _ _ _ (code_step m other.at _ _ _ (unit_step m (unit_of m b power u) u _ _ _
    (other_step m b other.kind (prov_named m other.at) other.at.coast _ _ _ (need_last _ _ _))))

support_move_steps : (m : Chart) (b : Position) (power : ℕ) (pending : List PlacedOrder) (u other : Mention) (to : Spot)
    → Comes (support_move_order m b power u other to) (must (is_on_map m u.at) UnknownProvince ∷ must (is_on_map m other.at) UnknownProvince ∷ must (is_on_map m to) UnknownProvince ∷ own_checks m b power pending (SupportMove u other to))
    (order_in m b power (SupportMove u other to))
support_move_steps m b power pending u other to =
    code_step m u.at _ _ _ (code_step m other.at _ _ _ (code_step m to _ _ _ (unit_step m (unit_of m b power u) u _ _ _
    (other_step m b other.kind (prov_named m other.at) other.at.coast _ _ _ (need_last _ _ _)))))

convoy_steps : (m : Chart) (b : Position) (power : ℕ) (pending : List PlacedOrder) (u : Mention) (army to : Spot)
    → Comes (convoy_order m b power u army to) (must (is_on_map m u.at) UnknownProvince ∷ must (is_on_map m army) UnknownProvince ∷ must (is_on_map m to) UnknownProvince ∷ own_checks m b power pending (Convoy u army to))
    (order_in m b power (Convoy u army to))
convoy_steps m b power pending u army to =
    code_step m u.at _ _ _ (code_step m army _ _ _ (code_step m to _ _ _ (unit_step m (unit_of m b power u) u _ _ _
    (carrier_step m (the_unit m b power u) _ _ _ (other_step m b Army (prov_named m army) army.coast _ _ _ (need_step _ _ _ _ _ _ (need_last _ _ _)))))))

remove_steps : (m : Chart) (b : Position) (power : ℕ) (pending : List PlacedOrder) (u : Mention)
    → Comes (remove_order m b power pending u) (must (is_on_map m u.at) UnknownProvince ∷ own_checks m b power pending (Remove u)) (order_in m b power (Remove u))
remove_steps m b power pending u = code_step m u.at _ _ _ (unit_step m (unit_of m b power u) u _ _ _ (need_last _ _ _))

build_steps : (m : Chart) (b : Position) (power : ℕ) (pending : List PlacedOrder) (u : Mention)
    → Comes (build_order m b power pending u) (must (is_on_map m u.at) UnknownProvince ∷ own_checks m b power pending (Build u)) (order_in m b power (Build u))
build_steps m b power pending u = code_step m u.at _ _ _ (need_step _ _ _ _ _ _ (site_step m u.kind (prov_named m u.at) u.at.coast _ _ _ (need_last _ _ _)))

-- the dislodged unit, and what is after it
dislodged_step : {B : Type 0} (m : Chart) (found : Option Dislodged) (u : Mention) (f : Dislodged → Result B OrderFault) (cs : List Check) (y : B) → Comes (f (unwrap_or found no_dislodged)) cs y
    → Comes (checked_dislodged m found u (prov_named m u.at) >>= f) (unit_checks m (option_map (λ d. d.unit) found) u ++ cs) y
dislodged_step m None u f cs y h = record { is = refl }
dislodged_step m (Some d) u f cs y h = record { is = go (is_kind d.unit.kind u.kind) (knows_coast m (prov_named m u.at) u.at.coast) }
  where
    go : (k c : Bool) → (((need k WrongKind d.unit >>= (λ kept. need c WrongCoast kept)) >>= (λ unit. Ok (record { unit = unit; origin = d.origin }))) >>= f) ≡ outcome (must k WrongKind ∷ must c WrongCoast ∷ cs) y
    go true true = h.is
    go true false = refl
    go false c = refl

disband_steps : (m : Chart) (b : Position) (power : ℕ) (pending : List PlacedOrder) (u : Mention)
    → Comes (disband_order m b power u) (must (is_on_map m u.at) UnknownProvince ∷ own_checks m b power pending (Disband u)) (order_in m b power (Disband u))
disband_steps m b power pending u = code_step m u.at _ _ _ (dislodged_step m (dislodged_of m b power u) u _ [] _ (record { is = refl }))

-- the place of an army in a province is among those on foot where the province is
foot_first : (ps : List ℕ) (q : ℕ) → first_in (on_foot ps) q ≡ if list_any (λ x. x == q) ps then Some (army_place q) else None
foot_first [] q = refl
foot_first (p ∷ ps) q =
    elim (cases_Bool (p == q)) [
      | inl here ↦ rw here (ap (λ n. Some (army_place n)) (eqb-true p q here))
      | inr other ↦ rw other (foot_first ps q)
    ]

bare_leave : {B : Type 0} (t n : Bool) (q : ℕ) (o : Option Place) (g : Place → B) → o ≡ (if t then (if n then Some (army_place q) else None) else None)
    → ((if t then (need n NoSuchRetreat q >>= (λ near. need true WrongCoast (army_place near))) else Err NoSuchRetreat) >>= (λ x. Ok (g x)))
    ≡ outcome (must (is_some o) NoSuchRetreat ∷ must true WrongCoast ∷ []) (g (unwrap_or o no_place))
bare_leave true true q o g h = rw h refl
bare_leave true false q o g h = rw h refl
bare_leave false n q o g h = rw h refl

coast_leave : {B : Type 0} (t n : Bool) (q : ℕ) (o : Option Place) (g : Place → B) (y : B) → o ≡ (if t then (if n then Some (army_place q) else None) else None)
    → ((if t then (need n NoSuchRetreat q >>= (λ near. need false WrongCoast (army_place near))) else Err NoSuchRetreat) >>= (λ x. Ok (g x)))
    ≡ outcome (must (is_some o) NoSuchRetreat ∷ must false WrongCoast ∷ []) y
coast_leave true true q o g y h = rw h refl
coast_leave true false q o g y h = rw h refl
coast_leave false n q o g y h = rw h refl

bare_sail : {B : Type 0} (t : Bool) (o free : Option Place) (n few : ℕ) (g : Place → B) → free ≡ (if t then o else None) → few ≡ (if t then n else 0)
    → ((if t then (ok_or o NoSuchRetreat >>= (λ r. need (nat_le n 1) CoastNeeded r)) else Err NoSuchRetreat) >>= (λ x. Ok (g x)))
    ≡ outcome (must (is_some free) NoSuchRetreat ∷ must true WrongCoast ∷ must (nat_le few 1) CoastNeeded ∷ []) (g (unwrap_or free no_place))
bare_sail true o free n few g h k = rw (h, k) (bare_tests o (nat_le n 1) NoSuchRetreat g)
bare_sail false o free n few g h k = rw h refl

named_sail : {B : Type 0} (t : Bool) (o free n told : Option Place) (g : Place → B) → free ≡ (if t then o else None) → told ≡ (if t then n else None)
    → ((if t then (ok_or o NoSuchRetreat >>= (λ r. ok_or n WrongCoast)) else Err NoSuchRetreat) >>= (λ x. Ok (g x)))
    ≡ outcome (must (is_some free) NoSuchRetreat ∷ must (is_some told) WrongCoast ∷ must true CoastNeeded ∷ []) (g (unwrap_or told no_place))
named_sail true o free n told g h k = rw (h, k) (named_tests o n NoSuchRetreat g)
named_sail false o free n told g h k = rw h refl

-- where a dislodged unit goes
leave_last : {B : Type 0} (m : Chart) (b : Position) (o : Option ℕ) (k : Kind) (a : Place) (q : ℕ) (coast : Option (List ℕ)) (g : Place → B)
    → ((if is_open b o q then leave_to m k a q coast else Err NoSuchRetreat) >>= (λ x. Ok (g x)))
    ≡ outcome (retreat_checks m k (opened m b o k a) q coast) (g (place_in m (opened m b o k a) q coast))
leave_last m b o Army a q None g =
    bare_leave (is_open b o q) (is_army_next m a.prov q) q _ g (first_open b o (on_foot (army_next m a.prov)) q ∙ ap (λ x. if is_open b o q then x else None) (foot_first (army_next m a.prov) q))
leave_last m b o Army a q (Some name) g =
    coast_leave (is_open b o q) (is_army_next m a.prov q) q _ g (g (place_in m (opened m b o Army a) q (Some name))) (first_open b o (on_foot (army_next m a.prov)) q ∙ ap (λ x. if is_open b o q then x else None) (foot_first (army_next m a.prov) q))
leave_last m b o Fleet a q None g = bare_sail (is_open b o q) (first_in (fleet_next m a) q) _ (count_in (fleet_next m a) q) _ g (first_open b o (fleet_next m a) q) (count_open b o (fleet_next m a) q)
leave_last m b o Fleet a q (Some name) g =
    named_sail (is_open b o q) (first_in (fleet_next m a) q) _ (named_in m (fleet_next m a) q name) _ g (first_open b o (fleet_next m a) q) (named_open m b o (fleet_next m a) q name)

retreat_steps : (m : Chart) (b : Position) (power : ℕ) (pending : List PlacedOrder) (u : Mention) (to : Spot)
    → Comes (retreat_order m b power u to) (must (is_on_map m u.at) UnknownProvince ∷ must (is_on_map m to) UnknownProvince ∷ own_checks m b power pending (Retreat u to)) (order_in m b power (Retreat u to))
retreat_steps m b power pending u to =
    code_step m u.at _ _ _ (code_step m to _ _ _ (dislodged_step m (dislodged_of m b power u) u _ _ _
    (last (leave_last m b (the_dislodged m b power u).origin (the_dislodged m b power u).unit.kind (the_dislodged m b power u).unit.place (prov_named m to) to.coast
    (λ place. record { unit = (the_dislodged m b power u).unit; order = Retreats place })))))

-- the reader's answer is that of the rules
pub steps_law : (m : Chart) (b : Position) (power : ℕ) (pending : List PlacedOrder) (d : Form) → in_phase m b power pending d ≡ answer m b power pending d
steps_law m b power pending d = if_step (is_in_phase d b.phase.season) NotInThisPhase (order_steps m b power pending d)
    (map (λ s. must (is_on_map m s) UnknownProvince) (spots_of d) ++ own_checks m b power pending d) (order_in m b power d) (form_steps m b power pending d)
  where
    form_steps : (m : Chart) (b : Position) (power : ℕ) (pending : List PlacedOrder) (d : Form)
        → order_steps m b power pending d ≡ outcome (map (λ s. must (is_on_map m s) UnknownProvince) (spots_of d) ++ own_checks m b power pending d) (order_in m b power d)
    form_steps m b power pending (HoldForm u) = (hold_steps m b power pending u).is
    form_steps m b power pending (MoveForm u to via) = (move_steps m b power pending u to via).is
    form_steps m b power pending (SupportHold u other held) = (support_hold_steps m b power pending u other held).is
    form_steps m b power pending (SupportMove u other to) = (support_move_steps m b power pending u other to).is
    form_steps m b power pending (Convoy u army to) = (convoy_steps m b power pending u army to).is
    form_steps m b power pending (Retreat u to) = (retreat_steps m b power pending u to).is
    form_steps m b power pending (Disband u) = (disband_steps m b power pending u).is
    form_steps m b power pending (Build u) = (build_steps m b power pending u).is
    form_steps m b power pending (Remove u) = (remove_steps m b power pending u).is
