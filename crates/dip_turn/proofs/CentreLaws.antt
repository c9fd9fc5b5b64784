-- Who owns what, and who is dislodged, after a phase.
use Rattle.std.proofs.Common.{◌≡◌, ◌⊎◌, inl, inr, ℕ, ◌+◌, zero, suc, Bool, true, false, cond, List, [], ◌∷◌, length, Option, None, Some, get_or, refl, sym, ap, ◌∙◌, subst, arith}
use Rattle.std.specs.Prelude.{nat_le, nat_lt}
use Rattle.std.proofs.lemmas.Bool.{false≢true}
use Rattle.dip_names.specs.declared.names.Unit.{Unit as AUnit}
use Rattle.dip_map.specs.Charts.{Chart, is_centre}
use Rattle.dip_map.specs.declared.boards.Phase.{Phase}
use Rattle.dip_map.specs.declared.boards.Season.{Season}
use Rattle.dip_map.specs.declared.boards.Season.TheVariants.{SpringMoves, SpringRetreats, FallMoves, FallRetreats, Winter}
use Rattle.dip_map.specs.Boards.{Position, owner}
use Rattle.dip_orders.specs.Conditions.{is_retreat}
use Rattle.dip_orders_placed.specs.declared.placed.PlacedOrder.{PlacedOrder}
use Rattle.dip_turn_phases.specs.Centres.{holder, owner_after, owner_by, owners_after, winner, with_owners}
use Rattle.dip_turn.specs.Laws.{CentresStay, IsTaken, is_fall}
use Rattle.dip_turn_phases.specs.Phases.{Sequel, after_count, follow, goes_on, has_dislodged, last_year, needs_adjustment, new_year, sequel, year_end}
use Rattle.dip_turn.specs.Reports.{IsPlayed, Leaves, LeavesAdjusted, LeavesMoved, LeavesRetreated}
use Rattle.dip_turn_phases.specs.declared.report.Account.{Account}
use Rattle.dip_turn_phases.specs.declared.report.Account.TheVariants.{Movement as OfMovement, Retreats as OfRetreats, Adjustment as OfAdjustment}
use Rattle.dip_turn_phases.specs.declared.lines.Course.TheVariants.{GoesOn, Ended}
use Rattle.dip_turn_phases.specs.declared.report.Report.{Report}

taken_by : (m : Chart) (us : List AUnit) (p : ℕ) (o : Option ℕ) → is_centre m p ≡ true → (h : Option AUnit) → holder us p ≡ h → (owner_by h o ≡ o) ⊎ IsTaken m us p (owner_by h o)
taken_by m us p o centre None is = inl refl
taken_by m us p o centre (Some u) is = inr (centre, u, is, refl)

kept_or_taken : (m : Chart) (us : List AUnit) (p : ℕ) (o : Option ℕ) → (owner_after m us p o ≡ o) ⊎ IsTaken m us p (owner_after m us p o)
kept_or_taken m us p o = go (is_centre m p) refl
  where
    go : (c : Bool) → is_centre m p ≡ c → (cond c (owner_by (holder us p) o) o ≡ o) ⊎ IsTaken m us p (cond c (owner_by (holder us p) o) o)
    go true is = taken_by m us p o is (holder us p) refl
    go false is = inl refl

pub owners_at : (m : Chart) (us : List AUnit) (os : List (Option ℕ)) (i p q : ℕ) → q ≡ i + p
    → (get_or (owners_after m us i os) p None ≡ get_or os p None) ⊎ IsTaken m us q (get_or (owners_after m us i os) p None)
owners_at m us [] i p q e = inl refl
owners_at m us (o ∷ os) i zero q e =
    let same : i ≡ q = omega (arith, e) in
    subst (λ (r : ℕ). (owner_after m us i o ≡ o) ⊎ IsTaken m us r (owner_after m us i o)) same (kept_or_taken m us i o)
owners_at m us (o ∷ os) i (suc p) q e = owners_at m us os (i + 1) p q (omega (arith, e))

pub owners_count : (m : Chart) (us : List AUnit) (os : List (Option ℕ)) (i : ℕ) → length (owners_after m us i os) ≡ length os
owners_count m us [] i = refl
owners_count m us (o ∷ os) i = ap suc (owners_count m us os (i + 1))

stays : (m : Chart) (b new : Position) → new.owners ≡ b.owners → CentresStay m b new
stays m b new same = record {
  owners = λ p. inl (ap (λ (os : List (Option ℕ)). get_or os p None) same);
  count = ap (λ (os : List (Option ℕ)). length os) same;
  elsewhere = λ calm. same;
}

-- of a board and of what follows it
abbrev Stay : Chart → Position → Sequel → Type 0
Stay m b s = CentresStay m b s.board

stay_either : (m : Chart) (b : Position) (c : Bool) (x y : Sequel) → Stay m b x → Stay m b y → Stay m b (cond c x y)
stay_either m b true x y first second = first
stay_either m b false x y first second = second

-- whatever has the units and owners of the board with centres in new hands
changed : (m : Chart) (b new : Position) → is_fall b.phase.season ≡ true → new.owners ≡ owners_after m b.units 0 b.owners → new.units ≡ b.units → CentresStay m b new
changed m b new fall owned stand = record {
  owners = λ p.
      subst (λ (os : List (Option ℕ)). (get_or os p None ≡ get_or b.owners p None) ⊎ IsTaken m new.units p (get_or os p None)) (sym owned)
      (subst (λ (us : List AUnit). (get_or (owners_after m b.units 0 b.owners) p None ≡ get_or b.owners p None) ⊎ IsTaken m us p (get_or (owners_after m b.units 0 b.owners) p None)) (sym stand)
      (owners_at m b.units b.owners 0 p p (omega arith)));
  count = ap (λ (os : List (Option ℕ)). length os) owned ∙ owners_count m b.units b.owners 0;
  elsewhere = λ calm. absurd (false≢true (sym calm ∙ fall));
}

year_changed : (m : Chart) (b x : Position) → is_fall b.phase.season ≡ true → x.owners ≡ owners_after m b.units 0 b.owners → x.units ≡ b.units → Stay m b (new_year x)
year_changed m b x fall owned stand =
    stay_either m b (nat_le last_year x.phase.year) (sequel x Ended) (sequel (record x { phase = record { year = x.phase.year + 1; season = SpringMoves } }) GoesOn)
    (changed m b x fall owned stand) (changed m b (record x { phase = record { year = x.phase.year + 1; season = SpringMoves } }) fall owned stand)

count_changed : (m : Chart) (b x : Position) (won : Option ℕ) → is_fall b.phase.season ≡ true → x.owners ≡ owners_after m b.units 0 b.owners → x.units ≡ b.units → Stay m b (after_count m x won)
count_changed m b x (Some power) fall owned stand = changed m b x fall owned stand
count_changed m b x None fall owned stand =
    stay_either m b (needs_adjustment m x) (goes_on x Winter) (new_year x)
    (changed m b (record x { phase = record { year = x.phase.year; season = Winter } }) fall owned stand) (year_changed m b x fall owned stand)

season_stays : (m : Chart) (b : Position) (next : Season) → Stay m b (goes_on b next)
season_stays m b next = stays m b (record b { phase = record { year = b.phase.year; season = next } }) refl

year_stays : (m : Chart) (b : Position) → Stay m b (new_year b)
year_stays m b =
    stay_either m b (nat_le last_year b.phase.year) (sequel b Ended) (sequel (record b { phase = record { year = b.phase.year + 1; season = SpringMoves } }) GoesOn)
    (stays m b b refl) (stays m b (record b { phase = record { year = b.phase.year + 1; season = SpringMoves } }) refl)

end_changes : (m : Chart) (b : Position) → is_fall b.phase.season ≡ true → Stay m b (year_end m b)
end_changes m b fall = count_changed m b (with_owners m b) (winner m (with_owners m b)) fall refl refl

follow_changes : (m : Chart) (season : Season) (b : Position) → b.phase.season ≡ season → Stay m b (follow m season b)
follow_changes m SpringMoves b is = stay_either m b (has_dislodged b) (goes_on b SpringRetreats) (goes_on b FallMoves) (season_stays m b SpringRetreats) (season_stays m b FallMoves)
follow_changes m SpringRetreats b is = season_stays m b FallMoves
follow_changes m FallMoves b is = stay_either m b (has_dislodged b) (goes_on b FallRetreats) (year_end m b) (season_stays m b FallRetreats) (end_changes m b (ap is_fall is))
follow_changes m FallRetreats b is = end_changes m b (ap is_fall is)
follow_changes m Winter b is = year_stays m b

-- a phase leaves the owners and the phase as they were
record IsCalm (b left : Position) : Type 0 where
  owners : left.owners ≡ b.owners
  phase : left.phase ≡ b.phase

calm_board : (b left made : Position) → left ≡ made → made.owners ≡ b.owners → made.phase ≡ b.phase → IsCalm b left
calm_board b left made is owners phase = record { owners = ap (λ (p : Position). p.owners) is ∙ owners; phase = ap (λ (p : Position). p.phase) is ∙ phase }

moved_calmly : (m : Chart) (b : Position) (pending : List PlacedOrder) (left : Position) (t : Account) → LeavesMoved m b pending left t → IsCalm b left
moved_calmly m b pending left (OfMovement t) h = calm_board b left _ h.board refl refl
moved_calmly m b pending left (OfRetreats t) h = absurd h
moved_calmly m b pending left (OfAdjustment t) h = absurd h

retreated_calmly : (b : Position) (pending : List PlacedOrder) (left : Position) (t : Account) → LeavesRetreated b pending left t → IsCalm b left × (left.dislodged ≡ [])
retreated_calmly b pending left (OfMovement t) h = absurd h
retreated_calmly b pending left (OfRetreats t) h = (calm_board b left _ h.0 refl refl, ap (λ (p : Position). p.dislodged) h.0)
retreated_calmly b pending left (OfAdjustment t) h = absurd h

adjusted_calmly : (m : Chart) (b : Position) (pending : List PlacedOrder) (left : Position) (t : Account) → LeavesAdjusted m b pending left t → IsCalm b left × (left.dislodged ≡ [])
adjusted_calmly m b pending left (OfMovement t) h = absurd h
adjusted_calmly m b pending left (OfRetreats t) h = absurd h
adjusted_calmly m b pending left (OfAdjustment t) h = (calm_board b left _ h.board refl refl, ap (λ (p : Position). p.dislodged) h.board)

left_calmly : (m : Chart) (season : Season) (b : Position) (pending : List PlacedOrder) (left : Position) (t : Account) → Leaves m season b pending left t → IsCalm b left
left_calmly m SpringMoves b pending left t h = moved_calmly m b pending left t h
left_calmly m SpringRetreats b pending left t h = (retreated_calmly b pending left t h).0
left_calmly m FallMoves b pending left t h = moved_calmly m b pending left t h
left_calmly m FallRetreats b pending left t h = (retreated_calmly b pending left t h).0
left_calmly m Winter b pending left t h = (adjusted_calmly m b pending left t h).0

pub played_centres : (m : Chart) (b : Position) (pending : List PlacedOrder) (new : Position) (report : Report) → IsPlayed m b pending new report → CentresStay m b new
played_centres m b pending new report h =
    let calm : IsCalm b h.left = left_calmly m b.phase.season b pending h.left report.account h.account in
    let left_stay : Stay m h.left (follow m b.phase.season h.left) = follow_changes m b.phase.season h.left (ap (λ (p : Phase). p.season) calm.phase) in
    let told : CentresStay m h.left new = subst (λ (s : Sequel). Stay m h.left s) (sym h.next) left_stay in
    record {
      owners = λ p. subst (λ (os : List (Option ℕ)). (owner new p ≡ get_or os p None) ⊎ IsTaken m new.units p (owner new p)) calm.owners (told.owners p);
      count = told.count ∙ ap (λ (os : List (Option ℕ)). length os) calm.owners;
      elsewhere = λ calmly. told.elsewhere (ap (λ (p : Phase). is_fall p.season) calm.phase ∙ calmly) ∙ calm.owners;
    }

-- who is dislodged

-- somebody is dislodged in a retreat alone
abbrev IsFit : Position → Type 0
IsFit b = has_dislodged b ≡ true → is_retreat b.phase.season ≡ true

empty_fit : (b : Position) → has_dislodged b ≡ false → IsFit b
empty_fit b none some = absurd (false≢true (sym none ∙ some))

none_dislodged : (b : Position) → b.dislodged ≡ [] → has_dislodged b ≡ false
none_dislodged b none = ap (λ ds. nat_lt 0 (length ds)) none

fit_either : (c : Bool) (x y : Sequel) → IsFit x.board → IsFit y.board → IsFit (cond c x y).board
fit_either true x y first second = first
fit_either false x y first second = second

year_fit : (b : Position) → has_dislodged b ≡ false → IsFit (new_year b).board
year_fit b none =
    fit_either (nat_le last_year b.phase.year) (sequel b Ended) (sequel (record b { phase = record { year = b.phase.year + 1; season = SpringMoves } }) GoesOn)
    (empty_fit b none) (empty_fit (record b { phase = record { year = b.phase.year + 1; season = SpringMoves } }) none)

count_fit : (m : Chart) (b : Position) (won : Option ℕ) → has_dislodged b ≡ false → IsFit (after_count m b won).board
count_fit m b (Some power) none = empty_fit b none
count_fit m b None none =
    fit_either (needs_adjustment m b) (goes_on b Winter) (new_year b) (empty_fit (record b { phase = record { year = b.phase.year; season = Winter } }) none) (year_fit b none)

end_fit : (m : Chart) (b : Position) → has_dislodged b ≡ false → IsFit (year_end m b).board
end_fit m b none = count_fit m (with_owners m b) (winner m (with_owners m b)) none

spring_fit : (b : Position) (c : Bool) → has_dislodged b ≡ c → IsFit (cond c (goes_on b SpringRetreats) (goes_on b FallMoves)).board
spring_fit b true some = λ any. refl
spring_fit b false none = empty_fit (record b { phase = record { year = b.phase.year; season = FallMoves } }) none

fall_fit : (m : Chart) (b : Position) (c : Bool) → has_dislodged b ≡ c → IsFit (cond c (goes_on b FallRetreats) (year_end m b)).board
fall_fit m b true some = λ any. refl
fall_fit m b false none = end_fit m b none

leaves_fit : (m : Chart) (season : Season) (b : Position) (pending : List PlacedOrder) (left : Position) (t : Account) → Leaves m season b pending left t
    → IsFit (follow m season left).board
leaves_fit m SpringMoves b pending left t h = spring_fit left (has_dislodged left) refl
leaves_fit m SpringRetreats b pending left t h =
    empty_fit (record left { phase = record { year = left.phase.year; season = FallMoves } }) (none_dislodged left (retreated_calmly b pending left t h).1)
leaves_fit m FallMoves b pending left t h = fall_fit m left (has_dislodged left) refl
leaves_fit m FallRetreats b pending left t h = end_fit m left (none_dislodged left (retreated_calmly b pending left t h).1)
leaves_fit m Winter b pending left t h = year_fit left (none_dislodged left (adjusted_calmly m b pending left t h).1)

pub played_fit : (m : Chart) (b : Position) (pending : List PlacedOrder) (new : Position) (report : Report) → IsPlayed m b pending new report
    → has_dislodged new ≡ true → is_retreat new.phase.season ≡ true
played_fit m b pending new report h =
    subst (λ (s : Sequel). IsFit s.board) (sym h.next) (leaves_fit m b.phase.season b pending h.left report.account h.account)
