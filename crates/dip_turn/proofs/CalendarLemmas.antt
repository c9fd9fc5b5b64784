-- Phases follow one another.
use Rattle.std.proofs.Common.{◌≡◌, ℕ, [], ◌∷◌, ◌<◌, ◌≤◌, ◌+◌, Bool, true, false, cond, List, Option, Some, None, find, refl, sym, ap, ◌∙◌, subst, arith}
use Rattle.std.specs.Prelude.{nat_le}
use Rattle.std.proofs.lemmas.Bool.Decides.{nat_tests}
use Rattle.dip_map.specs.Charts.{Chart, powers}
use Rattle.dip_map.specs.declared.boards.Phase.{Phase}
use Rattle.dip_map.specs.declared.boards.Season.{Season}
use Rattle.dip_map.specs.declared.boards.Season.TheVariants.{SpringMoves, SpringRetreats, FallMoves, FallRetreats, Winter}
use Rattle.dip_map.specs.Boards.{Position, season_number}
use Rattle.dip_orders_placed.specs.declared.placed.PlacedOrder.{PlacedOrder}
use Rattle.dip_turn_phases.specs.Centres.{winner, with_owners, has_won}
use Rattle.dip_turn.specs.Laws.{IsAfter, may_follow, year_after}
use Rattle.dip_turn_phases.specs.Phases.{Sequel, after_count, follow, goes_on, has_dislodged, last_year, needs_adjustment, new_year, sequel, year_end}
use Rattle.dip_turn.specs.Reports.{IsPlayed, Leaves, LeavesAdjusted, LeavesMoved, LeavesRetreated}
use Rattle.dip_turn_phases.specs.declared.report.Account.{Account}
use Rattle.dip_turn_phases.specs.declared.report.Account.TheVariants.{Movement as OfMovement, Retreats as OfRetreats, Adjustment as OfAdjustment}
use Rattle.dip_turn_phases.specs.declared.lines.Course.TheVariants.{GoesOn, Won, Ended}
use Rattle.dip_turn_phases.specs.declared.report.Report.{Report}

-- the phase of a board and of what follows it
abbrev IsAfterBy : Phase → Sequel → Type 0
IsAfterBy p s = IsAfter p s.course s.board.phase

by_either : (p : Phase) (c : Bool) (x y : Sequel) → IsAfterBy p x → IsAfterBy p y → IsAfterBy p (cond c x y)
by_either p true x y first second = first
by_either p false x y first second = second

-- another season of the year
later : (b : Position) (season next : Season) → b.phase.season ≡ season → may_follow season next ≡ true → year_after next b.phase.year ≡ b.phase.year
    → season_number season < season_number next → season_number next ≤ 4 → IsAfterBy b.phase (goes_on b next)
later b season next is may year less most = record {
  season = ap (λ (s : Season). may_follow s next) is ∙ may;
  year = sym year;
  fewer = let number : season_number b.phase.season ≡ season_number season = ap season_number is in omega (arith, number, less, most);
}

-- the next year, or the end
year_follows : (b : Position) (season : Season) → b.phase.season ≡ season → may_follow season SpringMoves ≡ true → 2 ≤ season_number season → season_number season ≤ 4
    → IsAfterBy b.phase (new_year b)
year_follows b season is may low high = go (nat_le last_year b.phase.year) refl
  where
    go : (c : Bool) → nat_le last_year b.phase.year ≡ c → IsAfterBy b.phase (cond c (sequel b Ended) (goes_on (record b { phase = record { year = b.phase.year + 1; season = SpringMoves } }) SpringMoves))
    go true e = (refl, grind (arith, nat_tests))
    go false e =
        let number : season_number b.phase.season ≡ season_number season = ap season_number is in
        let early : b.phase.year < 2900 = grind (arith, nat_tests) in
        record {
          season = ap (λ (s : Season). may_follow s SpringMoves) is ∙ may;
          year = refl;
          fewer = omega (arith, number, low, high, early);
        }

count_follows : (m : Chart) (b : Position) (season : Season) (won : Option ℕ) → b.phase.season ≡ season → may_follow season Winter ≡ true → may_follow season SpringMoves ≡ true
    → 2 ≤ season_number season → season_number season ≤ 3 → IsAfterBy b.phase (after_count m b won)
count_follows m b season (Some power) is winter spring low high = refl
count_follows m b season None is winter spring low high =
    by_either b.phase (needs_adjustment m b) (goes_on b Winter) (new_year b)
    (later b season Winter is winter refl (omega (arith, high)) (omega arith))
    (year_follows b season is spring low (omega (arith, high)))

year_end_follows : (m : Chart) (b : Position) (season : Season) → b.phase.season ≡ season → may_follow season Winter ≡ true → may_follow season SpringMoves ≡ true
    → 2 ≤ season_number season → season_number season ≤ 3 → IsAfterBy b.phase (year_end m b)
year_end_follows m b season is winter spring low high = count_follows m (with_owners m b) season (winner m (with_owners m b)) is winter spring low high

follows : (m : Chart) (season : Season) (b : Position) → b.phase.season ≡ season → IsAfterBy b.phase (follow m season b)
follows m SpringMoves b is =
    by_either b.phase (has_dislodged b) (goes_on b SpringRetreats) (goes_on b FallMoves)
    (later b SpringMoves SpringRetreats is refl refl (omega arith) (omega arith))
    (later b SpringMoves FallMoves is refl refl (omega arith) (omega arith))
follows m SpringRetreats b is = later b SpringRetreats FallMoves is refl refl (omega arith) (omega arith)
follows m FallMoves b is =
    by_either b.phase (has_dislodged b) (goes_on b FallRetreats) (year_end m b)
    (later b FallMoves FallRetreats is refl refl (omega arith) (omega arith))
    (year_end_follows m b FallMoves is refl refl (omega arith) (omega arith))
follows m FallRetreats b is = year_end_follows m b FallRetreats is refl refl (omega arith) (omega arith)
follows m Winter b is = year_follows b Winter is refl (omega arith) (omega arith)

moved_phase : (m : Chart) (b : Position) (pending : List PlacedOrder) (left : Position) (t : Account) → LeavesMoved m b pending left t → left.phase ≡ b.phase
moved_phase m b pending left (OfMovement t) h = ap (λ (p : Position). p.phase) h.board
moved_phase m b pending left (OfRetreats t) h = absurd h
moved_phase m b pending left (OfAdjustment t) h = absurd h

retreated_phase : (b : Position) (pending : List PlacedOrder) (left : Position) (t : Account) → LeavesRetreated b pending left t → left.phase ≡ b.phase
retreated_phase b pending left (OfMovement t) h = absurd h
retreated_phase b pending left (OfRetreats t) h = ap (λ (p : Position). p.phase) h.0
retreated_phase b pending left (OfAdjustment t) h = absurd h

adjusted_phase : (m : Chart) (b : Position) (pending : List PlacedOrder) (left : Position) (t : Account) → LeavesAdjusted m b pending left t → left.phase ≡ b.phase
adjusted_phase m b pending left (OfMovement t) h = absurd h
adjusted_phase m b pending left (OfRetreats t) h = absurd h
adjusted_phase m b pending left (OfAdjustment t) h = ap (λ (p : Position). p.phase) h.board

-- a phase leaves its board in the same phase
pub left_phase : (m : Chart) (season : Season) (b : Position) (pending : List PlacedOrder) (left : Position) (t : Account) → Leaves m season b pending left t → left.phase ≡ b.phase
left_phase m SpringMoves b pending left t h = moved_phase m b pending left t h
left_phase m SpringRetreats b pending left t h = retreated_phase b pending left t h
left_phase m FallMoves b pending left t h = moved_phase m b pending left t h
left_phase m FallRetreats b pending left t h = retreated_phase b pending left t h
left_phase m Winter b pending left t h = adjusted_phase m b pending left t h

pub played_follows : (m : Chart) (b : Position) (pending : List PlacedOrder) (new : Position) (report : Report) → IsPlayed m b pending new report → IsAfter b.phase report.course new.phase
played_follows m b pending new report h =
    let kept : h.left.phase ≡ b.phase = left_phase m b.phase.season b pending h.left report.account h.account in
    let after : IsAfterBy h.left.phase (follow m b.phase.season h.left) = follows m b.phase.season h.left (ap (λ (p : Phase). p.season) kept) in
    let told : IsAfterBy h.left.phase (sequel new report.course) = subst (λ (s : Sequel). IsAfterBy h.left.phase s) (sym h.next) after in
    subst (λ (p : Phase). IsAfter p report.course new.phase) kept told

-- who is said to have won

-- what is found passes
found_passes : (f : ℕ → Bool) (xs : List ℕ) (r : ℕ) → find f xs ≡ Some r → f r ≡ true
found_passes f [] r e = absurd (cc)
found_passes f (x ∷ xs) r e = go (f x) refl e (found_passes f xs r)
  where
    go : (c : Bool) → f x ≡ c → cond c (Some x) (find f xs) ≡ Some r → (find f xs ≡ Some r → f r ≡ true) → f r ≡ true
    go true is here rest = let same : x ≡ r = cc in ap f (sym same) ∙ is
    go false is there rest = rest there

-- the course is a win of one who owns more than half of all centres
IsFair : Chart → Sequel → Type 0
IsFair m s = (power : ℕ) → s.course ≡ Won power → has_won m s.board power ≡ true

fair_either : (m : Chart) (c : Bool) (x y : Sequel) → IsFair m x → IsFair m y → IsFair m (cond c x y)
unfolding IsFair
fair_either m true x y first second = first
fair_either m false x y first second = second

goes_fairly : (m : Chart) (b : Position) → IsFair m (sequel b GoesOn)
unfolding IsFair
goes_fairly m b power e = absurd (cc)

ends_fairly : (m : Chart) (b : Position) → IsFair m (sequel b Ended)
unfolding IsFair
ends_fairly m b power e = absurd (cc)

year_fairly : (m : Chart) (b : Position) → IsFair m (new_year b)
year_fairly m b =
    fair_either m (nat_le last_year b.phase.year) (sequel b Ended) (sequel (record b { phase = record { year = b.phase.year + 1; season = SpringMoves } }) GoesOn)
    (ends_fairly m b) (goes_fairly m (record b { phase = record { year = b.phase.year + 1; season = SpringMoves } }))

season_fairly : (m : Chart) (b : Position) (next : Season) → IsFair m (goes_on b next)
season_fairly m b next = goes_fairly m (record b { phase = record { year = b.phase.year; season = next } })

count_fairly : (m : Chart) (b : Position) (won : Option ℕ) → winner m b ≡ won → IsFair m (after_count m b won)
unfolding IsFair
count_fairly m b (Some r) is power e =
    let same : r ≡ power = cc in
    found_passes (has_won m b) (powers m) power (is ∙ ap Some same)
count_fairly m b None is power e =
    fair_either m (needs_adjustment m b) (goes_on b Winter) (new_year b) (season_fairly m b Winter) (year_fairly m b) power e

follow_fairly : (m : Chart) (season : Season) (b : Position) → IsFair m (follow m season b)
follow_fairly m SpringMoves b = fair_either m (has_dislodged b) (goes_on b SpringRetreats) (goes_on b FallMoves) (season_fairly m b SpringRetreats) (season_fairly m b FallMoves)
follow_fairly m SpringRetreats b = season_fairly m b FallMoves
follow_fairly m FallMoves b =
    fair_either m (has_dislodged b) (goes_on b FallRetreats) (year_end m b) (season_fairly m b FallRetreats) (count_fairly m (with_owners m b) (winner m (with_owners m b)) refl)
follow_fairly m FallRetreats b = count_fairly m (with_owners m b) (winner m (with_owners m b)) refl
follow_fairly m Winter b = year_fairly m b

pub played_fairly : (m : Chart) (b : Position) (pending : List PlacedOrder) (new : Position) (report : Report) (power : ℕ) → IsPlayed m b pending new report
    → report.course ≡ Won power → has_won m new power ≡ true
unfolding IsFair
played_fairly m b pending new report power h won =
    let fair : IsFair m (follow m b.phase.season h.left) = follow_fairly m b.phase.season h.left in
    let told : IsFair m (sequel new report.course) = subst (λ (s : Sequel). IsFair m s) (sym h.next) fair in
    told power won
