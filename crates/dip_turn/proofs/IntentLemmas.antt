-- No phase changes the option INTENT.
use Rattle.std.proofs.Common.{◌≡◌, ◌+◌, ℕ, Bool, true, false, cond, List, nat_le, Option, None, Some, refl, ap, ◌∙◌}
use Rattle.dip_map.specs.Charts.{Chart}
use Rattle.dip_map.specs.declared.boards.Season.{Season}
use Rattle.dip_map.specs.declared.boards.Season.TheVariants.{SpringMoves, SpringRetreats, FallMoves, FallRetreats, Winter}
use Rattle.dip_map.specs.Boards.{Position}
use Rattle.dip_orders_placed.specs.declared.placed.PlacedOrder.{PlacedOrder}
use Rattle.dip_turn_phases.specs.Centres.{winner, with_owners}
use Rattle.dip_turn_phases.specs.Phases.{Sequel, after_count, follow, goes_on, has_dislodged, in_phase, last_year, needs_adjustment, new_year, sequel, year_end}
use Rattle.dip_turn.specs.Reports.{IsPlayed, Leaves, LeavesAdjusted, LeavesMoved, LeavesRetreated}
use Rattle.dip_turn_phases.specs.declared.report.Account.{Account}
use Rattle.dip_turn_phases.specs.declared.report.Account.TheVariants.{Movement as OfMovement, Retreats as OfRetreats, Adjustment as OfAdjustment}
use Rattle.dip_turn_phases.specs.declared.lines.Course.TheVariants.{GoesOn, Ended}
use Rattle.dip_turn_phases.specs.declared.report.Report.{Report}

kept_moved : (m : Chart) (b : Position) (pending : List PlacedOrder) (left : Position) (t : Account) → LeavesMoved m b pending left t → left.intent ≡ b.intent
kept_moved m b pending left (OfMovement t) h = ap (λ (p : Position). p.intent) h.board
kept_moved m b pending left (OfRetreats t) h = absurd h
kept_moved m b pending left (OfAdjustment t) h = absurd h

kept_retreated : (b : Position) (pending : List PlacedOrder) (left : Position) (t : Account) → LeavesRetreated b pending left t → left.intent ≡ b.intent
kept_retreated b pending left (OfMovement t) h = absurd h
kept_retreated b pending left (OfRetreats t) h = ap (λ (p : Position). p.intent) h.0
kept_retreated b pending left (OfAdjustment t) h = absurd h

kept_adjusted : (m : Chart) (b : Position) (pending : List PlacedOrder) (left : Position) (t : Account) → LeavesAdjusted m b pending left t → left.intent ≡ b.intent
kept_adjusted m b pending left (OfMovement t) h = absurd h
kept_adjusted m b pending left (OfRetreats t) h = absurd h
kept_adjusted m b pending left (OfAdjustment t) h = ap (λ (p : Position). p.intent) h.board

kept_left : (m : Chart) (season : Season) (b : Position) (pending : List PlacedOrder) (left : Position) (t : Account) → Leaves m season b pending left t → left.intent ≡ b.intent
kept_left m SpringMoves b pending left t h = kept_moved m b pending left t h
kept_left m SpringRetreats b pending left t h = kept_retreated b pending left t h
kept_left m FallMoves b pending left t h = kept_moved m b pending left t h
kept_left m FallRetreats b pending left t h = kept_retreated b pending left t h
kept_left m Winter b pending left t h = kept_adjusted m b pending left t h

-- the board of what follows has the option of that one
abbrev Keeps : Position → Sequel → Type 0
Keeps b s = s.board.intent ≡ b.intent

keeps_either : (b : Position) (c : Bool) (x y : Sequel) → Keeps b x → Keeps b y → Keeps b (cond c x y)
keeps_either b true x y first second = first
keeps_either b false x y first second = second

keeps_year : (b : Position) → Keeps b (new_year b)
keeps_year b = keeps_either b (nat_le last_year b.phase.year) (sequel b Ended) (sequel (in_phase b (b.phase.year + 1) SpringMoves) GoesOn) refl refl

keeps_count : (m : Chart) (b : Position) (won : Option ℕ) → Keeps b (after_count m b won)
keeps_count m b (Some power) = refl
keeps_count m b None = keeps_either b (needs_adjustment m b) (goes_on b Winter) (new_year b) refl (keeps_year b)

keeps_end : (m : Chart) (b : Position) → Keeps b (year_end m b)
keeps_end m b = keeps_count m (with_owners m b) (winner m (with_owners m b))

keeps_follow : (m : Chart) (season : Season) (b : Position) → Keeps b (follow m season b)
keeps_follow m SpringMoves b = keeps_either b (has_dislodged b) (goes_on b SpringRetreats) (goes_on b FallMoves) refl refl
keeps_follow m SpringRetreats b = refl
keeps_follow m FallMoves b = keeps_either b (has_dislodged b) (goes_on b FallRetreats) (year_end m b) refl (keeps_end m b)
keeps_follow m FallRetreats b = keeps_end m b
keeps_follow m Winter b = keeps_year b

pub phases_keep_intent : (m : Chart) (b : Position) (pending : List PlacedOrder) (new : Position) (report : Report) → IsPlayed m b pending new report → new.intent ≡ b.intent
phases_keep_intent m b pending new report h =
    ap (λ (s : Sequel). s.board.intent) h.next ∙ keeps_follow m b.phase.season h.left ∙ kept_left m b.phase.season b pending h.left report.account h.account
