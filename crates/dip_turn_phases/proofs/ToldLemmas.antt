-- What a movement tells of its board.
use Rattle.std.proofs.Common.{◌≡◌, Bool, true, false, cond, not, List, [], ◌∷◌, None, Some, find, refl, ap, ◌∙◌}
use Rattle.std.specs.Prelude.{◌&&◌, ◌||◌, is_some}
use Rattle.std.specs.List.{list_any}
use Rattle.std.proofs.lemmas.Bool.{false≢true}
use Rattle.dip_orders_placed.specs.declared.placed.PlacedOrder.{PlacedOrder}
use Rattle.dip_decide_rules.specs.declared.decisions.Decision.TheVariants.{Move as Moves}
use Rattle.dip_decide_rules.specs.Matching.{destination, is_convoyed, situation}
use Rattle.dip_decide_rules.specs.Movement.{head_to_head, has_path, is_at}
use Rattle.dip_turn_phases.specs.Laws.{ConvoysCloseNoOrigin, DislodgedWhereEntered, LosersLeaveNoStandoff}
use Rattle.dip_turn_phases.specs.Moving.{enters, has_moved, origin, prov}
use Rattle.dip_turn_phases.proofs.MovingLemmas.{prevents}

found_is_any : (f : PlacedOrder → Bool) (xs : List PlacedOrder) → is_some (find f xs) ≡ list_any f xs
found_is_any f [] = refl
found_is_any f (x ∷ xs) = go (f x) (found_is_any f xs)
  where
    go : (c : Bool) → is_some (find f xs) ≡ list_any f xs → is_some (cond c (Some x) (find f xs)) ≡ (c || list_any f xs)
    go true rest = refl
    go false rest = rest

pub dislodged_where_entered : DislodgedWhereEntered
dislodged_where_entered a orders o = ap (λ (b : Bool). not (has_moved a o) && b) (found_is_any (enters a (prov o)) orders)

no_third : (a b c d e : Bool) → c ≡ true → d ≡ true → (a && (b && (e && not (c && d)))) ≡ false
no_third true true c d true x y = rw (x, y) refl
no_third true true c d false x y = refl
no_third true false c d e x y = refl
no_third false b c d e x y = refl

pub losers_leave_no_standoff : LosersLeaveNoStandoff
losers_leave_no_standoff m a orders p o meets wins =
    ap (λ (b : Bool). is_at (destination o.order) p && (not (has_moved a o) && b)) (prevents (situation m orders) a (prov o) p)
    ∙ no_third (is_at (destination o.order) p) (not (has_moved a o)) (head_to_head (situation m orders) (prov o) p) (a (Moves p)) (has_path (situation m orders) a (prov o)) meets wins

open_where : (c : Bool) (w : PlacedOrder) → c ≡ true → cond c None (Some (prov w)) ≡ None
open_where true w is = refl
open_where false w is = absurd (false≢true is)

pub convoys_close_no_origin : ConvoysCloseNoOrigin
convoys_close_no_origin m a orders o w came convoyed =
    ap (origin m) came ∙ open_where (is_convoyed m (Some w)) w convoyed
