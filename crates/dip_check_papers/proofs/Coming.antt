-- What is told of a text that prints no orders, or none that can be given.
use Rattle.std.proofs.Common.{◌≡◌, ◌&&◌, ◌∙◌, ℕ, Bool, true, false, List, None, Some, Result, Ok, Err, IfOk, ap, refl, sym, subst}
use Rattle.std.proofs.lemmas.Bool.{false≢true}
use Rattle.dip_map.specs.Charts.{Chart}
use Rattle.dip_desk_state.specs.Records.{Public}
use Rattle.dip_desk_games.specs.ByPlace.{are_by_place}
use Rattle.dip_orders.specs.Given.{AreGiven}
use Rattle.dip_orders_placed.specs.declared.placed.PlacedOrder.{PlacedOrder}
use Rattle.dip_check_papers.specs.Checks.{IsToldOfPhase}
use Rattle.dip_check_papers.specs.Printed.{orders_printed_at}
use Rattle.dip_check_papers.specs.declared.verdict.Fault.{Fault}

-- where a text prints no orders, or none that can be given, its fault may be any
pub told_unread : (m : Chart) (p : Public) (text : List ℕ) (fault : Fault) → orders_printed_at m p.board text p.board.phase.season ≡ None → IsToldOfPhase m p text fault
told_unread m p text fault none = λ qs read given placed. let bad : None ≡ Some qs = sym none ∙ read in absurd (cc)

pub told_ungiven : (m : Chart) (p : Public) (text : List ℕ) (fault : Fault) (orders : List PlacedOrder) (r : Bool) → orders_printed_at m p.board text p.board.phase.season ≡ Some orders
    → (AreGiven m p.board orders → are_by_place orders ≡ true → r ≡ true) → r ≡ false → IsToldOfPhase m p text fault
told_ungiven m p text fault orders r is taken refused = λ qs read given placed.
    let some : Some orders ≡ Some qs = sym is ∙ read in
    let same : orders ≡ qs = cc in
    absurd (false≢true (sym refused ∙ taken (subst (AreGiven m p.board) (sym same) given) (ap are_by_place same ∙ placed)))

-- what holds of a value where there is one, and what follows from that
pub ok_weaker : {A E : Type 0} (P Q : A → Type 0) (r : Result A E) → ((x : A) → P x → Q x) → IfOk r P → IfOk r Q
ok_weaker P Q (Ok x) weaker h = weaker x h
ok_weaker P Q (Err e) weaker h = h

pub and_false : (b : Bool) → (b && false) ≡ false
and_false true = refl
and_false false = refl
