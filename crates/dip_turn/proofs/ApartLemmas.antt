-- No two units meet in a province.
use Rattle.std.proofs.Common.{◌≡◌, ℕ, ◌==◌, Bool, true, false, cond, not, List, [], ◌∷◌, Option, Some, None, find, refl, sym, ap, ◌∙◌}
use Rattle.std.specs.Prelude.{◌&&◌, is_some}
use Rattle.std.proofs.lemmas.Bool.{false≢true, eq-eqb}
use Rattle.dip_map.specs.Charts.{Chart}
use Rattle.dip_names.specs.declared.names.Place.{Place}
use Rattle.dip_orders_placed.specs.declared.placed.Order.{Order}
use Rattle.dip_orders_placed.specs.declared.placed.Order.TheVariants.{Hold, Move, SupportHold, SupportMove, Convoy, Retreat, Disband, Build, Remove}
use Rattle.dip_orders_placed.specs.declared.placed.PlacedOrder.{PlacedOrder}
use Rattle.dip_decide.specs.Decision.{Decision}
use Rattle.dip_decide.specs.Decision.TheVariants.{Move as Moves}
use Rattle.dip_decide.specs.Deciding.{Assignment}
use Rattle.dip_decide.specs.Matching.{destination, order_at, situation, target_of}
use Rattle.dip_decide.specs.Movement.{OneEnters, Satisfies, goes, is_at, move_rule}
use Rattle.dip_turn_phases.specs.Moving.{enters, entrant, has_moved, is_driven_out, leads_to, prov, unit_after}

leads_prov : (a : Place) (r : Order) (q : ℕ) → destination r ≡ Some q → (leads_to a r).prov ≡ q
leads_prov a Hold q e = absurd (cc)
leads_prov a (Move to via) q e = cc
leads_prov a (SupportHold at) q e = absurd (cc)
leads_prov a (SupportMove at to) q e = absurd (cc)
leads_prov a (Convoy at to) q e = absurd (cc)
leads_prov a (Retreat to) q e = absurd (cc)
leads_prov a Disband q e = absurd (cc)
leads_prov a Build q e = absurd (cc)
leads_prov a Remove q e = absurd (cc)

and_no : (b : Bool) → (b && false) ≡ false
and_no true = refl
and_no false = refl

-- a unit that has moved has a destination
moved_goes : (m : Chart) (orders : List PlacedOrder) (broken : Decision → Bool) (a : Assignment) (o : PlacedOrder) → Satisfies (situation m orders) broken a
    → order_at orders (prov o) ≡ Some o → has_moved a o ≡ true → (q : ℕ) × (destination o.order ≡ Some q)
moved_goes m orders broken a o holds found moved = go (destination o.order) refl
  where
    go : (t : Option ℕ) → destination o.order ≡ t → (q : ℕ) × (destination o.order ≡ Some q)
    go (Some q) e = (q, e)
    go None e =
        let target : target_of (order_at orders (prov o)) ≡ None = ap target_of found ∙ e in
        let stays : a (Moves (prov o)) ≡ false =
        holds (Moves (prov o)) ∙ ap (λ (t : Option ℕ). not (broken (Moves (prov o))) && move_rule (situation m orders) a (prov o) t) target ∙ and_no (not (broken (Moves (prov o)))) in
        absurd (false≢true (sym stays ∙ moved))

-- what passes is found
find_some : (f g : PlacedOrder → Bool) (xs : List PlacedOrder) (o : PlacedOrder) → find g xs ≡ Some o → f o ≡ true → is_some (find f xs) ≡ true
find_some f g [] o found pass = absurd (cc)
find_some f g (x ∷ xs) o found pass = go (f x) refl (g x) found (λ there. find_some f g xs o there pass)
  where
    go : (b : Bool) → f x ≡ b → (d : Bool) → cond d (Some x) (find g xs) ≡ Some o → (find g xs ≡ Some o → is_some (find f xs) ≡ true) → is_some (cond b (Some x) (find f xs)) ≡ true
    go true is d there rest = refl
    go false is true there rest = let same : x ≡ o = cc in absurd (false≢true (sym is ∙ ap f same ∙ pass))
    go false is false there rest = rest there

at_of : (t : Option ℕ) (q : ℕ) → t ≡ Some q → is_at t q ≡ true
at_of None q e = absurd (cc)
at_of (Some p) q e = let same : p ≡ q = cc in eq-eqb p q same

-- who stays where another came was dislodged
driven_out : (a : Assignment) (orders : List PlacedOrder) (o w : PlacedOrder) → order_at orders (prov o) ≡ Some o → has_moved a o ≡ true → destination o.order ≡ Some (prov w)
    → has_moved a w ≡ false → is_driven_out a orders w ≡ true
driven_out a orders o w found moved goes_there stays =
    let enter : enters a (prov w) o ≡ true = rw (at_of (destination o.order) (prov w) goes_there, moved) refl in
    let some : is_some (entrant a orders (prov w)) ≡ true = find_some (enters a (prov w)) (λ x. x.unit.place.prov == prov o) orders o found enter in
    rw (stays, some) refl

pub meet_nowhere : (m : Chart) (orders : List PlacedOrder) (broken : Decision → Bool) (a : Assignment) (o w : PlacedOrder) → Satisfies (situation m orders) broken a → OneEnters (situation m orders) a
    → order_at orders (prov o) ≡ Some o → order_at orders (prov w) ≡ Some w → is_driven_out a orders o ≡ false → is_driven_out a orders w ≡ false
    → (unit_after a o).place.prov ≡ (unit_after a w).place.prov → prov o ≡ prov w
meet_nowhere m orders broken a o w holds one here there o_stands w_stands same = go (has_moved a o) (has_moved a w) refl refl same
  where
    go : (b d : Bool) → has_moved a o ≡ b → has_moved a w ≡ d → (cond b (record o.unit { place = leads_to o.unit.place o.order }) o.unit).place.prov ≡ (cond d (record w.unit { place = leads_to w.unit.place w.order }) w.unit).place.prov → prov o ≡ prov w
    go false false x y meet = meet
    go true false x y meet =
        let q = moved_goes m orders broken a o holds here x in
        let at : q.0 ≡ prov w = sym (leads_prov o.unit.place o.order q.0 q.1) ∙ meet in
        absurd (false≢true (sym w_stands ∙ driven_out a orders o w here x (q.1 ∙ ap Some at) y))
    go false true x y meet =
        let q = moved_goes m orders broken a w holds there y in
        let at : q.0 ≡ prov o = sym (leads_prov w.unit.place w.order q.0 q.1) ∙ sym meet in
        absurd (false≢true (sym o_stands ∙ driven_out a orders w o there y (q.1 ∙ ap Some at) x))
    go true true x y meet =
        let p = moved_goes m orders broken a o holds here x in
        let q = moved_goes m orders broken a w holds there y in
        let at : p.0 ≡ q.0 = sym (leads_prov o.unit.place o.order p.0 p.1) ∙ meet ∙ leads_prov w.unit.place w.order q.0 q.1 in
        let first : goes (situation m orders) (prov o) q.0 ≡ true = at_of (target_of (order_at orders (prov o))) q.0 (ap target_of here ∙ p.1 ∙ ap Some at) in
        let second : goes (situation m orders) (prov w) q.0 ≡ true = at_of (target_of (order_at orders (prov w))) q.0 (ap target_of there ∙ q.1) in
        one (prov o) (prov w) q.0 first second x y
