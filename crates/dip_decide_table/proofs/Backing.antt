-- Whom an order supports, if that matches, is whom it names and matches.
use Rattle.std.proofs.Common.{◌≡◌, ℕ, refl, subst, inl, inr}
use Rattle.std.specs.Prelude.{true, false, Option, None, Some, if◌then◌else◌}
use Rattle.std.proofs.lemmas.Bool.{cases_Bool, both_ways, and_parts, eqb-true}
use mathlib.Core.Logic.{◌⊎◌}
use Rattle.dip_orders_placed.specs.declared.placed.Order.{Order}
use Rattle.dip_orders_placed.specs.declared.placed.Order.TheVariants.{Hold, Move, SupportHold, SupportMove, Convoy, Retreat, Disband, Build, Remove}
use Rattle.dip_orders_placed.specs.declared.placed.PlacedOrder.{PlacedOrder}
use Rattle.dip_decide_table.specs.Matching.{Standing, is_matched, supports_in}
use Rattle.dip_decide_table.specs.Situations.{is_at}
use Rattle.dip_decide_table.specs.Placed.{backed_of, helped, only_if}
use Rattle.dip_decide_table.proofs.Plain.{alike}

-- an order matches for nobody but the unit that it names
matched_helped : (who : Standing) (o : Order) (p : ℕ) → is_matched who o p ≡ true → is_at (helped o) p ≡ true
matched_helped who Hold p h = absurd (both_ways false refl h)
matched_helped who (Move to via) p h = absurd (both_ways false refl h)
matched_helped who (SupportHold at) p h = (and_parts _ _ h).0
matched_helped who (SupportMove at to) p h = (and_parts _ _ h).0
matched_helped who (Convoy at to) p h = absurd (both_ways false refl h)
matched_helped who (Retreat to) p h = absurd (both_ways false refl h)
matched_helped who Disband p h = absurd (both_ways false refl h)
matched_helped who Build p h = absurd (both_ways false refl h)
matched_helped who Remove p h = absurd (both_ways false refl h)

pub backs : (who : Standing) (row : Option PlacedOrder) (p : ℕ) → is_at (backed_of who row) p ≡ supports_in who row p
backs who None p = refl
backs who (Some o) p = named (helped o.order) refl
  where
    named : (n : Option ℕ) → helped o.order ≡ n → is_at (only_if (is_matched who o.order) n) p ≡ is_matched who o.order p
    named None e = alike _ _ (λ a. absurd (both_ways false refl a)) (λ a. absurd (both_ways false refl (rw e at (matched_helped who o.order p a))))
    named (Some q) e = which (cases_Bool (is_matched who o.order q))
      where
        same : is_matched who o.order p ≡ true → q ≡ p
        same a = eqb-true q p (rw e at (matched_helped who o.order p a))

        which : (is_matched who o.order q ≡ true) ⊎ (is_matched who o.order q ≡ false) → is_at (if is_matched who o.order q then Some q else None) p ≡ is_matched who o.order p
        which (inl h) = rw h (alike _ _ (λ a. subst (λ (x : ℕ). is_matched who o.order x ≡ true) (eqb-true q p a) h) (λ a. rw e at (matched_helped who o.order p a)))
        which (inr h) = rw h (alike _ _ (λ a. absurd (both_ways false refl a)) (λ a. absurd (both_ways _ (subst (λ (x : ℕ). is_matched who o.order x ≡ false) (same a) h) a)))
