-- What an explanation rests on, step by step.
use Rattle.std.proofs.Common.{◌≡◌, ◌∙◌, ◌<◌, ◌+◌, ◌++◌, ℕ, List, ◌∷◌, ap, append_assoc, drop, get_or, length, sym}
use Rattle.std.proofs.lemmas.List.{at_drop_more}
use Rattle.dip_map.specs.Charts.{Chart}
use Rattle.dip_orders_placed.specs.declared.placed.PlacedOrder.{PlacedOrder}
use Rattle.dip_decide_rules.specs.declared.decisions.Step.{Step}
use Rattle.dip_decide_rules.specs.Deciding.{Assignment, Known}
use Rattle.dip_decide_rules.specs.Movement.{Situation}
use Rattle.dip_explain.specs.Movement.{known_after, lines_from, step_line}

pub told_same : (m : Chart) (a : Assignment) (steps : List Step) (o p : List PlacedOrder) (s t : Situation) (k l : Known) → o ≡ p → s ≡ t → k ≡ l
    → lines_from m o s a k steps ≡ lines_from m p t a l steps
told_same m a steps o p s t k l e f g =
    ap (λ (x : List PlacedOrder). lines_from m x s a k steps) e
    ∙ ap (λ (x : Situation). lines_from m p x a k steps) f
    ∙ ap (λ (x : Known). lines_from m p t a x steps) g

-- the lines of steps go on by one
pub steps_kept : (m : Chart) (o : List PlacedOrder) (s : Situation) (a : Assignment) (xs : List Step) (i : ℕ) (x : Step) (k l : Known) (old new R : List ℕ) → i < length xs → x ≡ get_or xs i x
    → new ≡ old ++ step_line m o s a k x → l ≡ known_after k x a → old ++ lines_from m o s a k (drop i xs) ≡ R → new ++ lines_from m o s a l (drop (i + 1) xs) ≡ R
steps_kept m o s a xs i x k l old new R low is made goes before =
    ap (λ (t : List ℕ). t ++ lines_from m o s a l (drop (i + 1) xs)) made
    ∙ ap (λ (z : Known). (old ++ step_line m o s a k x) ++ lines_from m o s a z (drop (i + 1) xs)) goes
    ∙ append_assoc old (step_line m o s a k x) (lines_from m o s a (known_after k x a) (drop (i + 1) xs))
    ∙ ap (λ (ys : List Step). old ++ lines_from m o s a k ys) (sym next)
    ∙ before
  where
    next : drop i xs ≡ x ∷ drop (i + 1) xs
    next = at_drop_more (λ (ys : List Step). ys) xs i x low ∙ ap (λ (y : Step). y ∷ drop (i + 1) xs) (sym is)
