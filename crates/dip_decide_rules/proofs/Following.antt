use Rattle.std.proofs.Common.{◌≡◌, ℕ, [], ◌∷◌, refl, sym, ap, ◌∙◌, subst, inl, inr}
use Rattle.std.specs.Prelude.{Bool, true, false, Option, None, Some}
use Rattle.std.proofs.lemmas.Bool.{cases_Bool, both_ways, eqb-true}
use mathlib.Core.Logic.{◌⊎◌}
use Rattle.dip_decide_rules.specs.declared.decisions.Decision.{Decision}
use Rattle.dip_decide_rules.specs.declared.decisions.Decision.TheVariants.{Move}
use Rattle.dip_decide_rules.specs.Deciding.{Assignment, Known, Equation, IsCompletion, IsForced, Follows, give, same}
use Rattle.dip_decide_rules.specs.Movement.{Situation, IsSituation, rule, mentions, move_mentions, is_decided}
use Rattle.dip_decide_rules.specs.Corners.{rises}
use Rattle.dip_decide_rules.proofs.OneAnswer.{same_is, same_self, fill, fill_completes, fill_there, open_one, narrower, give_open}
use Rattle.dip_decide_rules.proofs.CornerLaws.{agree}
use Rattle.dip_decide_rules.proofs.Progress.{some_is, open_decided, moves_alone}
use Rattle.dip_decide_rules.proofs.Rises.{rule_rises}

-- a completion agrees with its own value too
pub wider : (k : Known) (e : Decision) (a : Assignment) → IsCompletion k a → IsCompletion (give k (e ∷ []) (a e)) a
wider k e a c d v h = go (cases_Bool (same d e))
  where
    go : (same d e ≡ true) ⊎ (same d e ≡ false) → a d ≡ v
    go (inl s) = let p : a d ≡ a e = ap a (same_is d e s) in let q : Some (a e) ≡ Some v = rw s at h in cc
    go (inr s) = c d v (rw s at h)

-- d follows e exactly where it is forced to e's value, whichever that is
pub follows_by_forced : (r : Equation) (k : Known) (d e : Decision) → IsForced r (give k (e ∷ []) true) d true → IsForced r (give k (e ∷ []) false) d false → Follows r k d e
follows_by_forced r k d e f g = record { value = λ a c. go a (a e) refl (wider k e a c) }
  where
    go : (a : Assignment) (v : Bool) → a e ≡ v → IsCompletion (give k (e ∷ []) (a e)) a → r d a ≡ a e
    go a true p c = f.value a (subst (λ (v : Bool). IsCompletion (give k (e ∷ []) v) a) p c) ∙ sym p
    go a false p c = g.value a (subst (λ (v : Bool). IsCompletion (give k (e ∷ []) v) a) p c) ∙ sym p

pub forced_by_follows : (r : Equation) (k : Known) (d e : Decision) (b : Bool) → k d ≡ None → k e ≡ None → same d e ≡ false → Follows r k d e → IsForced r (give k (e ∷ []) b) d b
forced_by_follows r k d e b o u n f = record {
  is_open = give_open k (e ∷ []) b d o (rw n refl);
  value = λ a c. f.value a (narrower k (e ∷ []) b (open_one k e u) a c) ∙ c e b (rw (same_self e) refl);
}

-- a move follows no open move but the one at its destination
pub follows_target : (s : Situation) → IsSituation s → (k : Known) (p q : ℕ) → k (Move q) ≡ None → Follows (rule s) k (Move p) (Move q) → s.target p ≡ Some q
follows_target s i k p q o f = go (cases_Bool (mentions s (Move p) (Move q)))
  where
    target_of : (t : Option ℕ) → move_mentions s p t (Move q) ≡ true → t ≡ Some q
    target_of None h = absurd (both_ways false refl h)
    target_of (Some t) h = ap Some (sym (eqb-true q t h))

    go : (mentions s (Move p) (Move q) ≡ true) ⊎ (mentions s (Move p) (Move q) ≡ false) → s.target p ≡ Some q
    go (inl m) = target_of (s.target p) m
    go (inr m) =
        let x = f.value _ (fill_completes k (Move q) true o) in
        let y = f.value _ (fill_completes k (Move q) false o) in
        let u = fill_there k (Move q) true in
        let v = fill_there k (Move q) false in
        let z : rule s (Move p) (fill k (Move q) true) ≡ rule s (Move p) (fill k (Move q) false) = agree (rule s) (Move p) (mentions s (Move p)) (rises s (Move p)) (rule_rises s i (Move p)) _ _ away in
        absurd (cc)
      where
        away : (e : Decision) → mentions s (Move p) e ≡ true → fill k (Move q) true e ≡ fill k (Move q) false e
        away e n = which (cases_Bool (same e (Move q)))
          where
            which : (same e (Move q) ≡ true) ⊎ (same e (Move q) ≡ false) → fill k (Move q) true e ≡ fill k (Move q) false e
            which (inr t) = rw t refl
            which (inl t) = absurd (both_ways _ m (subst (λ (y : Decision). mentions s (Move p) y ≡ true) (same_is e (Move q) t) n))

-- where nothing is forced, a move that follows an open move mentions no other open decision
pub follows_alone : (s : Situation) (i : IsSituation s) (k : Known) → (start : (d : Decision) → is_decided s d ≡ false → k d ≡ Some false) → (none_forced : (d : Decision) (b : Bool) → IsForced (rule s) k d b → ⊥) → (p q : ℕ) → k (Move q) ≡ None → Follows (rule s) k (Move p) (Move q) → (e : Decision) → mentions s (Move p) e ≡ true → k e ≡ None → e ≡ Move q
follows_alone s i k start none p q o f e m u =
    let t = some_is (s.target q) (open_decided s i k start none (Move q) o) in
    moves_alone s i k start none p q t.0 (follows_target s i k p q o f) t.1 e m u
