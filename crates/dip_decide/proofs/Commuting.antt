-- Two steps that may be made in one state.
use Rattle.std.proofs.Common.{◌≡◌, [], ◌∷◌, inl, inr}
use mathlib.Core.Logic.{◌⊎◌}
use Rattle.std.proofs.lemmas.Bool.{or_left}
use Rattle.std.specs.Prelude.{true, false}
use Rattle.dip_decide_rules.specs.Deciding.{Known, Assignment, Stands, Step, give}
use Rattle.dip_decide_rules.specs.Deciding.Step.{Forced, Circle, Knot}
use Rattle.dip_decide_rules.specs.Movement.{Situation, rule, mentions}
use Rattle.dip_decide.specs.Statements.{Commute}
use Rattle.dip_decide_rules.proofs.OneAnswer.{Apart, apart_sym, same_self, same_or_apart, open_one, give_apart, give_same, forced_stays, circle_stays, knots_same}
use Rattle.dip_decide_rules.proofs.OneAnswer.Plain.{alone, ring}

module _ (s : Situation) (k : Known) where
  pub commute : (one two : Step) (f g : Assignment) → Stands (rule s) (mentions s) k one f → Stands (rule s) (mentions s) k two g → Commute s k one f two g
  commute (Forced d) (Forced e) f g p q = go (same_or_apart (rule s) k (d ∷ []) (f d) (e ∷ []) (g e) (alone d (f d) p) (alone e (g e) q))
    where
      go : (give k (d ∷ []) (f d) ≡ give k (e ∷ []) (g e)) ⊎ Apart (d ∷ []) (e ∷ []) → Commute s k (Forced d) f (Forced e) g
      go (inl h) = inl h
      go (inr h) = inr (
        forced_stays (rule s) k e (g e) (d ∷ []) (f d) (open_one k d p.is_open) (apart_sym (d ∷ []) (e ∷ []) h e (or_left _ _ (same_self e))) q,
        forced_stays (rule s) k d (f d) (e ∷ []) (g e) (open_one k e q.is_open) (h d (or_left _ _ (same_self d))) p,
        give_apart k (d ∷ []) (e ∷ []) (f d) (g e) h,
      )
  commute (Forced d) (Circle es) f g p q = go (same_or_apart (rule s) k (d ∷ []) (f d) es true (alone d (f d) p) (ring es q))
    where
      go : (give k (d ∷ []) (f d) ≡ give k es true) ⊎ Apart (d ∷ []) es → Commute s k (Forced d) f (Circle es) g
      go (inl h) = inl h
      go (inr h) = inr (
        circle_stays (rule s) k es (d ∷ []) (f d) (open_one k d p.is_open) (apart_sym (d ∷ []) es h) q,
        forced_stays (rule s) k d (f d) es true q.unknown (h d (or_left _ _ (same_self d))) p,
        give_apart k (d ∷ []) es (f d) true h,
      )
  commute (Circle ds) (Forced e) f g p q = go (same_or_apart (rule s) k ds true (e ∷ []) (g e) (ring ds p) (alone e (g e) q))
    where
      go : (give k ds true ≡ give k (e ∷ []) (g e)) ⊎ Apart ds (e ∷ []) → Commute s k (Circle ds) f (Forced e) g
      go (inl h) = inl h
      go (inr h) = inr (
        forced_stays (rule s) k e (g e) ds true p.unknown (apart_sym ds (e ∷ []) h e (or_left _ _ (same_self e))) q,
        circle_stays (rule s) k ds (e ∷ []) (g e) (open_one k e q.is_open) h p,
        give_apart k ds (e ∷ []) true (g e) h,
      )
  commute (Circle ds) (Circle es) f g p q = go (same_or_apart (rule s) k ds true es true (ring ds p) (ring es q))
    where
      go : (give k ds true ≡ give k es true) ⊎ Apart ds es → Commute s k (Circle ds) f (Circle es) g
      go (inl h) = inl h
      go (inr h) = inr (
        circle_stays (rule s) k es ds true p.unknown (apart_sym ds es h) q,
        circle_stays (rule s) k ds es true q.unknown h p,
        give_apart k ds es true true h,
      )
  commute (Knot ds) (Forced e) f g p q = absurd (p.stuck.none_forced e (g e) q)
  commute (Knot ds) (Circle es) f g p q = absurd (p.stuck.no_circle es q)
  commute (Forced d) (Knot es) f g p q = absurd (q.stuck.none_forced d (f d) p)
  commute (Circle ds) (Knot es) f g p q = absurd (q.stuck.no_circle ds p)
  commute (Knot ds) (Knot es) f g p q = inl (give_same k ds es false (knots_same (rule s) (mentions s) k ds es p q))
