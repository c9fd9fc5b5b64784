-- Steps that are written one after the other explain what was given so far.
use Rattle.std.proofs.Common.{◌≡◌, List, [], ◌∷◌, ◌++◌, refl, sym, subst, append_assoc, inl, inr}
use Rattle.std.specs.Prelude.{Bool, true, false, None}
use Rattle.std.proofs.lemmas.Bool.{or_cases, or_left, or_right}
use mathlib.Core.Logic.{◌⊎◌}
use Rattle.dip_decide_rules.specs.declared.decisions.Decision.{Decision}
use Rattle.dip_decide_rules.specs.Deciding.{same, is_among, Assignment, Known, Equation, Mentions, IsCompletion, IsForced, IsCircle, IsKnot, Step, give, Explains}
use Rattle.dip_decide_rules.specs.Deciding.Step.{Forced, Circle, Knot}
use Rattle.dip_decide_rules.specs.Movement.{Situation, at_first, rule, mentions}
use Rattle.dip_decide_rules.specs.Steps.{IsStarted, Grows, Continues}
use Rattle.dip_decide_rules.proofs.FromSteps.{given_kept, knot_open}
use Rattle.dip_decide_rules.proofs.OneAnswer.{narrower, open_one, same_self}

-- what is given to open decisions leaves what is known
pub give_grows : (k : Known) (ds : List Decision) (b : Bool) → ((d : Decision) → is_among d ds ≡ true → k d ≡ None) → Grows k (give k ds b)
give_grows k ds b o d v h = given_kept k ds b v d h (o d)

-- one more step that is forced
pub one_forced : (r : Equation) (m : Mentions) (k l : Known) (steps : List Step) (d : Decision) (b : Bool) → IsForced r l d b → Continues r m k steps l → Continues r m k (steps ++ Forced d ∷ []) (give l (d ∷ []) b)
one_forced r m k l steps d b f h = record {
  kept = λ a c. h.kept a (less a c);
  grows = λ e v p. give_grows l (d ∷ []) b (open_one l d f.is_open) e v (h.grows e v p);
  on = λ a rest c e. rw append_assoc (h.on a (Forced d ∷ rest) (less a c) (now a rest c e));
}
  where
    less : (a : Assignment) → IsCompletion (give l (d ∷ []) b) a → IsCompletion l a
    less a c = narrower l (d ∷ []) b (open_one l d f.is_open) a c

    now : (a : Assignment) (rest : List Step) → IsCompletion (give l (d ∷ []) b) a → Explains r m (give l (d ∷ []) b) rest a → Explains r m l (Forced d ∷ rest) a
    now a rest c e = let p : a d ≡ b = c d b (rw (same_self d) refl) in (subst (λ (v : Bool). IsForced r l d v) (sym p) f, subst (λ (v : Bool). Explains r m (give l (d ∷ []) v) rest a) (sym p) e)

-- one more circle
pub one_circle : (r : Equation) (m : Mentions) (k l : Known) (steps : List Step) (ds : List Decision) → IsCircle r l ds → Continues r m k steps l → Continues r m k (steps ++ Circle ds ∷ []) (give l ds true)
one_circle r m k l steps ds f h = record {
  kept = λ a c. h.kept a (narrower l ds true f.unknown a c);
  grows = λ e v p. give_grows l ds true f.unknown e v (h.grows e v p);
  on = λ a rest c e. rw append_assoc (h.on a (Circle ds ∷ rest) (narrower l ds true f.unknown a c) (f, e));
}

-- one more knot
pub one_knot : (r : Equation) (m : Mentions) (k l : Known) (steps : List Step) (ds : List Decision) → IsKnot r m l ds → Continues r m k steps l → Continues r m k (steps ++ Knot ds ∷ []) (give l ds false)
one_knot r m k l steps ds f h = record {
  kept = λ a c. h.kept a (narrower l ds false (knot_open r m l ds f) a c);
  grows = λ e v p. give_grows l ds false (knot_open r m l ds f) e v (h.grows e v p);
  on = λ a rest c e. rw append_assoc (h.on a (Knot ds ∷ rest) (narrower l ds false (knot_open r m l ds f) a c) (f, e));
}

-- nothing yet
pub nothing_yet : (r : Equation) (m : Mentions) (k : Known) → Continues r m k [] k
nothing_yet r m k = record { kept = λ a c. c; grows = λ d v p. p; on = λ a rest c e. e }

pub among_either : (d : Decision) (ds es : List Decision) → is_among d (ds ++ es) ≡ true → (is_among d ds ≡ true) ⊎ (is_among d es ≡ true)
among_either d [] es h = inr h
among_either d (x ∷ ds) es h = go (or_cases _ _ h) (among_either d ds es)
  where
    go : (same d x ≡ true) ⊎ (is_among d (ds ++ es) ≡ true) → (is_among d (ds ++ es) ≡ true → (is_among d ds ≡ true) ⊎ (is_among d es ≡ true)) → (is_among d (x ∷ ds) ≡ true) ⊎ (is_among d es ≡ true)
    go (inl e) _ = inl (or_left _ _ e)
    go (inr e) f = after (f e)
      where
        after : (is_among d ds ≡ true) ⊎ (is_among d es ≡ true) → (is_among d (x ∷ ds) ≡ true) ⊎ (is_among d es ≡ true)
        after (inl t) = inl (or_right (same d x) _ t)
        after (inr t) = inr t

-- what is known at first is known on
pub started : (s : Situation) (steps : List Step) (l : Known) → Continues (rule s) (mentions s) (at_first s) steps l → IsStarted s l
started s steps l c d h = c.grows d false (rw h refl)
