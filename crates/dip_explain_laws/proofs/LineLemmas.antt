-- What each line rests on, and what lines tell.
use Rattle.std.proofs.Common.{◌≡◌, ◌∙◌, ℕ, ◌++◌, List, [], ◌∷◌, append_assoc, refl, sym, subst, ap, inl, inr}
use Rattle.std.specs.Prelude.{Bool, true, false, ◌||◌, None, Some, cond, if◌then◌else◌}
use Rattle.std.proofs.lemmas.Bool.{cases_Bool, both_ways, or_left, or_right}
use Rattle.std.proofs.Math.Path.{fun_ext}
use mathlib.Core.Logic.{◌⊎◌}
use Rattle.dip_map.specs.Charts.{Chart}
use Rattle.dip_orders_placed.specs.declared.placed.PlacedOrder.{PlacedOrder}
use Rattle.dip_decide_rules.specs.declared.decisions.Decision.{Decision}
use Rattle.dip_decide_rules.specs.declared.decisions.Step.{Step}
use Rattle.dip_decide_rules.specs.declared.decisions.Step.TheVariants.{Forced, Circle, Knot}
use Rattle.dip_decide_rules.specs.Deciding.{Assignment, AreDistinct, Equation, Explains, IsCompletion, Known, Mentions, Stands, after, give, is_among, same}
use Rattle.dip_decide_rules.specs.Movement.{Situation, at_first, is_decided, mentions, rule}
use Rattle.dip_decide_rules.specs.Results.{AreExplained}
use Rattle.dip_decide_rules.specs.Steps.{is_unknown, step_of, steps_of}
use Rattle.dip_decide_rules.proofs.FromSteps.{explains_completes, knot_open}
use Rattle.dip_decide_rules.proofs.OneAnswer.{give_open, open_one, same_is, same_self}
use Rattle.dip_explain.specs.Movement.{given_to, known_after, learned, lines_from, step_line}
use Rattle.dip_explain_laws.specs.Words.{IsLine, known_along, told, told_in}

-- values that open decisions get one after the other, each once, they get at once
pub learned_at_once : (k : Known) (ds : List Decision) (b : Bool) → AreDistinct ds → ((d : Decision) → is_among d ds ≡ true → k d ≡ None) → learned k ds b ≡ give k ds b
learned_at_once k [] b apart o = fun_ext (λ e. refl)
learned_at_once k (d ∷ ds) b apart o =
    ap (λ (l : Known). learned l ds b) first
    ∙ learned_at_once (give k (d ∷ []) b) ds b apart.1 later
    ∙ fun_ext (λ e. one e (same e d) (is_among e ds))
  where
    first : given_to k d b (k d) ≡ give k (d ∷ []) b
    first = rw (o d (or_left _ _ (same_self d))) refl

    later : (e : Decision) → is_among e ds ≡ true → give k (d ∷ []) b e ≡ None
    later e h = give_open k (d ∷ []) b e (o e (or_right (same e d) _ h)) (go (cases_Bool (same e d)))
      where
        go : (same e d ≡ true) ⊎ (same e d ≡ false) → is_among e (d ∷ []) ≡ false
        go (inr n) = rw n refl
        go (inl y) = absurd (both_ways _ apart.0 (subst (λ (x : Decision). is_among x ds ≡ true) (same_is e d y) h))

    one : (e : Decision) (x y : Bool) → cond y (Some b) (cond (x || false) (Some b) (k e)) ≡ cond (x || y) (Some b) (k e)
    one e true true = refl
    one e true false = refl
    one e false true = refl
    one e false false = refl

-- what a step tells was open, and it tells each once
pub told_open : (r : Equation) (m : Mentions) (k : Known) (step : Step) (a : Assignment) → Stands r m k (step_of step) a → (d : Decision) → is_among d (told step) ≡ true → k d ≡ None
told_open r m k (Forced e) a h d n = open_one k e h.is_open d n
told_open r m k (Circle ps) a h d n = h.unknown d n
told_open r m k (Knot ps) a h d n = knot_open r m k _ h d n

pub told_apart : (r : Equation) (m : Mentions) (k : Known) (step : Step) (a : Assignment) → Stands r m k (step_of step) a → AreDistinct (told step)
told_apart r m k (Forced e) a h = (refl, tt)
told_apart r m k (Circle ps) a h = h.distinct
told_apart r m k (Knot ps) a h = h.distinct

-- what the explanation learns from a line is what the step gives
pub learns : (r : Equation) (m : Mentions) (k : Known) (step : Step) (a : Assignment) → Stands r m k (step_of step) a → known_after k step a ≡ after k (step_of step) a
learns r m k (Forced d) a h = rw h.is_open refl
learns r m k (Circle ps) a h = learned_at_once k _ true h.distinct h.unknown
learns r m k (Knot ps) a h = learned_at_once k _ false h.distinct (knot_open r m k _ h)

-- what is given is the value in the end
given_value : (k : Known) (ds : List Decision) (b : Bool) (a : Assignment) → IsCompletion (give k ds b) a → (d : Decision) → give k ds b d ≡ cond (is_among d ds) (Some (a d)) (k d)
given_value k ds b a c d = go (cases_Bool (is_among d ds)) (c d b)
  where
    go : (is_among d ds ≡ true) ⊎ (is_among d ds ≡ false) → (give k ds b d ≡ Some b → a d ≡ b) → give k ds b d ≡ cond (is_among d ds) (Some (a d)) (k d)
    go (inl h) f = let e : a d ≡ b = f (rw h refl) in rw (h, e) refl
    go (inr h) f = rw h refl

pub step_value : (k : Known) (step : Step) (a : Assignment) → IsCompletion (after k (step_of step) a) a → (d : Decision) → after k (step_of step) a d ≡ cond (is_among d (told step)) (Some (a d)) (k d)
step_value k (Forced e) a c d = given_value k (e ∷ []) (a e) a c d
step_value k (Circle ps) a c d = given_value k _ true a c d
step_value k (Knot ps) a c d = given_value k _ false a c d

-- the steps from a line on explain the values from what the lines above it tell
pub along : (r : Equation) (m : Mentions) (a : Assignment) (above rest : List Step) (k : Known) → Explains r m k (steps_of (above ++ rest)) a → Explains r m (known_along k above a) (steps_of rest) a
along r m a [] rest k e = e
along r m a (step ∷ above) rest k e =
    along r m a above rest (known_after k step a) (subst (λ (l : Known). Explains r m l (steps_of (above ++ rest)) a) (sym (learns r m k step a e.0)) e.1)

among_either : (d : Decision) (ds es : List Decision) → is_among d (ds ++ es) ≡ (is_among d ds || is_among d es)
among_either d [] es = refl
among_either d (x ∷ ds) es = rw (among_either d ds es) (go (same d x) (is_among d ds) (is_among d es))
  where
    go : (x y z : Bool) → (x || (y || z)) ≡ ((x || y) || z)
    go true y z = refl
    go false y z = refl

-- what is known is what was known, and what was told since
pub known_told : (r : Equation) (m : Mentions) (a : Assignment) (above rest : List Step) (k : Known) → Explains r m k (steps_of (above ++ rest)) a → (d : Decision)
    → known_along k above a d ≡ cond (is_among d (told_in above)) (Some (a d)) (k d)
known_told r m a [] rest k e d = refl
known_told r m a (step ∷ above) rest k e d =
    let f = subst (λ (l : Known). Explains r m l (steps_of (above ++ rest)) a) (sym (learns r m k step a e.0)) e.1 in
    let v = ap (λ (l : Known). l d) (learns r m k step a e.0) ∙ step_value k step a (explains_completes r m a (steps_of (above ++ rest)) (after k (step_of step) a) e.1) d in
    known_told r m a above rest (known_after k step a) f d
    ∙ rw (v, among_either d (told step) (told_in above)) (go (is_among d (told step)) (is_among d (told_in above)))
  where
    go : (x y : Bool) → cond y (Some (a d)) (cond x (Some (a d)) (k d)) ≡ cond (x || y) (Some (a d)) (k d)
    go true true = refl
    go true false = refl
    go false true = refl
    go false false = refl

-- the steps tell just what was open
pub tells_open : (r : Equation) (m : Mentions) (a : Assignment) (steps : List Step) (k : Known) → Explains r m k (steps_of steps) a → (d : Decision) → is_among d (told_in steps) ≡ is_unknown (k d)
tells_open r m a [] k e d = rw (e d) refl
tells_open r m a (step ∷ steps) k e d =
    among_either d (told step) (told_in steps)
    ∙ go (cases_Bool (is_among d (told step))) (told_open r m k step a e.0 d) (tells_open r m a steps (after k (step_of step) a) e.1 d)
    (step_value k step a (explains_completes r m a (steps_of steps) (after k (step_of step) a) e.1) d)
  where
    go : (is_among d (told step) ≡ true) ⊎ (is_among d (told step) ≡ false) → (is_among d (told step) ≡ true → k d ≡ None) → is_among d (told_in steps) ≡ is_unknown (after k (step_of step) a d)
        → after k (step_of step) a d ≡ cond (is_among d (told step)) (Some (a d)) (k d) → (is_among d (told step) || is_among d (told_in steps)) ≡ is_unknown (k d)
    go (inl h) o t v = rw (h, o h) refl
    go (inr h) o t v = let w : after k (step_of step) a d ≡ k d = rw h at v in rw (h, t, w) refl

apart_either : (ds es : List Decision) → AreDistinct ds → AreDistinct es → ((d : Decision) → is_among d ds ≡ true → is_among d es ≡ false) → AreDistinct (ds ++ es)
apart_either [] es x y n = y
apart_either (d ∷ ds) es x y n =
    (among_either d ds es ∙ rw (x.0, n d (or_left _ _ (same_self d))) refl, apart_either ds es x.1 y (λ e h. n e (or_right (same e d) _ h)))

-- the steps tell each decision once
pub tells_once : (r : Equation) (m : Mentions) (a : Assignment) (steps : List Step) (k : Known) → Explains r m k (steps_of steps) a → AreDistinct (told_in steps)
tells_once r m a [] k e = tt
tells_once r m a (step ∷ steps) k e =
    apart_either (told step) (told_in steps) (told_apart r m k step a e.0) (tells_once r m a steps (after k (step_of step) a) e.1)
    (λ d h. tells_open r m a steps (after k (step_of step) a) e.1 d ∙ rw (step_value k step a (explains_completes r m a (steps_of steps) (after k (step_of step) a) e.1) d, h) refl)

-- what is known after one more line
along_more : (a : Assignment) (step : Step) (above : List Step) (k : Known) → known_after (known_along k above a) step a ≡ known_along k (above ++ step ∷ []) a
along_more a step [] k = refl
along_more a step (x ∷ above) k = along_more a step above (known_after k x a)

-- the text is the lines above, the line told at what they give, and the lines below
lines_parted : (m : Chart) (orders : List PlacedOrder) (s : Situation) (a : Assignment) (below : List Step) (step : Step) (above : List Step) (k : Known)
    → lines_from m orders s a k (above ++ step ∷ below)
    ≡ lines_from m orders s a k above ++ (step_line m orders s a (known_along k above a) step ++ lines_from m orders s a (known_after (known_along k above a) step a) below)
lines_parted m orders s a below step [] k = refl
lines_parted m orders s a below step (x ∷ above) k =
    ap (λ (t : List ℕ). step_line m orders s a k x ++ t) (lines_parted m orders s a below step above (known_after k x a))
    ∙ sym (append_assoc (step_line m orders s a k x) _ _)

pub lines_apart : (m : Chart) (orders : List PlacedOrder) (s : Situation) (a : Assignment) (below : List Step) (step : Step) (above : List Step) (k : Known)
    → lines_from m orders s a k (above ++ step ∷ below)
    ≡ (lines_from m orders s a k above ++ step_line m orders s a (known_along k above a) step) ++ lines_from m orders s a (known_along k (above ++ step ∷ []) a) below
lines_apart m orders s a below step above k =
    lines_parted m orders s a below step above k
    ∙ sym (append_assoc (lines_from m orders s a k above) (step_line m orders s a (known_along k above a) step) _)
    ∙ ap (λ (l : Known). (lines_from m orders s a k above ++ step_line m orders s a (known_along k above a) step) ++ lines_from m orders s a l below) (along_more a step above k)

open_first : (decided : Bool) → is_unknown (if decided then None else Some false) ≡ decided
open_first true = refl
open_first false = refl

module _ (s : Situation) (steps : List Step) (a : Assignment) (e : AreExplained s (steps_of steps) a) where
  -- each decision has one line
  pub each_told : (d : Decision) → is_among d (told_in steps) ≡ is_decided s d
  each_told d = tells_open (rule s) (mentions s) a steps (at_first s) e d ∙ open_first (is_decided s d)

  pub once_told : AreDistinct (told_in steps)
  once_told = tells_once (rule s) (mentions s) a steps (at_first s) e

  module _ (k : Known) (step : Step) (l : IsLine s steps a k step) where
    whole : Explains (rule s) (mentions s) (at_first s) (steps_of (l.above ++ step ∷ l.below)) a
    whole = subst (λ (xs : List Step). AreExplained s (steps_of xs) a) l.placed e

    on : Explains (rule s) (mentions s) k (steps_of (step ∷ l.below)) a
    on = subst (λ (j : Known). Explains (rule s) (mentions s) j (steps_of (step ∷ l.below)) a) (sym l.known) (along (rule s) (mentions s) a l.above (step ∷ l.below) (at_first s) whole)

    -- each step stands on what the lines above it tell
    pub line_stands : Stands (rule s) (mentions s) k (step_of step) a
    line_stands = on.0

    -- which is the values of what they tell, and that what isn't decided is false
    pub line_known : (d : Decision) → k d ≡ cond (is_among d (told_in l.above)) (Some (a d)) (at_first s d)
    line_known d = ap (λ (j : Known). j d) l.known ∙ known_told (rule s) (mentions s) a l.above (step ∷ l.below) (at_first s) whole d

    -- what a line tells is decided
    pub line_decided : (d : Decision) → is_among d (told step) ≡ true → is_decided s d ≡ true
    line_decided d h = sym (each_told d) ∙ rw (l.placed, inside l.above) refl
      where
        inside : (xs : List Step) → is_among d (told_in (xs ++ step ∷ l.below)) ≡ true
        inside [] = among_either d (told step) (told_in l.below) ∙ or_left _ _ h
        inside (x ∷ xs) = among_either d (told x) (told_in (xs ++ step ∷ l.below)) ∙ or_right (is_among d (told x)) _ (inside xs)

    -- what is known after it is what the step gives
    pub line_gives : known_after k step a ≡ after k (step_of step) a
    line_gives = learns (rule s) (mentions s) k step a on.0

    -- the values in the end agree with what a line rests on
    pub line_agrees : IsCompletion k a
    line_agrees = explains_completes (rule s) (mentions s) a (steps_of (step ∷ l.below)) k on

    -- and with what it gives
    pub line_completes : IsCompletion (after k (step_of step) a) a
    line_completes = explains_completes (rule s) (mentions s) a (steps_of l.below) (after k (step_of step) a) on.1
