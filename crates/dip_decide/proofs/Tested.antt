-- What the worklist keeps: who isn't on it isn't forced, and each test is that of a decision or of a mention.
use Rattle.std.proofs.Common.{◌≡◌, ℕ, ◌≤◌, ◌<◌, ◌+◌, ◌*◌, List, [], ◌∷◌, ◌++◌, length, length-append, map, take, get_or, refl, sym, subst, ap, ◌∙◌, inl, inr, arith}
use Rattle.std.specs.Prelude.{if◌then◌else◌, Bool, true, false, not, ◌||◌, ◌&&◌, Option, None, Some, cond, is_some}
use Rattle.std.specs.List.{sum_by, count_by}
use Rattle.std.proofs.lemmas.List.{length_push, map_more, take_all, take_more}
use Rattle.std.proofs.lemmas.Bool.{cases_Bool, both_ways, or_cases, or_left, or_right}
use Rattle.std.proofs.lemmas.List.Sums.{sum_by-cons, length-filter}
use mathlib.Core.Logic.{◌⊎◌}
use Rattle.dip_decide_rules.specs.declared.decisions.Decision.{Decision}
use Rattle.dip_decide_rules.specs.declared.decisions.Decision.TheVariants.{Move, Path, Support}
use Rattle.dip_decide_rules.specs.Deciding.{same, is_among, AreDistinct, Assignment, Known, Equation, IsCompletion, IsForced, IsCircle, IsKnot, give, Step}
use Rattle.dip_decide_rules.specs.Deciding.Step.{Forced}
use Rattle.dip_decide_rules.specs.Movement.{Situation, IsSituation, is_decided, at_first, rule, mentions}
use Rattle.dip_decide_rules.specs.Corners.{rises}
use Rattle.dip_decide_rules.specs.Steps.{moves_of, paths_of, supports_of, decisions, is_unknown, Grows, IsStarted, IsTurn, NoneForced}
use Rattle.dip_decide_rules.proofs.Progress.{known_or_open, listed_decision}
use Rattle.dip_decide_rules.proofs.Giving.{among_more}
use Rattle.dip_decide_rules.specs.Results.{decided_in, is_forced, forced_in, mentioners, mentions_in}
use Rattle.dip_decide.specs.Working.{weight, opens, Counts, HasOpen, IsWork, IsPut, IsListed, IsWorked, StaysWork}
use Rattle.dip_decide.specs.Worklist.{listed_if}
use Rattle.dip_decide_rules.proofs.OneAnswer.{same_is, same_self, open_one}
use Rattle.dip_decide_rules.proofs.CornerLaws.{agree}
use Rattle.dip_decide_rules.proofs.FromSteps.{knot_open}
use Rattle.dip_decide_rules.proofs.Rises.{rule_rises}
use Rattle.dip_decide_rules.proofs.Continuing.{give_grows, one_forced, among_either}

-- the rule of each decision depends on those that it mentions alone
abbrev pub IsExact : Equation → (Decision → Decision → Bool) → Type 0
IsExact r m = (d : Decision) (a b : Assignment) → ((e : Decision) → m d e ≡ true → a e ≡ b e) → r d a ≡ r d b

pub rule_exact : (s : Situation) → IsSituation s → IsExact (rule s) (mentions s)
rule_exact s i d a b f = agree (rule s) d (mentions s d) (rises s d) (rule_rises s i d) a b f

-- who is forced after values were given of which it mentions none was forced before
pub forced_before : (r : Equation) (m : Decision → Decision → Bool) → IsExact r m → (k : Known) (es : List Decision) (c : Bool) → (d : Decision) (b : Bool) → ((e : Decision) → is_among e es ≡ true → m d e ≡ false) → IsForced r (give k es c) d b → IsForced r k d b
forced_before r m x k es c d b f h = record { is_open = was (cases_Bool (is_among d es)) h.is_open; value = λ a p. x d a (with_given a) (λ e t. unchanged a e t (cases_Bool (is_among e es))) ∙ h.value (with_given a) (λ e v. completes a p e v (cases_Bool (is_among e es))) }
  where
    was : (is_among d es ≡ true) ⊎ (is_among d es ≡ false) → give k es c d ≡ None → k d ≡ None
    was (inl g) o = let q : cond (is_among d es) (Some c) (k d) ≡ Some c = rw g refl in absurd (cc)
    was (inr g) o = rw g at o

    with_given : Assignment → Assignment
    with_given a e = cond (is_among e es) c (a e)

    unchanged : (a : Assignment) (e : Decision) → m d e ≡ true → (is_among e es ≡ true) ⊎ (is_among e es ≡ false) → a e ≡ cond (is_among e es) c (a e)
    unchanged a e t (inl g) = absurd (both_ways _ (f e g) t)
    unchanged a e t (inr g) = rw g refl

    completes : (a : Assignment) → IsCompletion k a → (e : Decision) (v : Bool) → (is_among e es ≡ true) ⊎ (is_among e es ≡ false) → cond (is_among e es) (Some c) (k e) ≡ Some v → cond (is_among e es) c (a e) ≡ v
    completes a p e v (inl g) q = let q2 : Some c ≡ Some v = rw g at q in rw g (cc)
    completes a p e v (inr g) q = rw g (p e v (rw g at q))

-- what is left weighs less

open_weight : (w : Decision → ℕ) (k l : Known) → Grows k l → (e : Decision) → cond (is_unknown (l e)) (w e) 0 ≤ cond (is_unknown (k e)) (w e) 0
open_weight w k l g e = go (k e) (g e)
  where
    go : (o : Option Bool) → ((v : Bool) → o ≡ Some v → l e ≡ Some v) → cond (is_unknown (l e)) (w e) 0 ≤ cond (is_unknown o) (w e) 0
    go None f = which (l e)
      where
        which : (o : Option Bool) → cond (is_unknown o) (w e) 0 ≤ w e
        which None = omega arith
        which (Some v) = omega arith
    go (Some v) f = rw (f v refl) (omega arith)

pub weight_less : (w : Decision → ℕ) (k l : Known) → Grows k l → (ds : List Decision) → weight w l ds ≤ weight w k ds
weight_less w k l g [] = omega arith
weight_less w k l g (x ∷ ds) =
    let a = open_weight w k l g x in
    let b = weight_less w k l g ds in
    rw (sum_by-cons (λ e. cond (is_unknown (l e)) (w e) 0) x ds, sum_by-cons (λ e. cond (is_unknown (k e)) (w e) 0) x ds) (omega arith)

weight_of_one : (w : Decision → ℕ) (k : Known) (e : Decision) (b : Bool) → k e ≡ None → (ds : List Decision) → is_among e ds ≡ true → weight w (give k (e ∷ []) b) ds + w e ≤ weight w k ds
weight_of_one w k e b o [] h = absurd (both_ways false refl h)
weight_of_one w k e b o (x ∷ ds) h = go (or_cases _ _ h) (weight_of_one w k e b o ds)
  where
    l : Known
    l = give k (e ∷ []) b

    g : Grows k l
    g = give_grows k (e ∷ []) b (open_one k e o)

    sums : (weight w l (x ∷ ds) ≡ cond (is_unknown (l x)) (w x) 0 + weight w l ds) × (weight w k (x ∷ ds) ≡ cond (is_unknown (k x)) (w x) 0 + weight w k ds)
    sums = (sum_by-cons (λ e. cond (is_unknown (l e)) (w e) 0) x ds, sum_by-cons (λ e. cond (is_unknown (k e)) (w e) 0) x ds)

    go : (same e x ≡ true) ⊎ (is_among e ds ≡ true) → (is_among e ds ≡ true → weight w l ds + w e ≤ weight w k ds) → weight w l (x ∷ ds) + w e ≤ weight w k (x ∷ ds)
    go (inl t) _ =
        let q = same_is e x t in
        let there : cond (is_unknown (l x)) (w x) 0 ≡ 0 = subst (λ (y : Decision). cond (is_unknown (l y)) (w y) 0 ≡ 0) q (rw (same_self e) refl) in
        let was : cond (is_unknown (k x)) (w x) 0 ≡ w e = subst (λ (y : Decision). cond (is_unknown (k y)) (w y) 0 ≡ w e) q (rw o refl) in
        let m = weight_less w k l g ds in
        let z = sums in
        rw (z.0, z.1, there, was) (omega arith)
    go (inr t) f =
        let a = open_weight w k l g x in
        let m = f t in
        let z = sums in
        rw (z.0, z.1) (omega arith)

give_first : (k : Known) (e : Decision) (es : List Decision) (c : Bool) → (x : Decision) → give (give k (e ∷ []) c) es c x ≡ give k (e ∷ es) c x
give_first k e es c x = go (same x e) (is_among x es)
  where
    go : (p q : Bool) → cond q (Some c) (cond (p || false) (Some c) (k x)) ≡ cond (p || q) (Some c) (k x)
    go true true = refl
    go true false = refl
    go false true = refl
    go false false = refl

-- each of these weighs no more, once given
pub weight_given : (w : Decision → ℕ) (ds es : List Decision) (k : Known) (c : Bool) → AreDistinct es → ((e : Decision) → is_among e es ≡ true → k e ≡ None) → ((e : Decision) → is_among e es ≡ true → is_among e ds ≡ true) → weight w (give k es c) ds + sum_by w es ≤ weight w k ds
weight_given w ds [] k c d o h = omega arith
weight_given w ds (e ∷ es) k c d o h =
    let here = weight_of_one w k e c (o e (or_left _ _ (same_self e))) ds (h e (or_left _ _ (same_self e))) in
    let rest = weight_given w ds es (give k (e ∷ []) c) c d.1 still (λ x m. h x (or_right (same x e) _ m)) in
    let same_weight = weight_less w (give (give k (e ∷ []) c) es c) (give k (e ∷ es) c) (λ x v p. sym (give_first k e es c x) ∙ p) ds in
    rw (sum_by-cons w e es) (omega arith)
  where
    still : (x : Decision) → is_among x es ≡ true → give k (e ∷ []) c x ≡ None
    still x m = go (cases_Bool (same x e))
      where
        go : (same x e ≡ true) ⊎ (same x e ≡ false) → give k (e ∷ []) c x ≡ None
        go (inl t) = absurd (both_ways _ (subst (λ (y : Decision). is_among y es ≡ false) (sym (same_is x e t)) d.0) m)
        go (inr t) = rw (t, o x (or_right (same x e) _ m)) refl

-- after values were given and their mentioners were listed, who isn't listed isn't forced
pub still_tested : (s : Situation) → IsSituation s → (k : Known) (es old new : List Decision) (c : Bool) → IsListed s (give k es c) es old new → ((d : Decision) → is_among d old ≡ false → is_among d es ≡ false → (b : Bool) → IsForced (rule s) k d b → ⊥)
    → (d : Decision) → is_among d new ≡ false → (b : Bool) → IsForced (rule s) (give k es c) d b → ⊥
still_tested s i k es old new c p f d n b h = f d (away (cases_Bool (is_among d old))) (not_given (cases_Bool (is_among d es))) b (forced_before (rule s) (mentions s) (rule_exact s i) k es c d b (λ e m. unmentioned e m (cases_Bool (mentions s d e))) h)
  where
    away : (is_among d old ≡ true) ⊎ (is_among d old ≡ false) → is_among d old ≡ false
    away (inl g) = absurd (both_ways _ n (p.kept d g))
    away (inr g) = g

    not_given : (is_among d es ≡ true) ⊎ (is_among d es ≡ false) → is_among d es ≡ false
    not_given (inl g) = let o = h.is_open in let q : cond (is_among d es) (Some c) (k d) ≡ Some c = rw g refl in absurd (cc)
    not_given (inr g) = g

    unmentioned : (e : Decision) → is_among e es ≡ true → (mentions s d e ≡ true) ⊎ (mentions s d e ≡ false) → mentions s d e ≡ false
    unmentioned e m (inl t) = absurd (both_ways _ n (p.put d e m t h.is_open))
    unmentioned e m (inr t) = t

-- the list, one after the other

pub put_listed : (s : Situation) (k : Known) (e : Decision) (old new : List Decision) → IsSituation s → IsStarted s k → IsPut s k e (decisions s.places) old new → IsListed s k (e ∷ []) old new
put_listed s k e old new i z p = record {
  kept = p.kept;
  put = λ d x h m o. p.put d (listed_decision s i k z d o) (which d x (or_cases _ _ h) m) o;
  few = let f = p.few in rw (sum_by-cons (mentioners s) e []) (omega arith);
}
  where
    which : (d x : Decision) → (same x e ≡ true) ⊎ (false ≡ true) → mentions s d x ≡ true → mentions s d e ≡ true
    which d x (inl h) m = subst (λ (y : Decision). mentions s d y ≡ true) (same_is x e h) m
    which d x (inr h) m = absurd (both_ways false refl h)

-- one that was taken from the list

off : (list : List Decision) (d e : Decision) → is_among e list ≡ false → same e d ≡ false → is_among e (list ++ d ∷ []) ≡ false
off list d e h g = rw (among_more e list d, h, g) refl

pub work_less : (s : Situation) (k : Known) (list : List Decision) (d : Decision) (t u : ℕ) → u ≤ t + 1 → IsWork s k (list ++ d ∷ []) t → ((b : Bool) → IsForced (rule s) k d b → ⊥) → IsWork s k list u
work_less s k list d t u l w n = record {
  tested = λ e h. which e h (cases_Bool (same e d));
  few = let f = w.few in let g = length_push list d in omega arith;
}
  where
    which : (e : Decision) → is_among e list ≡ false → (same e d ≡ true) ⊎ (same e d ≡ false) → (b : Bool) → IsForced (rule s) k e b → ⊥
    which e h (inl q) = subst (λ (y : Decision). (b : Bool) → IsForced (rule s) k y b → ⊥) (sym (same_is e d q)) n
    which e h (inr q) = w.tested e (off list d e h q)

pub work_forced : (s : Situation) (i : IsSituation s) (k : Known) (z : IsStarted s k) (list new : List Decision) (d : Decision) (b : Bool) (t : ℕ) → IsWork s k (list ++ d ∷ []) t → IsForced (rule s) k d b → IsListed s (give k (d ∷ []) b) (d ∷ []) list new → IsWork s (give k (d ∷ []) b) new (t + 1)
work_forced s i k z list new d b t w f p = record {
  tested = still_tested s i k (d ∷ []) list new b p (λ e h g. w.tested e (off list d e h (or_false _ _ g)));
  few = let x = w.few in let y = p.few in let g = length_push list d in let l = lighter in omega arith;
}
  where
    or_false : (x y : Bool) → (x || y) ≡ false → x ≡ false
    or_false true y h = h
    or_false false y h = refl

    lighter : weight (mentioners s) (give k (d ∷ []) b) (decisions s.places) + sum_by (mentioners s) (d ∷ []) ≤ weight (mentioners s) k (decisions s.places)
    lighter = weight_given (mentioners s) (decisions s.places) (d ∷ []) k b (refl, tt) (open_one k d f.is_open) (λ e h. listed_decision s i k z e (open_one k d f.is_open e h))

pub started_on : (s : Situation) (k l : Known) → IsStarted s k → Grows k l → IsStarted s l
started_on s k l z g d h = g d false (z d h)

pub worked_known : (s : Situation) (k : Known) (list : List Decision) (d : Decision) (t : ℕ) (x : List Step) → is_some (k d) ≡ true → IsWork s k (list ++ d ∷ []) t → IsWorked s x k x k list t
worked_known s k list d t x h w = record { explained = λ first c. c; grows = λ e v q. q; work = work_less s k list d t t (omega arith) w (λ b f. both_ways _ (rw (f.is_open) refl) h) }

pub worked_unforced : (s : Situation) (k : Known) (list : List Decision) (d : Decision) (t : ℕ) (x : List Step) → ((b : Bool) → IsForced (rule s) k d b → ⊥) → IsWork s k (list ++ d ∷ []) t → IsWorked s x k x k list (t + 1)
worked_unforced s k list d t x n w = record { explained = λ first c. c; grows = λ e v q. q; work = work_less s k list d t (t + 1) (omega arith) w n }

module _ (s : Situation) (i : IsSituation s) (k : Known) (z : IsStarted s k) (list new : List Decision) (d : Decision) (b : Bool) (f : IsForced (rule s) k d b) (p : IsPut s (give k (d ∷ []) b) d (decisions s.places) list new) where
  started_given : IsStarted s (give k (d ∷ []) b)
  started_given = started_on s k (give k (d ∷ []) b) z (give_grows k (d ∷ []) b (open_one k d f.is_open))

  listed_given : IsListed s (give k (d ∷ []) b) (d ∷ []) list new
  listed_given = put_listed s (give k (d ∷ []) b) d list new i started_given p

  pub worked_forced : (t : ℕ) (x : List Step) → IsWork s k (list ++ d ∷ []) t → IsWorked s x k (x ++ Forced d ∷ []) (give k (d ∷ []) b) new (t + 1)
  worked_forced t x w = record {
    explained = λ first c. one_forced (rule s) (mentions s) first k x d b f c;
    grows = give_grows k (d ∷ []) b (open_one k d f.is_open);
    work = work_forced s i k z list new d b t w f listed_given;
  }

  pub less_forced : length new + weight (mentioners s) (give k (d ∷ []) b) (decisions s.places) < length (list ++ d ∷ []) + weight (mentioners s) k (decisions s.places)
  less_forced =
      let y = listed_given.few in
      let g = length_push list d in
      let l = weight_given (mentioners s) (decisions s.places) (d ∷ []) k b (refl, tt) (open_one k d f.is_open) (λ e h. listed_decision s i k z e (open_one k d f.is_open e h)) in
      omega arith

pub worked_on : (s : Situation) (x y w : List Step) (k l m : Known) (u v : List Decision) (t n : ℕ) → IsWorked s x k y l u t → IsWorked s y l w m v n → IsWorked s x k w m v n
worked_on s x y w k l m u v t n p q = record { explained = λ first c. q.explained first (p.explained first c); grows = λ d b h. q.grows d b (p.grows d b h); work = q.work }

pub nothing_worked : (s : Situation) (k : Known) (list : List Decision) (t : ℕ) (x : List Step) → IsWork s k list t → IsWorked s x k x k list t
nothing_worked s k list t x w = record { explained = λ first c. c; grows = λ d b h. h; work = w }

-- where the list is empty, nothing is forced
pub none_left : (s : Situation) (k : Known) (t : ℕ) → IsWork s k [] t → NoneForced s k
none_left s k t w d b = w.tested d refl b

pub not_none : (o : Option Bool) (b : Bool) → is_some o ≡ not b → b ≡ false → o ≡ None → ⊥
not_none None false h f e = both_ways false refl h
not_none None true h f e = both_ways true f refl
not_none (Some v) b h f e = absurd (cc)

pub is_open : (o : Option Bool) (b : Bool) → is_some o ≡ not b → b ≡ true → o ≡ None
is_open None b h t = refl
is_open (Some v) true h t = absurd (both_ways false refl (sym h))
is_open (Some v) false h t = absurd (both_ways false refl t)

pub was_open : (o : Option Bool) (b : Bool) → is_some o ≡ not b → o ≡ None → b ≡ true
was_open o true h n = refl
was_open None false h n = absurd (both_ways false refl h)
was_open (Some v) false h n = absurd (cc)

-- after a circle or a knot: the list was empty, and the mentioners of those that were given are on it
pub work_given : (s : Situation) (i : IsSituation s) (k : Known) (z : IsStarted s k) (es new : List Decision) (c : Bool) (t : ℕ) → IsWork s k [] t → AreDistinct es → ((e : Decision) → is_among e es ≡ true → k e ≡ None) → IsListed s (give k es c) es [] new → IsWork s (give k es c) new t
work_given s i k z es new c t w d o p = record {
  tested = still_tested s i k es [] new c p (λ e h g. w.tested e h);
  few = let x = w.few in let y = p.few in let l = weight_given (mentioners s) (decisions s.places) es k c d o (λ e h. listed_decision s i k z e (o e h)) in omega arith;
}

pub listed_on : (s : Situation) (k : Known) (es fs x y w : List Decision) → IsListed s k es x y → IsListed s k fs y w → IsListed s k (es ++ fs) x w
listed_on s k es fs x y w p q = record { kept = λ d h. q.kept d (p.kept d h); put = λ d e h m o. which d e (among_either e es fs h) m o; few = let a = p.few in let b = q.few in let t = total es in omega arith }
  where
    total : (es : List Decision) → sum_by (mentioners s) (es ++ fs) ≡ sum_by (mentioners s) es + sum_by (mentioners s) fs
    total [] = omega arith
    total (e ∷ es) = let r = total es in rw (sum_by-cons (mentioners s) e (es ++ fs), sum_by-cons (mentioners s) e es) (omega arith)

    which : (d e : Decision) → (is_among e es ≡ true) ⊎ (is_among e fs ≡ true) → mentions s d e ≡ true → k d ≡ None → is_among d w ≡ true
    which d e (inl h) m o = q.kept d (p.put d e h m o)
    which d e (inr h) m o = q.put d e h m o

-- at first: all that is open is on the list, and nothing was tested

pub work_first : (s : Situation) → IsSituation s → (list : List Decision) → HasOpen (at_first s) (decisions s.places) [] list → IsWork s (at_first s) list 0
work_first s i list p = record {
  tested = λ d h b f. both_ways _ h (p.put d (listed_decision s i (at_first s) (λ e g. rw g refl) d f.is_open) f.is_open);
  few = let a = length-filter (λ d. is_unknown (at_first s d)) (decisions s.places) in let b = counts (decisions s.places) in let c = sums (decisions s.places) in let f = p.few in omega arith;
}
  where
    unknown : (d : Decision) → is_unknown (at_first s d) ≡ is_decided s d
    unknown d = go (is_decided s d)
      where
        go : (b : Bool) → is_unknown (if b then None else Some false) ≡ b
        go true = refl
        go false = refl

    counts : (ds : List Decision) → count_by (λ d. is_unknown (at_first s d)) ds ≡ count_by (is_decided s) ds
    counts [] = refl
    counts (d ∷ ds) = let r = counts ds in rw (sum_by-cons (λ d. cond (is_unknown (at_first s d)) 1 0) d ds, sum_by-cons (λ d. cond (is_decided s d) 1 0) d ds, unknown d) (omega arith)

    sums : (ds : List Decision) → weight (mentioners s) (at_first s) ds ≡ sum_by (λ e. cond (is_decided s e) (mentioners s e) 0) ds
    sums [] = refl
    sums (d ∷ ds) = let r = sums ds in rw (sum_by-cons (λ e. cond (is_unknown (at_first s e)) (mentioners s e) 0) d ds, sum_by-cons (λ e. cond (is_decided s e) (mentioners s e) 0) d ds, unknown d) (omega arith)

-- a circle, and the knot

module _ (s : Situation) (i : IsSituation s) (k : Known) (z : IsStarted s k) where
  pub circle_works : (ps : List ℕ) (new : List Decision) → IsCircle (rule s) k (moves_of ps) → IsListed s (give k (moves_of ps) true) (moves_of ps) [] new → StaysWork s k [] (give k (moves_of ps) true) new
  circle_works ps new c l t w = work_given s i k z (moves_of ps) new true t w c.distinct c.unknown l

  pub knot_works : (ps : List ℕ) (new : List Decision) → IsKnot (rule s) (mentions s) k (paths_of ps) → IsListed s (give k (paths_of ps) false) (paths_of ps) [] new → StaysWork s k [] (give k (paths_of ps) false) new
  knot_works ps new c l t w = work_given s i k z (paths_of ps) new false t w c.distinct (knot_open (rule s) (mentions s) k (paths_of ps) c) l

pub circle_started : (s : Situation) (k : Known) → IsStarted s k → (ds : List Decision) → IsCircle (rule s) k ds → IsStarted s (give k ds true)
circle_started s k z ds c = started_on s k (give k ds true) z (give_grows k ds true c.unknown)

pub knot_started : (s : Situation) (k : Known) → IsStarted s k → (ds : List Decision) → IsKnot (rule s) (mentions s) k ds → IsStarted s (give k ds false)
knot_started s k z ds c = started_on s k (give k ds false) z (give_grows k ds false (knot_open (rule s) (mentions s) k ds c))

-- what is open, unit by unit

pub opens_append : (k : Known) (ds es : List Decision) → opens k (ds ++ es) ≡ opens k ds ++ opens k es
opens_append k [] es = refl
opens_append k (d ∷ ds) es = go (cases_Bool (is_unknown (k d))) (opens_append k ds es)
  where
    go : (is_unknown (k d) ≡ true) ⊎ (is_unknown (k d) ≡ false) → opens k (ds ++ es) ≡ opens k ds ++ opens k es → opens k ((d ∷ ds) ++ es) ≡ opens k (d ∷ ds) ++ opens k es
    go (inl h) r = rw (h, r) refl
    go (inr h) r = rw (h, r) refl

pub none_listed : (k : Known) (old : List Decision) → HasOpen k [] old old
none_listed k old = record { kept = λ d h. h; put = λ d h o. absurd (both_ways false refl h); few = omega arith }

pub more_listed : (k : Known) (ds es x y z : List Decision) → HasOpen k ds x y → HasOpen k es y z → HasOpen k (ds ++ es) x z
more_listed k ds es x y z p q = record {
  kept = λ d h. q.kept d (p.kept d h);
  put = λ d h o. which d (among_either d ds es h) o;
  few = let a = p.few in let b = q.few in let c : length (opens k (ds ++ es)) ≡ length (opens k ds) + length (opens k es) = ap length (opens_append k ds es) ∙ length-append (opens k ds) (opens k es) in omega arith;
}
  where
    which : (d : Decision) → (is_among d ds ≡ true) ⊎ (is_among d es ≡ true) → k d ≡ None → is_among d z ≡ true
    which d (inl h) o = q.kept d (p.put d h o)
    which d (inr h) o = q.put d h o

pub one_listed : (k : Known) (d : Decision) (old : List Decision) → k d ≡ None → HasOpen k (d ∷ []) old (old ++ d ∷ [])
one_listed k d old o = record {
  kept = λ x h. rw (among_more x old d) (or_left _ _ h);
  put = λ x h u. rw (among_more x old d) (or_right (is_among x old) _ (here x (or_cases _ _ h)));
  few = let l = length_push old d in let n : length (opens k (d ∷ [])) ≡ 1 = rw o refl in omega arith;
}
  where
    here : (x : Decision) → (same x d ≡ true) ⊎ (false ≡ true) → same x d ≡ true
    here x (inl h) = h
    here x (inr h) = absurd (both_ways false refl h)

pub one_not_listed : (k : Known) (d : Decision) (old : List Decision) → (k d ≡ None → is_among d old ≡ true) → HasOpen k (d ∷ []) old old
one_not_listed k d old f = record { kept = λ x h. h; put = λ x h o. there x (or_cases _ _ h) o; few = omega arith }
  where
    there : (x : Decision) → (same x d ≡ true) ⊎ (false ≡ true) → k x ≡ None → is_among x old ≡ true
    there x (inl h) o = let q = same_is x d h in subst (λ (y : Decision). is_among y old ≡ true) (sym q) (f (subst (λ (y : Decision). k y ≡ None) q o))
    there x (inr h) o = absurd (both_ways false refl h)

-- it is listed where it is wanted, which is where it is open
pub open_listed : (k : Known) (d : Decision) (w : Bool) (old : List Decision) → (k d ≡ None → w ≡ true) → (w ≡ true → k d ≡ None) → HasOpen k (d ∷ []) old (listed_if (w && not (is_among d old)) d old)
open_listed k d w old from to = go w (is_among d old) refl refl
  where
    go : (v b : Bool) → w ≡ v → is_among d old ≡ b → HasOpen k (d ∷ []) old (listed_if (v && not b) d old)
    go true true e f = one_not_listed k d old (λ o. f)
    go true false e f = one_listed k d old (to e)
    go false b e f = one_not_listed k d old (λ o. absurd (both_ways _ e (from o)))

-- one unit more, of one kind of decisions
pub kind_step : (f : ℕ → Decision) (k : Known) (ps : List ℕ) (i p : ℕ) (x y z : List Decision) → i < length ps → p ≡ get_or ps i p → HasOpen k (map f (take i ps)) x y → HasOpen k (f p ∷ []) y z → HasOpen k (map f (take (i + 1) ps)) x z
kind_step f k ps i p x y z h g u v =
    let e : map f (take (i + 1) ps) ≡ map f (take i ps) ++ f p ∷ [] = map_more f ps i p h ∙ ap (λ (q : ℕ). map f (take i ps) ++ f q ∷ []) (sym g) in
    rw e (more_listed k (map f (take i ps)) (f p ∷ []) x y z u v)

pub kind_all : (f : ℕ → Decision) (k : Known) (ps : List ℕ) (i : ℕ) (x y : List Decision) → length ps ≤ i → HasOpen k (map f (take i ps)) x y → HasOpen k (map f ps) x y
kind_all f k ps i x y h u = subst (λ (qs : List ℕ). HasOpen k (map f qs) x y) (take_all i ps h) u

-- a decision of these units is of one kind or the other
abbrev pub IsOfKind : Decision → List ℕ → Type 0
IsOfKind d ps = (is_among d (moves_of ps) ≡ true) ⊎ ((is_among d (supports_of ps) ≡ true) ⊎ (is_among d (paths_of ps) ≡ true))

kinds : (d : Decision) (ps : List ℕ) → is_among d (decisions ps) ≡ true → IsOfKind d ps
kinds d [] h = absurd (both_ways false refl h)
kinds d (q ∷ ps) h = first (kinds d ps) (or_cases _ _ h)
  where
    later : IsOfKind d ps → IsOfKind d (q ∷ ps)
    later (inl g) = inl (or_right (same d (Move q)) _ g)
    later (inr (inl g)) = inr (inl (or_right (same d (Support q)) _ g))
    later (inr (inr g)) = inr (inr (or_right (same d (Path q)) _ g))

    third : (is_among d (decisions ps) ≡ true → IsOfKind d ps) → (same d (Support q) ≡ true) ⊎ (is_among d (decisions ps) ≡ true) → IsOfKind d (q ∷ ps)
    third f (inl g) = inr (inl (or_left _ _ g))
    third f (inr g) = later (f g)

    second : (is_among d (decisions ps) ≡ true → IsOfKind d ps) → (same d (Path q) ≡ true) ⊎ (is_among d (Support q ∷ decisions ps) ≡ true) → IsOfKind d (q ∷ ps)
    second f (inl g) = inr (inr (or_left _ _ g))
    second f (inr g) = third f (or_cases _ _ g)

    first : (is_among d (decisions ps) ≡ true → IsOfKind d ps) → (same d (Move q) ≡ true) ⊎ (is_among d (Path q ∷ Support q ∷ decisions ps) ≡ true) → IsOfKind d (q ∷ ps)
    first f (inl g) = inl (or_left _ _ g)
    first f (inr g) = second f (or_cases _ _ g)

-- the decisions of these units, kind by kind
pub kinds_listed : (k : Known) (ps : List ℕ) (x y z w : List Decision) → HasOpen k (moves_of ps) x y → HasOpen k (supports_of ps) y z → HasOpen k (paths_of ps) z w → HasOpen k (decisions ps) x w
kinds_listed k ps x y z w m s p = record {
  kept = λ d h. p.kept d (s.kept d (m.kept d h));
  put = λ d h o. which d (kinds d ps h) o;
  few = let a = m.few in let b = s.few in let c = p.few in let n = total ps in omega arith;
}
  where
    which : (d : Decision) → (is_among d (moves_of ps) ≡ true) ⊎ ((is_among d (supports_of ps) ≡ true) ⊎ (is_among d (paths_of ps) ≡ true)) → k d ≡ None → is_among d w ≡ true
    which d (inl h) o = p.kept d (s.kept d (m.put d h o))
    which d (inr (inl h)) o = p.kept d (s.put d h o)
    which d (inr (inr h)) o = p.put d h o

    one : (d : Decision) (ds : List Decision) → length (opens k (d ∷ ds)) ≡ cond (is_unknown (k d)) 1 0 + length (opens k ds)
    one d ds = go (cases_Bool (is_unknown (k d)))
      where
        go : (is_unknown (k d) ≡ true) ⊎ (is_unknown (k d) ≡ false) → length (opens k (d ∷ ds)) ≡ cond (is_unknown (k d)) 1 0 + length (opens k ds)
        go (inl e) = rw e (omega arith)
        go (inr e) = rw e (omega arith)

    total : (ps : List ℕ) → length (opens k (decisions ps)) ≡ length (opens k (moves_of ps)) + length (opens k (supports_of ps)) + length (opens k (paths_of ps))
    total [] = refl
    total (q ∷ ps) =
        let r = total ps in
        let a = one (Move q) (Path q ∷ Support q ∷ decisions ps) in
        let b = one (Path q) (Support q ∷ decisions ps) in
        let c = one (Support q) (decisions ps) in
        let d = one (Move q) (moves_of ps) in
        let e = one (Support q) (supports_of ps) in
        let f = one (Path q) (paths_of ps) in
        omega (arith, r, a, b, c, d, e, f)

-- the mentioners of one more

pub moves_append : (ps qs : List ℕ) → moves_of (ps ++ qs) ≡ moves_of ps ++ moves_of qs
moves_append [] qs = refl
moves_append (p ∷ ps) qs = ap (λ (ds : List Decision). Move p ∷ ds) (moves_append ps qs)

paths_append : (ps qs : List ℕ) → paths_of (ps ++ qs) ≡ paths_of ps ++ paths_of qs
paths_append [] qs = refl
paths_append (p ∷ ps) qs = ap (λ (ds : List Decision). Path p ∷ ds) (paths_append ps qs)

pub one_more : (ps : List ℕ) (i p : ℕ) → i < length ps → p ≡ get_or ps i p → take (i + 1) ps ≡ take i ps ++ p ∷ []
one_more ps i p h e = take_more ps i p h ∙ ap (λ (x : ℕ). take i ps ++ x ∷ []) (sym e)

pub nothing_listed : (s : Situation) (k : Known) (old : List Decision) → IsListed s k [] old old
nothing_listed s k old = record { kept = λ d h. h; put = λ d e h. absurd (both_ways false refl h); few = omega arith }

module _ (s : Situation) (k : Known) (i : IsSituation s) (z : IsStarted s k) (ps : List ℕ) (n p : ℕ) (x y w : List Decision) (h : n < length ps) (g : p ≡ get_or ps n p) where
  pub moves_step : IsListed s k (moves_of (take n ps)) x y → IsPut s k (Move p) (decisions s.places) y w → IsListed s k (moves_of (take (n + 1) ps)) x w
  moves_step u v = rw (one_more ps n p h g, moves_append (take n ps) (p ∷ [])) (listed_on s k (moves_of (take n ps)) (Move p ∷ []) x y w u (put_listed s k (Move p) y w i z v))

  pub paths_step : IsListed s k (paths_of (take n ps)) x y → IsPut s k (Path p) (decisions s.places) y w → IsListed s k (paths_of (take (n + 1) ps)) x w
  paths_step u v = rw (one_more ps n p h g, paths_append (take n ps) (p ∷ [])) (listed_on s k (paths_of (take n ps)) (Path p ∷ []) x y w u (put_listed s k (Path p) y w i z v))

-- how many steps are forced

pub forced_push : (steps : List Step) (x : Step) → forced_in (steps ++ x ∷ []) ≡ forced_in steps + forced_in (x ∷ [])
forced_push [] x = omega arith
forced_push (y ∷ steps) x =
    let r = forced_push steps x in
    rw (sum_by-cons (λ z. cond (is_forced z) 1 0) y (steps ++ x ∷ []), sum_by-cons (λ z. cond (is_forced z) 1 0) y steps) (omega arith)

pub none_more : (steps : List Step) (x : Step) → is_forced x ≡ false → forced_in (steps ++ x ∷ []) ≡ forced_in steps
none_more steps x h = let p = forced_push steps x in let n : forced_in (x ∷ []) ≡ 0 = rw (sum_by-cons (λ z. cond (is_forced z) 1 0) x [], h) refl in omega arith

pub counts_on : (x y w : List Step) (t u v : ℕ) → Counts x t y u → Counts y u w v → Counts x t w v
counts_on x y w t u v p q = omega arith

pub counts_same : (x y w : List Step) (t u : ℕ) → forced_in w ≡ forced_in y → Counts x t y u → Counts x t w u
counts_same x y w t u e p = omega arith

pub counts_first : forced_in [] ≤ 0
counts_first = omega arith

pub few_tests : (s : Situation) (k : Known) (work : List Decision) (t : ℕ) → IsWork s k work t → t ≤ decided_in s + mentions_in s
few_tests s k work t w = let f = w.few in omega arith

-- what was worked off, and then a circle, the knot or nothing

still_open : (k l : Known) → Grows k l → (d : Decision) → l d ≡ None → k d ≡ None
still_open k l g d h = go (known_or_open (k d))
  where
    go : (k d ≡ None) ⊎ ((v : Bool) × (k d ≡ Some v)) → k d ≡ None
    go (inl o) = o
    go (inr v) = let e = g d v.0 v.1 in absurd (cc)

pub turn_after : (s : Situation) (any : Bool) (x y w : List Step) (k l m : Known) (list : List Decision) (t : ℕ) → IsWorked s x k y l list t → IsTurn s any y l w m → IsTurn s any x k w m
turn_after s true x y w k l m list t p q = record {
  explained = λ first c. q.explained first (p.explained first c);
  given = record {
    grows = λ d v h. q.given.grows d v (p.grows d v h);
    one = q.given.one;
    inside = q.given.inside;
    before = still_open k l p.grows q.given.one q.given.before;
    value = q.given.value;
    after = q.given.after;
  };
}
turn_after s false x y w k l m list t p q = record { explained = λ first c. q.explained first (p.explained first c); given = q.given }

-- there are few tests

count_most : (p : Decision → Bool) (ds : List Decision) → count_by p ds ≤ length ds
count_most p [] = omega arith
count_most p (d ∷ ds) = let r = count_most p ds in let o = one (p d) in rw (sum_by-cons (λ x. cond (p x) 1 0) d ds) (omega arith)
  where
    one : (b : Bool) → cond b 1 0 ≤ 1
    one true = omega arith
    one false = omega arith

sum_most : (w : Decision → ℕ) (ds : List Decision) → ((d : Decision) → w d ≤ 600) → sum_by w ds ≤ 600 * length ds
sum_most w [] h = omega arith
sum_most w (d ∷ ds) h = let r = sum_most w ds h in let o = h d in rw (sum_by-cons w d ds) (omega arith)

length_decisions : (ps : List ℕ) → length (decisions ps) ≡ 3 * length ps
length_decisions [] = omega arith
length_decisions (p ∷ ps) = let r = length_decisions ps in omega arith

pub bounded : (s : Situation) → length s.places ≤ 200 → decided_in s + mentions_in s ≤ 360600
bounded s h =
    let l = length_decisions s.places in
    let d = count_most (is_decided s) (decisions s.places) in
    let m = sum_most (λ e. cond (is_decided s e) (mentioners s e) 0) (decisions s.places) column in
    omega arith
  where
    column : (e : Decision) → cond (is_decided s e) (mentioners s e) 0 ≤ 600
    column e = go (is_decided s e)
      where
        go : (b : Bool) → cond b (mentioners s e) 0 ≤ 600
        go true = let c = count_most (λ d. is_decided s d && mentions s d e) (decisions s.places) in let l = length_decisions s.places in omega arith
        go false = omega arith
