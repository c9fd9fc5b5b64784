-- What came on the worklist of those that mention a decision: each once, and nobody else.
use Rattle.std.proofs.Common.{◌≡◌, ℕ, ◌≤◌, ◌<◌, ◌+◌, List, [], ◌∷◌, ◌++◌, length, take, get_or, refl, sym, subst, arith, inl, inr}
use Rattle.std.specs.Prelude.{true, false, ◌&&◌, None}
use Rattle.std.proofs.lemmas.List.{length_push}
use Rattle.std.proofs.lemmas.Bool.{cases_Bool, both_ways, or_cases, or_left, or_right, and_parts, and_from}
use mathlib.Core.Logic.{◌⊎◌}
use Rattle.dip_decide_rules.specs.declared.decisions.Decision.{Decision}
use Rattle.dip_decide_rules.specs.declared.decisions.Decision.TheVariants.{Move}
use Rattle.dip_decide_rules.specs.Deciding.{same, is_among, Known}
use Rattle.dip_decide_rules.specs.Movement.{Situation, IsSituation, is_decided, mentions}
use Rattle.dip_decide_rules.specs.Results.{mentioned_by}
use Rattle.dip_decide_rules.specs.Steps.{moves_of, decisions, IsStarted}
use Rattle.dip_decide.specs.Working.{IsPut, IsTaken, listed_by}
use Rattle.dip_decide_rules.proofs.OneAnswer.{same_is, same_self}
use Rattle.dip_decide_rules.proofs.Progress.{listed_decision}
use Rattle.dip_decide_rules.proofs.Giving.{among_more}
use Rattle.dip_decide_rules.proofs.Counting.{count_lt}
use Rattle.dip_decide_rules.proofs.Rises.{count_le}
use Rattle.dip_decide_rules.proofs.Continuing.{among_either}
use Rattle.dip_decide.proofs.Tested.{one_more, moves_append}

pub nothing_taken : (s : Situation) (k : Known) (e : Decision) (old : List Decision) → IsTaken s k e [] old old
nothing_taken s k e old = record { kept = λ d h. h; put = λ d h m o. absurd (both_ways false refl h); few = omega arith }

pub taken_on : (s : Situation) (k : Known) (e : Decision) (ds es x y z : List Decision) → IsTaken s k e ds x y → IsTaken s k e es y z → IsTaken s k e (ds ++ es) x z
taken_on s k e ds es x y z p q = record { kept = λ d h. q.kept d (p.kept d h); put = λ d h m o. which d (among_either d ds es h) m o; few = let a = p.few in let b = q.few in omega arith }
  where
    which : (d : Decision) → (is_among d ds ≡ true) ⊎ (is_among d es ≡ true) → mentions s d e ≡ true → k d ≡ None → is_among d z ≡ true
    which d (inl h) m o = q.kept d (p.put d h m o)
    which d (inr h) m o = q.put d h m o

pub taken_step : (s : Situation) (k : Known) (e : Decision) (ps : List ℕ) (n p : ℕ) (x y z : List Decision) → n < length ps → p ≡ get_or ps n p → IsTaken s k e (moves_of (take n ps)) x y → IsTaken s k e (Move p ∷ []) y z → IsTaken s k e (moves_of (take (n + 1) ps)) x z
taken_step s k e ps n p x y z h g u v = rw (one_more ps n p h g, moves_append (take n ps) (p ∷ [])) (taken_on s k e (moves_of (take n ps)) (Move p ∷ []) x y z u v)

-- one that is put, and one that need not be

decided_open : (s : Situation) (k : Known) → IsStarted s k → (d : Decision) → k d ≡ None → is_decided s d ≡ true
decided_open s k z d o = go (cases_Bool (is_decided s d))
  where
    go : (is_decided s d ≡ true) ⊎ (is_decided s d ≡ false) → is_decided s d ≡ true
    go (inl g) = g
    go (inr g) = let e = z d g in absurd (cc)

pub one_taken : (s : Situation) (k : Known) → IsSituation s → IsStarted s k → (e d : Decision) (old : List Decision) → k d ≡ None → mentions s d e ≡ true → is_among d old ≡ false → IsTaken s k e (d ∷ []) old (old ++ d ∷ [])
one_taken s k i z e d old o m n = record {
  kept = on;
  put = λ x h w u. rw (among_more x old d) (or_right (is_among x old) _ (here x (or_cases _ _ h)));
  few = let l = length_push old d in let c = more in omega arith;
}
  where
    on : (x : Decision) → is_among x old ≡ true → is_among x (old ++ d ∷ []) ≡ true
    on x h = rw (among_more x old d) (or_left _ _ h)

    here : (x : Decision) → (same x d ≡ true) ⊎ (false ≡ true) → same x d ≡ true
    here x (inl h) = h
    here x (inr h) = absurd (both_ways false refl h)

    last : is_among d (old ++ d ∷ []) ≡ true
    last = rw (among_more d old d) (or_right (is_among d old) _ (same_self d))

    mentioner : (is_decided s d && mentions s d e) ≡ true
    mentioner = and_from _ _ (decided_open s k z d o) m

    not_yet : ((is_decided s d && mentions s d e) && is_among d old) ≡ false
    not_yet = rw (mentioner, n) refl

    more : listed_by s e old < listed_by s e (old ++ d ∷ [])
    more = count_lt (λ x. (is_decided s x && mentions s x e) && is_among x old) (λ x. (is_decided s x && mentions s x e) && is_among x (old ++ d ∷ [])) (decisions s.places) d
        (λ x h. let q = and_parts _ _ h in and_from _ _ q.0 (on x q.1)) (listed_decision s i k z d o) not_yet (and_from _ _ mentioner last)

pub one_passed : (s : Situation) (k : Known) (e d : Decision) (old : List Decision) → (k d ≡ None → mentions s d e ≡ true → is_among d old ≡ true) → IsTaken s k e (d ∷ []) old old
one_passed s k e d old f = record { kept = λ x h. h; put = λ x h m o. there x (or_cases _ _ h) m o; few = omega arith }
  where
    there : (x : Decision) → (same x d ≡ true) ⊎ (false ≡ true) → mentions s x e ≡ true → k x ≡ None → is_among x old ≡ true
    there x (inl h) m o = let q = same_is x d h in subst (λ (y : Decision). is_among y old ≡ true) (sym q) (f (subst (λ (y : Decision). k y ≡ None) q o) (subst (λ (y : Decision). mentions s y e ≡ true) q m))
    there x (inr h) m o = absurd (both_ways false refl h)

-- where all that mention it are among those that were looked at

pub taken_put : (s : Situation) (k : Known) (e : Decision) (ds old new : List Decision) → ((d : Decision) → mentions s d e ≡ true → is_among d ds ≡ true) → IsTaken s k e ds old new → IsPut s k e (decisions s.places) old new
taken_put s k e ds old new f p = record { kept = p.kept; put = λ d h m o. p.put d (f d m) m o; few = let a = p.few in let b = most in omega arith }
  where
    most : listed_by s e new ≤ mentioned_by s e (decisions s.places)
    most = count_le (λ d. (is_decided s d && mentions s d e) && is_among d new) (λ d. is_decided s d && mentions s d e) (decisions s.places) (λ d h. (and_parts _ _ h).0)
