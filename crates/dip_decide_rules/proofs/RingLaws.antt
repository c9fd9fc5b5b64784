-- From open move to open move one comes round, or leaves them.
use Rattle.std.proofs.Common.{◌≡◌, ℕ, ◌<◌, ◌+◌, List, [], ◌∷◌, ◌++◌, length, take, get_or, refl, sym, subst, ap, ◌∙◌, inl, inr, suc, arith}
use Rattle.std.specs.Prelude.{◌==◌, Bool, true, false, ◌||◌, Option, None, Some, filter}
use Rattle.std.specs.List.{list_any}
use Rattle.std.proofs.lemmas.Bool.{cases_Bool, both_ways, or_cases, or_left, or_right, or_parts, or_from, eqb-true, eq-eqb}
use Rattle.std.proofs.lemmas.Bool.Decides.{nat_tests}
use Rattle.std.proofs.lemmas.List.{take_more}
use mathlib.Core.Logic.{◌⊎◌}
use Rattle.dip_decide_rules.specs.declared.decisions.Decision.{Decision}
use Rattle.dip_decide_rules.specs.declared.decisions.Decision.TheVariants.{Move}
use Rattle.dip_decide_rules.specs.Deciding.{same, is_among, AreDistinct, Known}
use Rattle.dip_decide_rules.specs.Movement.{Situation, IsSituation, is_listed}
use Rattle.dip_decide_rules.specs.Rings.{open_at, waits_for, leaves, first_or, AreWaiting, AreOpen, IsRing, IsTrail, from_on}
use Rattle.dip_decide_rules.specs.Steps.{is_unknown, moves_of, decisions, IsStarted}
use Rattle.dip_decide_rules.proofs.Progress.{no_more, unknown_is, listed_decision}
use Rattle.dip_decide_rules.proofs.OneAnswer.{same_is}

-- where none passes, none is kept
pub none_open : (f : ℕ → Bool) (ps : List ℕ) → list_any f ps ≡ false → filter f ps ≡ []
none_open f [] h = refl
none_open f (p ∷ ps) h = go (f p) refl (none_open f ps)
  where
    go : (b : Bool) → f p ≡ b → (list_any f ps ≡ false → filter f ps ≡ []) → filter f (p ∷ ps) ≡ []
    go true e n = absurd (both_ways _ h (or_left _ _ e))
    go false e n = rw e (n (rw e at h))

-- a province is listed where its move is among the moves
pub flip : (x p : ℕ) → (x == p) ≡ (p == x)
flip x p = grind (arith, nat_tests)

pub among_moves : (ps : List ℕ) (p : ℕ) → is_among (Move p) (moves_of ps) ≡ is_listed ps p
among_moves [] p = refl
among_moves (x ∷ ps) p = rw (flip p x, among_moves ps p) refl

pub listed_append : (ps qs : List ℕ) (p : ℕ) → is_listed (ps ++ qs) p ≡ (is_listed ps p || is_listed qs p)
listed_append [] qs p = refl
listed_append (x ∷ ps) qs p = rw (listed_append ps qs p) (either (x == p) (is_listed ps p) (is_listed qs p))
  where
    either : (a b c : Bool) → (a || (b || c)) ≡ ((a || b) || c)
    either true b c = refl
    either false b c = refl

listed_either : (ps qs : List ℕ) (p : ℕ) → is_listed (ps ++ qs) p ≡ true → (is_listed ps p ≡ true) ⊎ (is_listed qs p ≡ true)
listed_either ps qs p h = or_cases _ _ (rw (listed_append ps qs p) at h)

-- waiting

waited_is : (k : Known) (o : Option ℕ) (q : ℕ) → open_at k o ≡ Some q → (o ≡ Some q) × (k (Move q) ≡ None)
waited_is k None q h = absurd (cc)
waited_is k (Some t) q h = go (cases_Bool (is_unknown (k (Move t))))
  where
    go : (is_unknown (k (Move t)) ≡ true) ⊎ (is_unknown (k (Move t)) ≡ false) → (Some t ≡ Some q) × (k (Move q) ≡ None)
    go (inl u) =
        let e : Some t ≡ Some q = rw u at h in
        let f : t ≡ q = cc in
        (e, subst (λ (x : ℕ). k (Move x) ≡ None) f (unknown_is _ u))
    go (inr u) = let e : None ≡ Some q = rw u at h in absurd (cc)

pub waits_is : (s : Situation) (k : Known) (p q : ℕ) → waits_for s k p ≡ Some q → (s.target p ≡ Some q) × (k (Move q) ≡ None)
waits_is s k p q h = waited_is k (s.target p) q h

waiting_more : (s : Situation) (k : Known) (trail : List ℕ) (here next : ℕ) → AreWaiting s k trail here → waits_for s k here ≡ Some next → AreWaiting s k (trail ++ here ∷ []) next
waiting_more s k [] here next w h = (h, tt)
waiting_more s k (p ∷ []) here next w h = (w.0, (h, tt))
waiting_more s k (p ∷ q ∷ ps) here next w h = (w.0, waiting_more s k (q ∷ ps) here next w.1 h)

first_more : (trail : List ℕ) (here next : ℕ) → first_or next (trail ++ here ∷ []) ≡ first_or here trail
first_more [] here next = refl
first_more (p ∷ ps) here next = refl

distinct_more : (ps : List ℕ) (q : ℕ) → AreDistinct (moves_of ps) → is_listed ps q ≡ false → AreDistinct (moves_of (ps ++ q ∷ []))
distinct_more [] q d n = (refl, tt)
distinct_more (p ∷ ps) q d n =
    let e = or_parts _ _ n in
    (among_moves (ps ++ q ∷ []) p ∙ listed_append ps (q ∷ []) p ∙ or_from _ _ (sym (among_moves ps p) ∙ d.0) (or_from _ _ (flip q p ∙ e.0) refl), distinct_more ps q d.1 e.1)

-- trails

pub trail_start : (s : Situation) (k : Known) (start : ℕ) → k (Move start) ≡ None → IsTrail s k start [] start
trail_start s k start o = record { first = refl; waiting = tt; distinct = tt; unknown = λ p h. go p (or_cases _ _ h) }
  where
    go : (p : ℕ) → ((start == p) ≡ true) ⊎ (false ≡ true) → k (Move p) ≡ None
    go p (inl e) = subst (λ (x : ℕ). k (Move x) ≡ None) (eqb-true start p e) o
    go p (inr e) = absurd (both_ways false refl e)

pub trail_on : (s : Situation) (k : Known) (start : ℕ) (trail : List ℕ) (here next : ℕ) → IsTrail s k start trail here → is_listed trail here ≡ false → waits_for s k here ≡ Some next → IsTrail s k start (trail ++ here ∷ []) next
trail_on s k start trail here next t n h = record {
  first = first_more trail here next ∙ t.first;
  waiting = waiting_more s k trail here next t.waiting h;
  distinct = distinct_more trail here t.distinct n;
  unknown = λ p m. go p (or_cases _ _ m);
}
  where
    back : (p : ℕ) → (is_listed trail p ≡ true) ⊎ (is_listed (here ∷ []) p ≡ true) → k (Move p) ≡ None
    back p (inl e) = t.unknown p (or_right (here == p) _ e)
    back p (inr e) = t.unknown p (again (or_cases _ _ e))
      where
        again : ((here == p) ≡ true) ⊎ (false ≡ true) → is_listed (here ∷ trail) p ≡ true
        again (inl f) = or_left _ _ f
        again (inr f) = absurd (both_ways false refl f)

    go : (p : ℕ) → ((next == p) ≡ true) ⊎ (is_listed (trail ++ here ∷ []) p ≡ true) → k (Move p) ≡ None
    go p (inl e) = subst (λ (x : ℕ). k (Move x) ≡ None) (eqb-true next p e) (waits_is s k here next h).1
    go p (inr e) = back p (listed_either trail (here ∷ []) p e)

left_from : (s : Situation) (k : Known) (trail : List ℕ) (here : ℕ) → AreWaiting s k trail here → waits_for s k here ≡ None → leaves s k (suc (length trail)) (first_or here trail) ≡ true
left_from s k [] here w h = rw h refl
left_from s k (p ∷ ps) here w h = rw w.0 (left_from s k ps here w.1 h)

pub trail_left : (s : Situation) (k : Known) (start : ℕ) (trail : List ℕ) (here : ℕ) → IsTrail s k start trail here → waits_for s k here ≡ None → (n : ℕ) × (leaves s k n start ≡ true)
trail_left s k start trail here t h = (suc (length trail), subst (λ (x : ℕ). leaves s k (suc (length trail)) x ≡ true) t.first (left_from s k trail here t.waiting h))

-- rings

abbrev pub IsFrom : ℕ → List ℕ → Type 0
IsFrom p ps = (rest : List ℕ) × (ps ≡ p ∷ rest)

pub from_shape : (trail : List ℕ) (here : ℕ) → is_listed trail here ≡ true → IsFrom here (from_on here trail)
from_shape [] here h = absurd (both_ways false refl h)
from_shape (p ∷ ps) here h = go (cases_Bool (p == here)) (from_shape ps here)
  where
    go : ((p == here) ≡ true) ⊎ ((p == here) ≡ false) → (is_listed ps here ≡ true → IsFrom here (from_on here ps)) → IsFrom here (from_on here (p ∷ ps))
    go (inl e) _ = (ps, rw e (ap (λ (x : ℕ). x ∷ ps) (eqb-true p here e)))
    go (inr e) f = rw e (f (rw e at h))

from_waiting : (s : Situation) (k : Known) (trail : List ℕ) (here end : ℕ) → AreWaiting s k trail end → AreWaiting s k (from_on here trail) end
from_waiting s k [] here end w = tt
from_waiting s k (p ∷ ps) here end w = go (cases_Bool (p == here)) (from_waiting s k ps here end w.1)
  where
    go : ((p == here) ≡ true) ⊎ ((p == here) ≡ false) → AreWaiting s k (from_on here ps) end → AreWaiting s k (from_on here (p ∷ ps)) end
    go (inl e) _ = rw e w
    go (inr e) f = rw e f

pub from_distinct : (trail : List ℕ) (here : ℕ) → AreDistinct (moves_of trail) → AreDistinct (moves_of (from_on here trail))
from_distinct [] here d = tt
from_distinct (p ∷ ps) here d = go (cases_Bool (p == here)) (from_distinct ps here d.1)
  where
    go : ((p == here) ≡ true) ⊎ ((p == here) ≡ false) → AreDistinct (moves_of (from_on here ps)) → AreDistinct (moves_of (from_on here (p ∷ ps)))
    go (inl e) _ = rw e d
    go (inr e) f = rw e f

from_listed : (trail : List ℕ) (here q : ℕ) → is_listed (from_on here trail) q ≡ true → is_listed trail q ≡ true
from_listed [] here q h = h
from_listed (p ∷ ps) here q h = go (cases_Bool (p == here)) (from_listed ps here q)
  where
    go : ((p == here) ≡ true) ⊎ ((p == here) ≡ false) → (is_listed (from_on here ps) q ≡ true → is_listed ps q ≡ true) → is_listed (p ∷ ps) q ≡ true
    go (inl e) _ = rw e at h
    go (inr e) f = or_right (p == q) _ (f (rw e at h))

pub trail_round : (s : Situation) (k : Known) (start : ℕ) (trail : List ℕ) (here : ℕ) → IsTrail s k start trail here → is_listed trail here ≡ true → IsRing s k (from_on here trail)
trail_round s k start trail here t h =
    let f = from_shape trail here h in
    record {
      first = here;
      rest = f.0;
      shape = f.1;
      waiting = from_waiting s k trail here here t.waiting;
      distinct = from_distinct trail here t.distinct;
      unknown = λ p m. t.unknown p (or_right (here == p) _ (from_listed trail here p m));
    }

-- a trail is no longer than there are decisions
pub length_moves : (ps : List ℕ) → length (moves_of ps) ≡ length ps
length_moves [] = refl
length_moves (p ∷ ps) = ap suc (length_moves ps)

pub trail_short : (s : Situation) → IsSituation s → (k : Known) → IsStarted s k → (start : ℕ) (trail : List ℕ) (here : ℕ) → IsTrail s k start trail here → is_listed trail here ≡ false → length trail < length (decisions s.places)
trail_short s i k z start trail here t n =
    let l = no_more (moves_of (here ∷ trail)) (decisions s.places) (among_moves trail here ∙ n, t.distinct) inside in
    let e = length_moves trail in
    omega arith
  where
    inside : (d : Decision) → is_among d (moves_of (here ∷ trail)) ≡ true → is_among d (decisions s.places) ≡ true
    inside d h = listed_decision s i k z d (open_among d (here ∷ trail) t.unknown h)
      where
        open_among : (d : Decision) (ps : List ℕ) → AreOpen k ps → is_among d (moves_of ps) ≡ true → k d ≡ None
        open_among d [] o h = absurd (both_ways false refl h)
        open_among d (p ∷ ps) o h = go (or_cases _ _ h) (open_among d ps (λ q m. o q (or_right (p == q) _ m)))
          where
            go : (same d (Move p) ≡ true) ⊎ (is_among d (moves_of ps) ≡ true) → (is_among d (moves_of ps) ≡ true → k d ≡ None) → k d ≡ None
            go (inl e) _ = subst (λ (x : Decision). k x ≡ None) (sym (same_is d (Move p) e)) (o p (or_left _ _ (eq-eqb p p refl)))
            go (inr m) f = f m

-- one more unit from whose open move one leaves
pub leaving_more : (s : Situation) (k : Known) (ps : List ℕ) (i p : ℕ) → i < length ps → p ≡ get_or ps i p
    → ((q : ℕ) → is_listed (take i ps) q ≡ true → k (Move q) ≡ None → (n : ℕ) × (leaves s k n q ≡ true))
    → (k (Move p) ≡ None → (n : ℕ) × (leaves s k n p ≡ true))
    → (q : ℕ) → is_listed (take (i + 1) ps) q ≡ true → k (Move q) ≡ None → (n : ℕ) × (leaves s k n q ≡ true)
leaving_more s k ps i p h e before here q l o = go (listed_either (take i ps) (p ∷ []) q (rw cut at l))
  where
    cut : take (i + 1) ps ≡ take i ps ++ p ∷ []
    cut = take_more ps i p h ∙ ap (λ (x : ℕ). take i ps ++ x ∷ []) (sym e)

    go : (is_listed (take i ps) q ≡ true) ⊎ (is_listed (p ∷ []) q ≡ true) → (n : ℕ) × (leaves s k n q ≡ true)
    go (inl m) = before q m o
    go (inr m) = one (or_cases _ _ m)
      where
        one : ((p == q) ≡ true) ⊎ (false ≡ true) → (n : ℕ) × (leaves s k n q ≡ true)
        one (inl f) = let g = eqb-true p q f in subst (λ (x : ℕ). (n : ℕ) × (leaves s k n x ≡ true)) g (here (subst (λ (x : ℕ). k (Move x) ≡ None) (sym g) o))
        one (inr f) = absurd (both_ways false refl f)
