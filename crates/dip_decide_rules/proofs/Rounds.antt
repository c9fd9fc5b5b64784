-- Where nothing is forced: a ring is a circle; without one, the open paths are the knot; without these, all is known.
use Rattle.std.proofs.Common.{◌≡◌, ℕ, ◌≤◌, ◌<◌, ◌+◌, cond, List, [], ◌∷◌, ◌++◌, length, refl, sym, subst, ◌∙◌, inl, inr, zero, suc, arith}
use Rattle.std.specs.Prelude.{◌==◌, ◌↔◌, Bool, true, false, None, Some, filter, not, ◌&&◌, OnOk, Result, Ok, Err}
use Rattle.std.specs.List.{list_any}
use Rattle.std.proofs.lemmas.Bool.{cases_Bool, both_ways, or_cases, or_left, or_right, eq-eqb, and_parts, not-true}
use Rattle.std.proofs.lemmas.Bool.Decides.{nat_tests}
use mathlib.Core.Logic.{◌⊎◌}
use Rattle.dip_map.specs.Charts.{are_provs_single}
use Rattle.dip_decide_rules.specs.declared.decisions.Decision.{Decision}
use Rattle.dip_decide_rules.specs.declared.decisions.Decision.TheVariants.{Move, Path, Support}
use Rattle.dip_decide_rules.specs.Deciding.{same, is_among, Known, Equation, Mentions, Follows, AreLinked, is_move, IsCircle, is_path, IsOpenPath, IsKnotted, IsKnot, Reaches, give, Step}
use Rattle.dip_decide_rules.specs.Deciding.Step.{Circle, Knot}
use Rattle.dip_decide_rules.specs.Movement.{Situation, IsSituation, is_listed, at_first, rule, mentions}
use Rattle.dip_decide_rules.specs.Rings.{waits_for, leaves, AreWaiting, AreOpen, ArePathsOpen, IsRing, IsNonEmpty}
use Rattle.dip_decide_rules.specs.Steps.{moves_of, paths_of, decisions, is_unknown, open_paths, NoneForced, IsStarted, Continues, IsTurn, IsReached}
use Rattle.dip_decide_table.proofs.Plain.{at_is}
pub use Rattle.dip_decide_table.proofs.Plain.{if_ok_more}
use Rattle.dip_decide_rules.proofs.OneAnswer.{same_is, same_self, Next, next_in}
use Rattle.dip_decide_rules.proofs.Progress.{some_is, known_or_open, unknown_is, listed_decision, open_decided, moves_alone, follows_one, arrives, reached_back}
use Rattle.dip_decide_rules.proofs.Following.{follows_target}
use Rattle.dip_decide_rules.proofs.RingLaws.{waits_is, among_moves}
use Rattle.dip_decide_rules.proofs.Giving.{among_paths, single_paths, moves_single, paths_single}
use Rattle.dip_decide_rules.proofs.ChainLaws.{listed_kept}
use Rattle.dip_decide_rules.proofs.Continuing.{one_circle, one_knot, give_grows}
use Rattle.dip_decide_rules.proofs.FromSteps.{knot_open}
use Rattle.dip_decide_rules.proofs.Counting.{open_among as open_decisions, fewer}

abbrev pub NoCircle : Situation → Known → Type 0
NoCircle s k = (ds : List Decision) → IsCircle (rule s) k ds → ⊥

open_among : (k : Known) (d : Decision) (ps : List ℕ) → AreOpen k ps → is_among d (moves_of ps) ≡ true → k d ≡ None
open_among k d [] o h = absurd (both_ways false refl h)
open_among k d (p ∷ ps) o h = go (or_cases _ _ h) (open_among k d ps (λ q m. o q (or_right (p == q) _ m)))
  where
    go : (same d (Move p) ≡ true) ⊎ (is_among d (moves_of ps) ≡ true) → (is_among d (moves_of ps) ≡ true → k d ≡ None) → k d ≡ None
    go (inl e) _ = subst (λ (x : Decision). k x ≡ None) (sym (same_is d (Move p) e)) (o p (or_left _ _ (eq-eqb p p refl)))
    go (inr m) f = f m

moves_among : (d : Decision) (ps : List ℕ) → is_among d (moves_of ps) ≡ true → is_move d ≡ true
moves_among (Move p) ps h = refl
moves_among (Path p) [] h = h
moves_among (Path p) (q ∷ ps) h = moves_among (Path p) ps h
moves_among (Support p) [] h = h
moves_among (Support p) (q ∷ ps) h = moves_among (Support p) ps h

module _ (s : Situation) (i : IsSituation s) (k : Known) (z : IsStarted s k) (n : NoneForced s k) where
  -- a move that waits for another equals it
  waiting_follows : (p q : ℕ) → k (Move p) ≡ None → waits_for s k p ≡ Some q → Follows (rule s) k (Move p) (Move q)
  waiting_follows p q o w =
      let e = waits_is s k p q w in
      let t = some_is (s.target q) (open_decided s i k z n (Move q) e.1) in
      follows_one s i k z n (Move p) (Move q) o e.1 (at_is (s.target p) q e.0) (λ c m u. moves_alone s i k z n p q t.0 e.0 t.1 c m u)

  linked : (first : ℕ) (ps : List ℕ) → AreWaiting s k ps first → AreOpen k ps → AreLinked (rule s) k (Move first) (moves_of ps)
  linked first [] w o = tt
  linked first (p ∷ []) w o = (waiting_follows p first (o p (or_left _ _ (eq-eqb p p refl))) w.0, tt)
  linked first (p ∷ q ∷ ps) w o = (waiting_follows p q (o p (or_left _ _ (eq-eqb p p refl))) w.0, linked first (q ∷ ps) w.1 (λ x m. o x (or_right (p == x) _ m)))

  -- a ring of waiting moves is a circle
  pub ring_circle : (ps : List ℕ) → IsRing s k ps → IsCircle (rule s) k (moves_of ps)
  ring_circle ps r = record {
    two = two r.rest refl;
    distinct = r.distinct;
    moves = λ d h. moves_among d ps h;
    unknown = λ d h. open_among k d ps r.unknown h;
    round = rw r.shape (linked r.first (r.first ∷ r.rest) (rw r.shape at r.waiting) (λ p h. r.unknown p (rw r.shape h)));
  }
    where
      two : (rest : List ℕ) → r.rest ≡ rest → 2 ≤ length (moves_of ps)
      two [] e =
          let w : AreWaiting s k (r.first ∷ []) r.first = rw (r.shape, e) at r.waiting in
          let t = waits_is s k r.first r.first w.0 in
          absurd (both_ways _ (i.elsewhere r.first) (at_is (s.target r.first) r.first t.0))
      two (q ∷ qs) e = rw (r.shape, e) (omega arith)

  -- from a circle's moves one never leaves
  never : (ds : List Decision) → IsCircle (rule s) k ds → (fuel p : ℕ) → is_among (Move p) ds ≡ true → leaves s k fuel p ≡ true → ⊥
  never ds c zero p m l = both_ways false refl l
  never ds c (suc fuel) p m l = onto x.next refl x.inside x.follows (never ds c fuel)
    where
      x : Next (rule s) k (Move p) ds
      x = next_in (rule s) k ds (Move p) c.round m

      onto : (d : Decision) → x.next ≡ d → is_among d ds ≡ true → Follows (rule s) k (Move p) d → ((q : ℕ) → is_among (Move q) ds ≡ true → leaves s k fuel q ≡ true → ⊥) → ⊥
      onto (Path q) e h f go = both_ways false refl (c.moves (Path q) h)
      onto (Support q) e h f go = both_ways false refl (c.moves (Support q) h)
      onto (Move q) e h f go =
          let o = c.unknown (Move q) h in
          let t = follows_target s i k p q o f in
          let w : waits_for s k p ≡ Some q = rw (t, o) refl in
          go q h (rw w at l)

  pub no_circle : ((p : ℕ) → is_listed s.places p ≡ true → k (Move p) ≡ None → (fuel : ℕ) × (leaves s k fuel p ≡ true)) → NoCircle s k
  no_circle h [] c = absurd (c.round)
  no_circle h (Path p ∷ ds) c = both_ways false refl (c.moves (Path p) (or_left _ _ (same_self (Path p))))
  no_circle h (Support p ∷ ds) c = both_ways false refl (c.moves (Support p) (or_left _ _ (same_self (Support p))))
  no_circle h (Move p ∷ ds) c =
      let o = c.unknown (Move p) (or_left _ _ (same_self (Move p))) in
      let t = some_is (s.target p) (open_decided s i k z n (Move p) o) in
      let l = h p (i.listed p t.0 (at_is (s.target p) t.0 t.1)) o in
      never (Move p ∷ ds) c l.0 p (or_left _ _ (same_self (Move p))) l.1

-- the open paths of the places

listed_open : (k : Known) (ps : List ℕ) (p : ℕ) → is_listed (open_paths k ps) p ≡ (is_unknown (k (Path p)) && is_listed ps p)
listed_open k ps p = listed_kept (λ x. is_unknown (k (Path x))) ps p

path_listed : (s : Situation) → IsSituation s → (k : Known) → IsStarted s k → (p : ℕ) → k (Path p) ≡ None → is_listed s.places p ≡ true
path_listed s i k z p o = go (cases_Bool (s.convoyed p))
  where
    go : (s.convoyed p ≡ true) ⊎ (s.convoyed p ≡ false) → is_listed s.places p ≡ true
    go (inl c) = let t = some_is (s.target p) (i.sailor_moves p c) in i.listed p t.0 (at_is (s.target p) t.0 t.1)
    go (inr c) = let e = z (Path p) c in absurd (cc)

pub open_is_listed : (s : Situation) → IsSituation s → (k : Known) → IsStarted s k → (p : ℕ) → k (Path p) ≡ None → is_listed (open_paths k s.places) p ≡ true
open_is_listed s i k z p o = rw (listed_open k s.places p, o, path_listed s i k z p o) refl

pub listed_is_open : (k : Known) (ps : List ℕ) (p : ℕ) → is_listed (open_paths k ps) p ≡ true → k (Path p) ≡ None
listed_is_open k ps p h = unknown_is _ (and_parts _ _ (rw (listed_open k ps p) at h)).0

kept_single : (t : ℕ → Bool) (ps : List ℕ) → are_provs_single ps ≡ true → are_provs_single (filter t ps) ≡ true
kept_single t [] h = refl
kept_single t (p ∷ ps) h = go (cases_Bool (t p)) (kept_single t ps e.1)
  where
    e : (not (list_any (λ q. q == p) ps) ≡ true) × (are_provs_single ps ≡ true)
    e = and_parts _ _ h

    away : list_any (λ q. q == p) (filter t ps) ≡ false
    away = listed_kept t ps p ∙ rw (not-true _ e.0) (off (t p))
      where
        off : (b : Bool) → (b && false) ≡ false
        off true = refl
        off false = refl

    go : (t p ≡ true) ⊎ (t p ≡ false) → are_provs_single (filter t ps) ≡ true → are_provs_single (filter t (p ∷ ps)) ≡ true
    go (inl y) r = rw (y, away, r) refl
    go (inr y) r = rw y r

pub open_single : (s : Situation) → IsSituation s → (k : Known) → are_provs_single (open_paths k s.places) ≡ true
open_single s i k = kept_single (λ x. is_unknown (k (Path x))) s.places i.distinct

paths_among : (d : Decision) (ps : List ℕ) → is_among d (paths_of ps) ≡ true → is_path d ≡ true
paths_among (Path p) ps h = refl
paths_among (Move p) [] h = h
paths_among (Move p) (q ∷ ps) h = paths_among (Move p) ps h
paths_among (Support p) [] h = h
paths_among (Support p) (q ∷ ps) h = paths_among (Support p) ps h

module _ (s : Situation) (i : IsSituation s) (k : Known) (z : IsStarted s k) (n : NoneForced s k) (c : NoCircle s k) where
  among_open : (d : Decision) → (is_among d (paths_of (open_paths k s.places)) ≡ true) ↔ IsOpenPath k d
  among_open (Path p) = (λ h. (refl, listed_is_open k s.places p (sym (among_paths (open_paths k s.places) p) ∙ h)), λ o. among_paths (open_paths k s.places) p ∙ open_is_listed s i k z p o.1)
  among_open (Move p) = (λ h. absurd (both_ways false refl (paths_among (Move p) (open_paths k s.places) h)), λ o. absurd (both_ways false refl o.0))
  among_open (Support p) = (λ h. absurd (both_ways false refl (paths_among (Support p) (open_paths k s.places) h)), λ o. absurd (both_ways false refl o.0))

  pub knotted : (d : Decision) → IsOpenPath k d → IsKnotted (mentions s) k d
  knotted (Path p) o = (o, λ e u r. back e u r)
    where
      back : (e : Decision) → IsOpenPath k e → Reaches (mentions s) k (Path p) e → Reaches (mentions s) k e (Path p)
      back (Path q) u r = reached_back s i k z n p q o.1 u.1 r
      back (Move q) u r = absurd (both_ways false refl u.0)
      back (Support q) u r = absurd (both_ways false refl u.0)
  knotted (Move p) o = absurd (both_ways false refl o.0)
  knotted (Support p) o = absurd (both_ways false refl o.0)

  -- the open paths are the knot
  pub open_knot : (d : Decision) → k d ≡ None → IsKnot (rule s) (mentions s) k (paths_of (open_paths k s.places))
  open_knot d o = record {
    stuck = record { some = d; is_open = o; none_forced = n; no_circle = c };
    distinct = single_paths (open_paths k s.places) (open_single s i k);
    exact = λ e. (λ h. knotted e ((among_open e).0 h), λ m. (among_open e).1 m.0);
  }

  -- without an open path all is known
  pub all_known : open_paths k s.places ≡ [] → (d : Decision) → (v : Bool) × (k d ≡ Some v)
  all_known e d = go (known_or_open (k d))
    where
      go : (k d ≡ None) ⊎ ((v : Bool) × (k d ≡ Some v)) → (v : Bool) × (k d ≡ Some v)
      go (inr v) = v
      go (inl o) =
          let a = arrives s i k z n c d o in
          let h = (among_open a.path).1 a.is_open in
          absurd (both_ways false refl (rw e at h))

-- a turn of each kind

pub circle_turn : (s : Situation) (x : List Step) (k : Known) (p : ℕ) (ps : List ℕ) → IsSituation s → IsStarted s k → IsCircle (rule s) k (moves_of (p ∷ ps)) → IsTurn s true x k (x ++ Circle (moves_of (p ∷ ps)) ∷ []) (give k (moves_of (p ∷ ps)) true)
circle_turn s x k p ps i z c = record {
  explained = λ first h. one_circle (rule s) (mentions s) first k x (moves_of (p ∷ ps)) c h;
  given = record {
    grows = give_grows k (moves_of (p ∷ ps)) true c.unknown;
    one = Move p;
    inside = listed_decision s i k z (Move p) o;
    before = o;
    value = true;
    after = rw (same_self (Move p)) refl;
  };
}
  where
    o : k (Move p) ≡ None
    o = c.unknown (Move p) (or_left _ _ (same_self (Move p)))

pub knot_turn : (s : Situation) (x : List Step) (k : Known) (p : ℕ) (ps : List ℕ) → IsSituation s → IsStarted s k → IsKnot (rule s) (mentions s) k (paths_of (p ∷ ps)) → IsTurn s true x k (x ++ Knot (paths_of (p ∷ ps)) ∷ []) (give k (paths_of (p ∷ ps)) false)
knot_turn s x k p ps i z c = record {
  explained = λ first h. one_knot (rule s) (mentions s) first k x (paths_of (p ∷ ps)) c h;
  given = record {
    grows = give_grows k (paths_of (p ∷ ps)) false (knot_open (rule s) (mentions s) k (paths_of (p ∷ ps)) c);
    one = Path p;
    inside = listed_decision s i k z (Path p) o;
    before = o;
    value = false;
    after = rw (same_self (Path p)) refl;
  };
}
  where
    o : k (Path p) ≡ None
    o = knot_open (rule s) (mentions s) k (paths_of (p ∷ ps)) c (Path p) (or_left _ _ (same_self (Path p)))

pub turn_smaller : (s : Situation) (any : Bool) (x y : List Step) (k l : Known) → IsTurn s any x k y l → cond any (1 + open_decisions l (decisions s.places)) 0 < 1 + open_decisions k (decisions s.places)
turn_smaller s true x y k l t = let f = fewer (decisions s.places) k l t.given in omega arith
turn_smaller s false x y k l t = omega arith

pub turn_reached : (s : Situation) (any : Bool) (x y : List Step) (k l : Known) → IsTurn s any x k y l → Continues (rule s) (mentions s) (at_first s) x k → IsReached s any y l
turn_reached s true x y k l t c = t.explained (at_first s) c
turn_reached s false x y k l t c = record { explained = t.explained (at_first s) c; all = t.given }

pub last_turn : (s : Situation) (x : List Step) (k l : Known) → l ≡ k → ((d : Decision) → (v : Bool) × (k d ≡ Some v)) → IsTurn s false x k x l
last_turn s x k l e a = record { explained = λ first c. rw e c; given = λ d. let v = a d in (v.0, rw e v.1) }

pub ring_some : (s : Situation) (k : Known) (ps : List ℕ) → IsRing s k ps → IsNonEmpty ps
ring_some s k ps r = (r.first, r.rest, r.shape)

pub not_empty : (ps : List ℕ) → 1 ≤ length ps → IsNonEmpty ps
not_empty [] h = absurd (omega arith)
not_empty (p ∷ ps) h = (p, ps, refl)

pub is_nothing : (ps : List ℕ) → length ps ≡ 0 → ps ≡ []
is_nothing [] h = refl
is_nothing (p ∷ ps) h = absurd (omega arith)

pub some_open : (s : Situation) (k : Known) (ps : List ℕ) → ps ≡ open_paths k s.places → IsNonEmpty ps → (d : Decision) × (k d ≡ None)
some_open s k ps e n = (Path n.0, listed_is_open k s.places n.0 (rw (← e, n.2) (or_left _ _ (eq-eqb n.0 n.0 refl))))

pub circle_taken : (s : Situation) (x : List Step) (k : Known) (ps : List ℕ) → IsSituation s → IsStarted s k → IsNonEmpty ps → IsCircle (rule s) k (moves_of ps) → IsTurn s true x k (x ++ Circle (moves_of ps) ∷ []) (give k (moves_of ps) true)
circle_taken s x k ps i z n c = rw n.2 (circle_turn s x k n.0 n.1 i z (rw n.2 at c))

pub knot_taken : (s : Situation) (x : List Step) (k : Known) (ps : List ℕ) → IsSituation s → IsStarted s k → IsNonEmpty ps → IsKnot (rule s) (mentions s) k (paths_of ps) → IsTurn s true x k (x ++ Knot (paths_of ps) ∷ []) (give k (paths_of ps) false)
knot_taken s x k ps i z n c = rw n.2 (knot_turn s x k n.0 n.1 i z (rw n.2 at c))

pub circle_single : (r : Equation) (k : Known) (ps : List ℕ) → IsCircle r k (moves_of ps) → are_provs_single ps ≡ true
circle_single r k ps c = moves_single ps c.distinct

pub circle_open : (r : Equation) (k : Known) (ps : List ℕ) → IsCircle r k (moves_of ps) → AreOpen k ps
circle_open r k ps c p h = c.unknown (Move p) (among_moves ps p ∙ h)

pub knot_single : (r : Equation) (m : Mentions) (k : Known) (ps : List ℕ) → IsKnot r m k (paths_of ps) → are_provs_single ps ≡ true
knot_single r m k ps c = paths_single ps c.distinct

pub knot_opened : (r : Equation) (m : Mentions) (k : Known) (ps : List ℕ) → IsKnot r m k (paths_of ps) → ArePathsOpen k ps
knot_opened r m k ps c p h = knot_open r m k (paths_of ps) c (Path p) (among_paths ps p ∙ h)

pub some_there : (n : ℕ) → (n == 0) ≡ false → 1 ≤ n
some_there n h = grind (arith, nat_tests)

-- what holds with each good answer holds more
pub on_ok_more : {A E : Type 0} (P Q : Type 0) (r : Result A E) → (P → Q) → OnOk r P → OnOk r Q
on_ok_more P Q (Ok a) f h = f h
on_ok_more P Q (Err e) f h = h
