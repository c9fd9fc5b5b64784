-- Values that are given one after the other are given at once.
use Rattle.std.proofs.Common.{◌≡◌, ℕ, ◌<◌, ◌+◌, List, [], ◌∷◌, ◌++◌, length, take, get_or, refl, sym, subst, ap, ◌∙◌, inl, inr, zero, suc, arith}
use Rattle.std.specs.Prelude.{◌==◌, Bool, true, false, ◌||◌, not, None, Some, cond}
use Rattle.std.specs.List.{list_any}
use Rattle.std.proofs.lemmas.Bool.{cases_Bool, both_ways, or_left, or_right, and_parts, not-true, eqb-true, eq-eqb}
use Rattle.std.proofs.lemmas.List.{take_more}
use Rattle.std.proofs.Math.Path.{fun_ext}
use mathlib.Core.Logic.{◌⊎◌}
use Rattle.dip_map.specs.Charts.{are_provs_single}
use Rattle.dip_decide_rules.specs.declared.decisions.Decision.{Decision}
use Rattle.dip_decide_rules.specs.declared.decisions.Decision.TheVariants.{Move, Path}
use Rattle.dip_decide_rules.specs.Deciding.{same, is_among, AreDistinct, Known, give}
use Rattle.dip_decide_rules.specs.Movement.{is_listed}
use Rattle.dip_decide_rules.specs.Steps.{moves_of, paths_of}
use Rattle.dip_decide_rules.proofs.OneAnswer.{give_open}
use Rattle.dip_decide_rules.proofs.RingLaws.{flip, among_moves}

pub among_paths : (ps : List ℕ) (p : ℕ) → is_among (Path p) (paths_of ps) ≡ is_listed ps p
among_paths [] p = refl
among_paths (x ∷ ps) p = rw (flip p x, among_paths ps p) refl

pub single_moves : (ps : List ℕ) → are_provs_single ps ≡ true → AreDistinct (moves_of ps)
single_moves [] h = tt
single_moves (p ∷ ps) h = let e = and_parts _ _ h in (among_moves ps p ∙ not-true _ e.0, single_moves ps e.1)

pub moves_single : (ps : List ℕ) → AreDistinct (moves_of ps) → are_provs_single ps ≡ true
moves_single [] h = refl
moves_single (p ∷ ps) h = rw (sym (among_moves ps p) ∙ h.0, moves_single ps h.1) refl

pub single_paths : (ps : List ℕ) → are_provs_single ps ≡ true → AreDistinct (paths_of ps)
single_paths [] h = tt
single_paths (p ∷ ps) h = let e = and_parts _ _ h in (among_paths ps p ∙ not-true _ e.0, single_paths ps e.1)

pub paths_single : (ps : List ℕ) → AreDistinct (paths_of ps) → are_provs_single ps ≡ true
paths_single [] h = refl
paths_single (p ∷ ps) h = rw (sym (among_paths ps p) ∙ h.0, paths_single ps h.1) refl

-- one of a list stands not before its place
pub listed_at : (ps : List ℕ) (i p : ℕ) → i < length ps → p ≡ get_or ps i p → is_listed ps p ≡ true
listed_at [] i p h e = absurd (omega arith)
listed_at (x ∷ ps) zero p h e = or_left (x == p) (is_listed ps p) (eq-eqb x p (sym e))
listed_at (x ∷ ps) (suc i) p h e = or_right (x == p) _ (listed_at ps i p (omega arith) e)

pub not_before : (ps : List ℕ) (i p : ℕ) → are_provs_single ps ≡ true → i < length ps → p ≡ get_or ps i p → is_listed (take i ps) p ≡ false
not_before [] i p s h e = absurd (omega arith)
not_before (x ∷ ps) zero p s h e = refl
not_before (x ∷ ps) (suc i) p s h e = go (cases_Bool (x == p)) (not_before ps i p a.1 (omega arith) e)
  where
    a : (not (list_any (λ q. q == x) ps) ≡ true) × (are_provs_single ps ≡ true)
    a = and_parts _ _ s

    go : ((x == p) ≡ true) ⊎ ((x == p) ≡ false) → is_listed (take i ps) p ≡ false → (x == p || is_listed (take i ps) p) ≡ false
    go (inr n) r = rw n r
    go (inl y) r = absurd (both_ways _ (not-true _ a.0) (subst (λ (z : ℕ). is_listed ps z ≡ true) (sym (eqb-true x p y)) (listed_at ps i p (omega arith) e)))

-- one more of one value
pub among_more : (e : Decision) (ds : List Decision) (d : Decision) → is_among e (ds ++ d ∷ []) ≡ (is_among e ds || same e d)
among_more e [] d = or_false (same e d)
  where
    or_false : (b : Bool) → (b || false) ≡ b
    or_false true = refl
    or_false false = refl
among_more e (x ∷ ds) d = rw (among_more e ds d) (either (same e x) (is_among e ds) (same e d))
  where
    either : (a b c : Bool) → (a || (b || c)) ≡ ((a || b) || c)
    either true b c = refl
    either false b c = refl

pub give_more : (k : Known) (ds : List Decision) (d : Decision) (b : Bool) → give (give k ds b) (d ∷ []) b ≡ give k (ds ++ d ∷ []) b
give_more k ds d b = fun_ext (λ e. rw (among_more e ds d) (one e (same e d) (is_among e ds)))
  where
    one : (e : Decision) (x y : Bool) → cond (x || false) (Some b) (cond y (Some b) (k e)) ≡ cond (y || x) (Some b) (k e)
    one e true true = refl
    one e true false = refl
    one e false true = refl
    one e false false = refl

pub moves_push : (ps : List ℕ) (p : ℕ) → moves_of (ps ++ p ∷ []) ≡ moves_of ps ++ Move p ∷ []
moves_push [] p = refl
moves_push (x ∷ ps) p = ap (λ (ds : List Decision). Move x ∷ ds) (moves_push ps p)

pub paths_push : (ps : List ℕ) (p : ℕ) → paths_of (ps ++ p ∷ []) ≡ paths_of ps ++ Path p ∷ []
paths_push [] p = refl
paths_push (x ∷ ps) p = ap (λ (ds : List Decision). Path x ∷ ds) (paths_push ps p)

pub give_move : (k : Known) (ps : List ℕ) (i p : ℕ) (b : Bool) → i < length ps → p ≡ get_or ps i p → give (give k (moves_of (take i ps)) b) (Move p ∷ []) b ≡ give k (moves_of (take (i + 1) ps)) b
give_move k ps i p b h e =
    let cut : take (i + 1) ps ≡ take i ps ++ p ∷ [] = take_more ps i p h ∙ ap (λ (x : ℕ). take i ps ++ x ∷ []) (sym e) in
    rw (cut, moves_push (take i ps) p) (give_more k (moves_of (take i ps)) (Move p) b)

pub give_path : (k : Known) (ps : List ℕ) (i p : ℕ) (b : Bool) → i < length ps → p ≡ get_or ps i p → give (give k (paths_of (take i ps)) b) (Path p ∷ []) b ≡ give k (paths_of (take (i + 1) ps)) b
give_path k ps i p b h e =
    let cut : take (i + 1) ps ≡ take i ps ++ p ∷ [] = take_more ps i p h ∙ ap (λ (x : ℕ). take i ps ++ x ∷ []) (sym e) in
    rw (cut, paths_push (take i ps) p) (give_more k (paths_of (take i ps)) (Path p) b)

-- the next one is open still
pub move_open : (k : Known) (ps : List ℕ) (i p : ℕ) (b : Bool) → are_provs_single ps ≡ true → i < length ps → p ≡ get_or ps i p → ((q : ℕ) → is_listed ps q ≡ true → k (Move q) ≡ None) → give k (moves_of (take i ps)) b (Move p) ≡ None
move_open k ps i p b s h e o = give_open k (moves_of (take i ps)) b (Move p) (o p (listed_at ps i p h e)) (among_moves (take i ps) p ∙ not_before ps i p s h e)

pub path_open : (k : Known) (ps : List ℕ) (i p : ℕ) (b : Bool) → are_provs_single ps ≡ true → i < length ps → p ≡ get_or ps i p → ((q : ℕ) → is_listed ps q ≡ true → k (Path q) ≡ None) → give k (paths_of (take i ps)) b (Path p) ≡ None
path_open k ps i p b s h e o = give_open k (paths_of (take i ps)) b (Path p) (o p (listed_at ps i p h e)) (among_paths (take i ps) p ∙ not_before ps i p s h e)
