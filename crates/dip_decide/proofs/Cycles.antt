-- Moves by land that go round, three or more, succeed where no other move goes to their provinces.
use Rattle.std.proofs.Common.{◌≡◌, ℕ, ◌<◌, ◌+◌, List, [], ◌∷◌, length, refl, sym, subst, ap, ◌∙◌, inl, inr, suc, arith}
use Rattle.std.specs.Prelude.{◌==◌, nat_lt, Bool, true, false, ◌&&◌, ◌||◌, not, if◌then◌else◌}
use Rattle.std.specs.List.{list_all}
use Rattle.std.proofs.lemmas.Bool.{cases_Bool, both_ways, or_cases, or_left, or_right, and_parts, and_from, eqb-true, eq-eqb}
use Rattle.std.proofs.lemmas.Bool.Decides.{nat_tests}
use mathlib.Core.Logic.{◌⊎◌}
use Rattle.dip_decide_rules.specs.declared.decisions.Decision.{Decision}
use Rattle.dip_decide_rules.specs.declared.decisions.Decision.TheVariants.{Move, Path, Support}
use Rattle.dip_decide_rules.specs.Deciding.{same, is_among, Assignment, Known, Equation, Mentions, IsForced, Step, give, Explains, is_broken}
use Rattle.dip_decide_rules.specs.Deciding.Step.{Forced, Circle, Knot}
use Rattle.dip_decide_rules.specs.Laws.{AreGoing, IsCycle}
use Rattle.dip_decide_rules.specs.Movement.{Situation, is_listed, goes, has_move, head_to_head, support, support_against, attack, hold, opposition, beats, rule, mentions, at_first, Satisfies}
use Rattle.dip_decide_rules.specs.Results.{AreExplained}
use Rattle.dip_decide_rules.specs.Rings.{first_or, AreOpen}
use Rattle.dip_decide_rules.specs.Steps.{moves_of}
use Rattle.dip_decide_rules.proofs.FromSteps.{satisfied, explains_completes}
use Rattle.dip_decide_rules.proofs.Giving.{single_moves}
use Rattle.dip_decide_rules.proofs.OneAnswer.{same_is, fill, fill_completes, fill_there, give_open}
use Rattle.dip_decide_rules.proofs.Progress.{is_at_is, no_more}
use Rattle.dip_decide_rules.proofs.RingLaws.{among_moves}

less : (m n : ℕ) → m < n → nat_lt m n ≡ true
less m n h = grind (arith, nat_tests)

-- round the cycle

-- what goes on from move to move holds of all after one of them, and of the end
behind : (s : Situation) (P : ℕ → Type 0) → ((x y : ℕ) → goes s x y ≡ true → P x → P y) → (end : ℕ) (ps : List ℕ) → AreGoing s end ps → P (first_or end ps) → P end
behind s P on end [] g h = h
behind s P on end (p ∷ ps) g h = behind s P on end ps g.1 (on p (first_or end ps) g.0 h)

all_behind : (s : Situation) (P : ℕ → Type 0) → ((x y : ℕ) → goes s x y ≡ true → P x → P y) → (end : ℕ) (ps : List ℕ) → AreGoing s end ps → P (first_or end ps) → (y : ℕ) → is_listed ps y ≡ true → P y
all_behind s P on end [] g h y m = absurd (both_ways false refl m)
all_behind s P on end (p ∷ ps) g h y m = go (or_cases _ _ m) (all_behind s P on end ps g.1 (on p (first_or end ps) g.0 h) y)
  where
    go : ((p == y) ≡ true) ⊎ (is_listed ps y ≡ true) → (is_listed ps y ≡ true → P y) → P y
    go (inl e) _ = subst P (eqb-true p y e) h
    go (inr e) f = f e

to_end : (s : Situation) (P : ℕ → Type 0) → ((x y : ℕ) → goes s x y ≡ true → P x → P y) → (end : ℕ) (ps : List ℕ) → AreGoing s end ps → (x : ℕ) → is_listed ps x ≡ true → P x → P end
to_end s P on end [] g x m h = absurd (both_ways false refl m)
to_end s P on end (p ∷ ps) g x m h = go (or_cases _ _ m) (to_end s P on end ps g.1 x)
  where
    go : ((p == x) ≡ true) ⊎ (is_listed ps x ≡ true) → (is_listed ps x ≡ true → P x → P end) → P end
    go (inl e) _ = behind s P on end (p ∷ ps) g (subst P (sym (eqb-true p x e)) h)
    go (inr e) f = f e h

-- it holds of all where it holds of one
round_all : (s : Situation) (P : ℕ → Type 0) → ((x y : ℕ) → goes s x y ≡ true → P x → P y) → (first : ℕ) (rest : List ℕ) → AreGoing s first (first ∷ rest) → (x : ℕ) → is_listed (first ∷ rest) x ≡ true → P x → (y : ℕ) → is_listed (first ∷ rest) y ≡ true → P y
round_all s P on first rest g x m h y n = all_behind s P on first (first ∷ rest) g (to_end s P on first (first ∷ rest) g x m h) y n

-- each of a cycle goes to one of it
next_of : (s : Situation) (end : ℕ) (ps : List ℕ) → AreGoing s end ps → (p : ℕ) → is_listed ps p ≡ true → (q : ℕ) × (goes s p q ≡ true) × ((is_listed ps q ≡ true) ⊎ (q ≡ end))
next_of s end [] g p m = absurd (both_ways false refl m)
next_of s end (x ∷ []) g p m = go (or_cases _ _ m)
  where
    go : ((x == p) ≡ true) ⊎ (false ≡ true) → (q : ℕ) × (goes s p q ≡ true) × ((is_listed (x ∷ []) q ≡ true) ⊎ (q ≡ end))
    go (inl e) = (end, subst (λ (z : ℕ). goes s z end ≡ true) (eqb-true x p e) g.0, inr refl)
    go (inr e) = absurd (both_ways false refl e)
next_of s end (x ∷ y ∷ ys) g p m = go (or_cases _ _ m) (next_of s end (y ∷ ys) g.1 p)
  where
    wider : (q : ℕ) → (is_listed (y ∷ ys) q ≡ true) ⊎ (q ≡ end) → (is_listed (x ∷ y ∷ ys) q ≡ true) ⊎ (q ≡ end)
    wider q (inl e) = inl (or_right (x == q) _ e)
    wider q (inr e) = inr e

    go : ((x == p) ≡ true) ⊎ (is_listed (y ∷ ys) p ≡ true) → (is_listed (y ∷ ys) p ≡ true → (q : ℕ) × (goes s p q ≡ true) × ((is_listed (y ∷ ys) q ≡ true) ⊎ (q ≡ end))) → (q : ℕ) × (goes s p q ≡ true) × ((is_listed (x ∷ y ∷ ys) q ≡ true) ⊎ (q ≡ end))
    go (inl e) _ = (y, subst (λ (z : ℕ). goes s z y ≡ true) (eqb-true x p e) g.0, inl (or_right (x == y) _ (or_left _ _ (eq-eqb y y refl))))
    go (inr e) f = let r = f e in (r.0, r.1, wider r.0 r.2)

-- who goes goes to one province
goes_once : (s : Situation) (p q r : ℕ) → goes s p q ≡ true → goes s p r ≡ true → q ≡ r
goes_once s p q r g h = let a = is_at_is (s.target p) q g in let b = is_at_is (s.target p) r h in cc

module _ (s : Situation) (first : ℕ) (rest : List ℕ) (c : IsCycle s first rest) where
  cycle : List ℕ
  cycle = first ∷ rest

  onward_in : (p : ℕ) → is_listed (first ∷ rest) p ≡ true → (q : ℕ) × (goes s p q ≡ true) × (is_listed (first ∷ rest) q ≡ true)
  onward_in p m = let n = next_of s first (first ∷ rest) c.round p m in (n.0, n.1, there n.0 n.2)
    where
      there : (q : ℕ) → (is_listed (first ∷ rest) q ≡ true) ⊎ (q ≡ first) → is_listed (first ∷ rest) q ≡ true
      there q (inl e) = e
      there q (inr e) = or_left _ _ (eq-eqb first q (sym e))

  -- two of them don't change places
  no_swap : (p q : ℕ) → is_listed (first ∷ rest) p ≡ true → goes s p q ≡ true → goes s q p ≡ true → ⊥
  no_swap p q m g h =
      let l = no_more (moves_of (first ∷ rest)) (Move p ∷ Move q ∷ []) (single_moves (first ∷ rest) c.distinct) inside in
      let e = length_moves (first ∷ rest) in
      let t = c.three in
      omega arith
    where
      length_moves : (ps : List ℕ) → length (moves_of ps) ≡ length ps
      length_moves [] = refl
      length_moves (x ∷ ps) = ap suc (length_moves ps)

      turned : (x y : ℕ) → goes s x y ≡ true → (x ≡ p) ⊎ (x ≡ q) → (y ≡ p) ⊎ (y ≡ q)
      turned x y k (inl e) = inr (goes_once s p y q (subst (λ (z : ℕ). goes s z y ≡ true) e k) g)
      turned x y k (inr e) = inl (goes_once s q y p (subst (λ (z : ℕ). goes s z y ≡ true) e k) h)

      which : (x : ℕ) → is_listed (first ∷ rest) x ≡ true → (x ≡ p) ⊎ (x ≡ q)
      which x n = round_all s (λ z. (z ≡ p) ⊎ (z ≡ q)) turned first rest c.round p m (inl refl) x n

      two : (x : ℕ) → (x ≡ p) ⊎ (x ≡ q) → is_among (Move x) (Move p ∷ Move q ∷ []) ≡ true
      two x (inl e) = or_left _ _ (eq-eqb x p e)
      two x (inr e) = or_right (x == p) _ (or_left _ _ (eq-eqb x q e))

      no_path : (ps : List ℕ) (x : ℕ) → is_among (Path x) (moves_of ps) ≡ false
      no_path [] x = refl
      no_path (y ∷ ys) x = no_path ys x

      no_support : (ps : List ℕ) (x : ℕ) → is_among (Support x) (moves_of ps) ≡ false
      no_support [] x = refl
      no_support (y ∷ ys) x = no_support ys x

      inside : (d : Decision) → is_among d (moves_of (first ∷ rest)) ≡ true → is_among d (Move p ∷ Move q ∷ []) ≡ true
      inside (Move x) n = two x (which x (sym (among_moves (first ∷ rest) x) ∙ n))
      inside (Path x) n = absurd (both_ways _ (no_path (first ∷ rest) x) n)
      inside (Support x) n = absurd (both_ways _ (no_support (first ∷ rest) x) n)

  -- a move of the cycle succeeds by its rule where the next one does
  strong : (occupied m same : Bool) (n f : ℕ) → m ≡ true → 0 < (if not true then 0 else if not occupied || (m && not false) then 1 + n else if same then 0 else 1 + f)
  strong true true same n f e = omega arith
  strong false m same n f e = omega arith
  strong true false same n f e = absurd (both_ways false refl e)

  empty_hold : (occupied m move : Bool) (n : ℕ) → m ≡ true → (if not occupied || m then 0 else if move then 1 else n) ≡ 0
  empty_hold true true move n e = refl
  empty_hold false m move n e = refl
  empty_hold true false move n e = absurd (both_ways false refl e)

  free : (b : Assignment) (p q : ℕ) → is_listed (first ∷ rest) p ≡ true → goes s p q ≡ true → b (Move q) ≡ true → rule s (Move p) b ≡ true
  free b p q m g t = rw (is_at_is (s.target p) q g) (and_from _ _ (unopposed s.places) beaten)
    where
      apart : head_to_head s p q ≡ false
      apart = go (cases_Bool (head_to_head s p q))
        where
          go : (head_to_head s p q ≡ true) ⊎ (head_to_head s p q ≡ false) → head_to_head s p q ≡ false
          go (inr e) = e
          go (inl e) = absurd (no_swap p q m g (and_parts (goes s p q) (goes s q p) (and_parts (goes s p q && goes s q p) _ e).0).1)

      unopposed : (ws : List ℕ) → list_all (beats s b p q) ws ≡ true
      unopposed [] = refl
      unopposed (w ∷ ws) = and_from _ _ (one (cases_Bool (goes s w q))) (unopposed ws)
        where
          one : (goes s w q ≡ true) ⊎ (goes s w q ≡ false) → beats s b p q w ≡ true
          one (inl e) = or_left _ _ (or_left _ _ (eq-eqb w p (c.alone p w q m g e)))
          one (inr e) = or_left _ _ (or_right (w == p) _ (rw e refl))

      power : 0 < attack s b p q
      power = rw (apart, c.by_land p m) (strong (s.is_occupied q) (b (Move q)) (s.same_power p q) (support s b p) (support_against s b p q) t)

      nothing : hold s b q ≡ 0
      nothing = empty_hold (s.is_occupied q) (b (Move q)) (has_move s q) (1 + support s b q) t

      beaten : nat_lt (opposition s b p q) (attack s b p q) ≡ true
      beaten =
          let e : opposition s b p q ≡ 0 = rw apart nothing in
          let l = power in
          less (opposition s b p q) (attack s b p q) (omega arith)

  -- and where a move of it fails, so does the next
  fails_on : (broken : Decision → Bool) (a : Assignment) → ((p : ℕ) → broken (Move p) ≡ false) → Satisfies s broken a → (p q : ℕ) → (is_listed (first ∷ rest) p ≡ true) × (a (Move p) ≡ false) → goes s p q ≡ true → a (Move q) ≡ false
  fails_on broken a u h p q m g = go (cases_Bool (a (Move q)))
    where
      go : (a (Move q) ≡ true) ⊎ (a (Move q) ≡ false) → a (Move q) ≡ false
      go (inr e) = e
      go (inl e) = absurd (both_ways _ m.1 (h (Move p) ∙ rw (u p) (free a p q m.0 g e)))

  -- while all of them are open, the steps give true to one of them first
  module _ (a : Assignment) (all_fail : (p : ℕ) → is_listed (first ∷ rest) p ≡ true → a (Move p) ≡ false) where
    still : (k : Known) (ds : List Decision) (b : Bool) → AreOpen k (first ∷ rest) → ((p : ℕ) → is_listed (first ∷ rest) p ≡ true → is_among (Move p) ds ≡ false) → AreOpen (give k ds b) (first ∷ rest)
    still k ds b o n p m = give_open k ds b (Move p) (o p m) (n p m)

    never : (steps : List Step) (k : Known) → AreOpen k (first ∷ rest) → Explains (rule s) (mentions s) k steps a → ⊥
    never [] k o e = let h = e (Move first) in let n = o first (or_left _ _ (eq-eqb first first refl)) in absurd (cc)
    never (Forced d ∷ steps) k o e = never steps (give k (d ∷ []) (a d)) (still k (d ∷ []) (a d) o (λ p m. or_from_one (Move p) d (other p m (cases_Bool (same (Move p) d))))) e.1
      where
        or_from_one : (x y : Decision) → same x y ≡ false → is_among x (y ∷ []) ≡ false
        or_from_one x y n = rw n refl

        other : (p : ℕ) → is_listed (first ∷ rest) p ≡ true → (same (Move p) d ≡ true) ⊎ (same (Move p) d ≡ false) → same (Move p) d ≡ false
        other p m (inr n) = n
        other p m (inl y) =
            let q : Move p ≡ d = same_is (Move p) d y in
            let f : IsForced (rule s) k (Move p) (a (Move p)) = subst (λ (x : Decision). IsForced (rule s) k x (a x)) (sym q) e.0 in
            let n = onward_in p m in
            let r = f.value _ (fill_completes k (Move n.0) true (o n.0 n.2)) in
            let t = free (fill k (Move n.0) true) p n.0 m n.1 (fill_there k (Move n.0) true) in
            absurd (both_ways _ (all_fail p m) (sym r ∙ t))
    never (Circle ds ∷ steps) k o e = never steps (give k ds true) (still k ds true o (λ p m. other p m (cases_Bool (is_among (Move p) ds)))) e.1
      where
        other : (p : ℕ) → is_listed (first ∷ rest) p ≡ true → (is_among (Move p) ds ≡ true) ⊎ (is_among (Move p) ds ≡ false) → is_among (Move p) ds ≡ false
        other p m (inr n) = n
        other p m (inl y) = absurd (both_ways _ (all_fail p m) (explains_completes (rule s) (mentions s) a steps (give k ds true) e.1 (Move p) true (rw y refl)))
    never (Knot ds ∷ steps) k o e = never steps (give k ds false) (still k ds false o (λ p m. other p (cases_Bool (is_among (Move p) ds)))) e.1
      where
        other : (p : ℕ) → (is_among (Move p) ds ≡ true) ⊎ (is_among (Move p) ds ≡ false) → is_among (Move p) ds ≡ false
        other p (inr n) = n
        other p (inl y) = absurd (both_ways false refl ((e.0.exact (Move p)).0 y).0.0)

-- no move is broken
pub move_unbroken : (r : Equation) (m : Mentions) (a : Assignment) (steps : List Step) (k : Known) → Explains r m k steps a → (p : ℕ) → is_broken steps (Move p) ≡ false
move_unbroken r m a [] k e p = refl
move_unbroken r m a (Forced d ∷ steps) k e p = move_unbroken r m a steps (give k (d ∷ []) (a d)) e.1 p
move_unbroken r m a (Circle ds ∷ steps) k e p = move_unbroken r m a steps (give k ds true) e.1 p
move_unbroken r m a (Knot ds ∷ steps) k e p = rw (other (cases_Bool (is_among (Move p) ds))) (move_unbroken r m a steps (give k ds false) e.1 p)
  where
    other : (is_among (Move p) ds ≡ true) ⊎ (is_among (Move p) ds ≡ false) → is_among (Move p) ds ≡ false
    other (inr n) = n
    other (inl y) = absurd (both_ways false refl ((e.0.exact (Move p)).0 y).0.0)

-- all of a cycle succeed
pub cycle_moves : (s : Situation) (first : ℕ) (rest : List ℕ) → IsCycle s first rest → (steps : List Step) (a : Assignment) → AreExplained s steps a → (p : ℕ) → is_listed (first ∷ rest) p ≡ true → a (Move p) ≡ true
cycle_moves s first rest c steps a e p m = go (cases_Bool (a (Move p)))
  where
    h : Satisfies s (is_broken steps) a
    h = satisfied s steps a e

    u : (p : ℕ) → is_broken steps (Move p) ≡ false
    u = move_unbroken (rule s) (mentions s) a steps (at_first s) e

    -- where one fails, all do
    onwards : (x y : ℕ) → goes s x y ≡ true → (is_listed (first ∷ rest) x ≡ true) × (a (Move x) ≡ false) → (is_listed (first ∷ rest) y ≡ true) × (a (Move y) ≡ false)
    onwards x y g f =
        let n = onward_in s first rest c x f.0 in
        let q = goes_once s x n.0 y n.1 g in
        (subst (λ (z : ℕ). is_listed (first ∷ rest) z ≡ true) q n.2, fails_on s first rest c (is_broken steps) a u h x y f g)

    opened : AreOpen (at_first s) (first ∷ rest)
    opened q n = let x = onward_in s first rest c q n in rw (is_at_is (s.target q) x.0 x.1) refl

    go : (a (Move p) ≡ true) ⊎ (a (Move p) ≡ false) → a (Move p) ≡ true
    go (inl t) = t
    go (inr f) = absurd (never s first rest c a (λ q n. (round_all s (λ z. (is_listed (first ∷ rest) z ≡ true) × (a (Move z) ≡ false)) onwards first rest c.round p m (m, f) q n).1) steps (at_first s) opened e)
