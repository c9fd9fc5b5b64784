-- What the decision equations say of one move and of one support.
use Rattle.std.proofs.Common.{◌≡◌, ℕ, ◌+◌, ◌<◌, ◌≤◌, ◌⊎◌, inl, inr, List, [], ◌∷◌, refl, sym, ap, ◌∙◌, arith}
use Rattle.std.specs.Prelude.{◌==◌, nat_lt, Bool, true, false, not, ◌&&◌, ◌||◌, Option, None, Some, is_some, if◌then◌else◌}
use Rattle.std.specs.List.{list_all}
use Rattle.std.proofs.lemmas.Bool.{ltb-true, eqb-true, or_cases, or_left, or_right, cases_Bool, both_ways, and_parts, and_from, not-true}
use Rattle.std.proofs.lemmas.Bool.Decides.{nat_tests}
use Rattle.dip_decide.specs.Decision.{Decision}
use Rattle.dip_decide.specs.Decision.TheVariants.{Move, Support}
use Rattle.dip_decide.specs.Deciding.{Assignment, Equation, Known, Mentions, Step, Explains, is_among, is_broken, is_path}
use Rattle.dip_decide.specs.Deciding.Step.{Forced, Circle, Knot}
use Rattle.dip_decide.specs.Movement.{Situation, is_at, goes, has_move, has_path, head_to_head, support, support_against, attack, prevent, opposition, beats, succeeds, move_rule, cuts, is_support, rule, is_listed, Satisfies}
use Rattle.dip_decide_laws.proofs.ListLemmas.{all_at, all_each, one_fails, count_fewer}

-- knots break paths alone
pub broken_paths : (rule : Equation) (mentions : Mentions) (a : Assignment) (steps : List Step) (k : Known) → Explains rule mentions k steps a → (d : Decision) → is_broken steps d ≡ true → is_path d ≡ true
broken_paths rule mentions a [] k e d h = absurd (both_ways false refl h)
broken_paths rule mentions a (Forced x ∷ steps) k e d h = broken_paths rule mentions a steps _ e.1 d h
broken_paths rule mentions a (Circle xs ∷ steps) k e d h = broken_paths rule mentions a steps _ e.1 d h
broken_paths rule mentions a (Knot xs ∷ steps) k e d h = go (or_cases _ _ h) (broken_paths rule mentions a steps _ e.1 d)
  where
    go : (is_among d xs ≡ true) ⊎ (is_broken steps d ≡ true) → (is_broken steps d ≡ true → is_path d ≡ true) → is_path d ≡ true
    go (inl x) f = ((e.0.exact d).0 x).0.0
    go (inr x) f = f x

unbroken : (b : Bool) → (b ≡ true → false ≡ true) → b ≡ false
unbroken true f = sym (f refl)
unbroken false f = refl

both_true : (b : Bool) → b ≡ false → (x : Bool) → (not b && x) ≡ x
both_true true e x = absurd (both_ways true e refl)
both_true false e x = refl

-- over plain values

attack_path : (path : Bool) (n k : ℕ) → k < (if not path then 0 else n) → path ≡ true
attack_path true n k h = refl
attack_path false n k h = absurd (omega arith)

-- a unit that stays is beaten by another power's move alone, with more support of other powers
pub record Beaten (same move face : Bool) (f k : ℕ) : Type 0 where
  pub foreign : same ≡ false
  pub helped : 0 < f
  pub stayed : move ≡ false → k < f
  pub faced : face ≡ true → k < f

beaten : (path occupied m face same move : Bool) (n f k : ℕ) → occupied ≡ true → m ≡ false
    → (if face then 1 + k else (if not occupied || m then 0 else if move then 1 else 1 + k)) < (if not path then 0 else if not occupied || (m && not face) then 1 + n else if same then 0 else 1 + f)
    → Beaten same move face f k
beaten path false m face same move n f k e g h = absurd (both_ways false refl e)
beaten path true true face same move n f k e g h = absurd (both_ways true g refl)
beaten false true false face same move n f k e g h = absurd (omega arith)
beaten true true false face true move n f k e g h = absurd (omega arith)
beaten true true false true false move n f k e g h = record { foreign = refl; helped = omega arith; stayed = λ _. omega arith; faced = λ _. omega arith }
beaten true true false false false true n f k e g h = record { foreign = refl; helped = omega arith; stayed = λ x. absurd (both_ways true x refl); faced = λ x. absurd (both_ways false refl x) }
beaten true true false false false false n f k e g h = record { foreign = refl; helped = omega arith; stayed = λ _. omega arith; faced = λ _. omega arith }

free_attack : (path occupied m face same : Bool) (n f : ℕ) → path ≡ true → m ≡ true → face ≡ false → (if not path then 0 else if not occupied || (m && not face) then 1 + n else if same then 0 else 1 + f) ≡ 1 + n
free_attack path false m face same n f p e g = rw p refl
free_attack path true m face same n f p e g = rw (p, e, g) refl

left_hold : (occupied m move : Bool) (n : ℕ) → m ≡ true → (if not occupied || m then 0 else if move then 1 else 1 + n) ≡ 0
left_hold false m move n e = refl
left_hold true m move n e = rw e refl

least_of : (b : Bool) (n : ℕ) → (if b then 0 else 1 + n) ≤ 1 + n
least_of true n = omega arith
least_of false n = omega arith

attack_most : (path occupied m face same : Bool) (n f : ℕ) → f ≤ n → (if not path then 0 else if not occupied || (m && not face) then 1 + n else if same then 0 else 1 + f) ≤ 1 + n
attack_most false occupied m face same n f h = omega arith
attack_most true false m face same n f h = omega arith
attack_most true true true false same n f h = omega arith
attack_most true true true true true n f h = omega arith
attack_most true true true true false n f h = omega arith
attack_most true true false face true n f h = omega arith
attack_most true true false face false n f h = omega arith

empty_attack : (path occupied m face same : Bool) (n f : ℕ) → path ≡ true → occupied ≡ false → (if not path then 0 else if not occupied || (m && not face) then 1 + n else if same then 0 else 1 + f) ≡ 1 + n
empty_attack path occupied m face same n f p e = rw (p, e) refl

strong_attack : (path occupied m face same : Bool) (n f : ℕ) → path ≡ true → occupied ≡ true → m ≡ false → same ≡ false → (if not path then 0 else if not occupied || (m && not face) then 1 + n else if same then 0 else 1 + f) ≡ 1 + f
strong_attack path occupied m face same n f p e g h = rw (p, e, g, h) refl

weak_opposition : (face occupied m move : Bool) (k f : ℕ) → 0 < f → (move ≡ false → k < f) → (face ≡ true → k < f) → (if face then 1 + k else (if not occupied || m then 0 else if move then 1 else 1 + k)) ≤ f
weak_opposition true occupied m move k f h s t = let l = t refl in omega arith
weak_opposition false false m move k f h s t = omega arith
weak_opposition false true true move k f h s t = omega arith
weak_opposition false true false true k f h s t = omega arith
weak_opposition false true false false k f h s t = let l = s refl in omega arith

full_prevent : (path beaten : Bool) (n : ℕ) → path ≡ true → beaten ≡ false → (if not path || beaten then 0 else 1 + n) ≡ 1 + n
full_prevent path beaten n p e = rw (p, e) refl

chosen : (c t e : Bool) → (if c then t else e) ≡ true → ((c ≡ true) × (t ≡ true)) ⊎ ((c ≡ false) × (e ≡ true))
chosen true t e h = inl (refl, h)
chosen false t e h = inr (refl, h)

none_at : (o : Option ℕ) → is_some o ≡ false → o ≡ None
none_at None h = refl
none_at (Some x) h = absurd (both_ways true h refl)

-- what cuts a support
pub record Cut (s : Situation) (a : Assignment) (h x : ℕ) : Type 0 where
  pub attacks : goes s x h ≡ true
  pub foreign : s.same_power x h ≡ false
  pub comes : has_path s a x ≡ true
  pub aimed : is_at (s.aim h) x ≡ true → a (Move x) ≡ true

module _ (s : Situation) (broken : Decision → Bool) (paths : (d : Decision) → broken d ≡ true → is_path d ≡ true) (a : Assignment) (holds : Satisfies s broken a) where
  -- who has a move moves by the equation
  pub moved_is : (p q : ℕ) → goes s p q ≡ true → a (Move p) ≡ succeeds s a p q
  moved_is p q g = holds (Move p) ∙ both_true (broken (Move p)) (unbroken _ (paths (Move p))) _ ∙ go (s.target p) g
    where
      go : (o : Option ℕ) → is_at o q ≡ true → move_rule s a p o ≡ succeeds s a p q
      go None e = absurd (both_ways false refl e)
      go (Some t) e = ap (succeeds s a p) (eqb-true t q e)

  pub unmoved : (p : ℕ) → has_move s p ≡ false → a (Move p) ≡ false
  unmoved p h = holds (Move p) ∙ both_true (broken (Move p)) (unbroken _ (paths (Move p))) _ ∙ ap (move_rule s a p) (none_at (s.target p) h)

  pub given_is : (h : ℕ) → a (Support h) ≡ (is_support s h && list_all (λ x. not (cuts s a h x)) s.places)
  given_is h = holds (Support h) ∙ both_true (broken (Support h)) (unbroken _ (paths (Support h))) _

  -- who succeeds overcomes what stands against it
  pub overcomes : (p q : ℕ) → goes s p q ≡ true → a (Move p) ≡ true → opposition s a p q < attack s a p q
  overcomes p q g h = ltb-true _ _ (and_parts _ _ (sym (moved_is p q g) ∙ h)).1

  pub came : (p q : ℕ) → goes s p q ≡ true → a (Move p) ≡ true → has_path s a p ≡ true
  came p q g h = attack_path (has_path s a p) _ _ (overcomes p q g h)

  pub overpowered : (p q : ℕ) → goes s p q ≡ true → a (Move p) ≡ true → s.is_occupied q ≡ true → a (Move q) ≡ false
      → Beaten (s.same_power p q) (has_move s q) (head_to_head s p q) (support_against s a p q) (support s a q)
  overpowered p q g h o n = beaten (has_path s a p) (s.is_occupied q) (a (Move q)) (head_to_head s p q) (s.same_power p q) (has_move s q) (support s a p) (support_against s a p q) (support s a q) o n (overcomes p q g h)

  -- whoever cuts
  cut_parts : (h x : ℕ) → cuts s a h x ≡ true → Cut s a h x
  cut_parts h x c =
      let u = and_parts (goes s x h && not (s.same_power x h)) _ c in
      let v = and_parts (goes s x h) (not (s.same_power x h)) u.0 in
      go v.0 (not-true _ v.1) (chosen (is_at (s.aim h) x) (a (Move x)) (has_path s a x) u.1)
    where
      go : goes s x h ≡ true → s.same_power x h ≡ false → ((is_at (s.aim h) x ≡ true) × (a (Move x) ≡ true)) ⊎ ((is_at (s.aim h) x ≡ false) × (has_path s a x ≡ true)) → Cut s a h x
      go g f (inl e) = record { attacks = g; foreign = f; comes = came x h g e.1; aimed = λ _. e.1 }
      go g f (inr e) = record { attacks = g; foreign = f; comes = e.1; aimed = λ y. absurd (both_ways _ e.0 y) }

  pub was_cut : (h : ℕ) → is_support s h ≡ true → a (Support h) ≡ false → (x : ℕ) × Cut s a h x
  was_cut h i n =
      let f = one_fails (λ x. not (cuts s a h x)) s.places (sym (rw i at (given_is h)) ∙ n) in
      (f.0, cut_parts h f.0 (turned _ f.1))
    where
      turned : (b : Bool) → not b ≡ false → b ≡ true
      turned true e = refl
      turned false e = absurd (both_ways true e refl)

  -- who is given isn't attacked by a move that succeeds, of another power
  pub given_unentered : (h x : ℕ) → is_listed s.places x ≡ true → a (Support h) ≡ true → goes s x h ≡ true → a (Move x) ≡ true → s.same_power x h ≡ false → ⊥
  given_unentered h x l e g v f =
      let w : cuts s a h x ≡ false = not-true _ (all_at (λ x. not (cuts s a h x)) s.places x (and_parts _ _ (sym (given_is h) ∙ e)).1 l) in
      both_ways _ w (cutting (goes s x h) (s.same_power x h) (is_at (s.aim h) x) (a (Move x)) (has_path s a x) g f v (came x h g v))
    where
      cutting : (goes same aimed moved path : Bool) → goes ≡ true → same ≡ false → moved ≡ true → path ≡ true → ((goes && not same) && (if aimed then moved else path)) ≡ true
      cutting goes same true moved path e f u v = rw (e, f) u
      cutting goes same false moved path e f u v = rw (e, f) v

  -- who has more than stands against it succeeds
  pub gets_in_by : (w q k : ℕ) → goes s w q ≡ true → attack s a w q ≡ 1 + k → opposition s a w q ≤ k
      → ((x : ℕ) → goes s x q ≡ true → (x == w) ≡ false → prevent s a x q ≤ k) → a (Move w) ≡ true
  gets_in_by w q k g strength against rivals = moved_is w q g ∙ and_from _ _ (all_each (beats s a w q) s.places beat) (below _ against)
    where
      below : (x : ℕ) → x ≤ k → nat_lt x (attack s a w q) ≡ true
      below x l = grind (arith, nat_tests, strength)

      beat : (x : ℕ) → beats s a w q x ≡ true
      beat x = go (cases_Bool (x == w)) (cases_Bool (goes s x q))
        where
          go : ((x == w) ≡ true) ⊎ ((x == w) ≡ false) → (goes s x q ≡ true) ⊎ (goes s x q ≡ false) → beats s a w q x ≡ true
          go (inl e) _ = or_left _ _ (or_left _ _ e)
          go (inr e) (inr n) = or_left _ _ (or_right (x == w) _ (ap not n))
          go (inr e) (inl y) = or_right (x == w || not (goes s x q)) _ (below _ (rivals x y e))

  -- where the unit there leaves
  pub gets_in : (w q : ℕ) → goes s w q ≡ true → a (Move q) ≡ true → head_to_head s w q ≡ false → has_path s a w ≡ true
      → ((x : ℕ) → goes s x q ≡ true → (x == w) ≡ false → prevent s a x q ≤ support s a w) → a (Move w) ≡ true
  gets_in w q g v f p rivals = gets_in_by w q (support s a w) g strength (let x = against in omega arith) rivals
    where
      strength : attack s a w q ≡ 1 + support s a w
      strength = free_attack (has_path s a w) (s.is_occupied q) (a (Move q)) (head_to_head s w q) (s.same_power w q) (support s a w) (support_against s a w q) p v f

      against : opposition s a w q ≡ 0
      against = rw f (left_hold (s.is_occupied q) (a (Move q)) (has_move s q) (support s a q) v)

  -- where nobody is
  pub gets_in_empty : (w q : ℕ) → goes s w q ≡ true → s.is_occupied q ≡ false → head_to_head s w q ≡ false → has_path s a w ≡ true
      → ((x : ℕ) → goes s x q ≡ true → (x == w) ≡ false → prevent s a x q ≤ support s a w) → a (Move w) ≡ true
  gets_in_empty w q g v f p rivals = gets_in_by w q (support s a w) g strength (let x = against in omega arith) rivals
    where
      strength : attack s a w q ≡ 1 + support s a w
      strength = empty_attack (has_path s a w) (s.is_occupied q) (a (Move q)) (head_to_head s w q) (s.same_power w q) (support s a w) (support_against s a w q) p v

      against : opposition s a w q ≡ 0
      against = rw (f, v) refl

  -- where the unit there stays and is overpowered
  pub throws_out : (w q : ℕ) → goes s w q ≡ true → s.is_occupied q ≡ true → a (Move q) ≡ false → s.same_power w q ≡ false → has_path s a w ≡ true → 0 < support_against s a w q
      → (has_move s q ≡ false → support s a q < support_against s a w q) → (head_to_head s w q ≡ true → support s a q < support_against s a w q)
      → ((x : ℕ) → goes s x q ≡ true → (x == w) ≡ false → prevent s a x q ≤ support_against s a w q) → a (Move w) ≡ true
  throws_out w q g o v n p h stayed faced rivals = gets_in_by w q (support_against s a w q) g
      (strong_attack (has_path s a w) (s.is_occupied q) (a (Move q)) (head_to_head s w q) (s.same_power w q) (support s a w) (support_against s a w q) p o v n)
      (weak_opposition (head_to_head s w q) (s.is_occupied q) (a (Move q)) (has_move s q) (support s a q) (support_against s a w q) h stayed faced) rivals

  -- who succeeds has more support than whoever prevents with all of it
  pub outdoes : (w x q : ℕ) → goes s w q ≡ true → a (Move w) ≡ true → is_listed s.places x ≡ true → goes s x q ≡ true → (x == w) ≡ false
      → has_path s a x ≡ true → (head_to_head s x q && a (Move q)) ≡ false → support s a x < support s a w
  outdoes w x q g v l k n p f =
      let beaten = free (or_cases _ _ (all_at (beats s a w q) s.places x (and_parts _ _ (sym (moved_is w q g) ∙ v)).0 l)) in
      let all = full_prevent (has_path s a x) (head_to_head s x q && a (Move q)) (support s a x) p f in
      let most = attack_most (has_path s a w) (s.is_occupied q) (a (Move q)) (head_to_head s w q) (s.same_power w q) (support s a w) (support_against s a w q)
      (count_fewer (λ h. (s.supports h w && a (Support h)) && not (s.same_power h q)) (λ h. s.supports h w && a (Support h)) s.places (λ h e. (and_parts _ _ e).0)) in
      reach beaten all most
    where
      free : ((x == w || not (goes s x q)) ≡ true) ⊎ (nat_lt (prevent s a x q) (attack s a w q) ≡ true) → prevent s a x q < attack s a w q
      free (inr e) = ltb-true _ _ e
      free (inl e) = absurd (both_ways false refl (rw (n, k) at e))

      reach : prevent s a x q < attack s a w q → prevent s a x q ≡ 1 + support s a x → attack s a w q ≤ 1 + support s a w → support s a x < support s a w
      reach b c d = omega arith

  pub prevents_most : (x q : ℕ) → prevent s a x q ≤ 1 + support s a x
  prevents_most x q = least_of (not (has_path s a x) || (head_to_head s x q && a (Move q))) (support s a x)

  pub loser_prevents_none : (x q : ℕ) → head_to_head s x q ≡ true → a (Move q) ≡ true → prevent s a x q ≡ 0
  loser_prevents_none x q f v = rw (f, v) (go (has_path s a x))
    where
      go : (path : Bool) → (if not path || (true && true) then 0 else 1 + support s a x) ≡ 0
      go true = refl
      go false = refl
