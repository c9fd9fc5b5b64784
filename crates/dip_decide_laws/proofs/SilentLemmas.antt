-- A move by convoy without a path: the equations are those where its unit has no move, nobody supports it and nobody convoys it.
use Rattle.std.proofs.Common.{◌≡◌, ℕ, ◌+◌, ◌<◌, ◌≤◌, ◌⊎◌, inl, inr, length, refl, sym, ap, ◌∙◌, suc, arith}
use Rattle.std.specs.Prelude.{◌==◌, nat_lt, Bool, true, false, not, ◌&&◌, ◌||◌, cond, Option, None, Some, is_some, if◌then◌else◌}
use Rattle.std.specs.List.{list_all}
use Rattle.std.proofs.lemmas.Bool.{eqb-true, eq-eqb, cases_Bool, cases_lt, both_ways}
use Rattle.std.proofs.lemmas.Bool.Decides.{nat_tests}
use Rattle.std.proofs.Math.Path.{fun_ext}
use Rattle.dip_decide.specs.Decision.{Decision}
use Rattle.dip_decide.specs.Decision.TheVariants.{Move, Path, Support}
use Rattle.dip_decide.specs.Deciding.{Assignment, is_path}
use Rattle.dip_decide.specs.Movement.{Situation, is_at, goes, has_move, has_path, head_to_head, support, support_against, attack, hold, prevent, opposition, beats, succeeds, move_rule, cuts, is_support, is_entered, serves, joins, path_rule, rule, Satisfies}
use Rattle.dip_decide_laws.proofs.EquationLemmas as equations
use Rattle.dip_decide_laws.proofs.HoldLemmas.{made}
use Rattle.dip_decide_laws.proofs.ListLemmas.{and_no, all_alike, any_alike, any_none, count_alike, count_none}

-- the unit in p has no move, and nobody helps it
abbrev pub silenced : Situation → ℕ → Situation
silenced s p = made s.places s.is_occupied s.same_power (λ x. cond (x == p) None (s.target x)) (λ x. cond (x == p) false (s.convoyed x))
    (λ h x. cond (x == p) false (s.supports h x)) s.aim (λ x y. cond (y == p) false (s.convoys x y)) s.next

-- the values, but no support is given to it
abbrev pub unhelped : Situation → ℕ → Assignment → Assignment
unhelped s p a (Move x) = a (Move x)
unhelped s p a (Path x) = a (Path x)
unhelped s p a (Support h) = a (Support h) && not (s.supports h p)

-- over plain values

or_yes : (b : Bool) → (b || true) ≡ true
or_yes true = refl
or_yes false = refl

supporting : (u v w : Bool) → (u ≡ true → w ≡ false) → (u && (v && not w)) ≡ (u && v)
supporting true v w f = rw (f refl) (right v)
  where
    right : (b : Bool) → (b && true) ≡ b
    right true = refl
    right false = refl
supporting false v w f = refl

attack_alike : (path path' occupied m face face' same : Bool) (n n' f f' : ℕ) → path ≡ path' → face ≡ face' → n ≡ n' → f ≡ f'
    → (if not path then 0 else if not occupied || (m && not face) then 1 + n else if same then 0 else 1 + f) ≡ (if not path' then 0 else if not occupied || (m && not face') then 1 + n' else if same then 0 else 1 + f')
attack_alike path path' occupied m face face' same n n' f f' a b c d = rw (a, b, c, d) refl

hold_alike : (occupied m move move' : Bool) (n n' : ℕ) → move ≡ move' → n ≡ n' → (if not occupied || m then 0 else if move then 1 else 1 + n) ≡ (if not occupied || m then 0 else if move' then 1 else 1 + n')
hold_alike occupied m move move' n n' a b = rw (a, b) refl

hold_one : (occupied m move move' : Bool) (n n' : ℕ) → m ≡ false → move ≡ false → move' ≡ true → n ≡ 0 → (if not occupied || m then 0 else if move then 1 else 1 + n) ≡ (if not occupied || m then 0 else if move' then 1 else 1 + n')
hold_one false m move move' n n' e a b c = refl
hold_one true m move move' n n' e a b c = rw (e, a, b, c) refl

opposition_alike : (face face' : Bool) (d d' h h' : ℕ) → face ≡ face' → (face' ≡ true → d ≡ d') → h ≡ h' → (if face then d else h) ≡ (if face' then d' else h')
opposition_alike face true d d' h h' a b c = rw a (b refl)
opposition_alike face false d d' h h' a b c = rw a c

prevent_alike : (path path' beaten beaten' : Bool) (n n' : ℕ) → path ≡ path' → beaten ≡ beaten' → n ≡ n' → (if not path || beaten then 0 else 1 + n) ≡ (if not path' || beaten' then 0 else 1 + n')
prevent_alike path path' beaten beaten' n n' a b c = rw (a, b, c) refl

face_none : (g k c d : Bool) → d ≡ true → ((g && k) && (not c && not d)) ≡ false
face_none g k c d e = rw e (none (g && k) (not c))
  where
    none : (x y : Bool) → (x && (y && false)) ≡ false
    none true y = and_no y
    none false y = refl

face_left : (g k c d : Bool) → k ≡ false → ((g && k) && (not c && not d)) ≡ false
face_left true k c d e = rw e refl
face_left false k c d e = refl

never_lt : (n m : ℕ) → m ≡ 0 → nat_lt n m ≡ false
never_lt n m e = grind (arith, nat_tests)

no_strength : (l l' : Bool) (o o' n n' : ℕ) → n ≡ 0 → n' ≡ 0 → (l && nat_lt o n) ≡ (l' && nat_lt o' n')
no_strength l l' o o' n n' a b = ap (λ (x : Bool). l && x) (never_lt o n a) ∙ and_no l ∙ sym (ap (λ (x : Bool). l' && x) (never_lt o' n' b) ∙ and_no l')

cut_alike : (g g' n c m path path' : Bool) → g ≡ g' → path ≡ path' → ((g && n) && (if c then m else path)) ≡ ((g' && n) && (if c then m else path'))
cut_alike g g' n c m path path' a b = rw (a, b) refl

cut_none : (g n c m path : Bool) → m ≡ false → path ≡ false → ((g && n) && (if c then m else path)) ≡ false
cut_none g n true m path a b = rw a (and_no (g && n))
cut_none g n false m path a b = rw b (and_no (g && n))

given_none : (g b i l k : Bool) → k ≡ true → i ≡ false → (g && not k) ≡ (not b && (i && l))
given_none g b i l k e f = rw (e, f) (and_no g ∙ sym (and_no (not b)))

given_kept : (g k : Bool) → k ≡ false → (g && not k) ≡ g
given_kept true k e = rw e refl
given_kept false k e = refl

nothing_given : (a b : Bool) → a ≡ false → a ≡ (not b && false)
nothing_given a b e = e ∙ sym (and_no (not b))

module _ (s : Situation) (p : ℕ) (broken : Decision → Bool) (paths : (d : Decision) → broken d ≡ true → is_path d ≡ true) (a : Assignment) (holds : Satisfies s broken a)
    (one : (h x y : ℕ) → s.supports h x ≡ true → s.supports h y ≡ true → x ≡ y) (move : has_move s p ≡ true) (far : s.convoyed p ≡ true) (lost : a (Path p) ≡ false) where
  t : Situation
  t = silenced s p

  z : Assignment
  z = unhelped s p a

  self : (p == p) ≡ true
  self = eq-eqb p p refl

  pathless : has_path s a p ≡ false
  pathless = rw (far, lost) refl

  attack_none : (q : ℕ) → attack s a p q ≡ 0
  attack_none q = ap (λ (b : Bool). if not b then 0 else if not (s.is_occupied q) || (a (Move q) && not (head_to_head s p q)) then 1 + support s a p else if s.same_power p q then 0 else 1 + support_against s a p q) pathless

  still : a (Move p) ≡ false
  still = go (s.target p) refl
    where
      go : (o : Option ℕ) → s.target p ≡ o → a (Move p) ≡ false
      go None e = equations.unmoved s broken paths a holds p (ap is_some e)
      go (Some q) e = equations.moved_is s broken paths a holds p q (ap (λ (o : Option ℕ). is_at o q) e ∙ eq-eqb q q refl)
          ∙ ap (λ (b : Bool). list_all (beats s a p q) s.places && b) (never_lt (opposition s a p q) _ (attack_none q)) ∙ and_no _

  -- others
  goes_t : (y q : ℕ) → (y == p) ≡ false → goes (silenced s p) y q ≡ goes s y q
  goes_t y q e = rw e refl

  goes_p : (q : ℕ) → goes (silenced s p) p q ≡ false
  goes_p q = rw self refl

  apart : (h y : ℕ) → (y == p) ≡ false → s.supports h y ≡ true → s.supports h p ≡ false
  apart h y e k = go (cases_Bool (s.supports h p))
    where
      go : (s.supports h p ≡ true) ⊎ (s.supports h p ≡ false) → s.supports h p ≡ false
      go (inl n) = absurd (both_ways _ e (eq-eqb y p (one h y p k n)))
      go (inr n) = n

  support_t : (y : ℕ) → (y == p) ≡ false → support (silenced s p) (unhelped s p a) y ≡ support s a y
  support_t y e = count_alike _ _ s.places (λ h _. ap (λ (b : Bool). cond b false (s.supports h y) && (a (Support h) && not (s.supports h p))) e ∙ supporting (s.supports h y) (a (Support h)) (s.supports h p) (apart h y e))

  against_t : (y v : ℕ) → (y == p) ≡ false → support_against (silenced s p) (unhelped s p a) y v ≡ support_against s a y v
  against_t y v e = count_alike _ _ s.places (λ h _. ap (λ (b : Bool). (cond b false (s.supports h y) && (a (Support h) && not (s.supports h p))) && not (s.same_power h v)) e
      ∙ ap (λ (b : Bool). b && not (s.same_power h v)) (supporting (s.supports h y) (a (Support h)) (s.supports h p) (apart h y e)))

  support_p : support (silenced s p) (unhelped s p a) p ≡ 0
  support_p = count_none _ s.places (λ h. ap (λ (b : Bool). cond b false (s.supports h p) && (a (Support h) && not (s.supports h p))) self)

  path_t : (y : ℕ) → (y == p) ≡ false → has_path (silenced s p) (unhelped s p a) y ≡ has_path s a y
  path_t y e = ap (λ (b : Bool). not (cond b false (s.convoyed y)) || a (Path y)) e

  face_t : (y q : ℕ) → (y == p) ≡ false → head_to_head (silenced s p) y q ≡ head_to_head s y q
  face_t y q e = go (cases_Bool (q == p))
    where
      go : ((q == p) ≡ true) ⊎ ((q == p) ≡ false) → head_to_head (silenced s p) y q ≡ head_to_head s y q
      go (inr f) = rw (e, f) refl
      go (inl f) = face_left (goes (silenced s p) y q) (goes (silenced s p) q y) ((silenced s p).convoyed y) ((silenced s p).convoyed q) (ap (λ (b : Bool). is_at (cond b None (s.target q)) y) f)
          ∙ sym (face_none (goes s y q) (goes s q y) (s.convoyed y) (s.convoyed q) (ap s.convoyed (eqb-true q p f) ∙ far))

  attack_t : (y q : ℕ) → (y == p) ≡ false → attack (silenced s p) (unhelped s p a) y q ≡ attack s a y q
  attack_t y q e = attack_alike _ _ (s.is_occupied q) (a (Move q)) _ _ (s.same_power y q) _ _ _ _ (path_t y e) (face_t y q e) (support_t y e) (against_t y q e)

  hold_t : (q : ℕ) → hold (silenced s p) (unhelped s p a) q ≡ hold s a q
  hold_t q = go (cases_Bool (q == p))
    where
      go : ((q == p) ≡ true) ⊎ ((q == p) ≡ false) → hold (silenced s p) (unhelped s p a) q ≡ hold s a q
      go (inr f) = hold_alike (s.is_occupied q) (a (Move q)) _ _ _ _ (ap (λ (b : Bool). is_some (cond b None (s.target q))) f) (support_t q f)
      go (inl f) =
          let i : q ≡ p = eqb-true q p f in
          hold_one (s.is_occupied q) (a (Move q)) _ _ _ _ (ap (λ (x : ℕ). a (Move x)) i ∙ still) (ap (λ (b : Bool). is_some (cond b None (s.target q))) f) (ap (has_move s) i ∙ move)
          (ap (support (silenced s p) (unhelped s p a)) i ∙ support_p)

  opposition_t : (y q : ℕ) → (y == p) ≡ false → opposition (silenced s p) (unhelped s p a) y q ≡ opposition s a y q
  opposition_t y q e = opposition_alike _ _ _ _ _ _ (face_t y q e) faced (hold_t q)
    where
      faced : head_to_head s y q ≡ true → 1 + support (silenced s p) (unhelped s p a) q ≡ 1 + support s a q
      faced f = go (cases_Bool (q == p))
        where
          go : ((q == p) ≡ true) ⊎ ((q == p) ≡ false) → 1 + support (silenced s p) (unhelped s p a) q ≡ 1 + support s a q
          go (inr g) = ap (λ (n : ℕ). 1 + n) (support_t q g)
          go (inl g) = absurd (both_ways _ (face_none (goes s y q) (goes s q y) (s.convoyed y) (s.convoyed q) (ap s.convoyed (eqb-true q p g) ∙ far)) f)

  prevent_t : (w q : ℕ) → (w == p) ≡ false → prevent (silenced s p) (unhelped s p a) w q ≡ prevent s a w q
  prevent_t w q e = prevent_alike _ _ _ _ _ _ (path_t w e) (ap (λ (b : Bool). b && a (Move q)) (face_t w q e)) (support_t w e)

  prevent_p : (q : ℕ) → prevent s a p q ≡ 0
  prevent_p q = ap (λ (b : Bool). if not b || (head_to_head s p q && a (Move q)) then 0 else 1 + support s a p) pathless

  beats_t : (y q w : ℕ) → (y == p) ≡ false → 0 < attack s a y q → beats (silenced s p) (unhelped s p a) y q w ≡ beats s a y q w
  beats_t y q w e l = go (cases_Bool (w == p))
    where
      beat_alike : (same g g' : Bool) (n n' k k' : ℕ) → g ≡ g' → n ≡ n' → k ≡ k' → ((same || not g) || nat_lt n k) ≡ ((same || not g') || nat_lt n' k')
      beat_alike same g g' n n' k k' a b c = rw (a, b, c) refl

      beat_none : (same g : Bool) (n k : ℕ) → g ≡ false → ((same || not g) || nat_lt n k) ≡ true
      beat_none true g n k e = refl
      beat_none false g n k e = rw e refl

      beat_weak : (same g : Bool) (n k : ℕ) → n ≡ 0 → 0 < k → ((same || not g) || nat_lt n k) ≡ true
      beat_weak same g n k e l = let x : nat_lt n k ≡ true = grind (arith, nat_tests) in rw x (or_yes (same || not g))

      go : ((w == p) ≡ true) ⊎ ((w == p) ≡ false) → beats (silenced s p) (unhelped s p a) y q w ≡ beats s a y q w
      go (inr f) = beat_alike (w == y) _ _ _ _ _ _ (goes_t w q f) (prevent_t w q f) (attack_t y q e)
      go (inl f) =
          let i : w ≡ p = eqb-true w p f in
          beat_none (w == y) (goes (silenced s p) w q) _ _ (ap (λ (b : Bool). is_at (cond b None (s.target w)) q) f)
          ∙ sym (beat_weak (w == y) (goes s w q) (prevent s a w q) (attack s a y q) (ap (λ (x : ℕ). prevent s a x q) i ∙ prevent_p q) l)

  succeeds_t : (y q : ℕ) → (y == p) ≡ false → succeeds (silenced s p) (unhelped s p a) y q ≡ succeeds s a y q
  succeeds_t y q e = go (cases_lt 0 (attack s a y q))
    where
      both : (l l' : Bool) (o o' n n' : ℕ) → l ≡ l' → o ≡ o' → n ≡ n' → (l && nat_lt o n) ≡ (l' && nat_lt o' n')
      both l l' o o' n n' a b c = rw (a, b, c) refl

      go : (0 < attack s a y q) ⊎ (attack s a y q ≤ 0) → succeeds (silenced s p) (unhelped s p a) y q ≡ succeeds s a y q
      go (inl l) = both _ _ _ _ _ _ (all_alike _ _ s.places (λ w. beats_t y q w e l)) (opposition_t y q e) (attack_t y q e)
      go (inr l) = let n : attack s a y q ≡ 0 = omega arith in no_strength _ _ _ _ _ _ (attack_t y q e ∙ n) n

  move_t : (y : ℕ) → (y == p) ≡ false → rule (silenced s p) (Move y) (unhelped s p a) ≡ rule s (Move y) a
  move_t y e = ap (λ (b : Bool). move_rule (silenced s p) (unhelped s p a) y (cond b None (s.target y))) e ∙ go (s.target y)
    where
      go : (o : Option ℕ) → move_rule (silenced s p) (unhelped s p a) y o ≡ move_rule s a y o
      go None = refl
      go (Some q) = succeeds_t y q e

  entered_t : (x : ℕ) → is_entered (silenced s p) (unhelped s p a) x ≡ is_entered s a x
  entered_t x = any_alike _ _ s.places (λ m. go m (cases_Bool (m == p)))
    where
      go : (m : ℕ) → ((m == p) ≡ true) ⊎ ((m == p) ≡ false) → (goes (silenced s p) m x && a (Move m)) ≡ (goes s m x && a (Move m))
      go m (inr f) = ap (λ (b : Bool). b && a (Move m)) (goes_t m x f)
      go m (inl f) =
          let n : a (Move m) ≡ false = ap (λ (y : ℕ). a (Move y)) (eqb-true m p f) ∙ still in
          ap (λ (b : Bool). goes (silenced s p) m x && b) n ∙ and_no _ ∙ sym (ap (λ (b : Bool). goes s m x && b) n ∙ and_no _)

  serves_t : (y x : ℕ) → (y == p) ≡ false → serves (silenced s p) (unhelped s p a) y x ≡ serves s a y x
  serves_t y x e = ap (λ (b : Bool). cond b false (s.convoys x y) && not (is_entered (silenced s p) (unhelped s p a) x)) e ∙ ap (λ (b : Bool). s.convoys x y && not b) (entered_t x)

  path_rule_t : (y : ℕ) → (y == p) ≡ false → rule (silenced s p) (Path y) (unhelped s p a) ≡ rule s (Path y) a
  path_rule_t y e = ap (λ (b : Bool). cond b false (s.convoyed y) && path_rule (silenced s p) (unhelped s p a) y (cond b None (s.target y))) e ∙ ap (λ (b : Bool). s.convoyed y && b) (go (s.target y))
    where
      go : (o : Option ℕ) → path_rule (silenced s p) (unhelped s p a) y o ≡ path_rule s a y o
      go None = refl
      go (Some q) = ap (λ (f : ℕ → Bool). joins f s.next s.places q (suc (length s.places)) y) (fun_ext (λ x. serves_t y x e))

  cuts_t : (h x : ℕ) → cuts (silenced s p) (unhelped s p a) h x ≡ cuts s a h x
  cuts_t h x = go (cases_Bool (x == p))
    where
      go : ((x == p) ≡ true) ⊎ ((x == p) ≡ false) → cuts (silenced s p) (unhelped s p a) h x ≡ cuts s a h x
      go (inr f) = cut_alike _ _ (not (s.same_power x h)) (is_at (s.aim h) x) (a (Move x)) _ _ (goes_t x h f) (path_t x f)
      go (inl f) =
          let i : x ≡ p = eqb-true x p f in
          ap (λ (b : Bool). (b && not (s.same_power x h)) && (if is_at (s.aim h) x then a (Move x) else has_path (silenced s p) (unhelped s p a) x)) (ap (λ (b : Bool). is_at (cond b None (s.target x)) h) f)
          ∙ sym (cut_none (goes s x h) (not (s.same_power x h)) (is_at (s.aim h) x) (a (Move x)) (has_path s a x) (ap (λ (y : ℕ). a (Move y)) i ∙ still) (ap (has_path s a) i ∙ pathless))

  given_t : (h : ℕ) → (a (Support h) && not (s.supports h p)) ≡ (not (broken (Support h)) && rule (silenced s p) (Support h) (unhelped s p a))
  given_t h = go (cases_Bool (s.supports h p))
    where
      uncut : Bool
      uncut = list_all (λ x. not (cuts (silenced s p) (unhelped s p a) h x)) s.places

      none : s.supports h p ≡ true → (x : ℕ) → cond (x == p) false (s.supports h x) ≡ false
      none k x = test (cases_Bool (x == p)) (cases_Bool (s.supports h x))
        where
          test : ((x == p) ≡ true) ⊎ ((x == p) ≡ false) → (s.supports h x ≡ true) ⊎ (s.supports h x ≡ false) → cond (x == p) false (s.supports h x) ≡ false
          test (inl f) _ = rw f refl
          test (inr f) (inr n) = rw f n
          test (inr f) (inl n) = absurd (both_ways _ f (eq-eqb x p (one h x p n k)))

      same : s.supports h p ≡ false → (x : ℕ) → cond (x == p) false (s.supports h x) ≡ s.supports h x
      same k x = test (cases_Bool (x == p))
        where
          test : ((x == p) ≡ true) ⊎ ((x == p) ≡ false) → cond (x == p) false (s.supports h x) ≡ s.supports h x
          test (inl f) = rw f (sym (ap (s.supports h) (eqb-true x p f) ∙ k))
          test (inr f) = rw f refl

      go : (s.supports h p ≡ true) ⊎ (s.supports h p ≡ false) → (a (Support h) && not (s.supports h p)) ≡ (not (broken (Support h)) && (is_support (silenced s p) h && list_all (λ x. not (cuts (silenced s p) (unhelped s p a) h x)) s.places))
      go (inl k) = given_none (a (Support h)) (broken (Support h)) (is_support (silenced s p) h) _ (s.supports h p) k (any_none _ s.places (none k))
      go (inr k) =
          given_kept (a (Support h)) (s.supports h p) k ∙ holds (Support h)
          ∙ sym (ap (λ (b : Bool). not (broken (Support h)) && (b && list_all (λ x. not (cuts (silenced s p) (unhelped s p a) h x)) s.places)) (any_alike _ _ s.places (same k))
          ∙ ap (λ (b : Bool). not (broken (Support h)) && (is_support s h && b)) (all_alike _ _ s.places (λ x. ap not (cuts_t h x))))

  pub silent : Satisfies (silenced s p) broken (unhelped s p a)
  silent (Move y) = go (cases_Bool (y == p))
    where
      go : ((y == p) ≡ true) ⊎ ((y == p) ≡ false) → a (Move y) ≡ (not (broken (Move y)) && rule (silenced s p) (Move y) (unhelped s p a))
      go (inr f) = holds (Move y) ∙ ap (λ (b : Bool). not (broken (Move y)) && b) (sym (move_t y f))
      go (inl f) = nothing_given (a (Move y)) (broken (Move y)) (ap (λ (x : ℕ). a (Move x)) (eqb-true y p f) ∙ still)
          ∙ ap (λ (b : Bool). not (broken (Move y)) && b) (sym (ap (λ (b : Bool). move_rule (silenced s p) (unhelped s p a) y (cond b None (s.target y))) f))
  silent (Path y) = go (cases_Bool (y == p))
    where
      go : ((y == p) ≡ true) ⊎ ((y == p) ≡ false) → a (Path y) ≡ (not (broken (Path y)) && rule (silenced s p) (Path y) (unhelped s p a))
      go (inr f) = holds (Path y) ∙ ap (λ (b : Bool). not (broken (Path y)) && b) (sym (path_rule_t y f))
      go (inl f) = nothing_given (a (Path y)) (broken (Path y)) (ap (λ (x : ℕ). a (Path x)) (eqb-true y p f) ∙ lost)
          ∙ ap (λ (b : Bool). not (broken (Path y)) && b) (sym (ap (λ (b : Bool). cond b false (s.convoyed y) && path_rule (silenced s p) (unhelped s p a) y (cond b None (s.target y))) f))
  silent (Support h) = given_t h
