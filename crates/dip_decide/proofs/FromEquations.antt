use Rattle.std.proofs.Common.{◌≡◌, ℕ, ◌≤◌, ◌<◌, ◌+◌, List, [], ◌∷◌, refl, sym, ◌∙◌, subst, arith, inl, inr}
use Rattle.std.specs.Prelude.{◌==◌, nat_lt, Bool, true, false, not, ◌&&◌, ◌||◌, Option, None, Some, if◌then◌else◌}
use Rattle.std.specs.List.{list_all}
use Rattle.std.proofs.lemmas.Bool.{ltb-true, eqb-true, or_cases, cases_Bool, both_ways, and_parts, and_from}
use Rattle.std.proofs.lemmas.Bool.Decides.{nat_tests}
use mathlib.Core.Logic.{◌⊎◌}
use Rattle.dip_decide_rules.specs.declared.decisions.Decision.{Decision}
use Rattle.dip_decide_rules.specs.declared.decisions.Decision.TheVariants.{Move}
use Rattle.dip_decide_rules.specs.Deciding.{Assignment}
use Rattle.dip_decide_rules.specs.Movement.{Situation, IsSituation, is_at, goes, has_path, head_to_head, support, support_against, attack, defend, prevent, opposition, beats, succeeds, move_rule, rule, is_listed, Satisfies, OneEnters, NoneDislodgesItsOwn, NoneSwaps}
use Rattle.dip_decide_rules.proofs.Rises.{count_le}

-- what holds of each holds of one that is listed
pub all_listed : (t : ℕ → Bool) (ps : List ℕ) (p : ℕ) → list_all t ps ≡ true → is_listed ps p ≡ true → t p ≡ true
all_listed t [] p h m = absurd (both_ways false refl m)
all_listed t (x ∷ ps) p h m = let e = and_parts _ _ h in go (or_cases _ _ m) e.0 (all_listed t ps p e.1)
  where
    go : ((x == p) ≡ true) ⊎ (is_listed ps p ≡ true) → t x ≡ true → (is_listed ps p ≡ true → t p ≡ true) → t p ≡ true
    go (inl e) h f = subst (λ (y : ℕ). t y ≡ true) (eqb-true x p e) h
    go (inr e) h f = f e

-- a move that succeeds has its rule
pub won : (s : Situation) (broken : Decision → Bool) (a : Assignment) → Satisfies s broken a → (p q : ℕ) → goes s p q ≡ true → a (Move p) ≡ true → succeeds s a p q ≡ true
won s broken a h p q g m = go (s.target p) g (and_parts (not (broken (Move p))) (rule s (Move p) a) (sym (h (Move p)) ∙ m)).1
  where
    go : (o : Option ℕ) → is_at o q ≡ true → move_rule s a p o ≡ true → succeeds s a p q ≡ true
    go None e r = absurd (both_ways false refl e)
    go (Some t) e r = subst (λ (x : ℕ). succeeds s a p x ≡ true) (eqb-true t q e) r

pub against_le : (s : Situation) (a : Assignment) (p v : ℕ) → support_against s a p v ≤ support s a p
against_le s a p v = count_le _ _ s.places (λ x e. (and_parts _ _ e).0)

-- over plain values
pub attack_most : (path occupied m head_to_head same_power : Bool) (n f : ℕ) → f ≤ n → (if not path then 0 else if not occupied || (m && not head_to_head) then 1 + n else if same_power then 0 else 1 + f) ≤ 1 + n
attack_most false occupied m head_to_head same_power n f h = omega arith
attack_most true false m head_to_head same_power n f h = omega arith
attack_most true true true false same_power n f h = omega arith
attack_most true true true true true n f h = omega arith
attack_most true true true true false n f h = omega arith
attack_most true true false head_to_head true n f h = omega arith
attack_most true true false head_to_head false n f h = omega arith

pub attack_path : (path : Bool) (n : ℕ) → 0 < (if not path then 0 else n) → path ≡ true
attack_path true n h = refl
attack_path false n h = absurd (omega arith)

pub strength_most : (s : Situation) (a : Assignment) (p q : ℕ) → attack s a p q ≤ 1 + support s a p
strength_most s a p q = attack_most (has_path s a p) (s.is_occupied q) (a (Move q)) (head_to_head s p q) (s.same_power p q) (support s a p) (support_against s a p q) (against_le s a p q)

pub beats_stand : (s : Situation) (a : Assignment) (p q : ℕ) → succeeds s a p q ≡ true → opposition s a p q < attack s a p q
beats_stand s a p q w = ltb-true _ _ (and_parts _ _ w).1

pub stand_face : (s : Situation) (a : Assignment) (p q : ℕ) → head_to_head s p q ≡ true → opposition s a p q ≡ defend s a q
stand_face s a p q f = rw f refl

pub record Faces (s : Situation) (p q : ℕ) : Type 0 where
  pub there : goes s p q ≡ true
  pub back : goes s q p ≡ true
  pub turned : head_to_head s q p ≡ true

pub face_parts : (s : Situation) (p q : ℕ) → head_to_head s p q ≡ true → Faces s p q
face_parts s p q f =
    let x = and_parts (goes s p q && goes s q p) (not (s.convoyed p) && not (s.convoyed q)) f in
    let y = and_parts (goes s p q) (goes s q p) x.0 in
    let z = and_parts (not (s.convoyed p)) (not (s.convoyed q)) x.1 in
    record { there = y.0; back = y.1; turned = and_from _ _ (and_from _ _ y.1 y.0) (and_from _ _ z.1 z.0) }

-- of two head to head only one has the greater strength
pub none_swaps : (s : Situation) (broken : Decision → Bool) (a : Assignment) → Satisfies s broken a → NoneSwaps s a
none_swaps s broken a h p q f m = go (cases_Bool (a (Move q)))
  where
    go : (a (Move q) ≡ true) ⊎ (a (Move q) ≡ false) → a (Move q) ≡ false
    go (inr e) = e
    go (inl e) =
        let x = face_parts s p q f in
        let u = beats_stand s a p q (won s broken a h p q x.there m) in
        let v = beats_stand s a q p (won s broken a h q p x.back e) in
        let c = stand_face s a p q f in
        let d = stand_face s a q p x.turned in
        let k = strength_most s a p q in
        let l = strength_most s a q p in
        absurd (omega arith)

pub own_attack : (path occupied m head_to_head same_power : Bool) (n f : ℕ) → occupied ≡ true → m ≡ false → 0 < (if not path then 0 else if not occupied || (m && not head_to_head) then 1 + n else if same_power then 0 else 1 + f) → same_power ≡ false
own_attack false occupied m head_to_head same_power n f e h x = absurd (omega arith)
own_attack true false m head_to_head same_power n f e h x = absurd (both_ways false refl e)
own_attack true true true head_to_head same_power n f e h x = absurd (both_ways true h refl)
own_attack true true false head_to_head true n f e h x = absurd (omega arith)
own_attack true true false head_to_head false n f e h x = refl

pub none_dislodges_its_own : (s : Situation) (broken : Decision → Bool) (a : Assignment) → Satisfies s broken a → NoneDislodgesItsOwn s a
none_dislodges_its_own s broken a h p q g m o n =
    let w = beats_stand s a p q (won s broken a h p q g m) in
    own_attack (has_path s a p) (s.is_occupied q) (a (Move q)) (head_to_head s p q) (s.same_power p q) (support s a p) (support_against s a p q) o n (omega arith)

pub prevent_path : (path beaten : Bool) (n : ℕ) → path ≡ true → beaten ≡ false → (if not path || beaten then 0 else n) ≡ n
prevent_path path beaten n e f = rw (e, f) refl

-- a move that succeeds prevents with all its strength
pub prevents : (s : Situation) (broken : Decision → Bool) (a : Assignment) → Satisfies s broken a → (p q : ℕ) → goes s p q ≡ true → a (Move p) ≡ true → prevent s a p q ≡ 1 + support s a p
prevents s broken a h p q g m = prevent_path (has_path s a p) (head_to_head s p q && a (Move q)) (1 + support s a p) path (beaten (cases_Bool (head_to_head s p q)))
  where
    path : has_path s a p ≡ true
    path = let w = beats_stand s a p q (won s broken a h p q g m) in attack_path (has_path s a p) _ (let z : 0 < attack s a p q = omega arith in z)

    beaten : (head_to_head s p q ≡ true) ⊎ (head_to_head s p q ≡ false) → (head_to_head s p q && a (Move q)) ≡ false
    beaten (inl f) = rw (f, none_swaps s broken a h p q f m) refl
    beaten (inr f) = rw f refl

pub one_enters : (s : Situation) → IsSituation s → (broken : Decision → Bool) (a : Assignment) → Satisfies s broken a → OneEnters s a
one_enters s i broken a h p w q g k m n = go (cases_Bool (w == p))
  where
    less : (x y : ℕ) → (y == x) ≡ false → goes s x q ≡ true → goes s y q ≡ true → a (Move x) ≡ true → prevent s a y q < attack s a x q
    less x y e g k m = free (or_cases _ _ (all_listed (beats s a x q) s.places y (and_parts _ _ (won s broken a h x q g m)).0 (i.listed y q k)))
      where
        free : ((y == x || not (goes s y q)) ≡ true) ⊎ (nat_lt (prevent s a y q) (attack s a x q) ≡ true) → prevent s a y q < attack s a x q
        free (inr l) = ltb-true _ _ l
        free (inl l) = absurd (both_ways false refl (rw (e, k) at l))

    go : ((w == p) ≡ true) ⊎ ((w == p) ≡ false) → p ≡ w
    go (inl e) = sym (eqb-true w p e)
    go (inr e) =
        let f : (p == w) ≡ false = grind (arith, nat_tests) in
        let x = less p w e g k m in
        let y = less w p f k g n in
        let u = prevents s broken a h p q g m in
        let v = prevents s broken a h w q k n in
        let c = strength_most s a p q in
        let d = strength_most s a w q in
        absurd (omega arith)
