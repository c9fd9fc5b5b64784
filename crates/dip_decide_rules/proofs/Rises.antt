use Rattle.std.proofs.Common.{◌≡◌, ℕ, ◌≤◌, ◌+◌, List, [], ◌∷◌, length, refl, sym, subst, arith, inl, inr, zero, suc}
use Rattle.std.specs.Prelude.{◌==◌, nat_lt, Bool, true, false, not, ◌&&◌, ◌||◌, Option, None, Some, cond, if◌then◌else◌}
use Rattle.std.specs.List.{list_all, list_any, count_by}
use Rattle.std.proofs.lemmas.Bool.{eqb-true, eq-eqb, or_cases, or_left, or_right, cases_Bool, both_ways, and_parts, and_from}
use Rattle.std.proofs.lemmas.Bool.Decides.{nat_tests}
use Rattle.std.proofs.lemmas.List.Sums.{sum_by-cons}
use mathlib.Core.Logic.{◌⊎◌}
use Rattle.dip_decide_rules.specs.declared.decisions.Decision.{Decision}
use Rattle.dip_decide_rules.specs.declared.decisions.Decision.TheVariants.{Move, Path, Support}
use Rattle.dip_decide_rules.specs.Deciding.{Assignment}
use Rattle.dip_decide_rules.specs.Movement.{Situation, IsSituation, is_at, goes, has_move, has_path, head_to_head, support, support_against, attack, hold, defend, prevent, opposition, beats, succeeds, move_rule, cuts, is_entered, serves, joins, path_rule, rule, move_mentions, mentions, is_listed}
use Rattle.dip_decide_rules.specs.Corners.{rises}
use Rattle.dip_decide_rules.proofs.CornerLaws.{Higher, RisesBy}

-- lists

pub count_le : {X : Type 0} (p q : X → Bool) (xs : List X) → ((x : X) → p x ≡ true → q x ≡ true) → count_by p xs ≤ count_by q xs
count_le p q [] f = omega arith
count_le p q (x ∷ xs) f = go (cases_Bool (p x)) (count_le p q xs f)
  where
    go : (p x ≡ true) ⊎ (p x ≡ false) → count_by p xs ≤ count_by q xs → count_by p (x ∷ xs) ≤ count_by q (x ∷ xs)
    go (inl h) l = let e = f x h in rw (sum_by-cons (λ y. cond (p y) 1 0) x xs, sum_by-cons (λ y. cond (q y) 1 0) x xs, h, e) (omega arith)
    go (inr h) l = rw (sum_by-cons (λ y. cond (p y) 1 0) x xs, sum_by-cons (λ y. cond (q y) 1 0) x xs, h) (omega arith)

pub all_le : {X : Type 0} (p q : X → Bool) (xs : List X) → ((x : X) → p x ≡ true → q x ≡ true) → list_all p xs ≡ true → list_all q xs ≡ true
all_le p q [] f h = refl
all_le p q (x ∷ xs) f h = let e = and_parts _ _ h in and_from _ _ (f x e.0) (all_le p q xs f e.1)

pub any_le : {X : Type 0} (p q : X → Bool) (xs : List X) → ((x : X) → p x ≡ true → q x ≡ true) → list_any p xs ≡ true → list_any q xs ≡ true
any_le p q [] f h = h
any_le p q (x ∷ xs) f h = go (or_cases _ _ h) (any_le p q xs f)
  where
    go : (p x ≡ true) ⊎ (list_any p xs ≡ true) → (list_any p xs ≡ true → list_any q xs ≡ true) → list_any q (x ∷ xs) ≡ true
    go (inl e) _ = or_left _ _ (f x e)
    go (inr e) g = or_right (q x) _ (g e)

-- tests

pub not_le : (x y : Bool) → (y ≡ true → x ≡ true) → not x ≡ true → not y ≡ true
not_le x y f h = grind arith

pub and_le : (x y u v : Bool) → (x ≡ true → u ≡ true) → (y ≡ true → v ≡ true) → (x && y) ≡ true → (u && v) ≡ true
and_le x y u v f g h = let e = and_parts x y h in and_from u v (f e.0) (g e.1)

pub or_le : (x y u v : Bool) → (x ≡ true → u ≡ true) → (y ≡ true → v ≡ true) → (x || y) ≡ true → (u || v) ≡ true
or_le x y u v f g h = grind arith

pub lt_le : (a b c d : ℕ) → c ≤ a → b ≤ d → nat_lt a b ≡ true → nat_lt c d ≡ true
lt_le a b c d f g h = grind (arith, nat_tests)

-- strengths over plain values

pub attack_le : (path path' occupied m m' head_to_head same_power : Bool) (n n' f f' : ℕ) → (path ≡ true → path' ≡ true) → (m ≡ true → m' ≡ true) → n ≤ n' → f ≤ f' → f ≤ n →
    (if not path then 0 else if not occupied || (m && not head_to_head) then 1 + n else if same_power then 0 else 1 + f)
    ≤ (if not path' then 0 else if not occupied || (m' && not head_to_head) then 1 + n' else if same_power then 0 else 1 + f')
attack_le false path' occupied m m' head_to_head same_power n n' f f' g h x y z = omega arith
attack_le true path' occupied m m' head_to_head same_power n n' f f' g h x y z = rw (g refl) (go occupied m m' head_to_head same_power h)
  where
    go : (occupied m m' head_to_head same_power : Bool) → (m ≡ true → m' ≡ true) → (if not occupied || (m && not head_to_head) then 1 + n else if same_power then 0 else 1 + f) ≤ (if not occupied || (m' && not head_to_head) then 1 + n' else if same_power then 0 else 1 + f')
    go false m m' head_to_head same_power h = omega arith
    go true true m' head_to_head same_power h = rw (h refl) (both head_to_head same_power)
      where
        both : (head_to_head same_power : Bool) → (if not head_to_head then 1 + n else if same_power then 0 else 1 + f) ≤ (if not head_to_head then 1 + n' else if same_power then 0 else 1 + f')
        both false same_power = omega arith
        both true true = omega arith
        both true false = omega arith
    go true false false head_to_head true h = omega arith
    go true false false head_to_head false h = omega arith
    go true false true false true h = omega arith
    go true false true false false h = omega arith
    go true false true true true h = omega arith
    go true false true true false h = omega arith

pub prevent_le : (path path' head_to_head m m' : Bool) (n n' : ℕ) → (path' ≡ true → path ≡ true) → (m ≡ true → m' ≡ true) → n' ≤ n →
    (if not path' || (head_to_head && m') then 0 else 1 + n') ≤ (if not path || (head_to_head && m) then 0 else 1 + n)
prevent_le path false head_to_head m m' n n' f g x = omega arith
prevent_le path true head_to_head m true n n' f g x = rw (f refl) (go head_to_head m)
  where
    go : (head_to_head m : Bool) → (if head_to_head && true then 0 else 1 + n') ≤ (if head_to_head && m then 0 else 1 + n)
    go true m = omega arith
    go false m = omega arith
prevent_le path true head_to_head true false n n' f g x = absurd (both_ways false refl (g refl))
prevent_le path true head_to_head false false n n' f g x = rw (f refl) (go head_to_head)
  where
    go : (head_to_head : Bool) → (if head_to_head && false then 0 else 1 + n') ≤ (if head_to_head && false then 0 else 1 + n)
    go true = omega arith
    go false = omega arith

pub hold_le : (occupied m m' move : Bool) (n n' : ℕ) → (m ≡ true → m' ≡ true) → (move ≡ false → n' ≤ n) →
    (if not occupied || m' then 0 else if move then 1 else 1 + n') ≤ (if not occupied || m then 0 else if move then 1 else 1 + n)
hold_le false m m' move n n' f x = omega arith
hold_le true m true move n n' f x = omega arith
hold_le true true false move n n' f x = absurd (both_ways false refl (f refl))
hold_le true false false true n n' f x = omega arith
hold_le true false false false n n' f x = let l = x refl in omega arith

-- where a path is needed it is there
pub path_le : (convoyed x y : Bool) → (convoyed ≡ true → x ≡ true → y ≡ true) → (not convoyed || x) ≡ true → (not convoyed || y) ≡ true
path_le false x y f h = refl
path_le true x y f h = f refl h

-- one that is listed passes
pub any_listed : (t : ℕ → Bool) (ps : List ℕ) (p : ℕ) → is_listed ps p ≡ true → t p ≡ true → list_any t ps ≡ true
any_listed t [] p m h = m
any_listed t (x ∷ ps) p m h = go (or_cases _ _ m) (λ n. any_listed t ps p n h)
  where
    go : ((x == p) ≡ true) ⊎ (is_listed ps p ≡ true) → (is_listed ps p ≡ true → list_any t ps ≡ true) → list_any t (x ∷ ps) ≡ true
    go (inl e) _ = or_left _ _ (subst (λ (y : ℕ). t y ≡ true) (sym (eqb-true x p e)) h)
    go (inr n) f = or_right (t x) _ (f n)

-- the parts of a move's rule

module _ (s : Situation) (i : IsSituation s) (p q : ℕ) (g : goes s p q ≡ true) (a b : Assignment) (h : Higher (move_mentions s p (Some q)) (rises s (Move p)) a b) where
  helped : (x w : ℕ) → s.supports x w ≡ true → goes s w q ≡ true → move_mentions s p (Some q) (Support x) ≡ true
  helped x w e f = or_left _ _ (any_listed (λ v. s.supports x v && goes s v q) s.places w (i.listed w q f) (and_from _ _ e f))

  path_up : has_path s a p ≡ true → has_path s b p ≡ true
  path_up = path_le (s.convoyed p) (a (Path p)) (b (Path p)) (λ e. h.up (Path p) (and_from _ _ g e) (eq-eqb p p refl))

  path_down : (w : ℕ) → goes s w q ≡ true → (w == p) ≡ false → has_path s b w ≡ true → has_path s a w ≡ true
  path_down w k n = path_le (s.convoyed w) (b (Path w)) (a (Path w)) (λ e. h.down (Path w) (and_from _ _ k e) n)

  support_up : support s a p ≤ support s b p
  support_up = count_le _ _ s.places (λ x e. let f = and_parts _ _ e in and_from _ _ f.0 (h.up (Support x) (helped x p f.0 g) f.0 f.1))

  against_up : (v : ℕ) → support_against s a p v ≤ support_against s b p v
  against_up v = count_le _ _ s.places (λ x e. let d = and_parts _ _ e in let f = and_parts _ _ d.0 in and_from _ _ (and_from _ _ f.0 (h.up (Support x) (helped x p f.0 g) f.0 f.1)) d.1)

  not_helped : (w x : ℕ) → (w == p) ≡ false → s.supports x w ≡ true → s.supports x p ≡ false
  not_helped w x n e = go (cases_Bool (s.supports x p))
    where
      go : (s.supports x p ≡ true) ⊎ (s.supports x p ≡ false) → s.supports x p ≡ false
      go (inr f) = f
      go (inl f) = absurd (both_ways _ n (eq-eqb w p (i.one_helped x w p e f)))

  support_down : (w : ℕ) → (w == p) ≡ false → ((x : ℕ) → s.supports x w ≡ true → move_mentions s p (Some q) (Support x) ≡ true) → support s b w ≤ support s a w
  support_down w n m = count_le _ _ s.places (λ x e. let f = and_parts _ _ e in and_from _ _ f.0 (h.down (Support x) (m x f.0) (not_helped w x n f.0) f.1))

  against_le : (v : ℕ) → support_against s a p v ≤ support s a p
  against_le v = count_le _ _ s.places (λ x e. (and_parts _ _ e).0)

  other : (q == p) ≡ false
  other = go (cases_Bool (q == p))
    where
      go : ((q == p) ≡ true) ⊎ ((q == p) ≡ false) → (q == p) ≡ false
      go (inr f) = f
      go (inl f) = absurd (both_ways _ (i.elsewhere p) (subst (λ (x : ℕ). goes s p x ≡ true) (eqb-true q p f) g))

  there : a (Move q) ≡ true → b (Move q) ≡ true
  there = h.up (Move q) (eq-eqb q q refl) g

  attack_up : attack s a p q ≤ attack s b p q
  attack_up = attack_le (has_path s a p) (has_path s b p) (s.is_occupied q) (a (Move q)) (b (Move q)) (head_to_head s p q) (s.same_power p q) (support s a p) (support s b p) (support_against s a p q) (support_against s b p q) path_up there support_up (against_up q) (against_le q)

  prevent_down : (w : ℕ) → goes s w q ≡ true → (w == p) ≡ false → prevent s b w q ≤ prevent s a w q
  prevent_down w k n = prevent_le (has_path s a w) (has_path s b w) (head_to_head s w q) (a (Move q)) (b (Move q)) (support s a w) (support s b w) (path_down w k n) there (support_down w n (λ x e. helped x w e k))

  stand_down : opposition s b p q ≤ opposition s a p q
  stand_down = go (head_to_head s p q) (λ x e f. or_right (list_any (λ w. s.supports x w && goes s w q) s.places) _ (and_from _ _ e (or_right (not (has_move s q)) _ f)))
    where
      go : (t : Bool) → ((x : ℕ) → s.supports x q ≡ true → t ≡ true → move_mentions s p (Some q) (Support x) ≡ true) → (if t then defend s b q else hold s b q) ≤ (if t then defend s a q else hold s a q)
      go true m = let l = support_down q other (λ x e. m x e refl) in omega arith
      go false _ = hold_le (s.is_occupied q) (a (Move q)) (b (Move q)) (has_move s q) (support s a q) (support s b q) there
          (λ f. support_down q other (λ x e. or_right (list_any (λ w. s.supports x w && goes s w q) s.places) _ (and_from _ _ e (or_left (not (has_move s q)) (head_to_head s p q) (rw f refl)))))

  free_up : (w : ℕ) → beats s a p q w ≡ true → beats s b p q w ≡ true
  free_up w e = go (cases_Bool (w == p)) (cases_Bool (goes s w q))
    where
      go : ((w == p) ≡ true) ⊎ ((w == p) ≡ false) → (goes s w q ≡ true) ⊎ (goes s w q ≡ false) → beats s b p q w ≡ true
      go (inl n) _ = or_left _ _ (or_left _ _ n)
      go (inr n) (inr f) = or_left _ _ (or_right (w == p) _ (rw f refl))
      go (inr n) (inl k) = or_le _ _ _ _ (λ x. x) (lt_le _ _ _ _ (prevent_down w k n) attack_up) e

  wins_up : succeeds s a p q ≡ true → succeeds s b p q ≡ true
  wins_up = and_le _ _ _ _ (all_le (beats s a p q) (beats s b p q) s.places free_up) (lt_le (opposition s a p q) (attack s a p q) (opposition s b p q) (attack s b p q) stand_down attack_up)

-- each decision's rule depends on what it mentions, rises with those of its table, and falls with the others
pub move_rises : (s : Situation) (i : IsSituation s) (p : ℕ) (o : Option ℕ) → s.target p ≡ o → (a b : Assignment) → Higher (move_mentions s p o) (rises s (Move p)) a b → move_rule s a p o ≡ true → move_rule s b p o ≡ true
move_rises s i p None t a b h e = e
move_rises s i p (Some q) t a b h e = wins_up s i p q (rw t (eq-eqb q q refl)) a b h e

pub cuts_rise : (s : Situation) (h : ℕ) (a b : Assignment) → Higher (mentions s (Support h)) (λ e. false) a b → (x : ℕ) → cuts s b h x ≡ true → cuts s a h x ≡ true
cuts_rise s h a b l x e =
    let f = and_parts (goes s x h && not (s.same_power x h)) _ e in
    and_from _ _ f.0 (go (is_at (s.aim h) x) (λ m. l.down (Move x) (and_from _ _ f.0 m) refl) (λ m n. l.down (Path x) (and_from _ _ f.0 (and_from _ _ n (rw m refl))) refl) f.1)
  where
    go : (t : Bool) → (t ≡ true → b (Move x) ≡ true → a (Move x) ≡ true) → (t ≡ false → s.convoyed x ≡ true → b (Path x) ≡ true → a (Path x) ≡ true) → (if t then b (Move x) else has_path s b x) ≡ true → (if t then a (Move x) else has_path s a x) ≡ true
    go true f g = f refl
    go false f g = path_le (s.convoyed x) (b (Path x)) (a (Path x)) (g refl)

pub entered_rises : (s : Situation) (a b : Assignment) (x : ℕ) → ((m : ℕ) → goes s m x ≡ true → b (Move m) ≡ true → a (Move m) ≡ true) → is_entered s b x ≡ true → is_entered s a x ≡ true
entered_rises s a b x f = any_le _ _ s.places (λ m e. let g = and_parts _ _ e in and_from _ _ g.0 (f m g.0 g.1))

pub joins_le : (t u : ℕ → Bool) (next : ℕ → ℕ → Bool) (places : List ℕ) (q : ℕ) → ((x : ℕ) → t x ≡ true → u x ≡ true) → (n p : ℕ) → joins t next places q n p ≡ true → joins u next places q n p ≡ true
joins_le t u next places q f zero p h = h
joins_le t u next places q f (suc n) p h = any_le _ _ places (λ x. and_le _ _ _ _ (and_le _ _ _ _ (f x) (λ e. e)) (or_le _ _ _ _ (λ e. e) (joins_le t u next places q f n x))) h

pub path_rises : (s : Situation) → IsSituation s → (p : ℕ) (a b : Assignment) → Higher (mentions s (Path p)) (λ e. false) a b → (o : Option ℕ) → path_rule s a p o ≡ true → path_rule s b p o ≡ true
path_rises s i p a b l None = λ e. e
path_rises s i p a b l (Some q) = joins_le (serves s a p) (serves s b p) s.next s.places q serves_up (suc (length s.places)) p
  where
    serves_up : (x : ℕ) → serves s a p x ≡ true → serves s b p x ≡ true
    serves_up x e =
        let f = and_parts _ _ e in
        and_from _ _ f.0 (not_le (is_entered s a x) (is_entered s b x)
        (entered_rises s a b x (λ m g. l.down (Move m) (any_listed (λ y. s.convoys y p && goes s m y) s.places x (i.carrier_listed x p f.0) (and_from _ _ f.0 g)) refl)) f.1)

pub rule_rises : (s : Situation) → IsSituation s → (d : Decision) → RisesBy (rule s) d (mentions s d) (rises s d)
rule_rises s i (Move p) a b h = move_rises s i p (s.target p) refl a b h
rule_rises s i (Path p) a b h = and_le _ _ _ _ (λ e. e) (path_rises s i p a b h (s.target p))
rule_rises s i (Support k) a b h = and_le _ _ _ _ (λ e. e) (all_le _ _ s.places (λ x. not_le _ _ (cuts_rise s k a b h x)))
