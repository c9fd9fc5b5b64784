use Rattle.std.proofs.Common.{◌≡◌, List, [], ◌∷◌, refl, sym, ap, ◌∙◌, subst, arith, inl, inr}
use Rattle.std.specs.Prelude.{Bool, true, false, ◌||◌, None, Some, cond}
use Rattle.std.proofs.Math.Path.{fun_ext}
use Rattle.std.proofs.lemmas.Bool.{eqb-true, eq-eqb, or_cases, or_left, or_right, cases_Bool, both_ways}
use Rattle.std.specs.Option.{unwrap_or}
use mathlib.Core.Logic.{◌⊎◌}
use Rattle.dip_decide_table.proofs.Plain.{alike}
use Rattle.dip_decide_rules.specs.declared.decisions.Decision.{Decision}
use Rattle.dip_decide_rules.specs.declared.decisions.Decision.TheVariants.{Move, Path, Support}
use Rattle.dip_decide_rules.specs.Deciding.{same, is_among, Assignment, Known, Equation, Mentions, IsCompletion, IsForced, Follows, head_or, AreLinked, GoesRound, IsCircle, IsStuck, IsKnot, Step, Stands, give, Explains, is_broken}
use Rattle.dip_decide_rules.specs.Deciding.Step.{Forced, Circle, Knot}

-- equal decisions

pub same_is : (d e : Decision) → same d e ≡ true → d ≡ e
same_is (Move p) (Move q) h = ap Move (eqb-true p q h)
same_is (Path p) (Path q) h = ap Path (eqb-true p q h)
same_is (Support p) (Support q) h = ap Support (eqb-true p q h)
same_is _ _ h = absurd (both_ways false refl h)

pub same_self : (d : Decision) → same d d ≡ true
same_self (Move p) = eq-eqb p p refl
same_self (Path p) = eq-eqb p p refl
same_self (Support p) = eq-eqb p p refl

-- no element of ds is one of es
abbrev pub Apart : List Decision → List Decision → Type 0
Apart ds es = (d : Decision) → is_among d ds ≡ true → is_among d es ≡ false

pub record Common (ds es : List Decision) : Type 0 where
  pub one : Decision
  pub left : is_among one ds ≡ true
  pub right : is_among one es ≡ true

-- the lists have a common element or none
pub common_or_apart : (ds es : List Decision) → Common ds es ⊎ Apart ds es
common_or_apart [] es = inr (λ d h. absurd (both_ways false refl h))
common_or_apart (x ∷ ds) es = go (cases_Bool (is_among x es)) (common_or_apart ds es)
  where
    go : (is_among x es ≡ true) ⊎ (is_among x es ≡ false) → Common ds es ⊎ Apart ds es → Common (x ∷ ds) es ⊎ Apart (x ∷ ds) es
    go (inl h) _ = inl (record { one = x; left = or_left _ _ (same_self x); right = h })
    go (inr h) (inl c) = inl (record { one = c.one; left = or_right _ _ c.left; right = c.right })
    go (inr h) (inr f) = inr (λ d m. either d (or_cases _ _ m))
      where
        either : (d : Decision) → (same d x ≡ true) ⊎ (is_among d ds ≡ true) → is_among d es ≡ false
        either d (inl e) = subst (λ (y : Decision). is_among y es ≡ false) (sym (same_is d x e)) h
        either d (inr m) = f d m

pub apart_sym : (ds es : List Decision) → Apart ds es → Apart es ds
apart_sym ds es f d h = go (cases_Bool (is_among d ds))
  where
    go : (is_among d ds ≡ true) ⊎ (is_among d ds ≡ false) → is_among d ds ≡ false
    go (inl m) = absurd (both_ways _ (f d m) h)
    go (inr m) = m

-- completions

-- what is known, and b for each open decision, but true for e
abbrev pub fill : Known → Decision → Bool → Assignment
fill k e b d = cond (same d e) b (unwrap_or (k d) false)

pub fill_completes : (k : Known) (e : Decision) (b : Bool) → k e ≡ None → IsCompletion k (fill k e b)
fill_completes k e b o d v h = go (cases_Bool (same d e))
  where
    go : (same d e ≡ true) ⊎ (same d e ≡ false) → fill k e b d ≡ v
    go (inl s) = let p : d ≡ e = same_is d e s in let q : k d ≡ None = ap k p ∙ o in cc
    go (inr s) = rw (s, h) refl

pub fill_there : (k : Known) (e : Decision) (b : Bool) → fill k e b e ≡ b
fill_there k e b = rw (same_self e) refl

pub fill_elsewhere : (k : Known) (e d : Decision) (b c : Bool) → same d e ≡ false → fill k e b d ≡ fill k e c d
fill_elsewhere k e d b c s = rw s refl

-- what follows an open decision isn't forced
pub not_both : (rule : Equation) (k : Known) (d e : Decision) (b : Bool) → IsForced rule k d b → Follows rule k d e → k e ≡ None → ⊥
not_both rule k d e b f l o =
    let yes1 = fill_completes k e true o in
    let no1 = fill_completes k e false o in
    let p = f.value _ yes1 in
    let q = f.value _ no1 in
    let r = l.value _ yes1 in
    let s = l.value _ no1 in
    let t = fill_there k e true in
    let u = fill_there k e false in
    cc

-- a decision follows one open decision only
pub next_same : (rule : Equation) (k : Known) (d e c : Decision) → Follows rule k d e → Follows rule k d c → k e ≡ None → c ≡ e
next_same rule k d e c l m o = go (cases_Bool (same c e))
  where
    go : (same c e ≡ true) ⊎ (same c e ≡ false) → c ≡ e
    go (inl s) = same_is c e s
    go (inr s) =
        let yes1 = fill_completes k e true o in
        let no1 = fill_completes k e false o in
        let p = m.value _ yes1 in
        let q = m.value _ no1 in
        let r = l.value _ yes1 in
        let x = l.value _ no1 in
        let t = fill_there k e true in
        let u = fill_there k e false in
        let w = fill_elsewhere k e c true false s in
        absurd (cc)

-- circles

pub record Next (rule : Equation) (k : Known) (d : Decision) (ds : List Decision) : Type 0 where
  pub next : Decision
  pub follows : Follows rule k d next
  pub inside : is_among next ds ≡ true

pub next_in_links : (rule : Equation) (k : Known) (first : Decision) (xs : List Decision) (d : Decision) → AreLinked rule k first xs → is_among d xs ≡ true → Next rule k d (first ∷ xs)
next_in_links rule k first [] d l h = absurd (both_ways false refl h)
next_in_links rule k first (x ∷ xs) d l h = go (or_cases _ _ h) (λ m. next_in_links rule k first xs d l.1 m)
  where
    head_in : (ys : List Decision) → is_among (head_or first ys) (first ∷ x ∷ ys) ≡ true
    head_in [] = or_left _ _ (same_self first)
    head_in (y ∷ ys) = or_right (same y first) _ (or_right (same y x) _ (or_left _ _ (same_self y)))

    wider : (e : Decision) → is_among e (first ∷ xs) ≡ true → is_among e (first ∷ x ∷ xs) ≡ true
    wider e m = grind arith

    go : (same d x ≡ true) ⊎ (is_among d xs ≡ true) → (is_among d xs ≡ true → Next rule k d (first ∷ xs)) → Next rule k d (first ∷ x ∷ xs)
    go (inl s) _ = record {
      next = head_or first xs;
      follows = subst (λ (y : Decision). Follows rule k y (head_or first xs)) (sym (same_is d x s)) l.0;
      inside = head_in xs;
    }
    go (inr m) f = let n = f m in record { next = n.next; follows = n.follows; inside = wider n.next n.inside }

-- each member of a circle has one that it follows
pub next_in : (rule : Equation) (k : Known) (ds : List Decision) (d : Decision) → GoesRound rule k ds → is_among d ds ≡ true → Next rule k d ds
next_in rule k [] d r h = absurd r
next_in rule k (x ∷ xs) d r h = let n = next_in_links rule k x (x ∷ xs) d r h in record { next = n.next; follows = n.follows; inside = once n.next (or_cases _ _ n.inside) }
  where
    once : (e : Decision) → (same e x ≡ true) ⊎ (is_among e (x ∷ xs) ≡ true) → is_among e (x ∷ xs) ≡ true
    once e (inl s) = or_left _ _ s
    once e (inr m) = m

-- what holds of each decision that one with it follows
abbrev pub Passes : Equation → Known → (Decision → Type 0) → Type 0
Passes rule k P = (d e : Decision) → P d → Follows rule k d e → P e

pub to_first : (rule : Equation) (k : Known) (P : Decision → Type 0) → Passes rule k P → (first x : Decision) (xs : List Decision) → AreLinked rule k first (x ∷ xs) → P x → P first
to_first rule k P f first x [] l p = f x first p l.0
to_first rule k P f first x (y ∷ ys) l p = to_first rule k P f first y ys l.1 (f x y p l.0)

pub from_head : (rule : Equation) (k : Known) (P : Decision → Type 0) → Passes rule k P → (first x : Decision) (xs : List Decision) → AreLinked rule k first (x ∷ xs) → P x → (d : Decision) → is_among d (x ∷ xs) ≡ true → P d
from_head rule k P f first x [] l p d h = go (or_cases _ _ h)
  where
    go : (same d x ≡ true) ⊎ (false ≡ true) → P d
    go (inl s) = subst P (sym (same_is d x s)) p
    go (inr m) = absurd (both_ways false refl m)
from_head rule k P f first x (y ∷ ys) l p d h = go (or_cases _ _ h) (from_head rule k P f first y ys l.1 (f x y p l.0) d)
  where
    go : (same d x ≡ true) ⊎ (is_among d (y ∷ ys) ≡ true) → (is_among d (y ∷ ys) ≡ true → P d) → P d
    go (inl s) _ = subst P (sym (same_is d x s)) p
    go (inr m) g = g m

pub from_member : (rule : Equation) (k : Known) (P : Decision → Type 0) → Passes rule k P → (first u : Decision) (xs : List Decision) → AreLinked rule k first xs → is_among u xs ≡ true → P u → P first
from_member rule k P f first u [] l h p = absurd (both_ways false refl h)
from_member rule k P f first u (x ∷ xs) l h p = go (or_cases _ _ h) (from_member rule k P f first u xs l.1)
  where
    go : (same u x ≡ true) ⊎ (is_among u xs ≡ true) → (is_among u xs ≡ true → P u → P first) → P first
    go (inl s) _ = to_first rule k P f first x xs l (subst P (same_is u x s) p)
    go (inr m) g = g m p

-- what holds of one member and passes on holds of all
pub all_round : (rule : Equation) (k : Known) (P : Decision → Type 0) → Passes rule k P → (ds : List Decision) → GoesRound rule k ds → (u : Decision) → is_among u ds ≡ true → P u → (d : Decision) → is_among d ds ≡ true → P d
all_round rule k P f [] r u h p d m = absurd r
all_round rule k P f (x ∷ xs) r u h p d m = from_head rule k P f x x xs r (from_member rule k P f x u (x ∷ xs) r h p) d m

-- a circle that has a member of another has no others
pub circle_within : (rule : Equation) (k : Known) (ds es : List Decision) → IsCircle rule k ds → IsCircle rule k es → Common ds es → (d : Decision) → is_among d ds ≡ true → is_among d es ≡ true
circle_within rule k ds es c o both = all_round rule k (λ d. is_among d es ≡ true) passes ds c.round both.one both.left both.right
  where
    passes : Passes rule k (λ d. is_among d es ≡ true)
    passes d e m l =
        let n = next_in rule k es d o.round m in
        let q : e ≡ n.next = next_same rule k d n.next e n.follows l (o.unknown n.next n.inside) in
        subst (λ (y : Decision). is_among y es ≡ true) (sym q) n.inside

-- steps that may be made

-- a decision that is forced, or a circle
pub data Plain (rule : Equation) (k : Known) : List Decision → Bool → Type 0 where
  alone : (d : Decision) (b : Bool) → IsForced rule k d b → Plain rule k (d ∷ []) b
  ring : (ds : List Decision) → IsCircle rule k ds → Plain rule k ds true

pub open_one : (k : Known) (d : Decision) → k d ≡ None → (e : Decision) → is_among e (d ∷ []) ≡ true → k e ≡ None
open_one k d o e h = go (or_cases _ _ h)
  where
    go : (same e d ≡ true) ⊎ (false ≡ true) → k e ≡ None
    go (inl s) = ap k (same_is e d s) ∙ o
    go (inr m) = absurd (both_ways false refl m)

-- its decisions are open
pub plain_open : (rule : Equation) (k : Known) (ds : List Decision) (b : Bool) → Plain rule k ds b → (d : Decision) → is_among d ds ≡ true → k d ≡ None
plain_open rule k _ _ (alone d b f) e h = open_one k d f.is_open e h
plain_open rule k _ _ (ring ds c) e h = c.unknown e h

-- a circle has a member
pub ring_some : (rule : Equation) (k : Known) (ds : List Decision) → GoesRound rule k ds → (d : Decision) × (is_among d ds ≡ true)
ring_some rule k [] r = absurd r
ring_some rule k (x ∷ xs) r = (x, or_left _ _ (same_self x))

pub plain_some : (rule : Equation) (k : Known) (ds : List Decision) (b : Bool) → Plain rule k ds b → (d : Decision) × (is_among d ds ≡ true)
plain_some rule k _ _ (alone d b f) = (d, or_left _ _ (same_self d))
plain_some rule k _ _ (ring ds c) = ring_some rule k ds c.round

-- where something is forced or a circle, it isn't stuck
pub plain_not_stuck : (rule : Equation) (k : Known) (ds : List Decision) (b : Bool) → Plain rule k ds b → IsStuck rule k → ⊥
plain_not_stuck rule k _ _ (alone d b f) s = s.none_forced d b f
plain_not_stuck rule k _ _ (ring ds c) s = s.no_circle ds c

-- giving

pub give_same : (k : Known) (ds es : List Decision) (b : Bool) → ((d : Decision) → is_among d ds ≡ is_among d es) → give k ds b ≡ give k es b
give_same k ds es b f = fun_ext (λ d. ap (λ (t : Bool). cond t (Some b) (k d)) (f d))

pub give_apart : (k : Known) (ds es : List Decision) (b c : Bool) → Apart ds es → give (give k ds b) es c ≡ give (give k es c) ds b
give_apart k ds es b c f = fun_ext (λ d. go d (cases_Bool (is_among d ds)))
  where
    go : (d : Decision) → (is_among d ds ≡ true) ⊎ (is_among d ds ≡ false) → give (give k ds b) es c d ≡ give (give k es c) ds b d
    go d (inl m) = rw (m, f d m) refl
    go d (inr m) = rw m refl

pub give_open : (k : Known) (es : List Decision) (c : Bool) (d : Decision) → k d ≡ None → is_among d es ≡ false → give k es c d ≡ None
give_open k es c d o m = rw (m, o) refl

-- what agrees with more agrees with less
pub narrower : (k : Known) (es : List Decision) (c : Bool) → ((d : Decision) → is_among d es ≡ true → k d ≡ None) → (a : Assignment) → IsCompletion (give k es c) a → IsCompletion k a
narrower k es c o a h d v p = go (cases_Bool (is_among d es))
  where
    go : (is_among d es ≡ true) ⊎ (is_among d es ≡ false) → a d ≡ v
    go (inl m) = let q = o d m in absurd (cc)
    go (inr m) = h d v (rw m p)

pub linked_stays : (rule : Equation) (k l : Known) → ((a : Assignment) → IsCompletion l a → IsCompletion k a) → (first : Decision) (ds : List Decision) → AreLinked rule k first ds → AreLinked rule l first ds
linked_stays rule k l f first [] h = tt
linked_stays rule k l f first (d ∷ ds) h = (record { value = λ a m. h.0.value a (f a m) }, linked_stays rule k l f first ds h.1)

pub round_stays : (rule : Equation) (k l : Known) → ((a : Assignment) → IsCompletion l a → IsCompletion k a) → (ds : List Decision) → GoesRound rule k ds → GoesRound rule l ds
round_stays rule k l f [] h = h
round_stays rule k l f (d ∷ ds) h = linked_stays rule k l f d (d ∷ ds) h

pub forced_stays : (rule : Equation) (k : Known) (d : Decision) (b : Bool) (es : List Decision) (c : Bool) → ((e : Decision) → is_among e es ≡ true → k e ≡ None) → is_among d es ≡ false → IsForced rule k d b → IsForced rule (give k es c) d b
forced_stays rule k d b es c o m f = record {
  is_open = give_open k es c d f.is_open m;
  value = λ a h. f.value a (narrower k es c o a h);
}

pub circle_stays : (rule : Equation) (k : Known) (ds es : List Decision) (c : Bool) → ((e : Decision) → is_among e es ≡ true → k e ≡ None) → Apart ds es → IsCircle rule k ds → IsCircle rule (give k es c) ds
circle_stays rule k ds es c o f r = record {
  two = r.two;
  distinct = r.distinct;
  moves = r.moves;
  unknown = λ d m. give_open k es c d (r.unknown d m) (f d m);
  round = round_stays rule k (give k es c) (narrower k es c o) ds r.round;
}

pub plain_stays : (rule : Equation) (k : Known) (ds : List Decision) (b : Bool) (es : List Decision) (c : Bool) → ((e : Decision) → is_among e es ≡ true → k e ≡ None) → Apart ds es → Plain rule k ds b → Plain rule (give k es c) ds b
plain_stays rule k _ _ es c o f (alone d b h) = alone d b (forced_stays rule k d b es c o (f d (or_left _ _ (same_self d))) h)
plain_stays rule k _ _ es c o f (ring ds r) = ring ds (circle_stays rule k ds es c o f r)

-- a decision of a circle isn't forced
pub forced_apart : (rule : Equation) (k : Known) (d : Decision) (b : Bool) (es : List Decision) → IsForced rule k d b → IsCircle rule k es → Apart (d ∷ []) es
forced_apart rule k d b es f r e h = go (cases_Bool (is_among e es)) (or_cases _ _ h)
  where
    go : (is_among e es ≡ true) ⊎ (is_among e es ≡ false) → (same e d ≡ true) ⊎ (false ≡ true) → is_among e es ≡ false
    go (inr m) _ = m
    go (inl m) (inr n) = absurd (both_ways false refl n)
    go (inl m) (inl s) =
        let n = next_in rule k es d r.round (subst (λ (y : Decision). is_among y es ≡ true) (same_is e d s) m) in
        absurd (not_both rule k d n.next b f n.follows (r.unknown n.next n.inside))

-- two values that a decision is forced to are one
pub forced_once : (rule : Equation) (k : Known) (d : Decision) (b c : Bool) → IsForced rule k d b → IsForced rule k d c → b ≡ c
forced_once rule k d b c f g =
    let h = fill_completes k d true f.is_open in
    sym (f.value _ h) ∙ g.value _ h

-- two steps that may be made are one or apart
pub same_or_apart : (rule : Equation) (k : Known) (ds : List Decision) (b : Bool) (es : List Decision) (c : Bool) → Plain rule k ds b → Plain rule k es c → (give k ds b ≡ give k es c) ⊎ Apart ds es
same_or_apart rule k _ _ _ _ (alone d b f) (alone e c g) = go (cases_Bool (same e d))
  where
    go : (same e d ≡ true) ⊎ (same e d ≡ false) → (give k (d ∷ []) b ≡ give k (e ∷ []) c) ⊎ Apart (d ∷ []) (e ∷ [])
    go (inl s) =
        let p : e ≡ d = same_is e d s in
        let q : b ≡ c = forced_once rule k d b c f (subst (λ (y : Decision). IsForced rule k y c) p g) in
        inl (rw (p, q) refl)
    go (inr s) = inr (apart_sym (e ∷ []) (d ∷ []) (λ x h. here x (or_cases _ _ h)))
      where
        here : (x : Decision) → (same x e ≡ true) ⊎ (false ≡ true) → is_among x (d ∷ []) ≡ false
        here x (inl t) = rw (same_is x e t, s) refl
        here x (inr n) = absurd (both_ways false refl n)
same_or_apart rule k _ _ _ _ (alone d b f) (ring es r) = inr (forced_apart rule k d b es f r)
same_or_apart rule k _ _ _ _ (ring ds r) (alone e c g) = inr (apart_sym (e ∷ []) ds (forced_apart rule k e c ds g r))
same_or_apart rule k _ _ _ _ (ring ds r) (ring es t) = go (common_or_apart ds es)
  where
    go : Common ds es ⊎ Apart ds es → (give k ds true ≡ give k es true) ⊎ Apart ds es
    go (inr f) = inr f
    go (inl m) = inl (give_same k ds es true (λ d. alike _ _
        (circle_within rule k ds es r t m d)
        (circle_within rule k es ds t r (record { one = m.one; left = m.right; right = m.left }) d)))

-- moving a step to the front

-- steps from what is known, that end in g and break what other steps break
pub record Rest (rule : Equation) (mentions : Mentions) (k : Known) (g : Assignment) (old : List Step) : Type 0 where
  pub steps : List Step
  pub explains : Explains rule mentions k steps g
  pub breaks : (d : Decision) → is_broken steps d ≡ is_broken old d

pub move_front : (rule : Equation) (mentions : Mentions) (g : Assignment) (ds : List Decision) (b : Bool) (steps : List Step) (k : Known) → Plain rule k ds b → Explains rule mentions k steps g → Rest rule mentions (give k ds b) g steps
move_front rule mentions g ds b [] k p e =
    let x = plain_some rule k ds b p in
    let o = plain_open rule k ds b p x.0 x.1 in
    let h = e x.0 in
    absurd (cc)
move_front rule mentions g ds b (Forced d ∷ steps) k p e = go (same_or_apart rule k ds b (d ∷ []) (g d) p (alone d (g d) e.0)) (λ q. move_front rule mentions g ds b steps (give k (d ∷ []) (g d)) q e.1)
  where
    go : (give k ds b ≡ give k (d ∷ []) (g d)) ⊎ Apart ds (d ∷ []) → (Plain rule (give k (d ∷ []) (g d)) ds b → Rest rule mentions (give (give k (d ∷ []) (g d)) ds b) g steps) → Rest rule mentions (give k ds b) g (Forced d ∷ steps)
    go (inl s) _ = record { steps = steps; explains = subst (λ (l : Known). Explains rule mentions l steps g) (sym s) e.1; breaks = λ x. refl }
    go (inr f) next =
        let r = next (plain_stays rule k ds b (d ∷ []) (g d) (open_one k d e.0.is_open) f p) in
        record {
          steps = Forced d ∷ r.steps;
          explains = (
            forced_stays rule k d (g d) ds b (plain_open rule k ds b p) (apart_sym ds (d ∷ []) f d (or_left _ _ (same_self d))) e.0,
            subst (λ (l : Known). Explains rule mentions l r.steps g) (sym (give_apart k ds (d ∷ []) b (g d) f)) r.explains,
          );
          breaks = r.breaks;
        }
move_front rule mentions g ds b (Circle es ∷ steps) k p e = go (same_or_apart rule k ds b es true p (ring es e.0)) (λ q. move_front rule mentions g ds b steps (give k es true) q e.1)
  where
    go : (give k ds b ≡ give k es true) ⊎ Apart ds es → (Plain rule (give k es true) ds b → Rest rule mentions (give (give k es true) ds b) g steps) → Rest rule mentions (give k ds b) g (Circle es ∷ steps)
    go (inl s) _ = record { steps = steps; explains = subst (λ (l : Known). Explains rule mentions l steps g) (sym s) e.1; breaks = λ x. refl }
    go (inr f) next =
        let r = next (plain_stays rule k ds b es true e.0.unknown f p) in
        record {
          steps = Circle es ∷ r.steps;
          explains = (
            circle_stays rule k es ds b (plain_open rule k ds b p) (apart_sym ds es f) e.0,
            subst (λ (l : Known). Explains rule mentions l r.steps g) (sym (give_apart k ds es b true f)) r.explains,
          );
          breaks = r.breaks;
        }
move_front rule mentions g ds b (Knot es ∷ steps) k p e = absurd (plain_not_stuck rule k ds b p e.0.stuck)

-- one answer

pub knots_same : (rule : Equation) (mentions : Mentions) (k : Known) (ds es : List Decision) → IsKnot rule mentions k ds → IsKnot rule mentions k es → (d : Decision) → is_among d ds ≡ is_among d es
knots_same rule mentions k ds es p q d = alike _ _ (λ h. (q.exact d).1 ((p.exact d).0 h)) (λ h. (p.exact d).1 ((q.exact d).0 h))

pub or_same : (x y u v : Bool) → x ≡ y → u ≡ v → (x || u) ≡ (y || v)
or_same x y u v p q = rw (p, q) refl

-- where a step may be made, something is open
pub step_open : (rule : Equation) (mentions : Mentions) (k : Known) (s : Step) (a : Assignment) → Stands rule mentions k s a → (d : Decision) × (k d ≡ None)
step_open rule mentions k (Forced d) a e = (d, e.is_open)
step_open rule mentions k (Circle ds) a e = let x = ring_some rule k ds e.round in (x.0, e.unknown x.0 x.1)
step_open rule mentions k (Knot ds) a e = (e.stuck.some, e.stuck.is_open)

-- two assignments and two lists of steps give the same
pub record Alike (one two : List Step) (f g : Assignment) : Type 0 where
  pub values : (d : Decision) → f d ≡ g d
  pub broken : (d : Decision) → is_broken one d ≡ is_broken two d

pub one_answer : (rule : Equation) (mentions : Mentions) (f g : Assignment) (one two : List Step) (k : Known) → Explains rule mentions k one f → Explains rule mentions k two g → Alike one two f g
one_answer rule mentions f g [] [] k e h = record { values = λ d. let p = e d in let q = h d in cc; broken = λ d. refl }
one_answer rule mentions f g [] (s ∷ two) k e h =
    let x = step_open rule mentions k s g h.0 in
    let p = e x.0 in
    let q = x.1 in
    absurd (cc)
one_answer rule mentions f g (Forced d ∷ one) two k e h =
    let r = move_front rule mentions g (d ∷ []) (f d) two k (alone d (f d) e.0) h in
    let a = one_answer rule mentions f g one r.steps (give k (d ∷ []) (f d)) e.1 r.explains in
    record { values = a.values; broken = λ x. a.broken x ∙ r.breaks x }
one_answer rule mentions f g (Circle ds ∷ one) two k e h =
    let r = move_front rule mentions g ds true two k (ring ds e.0) h in
    let a = one_answer rule mentions f g one r.steps (give k ds true) e.1 r.explains in
    record { values = a.values; broken = λ x. a.broken x ∙ r.breaks x }
one_answer rule mentions f g (Knot ds ∷ one) [] k e h =
    let x = step_open rule mentions k (Knot ds) f e.0 in
    let p = h x.0 in
    let q = x.1 in
    absurd (cc)
one_answer rule mentions f g (Knot ds ∷ one) (Forced d ∷ two) k e h = absurd (e.0.stuck.none_forced d (g d) h.0)
one_answer rule mentions f g (Knot ds ∷ one) (Circle es ∷ two) k e h = absurd (e.0.stuck.no_circle es h.0)
one_answer rule mentions f g (Knot ds ∷ one) (Knot es ∷ two) k e h =
    let s = knots_same rule mentions k ds es e.0 h.0 in
    let a = one_answer rule mentions f g one two (give k es false) (subst (λ (l : Known). Explains rule mentions l one f) (give_same k ds es false s) e.1) h.1 in
    record { values = a.values; broken = λ x. or_same _ _ _ _ (s x) (a.broken x) }
