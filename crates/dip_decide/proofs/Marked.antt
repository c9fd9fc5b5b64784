-- The marks of a worklist, one after the other set and cleared.
use Rattle.std.proofs.Common.{◌≡◌, ◌≢◌, ℕ, ◌<◌, List, [], ◌∷◌, ◌++◌, ◌+◌, ◌≤◌, get_or, length, replicate, take, zero, suc, arith, refl, sym, subst, ap, ◌∙◌, inl, inr}
use Rattle.std.specs.Prelude.{◌||◌, ◌&&◌, not, Bool, true, false}
use Rattle.std.specs.List.{slice_index_or, slice_set}
use Rattle.std.proofs.lemmas.List.{take_more}
use Rattle.std.proofs.lemmas.Bool.{cases_Bool, both_ways, eq-eqb, or_left, or_right}
use mir.Val.{bool_byte}
use mathlib.Core.Logic.{◌⊎◌}
use Rattle.dip_decide_rules.specs.declared.decisions.Decision.{Decision}
use Rattle.dip_decide_rules.specs.declared.decisions.Decision.TheVariants.{Move, Path, Support}
use Rattle.dip_decide_rules.specs.Deciding.{same, is_among, AreDistinct}
use Rattle.dip_decide.specs.Worklist.{unit_of, mark_of, AreMarked, IsFilled}
use Rattle.dip_decide_rules.proofs.OneAnswer.{same_is, same_self}
use Rattle.dip_decide_rules.proofs.Giving.{among_more}

unmarked : (n i : ℕ) → slice_index_or (replicate n false) i false ≡ false
unmarked zero i = refl
unmarked (suc n) zero = refl
unmarked (suc n) (suc i) = unmarked n i

all_of : (n : ℕ) → length (replicate n false) ≡ n
all_of zero = refl
all_of (suc n) = ap suc (all_of n)

as_long : (marks : List Bool) (i : ℕ) (b : Bool) → length (slice_set marks i b) ≡ length marks
as_long [] i b = refl
as_long (m ∷ ms) zero b = refl
as_long (m ∷ ms) (suc i) b = ap suc (as_long ms i b)

pub marked_none : AreMarked [] (replicate 768 false)
marked_none = record { distinct = tt; long = all_of 768; marked = λ d h. unmarked 768 (mark_of d) }

set_there : (marks : List Bool) (i : ℕ) (b : Bool) → i < length marks → slice_index_or (slice_set marks i b) i false ≡ b
set_there [] i b h = absurd (omega (arith, h))
set_there (m ∷ ms) zero b h = refl
set_there (m ∷ ms) (suc i) b h = set_there ms i b (omega (arith, h))

set_elsewhere : (marks : List Bool) (i j : ℕ) (b : Bool) → i ≢ j → slice_index_or (slice_set marks i b) j false ≡ slice_index_or marks j false
set_elsewhere [] i j b n = refl
set_elsewhere (m ∷ ms) zero zero b n = absurd (n refl)
set_elsewhere (m ∷ ms) zero (suc j) b n = refl
set_elsewhere (m ∷ ms) (suc i) zero b n = refl
set_elsewhere (m ∷ ms) (suc i) (suc j) b n = set_elsewhere ms i j b (λ e. n (ap suc e))

-- two decisions have one mark only where they are one
one_mark : (d e : Decision) → unit_of d < 256 → unit_of e < 256 → same d e ≡ false → mark_of e ≢ mark_of d
one_mark (Move p) (Move q) h g n m = both_ways _ n (eq-eqb p q (sym m))
one_mark (Path p) (Path q) h g n m = let t : p ≡ q = omega (arith, m) in both_ways _ n (eq-eqb p q t)
one_mark (Support p) (Support q) h g n m = let t : p ≡ q = omega (arith, m) in both_ways _ n (eq-eqb p q t)
one_mark (Move p) (Path q) h g n m = absurd (omega (arith, h, g, m))
one_mark (Move p) (Support q) h g n m = absurd (omega (arith, h, g, m))
one_mark (Path p) (Move q) h g n m = absurd (omega (arith, h, g, m))
one_mark (Path p) (Support q) h g n m = absurd (omega (arith, h, g, m))
one_mark (Support p) (Move q) h g n m = absurd (omega (arith, h, g, m))
one_mark (Support p) (Path q) h g n m = absurd (omega (arith, h, g, m))

or_none : (b : Bool) → b ≡ (b || false)
or_none true = refl
or_none false = refl

module _ (marks : List Bool) (e : Decision) (low : unit_of e < 256) (place : mark_of e < 768) where
  distinct_more : (list : List Decision) → AreDistinct list → is_among e list ≡ false → AreDistinct (list ++ e ∷ [])
  distinct_more [] a n = (refl, tt)
  distinct_more (x ∷ xs) a n = go (cases_Bool (same x e)) (cases_Bool (is_among e xs)) (distinct_more xs a.1)
    where
      go : (same x e ≡ true) ⊎ (same x e ≡ false) → (is_among e xs ≡ true) ⊎ (is_among e xs ≡ false) → (is_among e xs ≡ false → AreDistinct (xs ++ e ∷ [])) → AreDistinct ((x ∷ xs) ++ e ∷ [])
      go (inl s) _ _ = absurd (both_ways _ n (or_left _ _ (ap (same e) (same_is x e s) ∙ same_self e)))
      go (inr s) (inl m) _ = absurd (both_ways _ n (or_right (same e x) _ m))
      go (inr s) (inr m) f = (among_more x xs e ∙ rw (a.0, s) refl, f m)

  pub marked_more : (list : List Decision) → AreMarked list marks → is_among e list ≡ false → AreMarked (list ++ e ∷ []) (slice_set marks (mark_of e) true)
  marked_more list a n = record { distinct = distinct_more list a.distinct n; long = as_long marks (mark_of e) true ∙ a.long; marked = λ d h. go d h (cases_Bool (same d e)) }
    where
      go : (d : Decision) → unit_of d < 256 → (same d e ≡ true) ⊎ (same d e ≡ false) → slice_index_or (slice_set marks (mark_of e) true) (mark_of d) false ≡ is_among d (list ++ e ∷ [])
      go d h (inl s) = rw (same_is d e s) (set_there marks (mark_of e) true (omega (arith, a.long, place)) ∙ sym (among_more e list e ∙ or_right (is_among e list) _ (same_self e)))
      go d h (inr s) = set_elsewhere marks (mark_of e) (mark_of d) true (one_mark d e h low s) ∙ a.marked d h ∙ sym (among_more d list e ∙ rw s (sym (or_none (is_among d list))))

  distinct_less : (list : List Decision) → AreDistinct (list ++ e ∷ []) → AreDistinct list × (is_among e list ≡ false)
  distinct_less [] a = (tt, refl)
  distinct_less (x ∷ xs) a = go (cases_Bool (is_among x xs)) (cases_Bool (same x e)) (cases_Bool (same e x)) (distinct_less xs a.1)
    where
      go : (is_among x xs ≡ true) ⊎ (is_among x xs ≡ false) → (same x e ≡ true) ⊎ (same x e ≡ false) → (same e x ≡ true) ⊎ (same e x ≡ false) → AreDistinct xs × (is_among e xs ≡ false) → AreDistinct (x ∷ xs) × (is_among e (x ∷ xs) ≡ false)
      go (inl m) _ _ r = absurd (both_ways _ a.0 (among_more x xs e ∙ or_left _ _ m))
      go (inr m) (inl s) _ r = absurd (both_ways _ a.0 (among_more x xs e ∙ or_right (is_among x xs) _ s))
      go (inr m) (inr s) (inl t) r = absurd (both_ways _ s (ap (λ y. same x y) (same_is e x t) ∙ same_self x))
      go (inr m) (inr s) (inr t) r = ((m, r.0), rw (t, r.1) refl)

  pub marked_less : (list : List Decision) → AreMarked (list ++ e ∷ []) marks → AreMarked list (slice_set marks (mark_of e) false)
  marked_less list a = let l = distinct_less list a.distinct in record { distinct = l.0; long = as_long marks (mark_of e) false ∙ a.long; marked = λ d h. go l.1 d h (cases_Bool (same d e)) }
    where
      go : is_among e list ≡ false → (d : Decision) → unit_of d < 256 → (same d e ≡ true) ⊎ (same d e ≡ false) → slice_index_or (slice_set marks (mark_of e) false) (mark_of d) false ≡ is_among d list
      go n d h (inl s) = rw (same_is d e s) (set_there marks (mark_of e) false (omega (arith, a.long, place)) ∙ sym n)
      go n d h (inr s) = set_elsewhere marks (mark_of e) (mark_of d) false (one_mark d e h low s) ∙ a.marked d h ∙ among_more d list e ∙ rw s (sym (or_none (is_among d list)))

-- the list as it is filled, and as it is taken from
pub filled_none : (list : List Decision) (marks : List Bool) → marks ≡ replicate 768 false → IsFilled 0 list marks
filled_none list marks e = record { within = omega arith; marked = rw e marked_none }

pub filled_kept : (many : ℕ) (list new : List Decision) (marks : List Bool) → take many new ≡ take many list → many ≤ length new → IsFilled many list marks → IsFilled many new marks
filled_kept many list new marks e l f = record { within = l; marked = rw e f.marked }

pub filled_more : (many : ℕ) (list new : List Decision) (marks : List Bool) (d : Decision) → unit_of d < 256 → mark_of d < 768 → take (many + 1) new ≡ take many list ++ d ∷ [] → many < length new
    → is_among d (take many list) ≡ false → IsFilled many list marks → IsFilled (many + 1) new (slice_set marks (mark_of d) true)
filled_more many list new marks d u p e l n f = record { within = omega (arith, l); marked = rw e (marked_more marks d u p (take many list) f.marked n) }

pub filled_less : (many : ℕ) (list : List Decision) (marks : List Bool) (d : Decision) → unit_of d < 256 → mark_of d < 768 → many < length list → d ≡ get_or list many d
    → IsFilled (many + 1) list marks → IsFilled many list (slice_set marks (mark_of d) false)
filled_less many list marks d u p l is f =
    let e : take (many + 1) list ≡ take many list ++ d ∷ [] = take_more list many d l ∙ ap (λ (x : Decision). take many list ++ x ∷ []) (sym is) in
    record { within = omega (arith, l); marked = marked_less marks d u p (take many list) (rw e at f.marked) }

-- a mark that is set again
same_marks : (marks : List Bool) (i : ℕ) (b : Bool) → slice_index_or marks i false ≡ b → slice_set marks i b ≡ marks
same_marks [] i b e = refl
same_marks (m ∷ ms) zero b e = rw e refl
same_marks (m ∷ ms) (suc i) b e = ap (λ (xs : List Bool). m ∷ xs) (same_marks ms i b e)

pub filled_if : (many n : ℕ) (list new : List Decision) (marks : List Bool) (d : Decision) (w : Bool) → unit_of d < 256 → mark_of d < 768 → take many new ≡ take many list → take (many + 1) new ≡ take many list ++ d ∷ []
    → many < length new → n ≡ bool_byte (w && not (slice_index_or marks (mark_of d) false)) → IsFilled many list marks → IsFilled (many + n) new (slice_set marks (mark_of d) (slice_index_or marks (mark_of d) false || w))
filled_if many n list new marks d w u p k e l b f = go (slice_index_or marks (mark_of d) false) refl w b
  where
    still : slice_set marks (mark_of d) (slice_index_or marks (mark_of d) false) ≡ marks → n ≡ 0 → IsFilled (many + n) new (slice_set marks (mark_of d) (slice_index_or marks (mark_of d) false))
    still s z =
        let t : many ≡ many + n = omega (arith, z) in
        rw s (subst (λ (x : ℕ). IsFilled x new marks) t (filled_kept many list new marks k (omega (arith, l)) f))

    go : (was : Bool) → slice_index_or marks (mark_of d) false ≡ was → (w : Bool) → n ≡ bool_byte (w && not was) → IsFilled (many + n) new (slice_set marks (mark_of d) (was || w))
    go true s true z = subst (λ (x : Bool). IsFilled (many + n) new (slice_set marks (mark_of d) x)) s (still (same_marks marks (mark_of d) _ refl) z)
    go true s false z = subst (λ (x : Bool). IsFilled (many + n) new (slice_set marks (mark_of d) x)) s (still (same_marks marks (mark_of d) _ refl) z)
    go false s false z = subst (λ (x : Bool). IsFilled (many + n) new (slice_set marks (mark_of d) x)) s (still (same_marks marks (mark_of d) _ refl) z)
    go false s true z =
        let one : n ≡ 1 = z in
        let t : many + 1 ≡ many + n = omega (arith, one) in
        subst (λ (x : ℕ). IsFilled x new (slice_set marks (mark_of d) true)) t (filled_more many list new marks d u p e l (sym (f.marked.marked d u) ∙ s) f)
