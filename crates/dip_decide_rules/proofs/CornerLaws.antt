use Rattle.std.proofs.Common.{◌≡◌, refl, sym, ◌∙◌, inl, inr}
use Rattle.std.specs.Prelude.{Bool, true, false, Option, None, Some}
use Rattle.std.proofs.lemmas.Bool.{cases_Bool, both_ways}
use mathlib.Core.Logic.{◌⊎◌}
use Rattle.dip_decide_rules.specs.declared.decisions.Decision.{Decision}
use Rattle.dip_decide_rules.specs.Corners.{at_corner, corner}
use Rattle.dip_decide_table.proofs.Plain.{alike}
use Rattle.dip_decide_rules.specs.Deciding.{Assignment, Known, Equation, IsCompletion, IsForced}

-- of the decisions with m, b is at least a at those with r, and at most a at the others
pub record Higher (m r : Decision → Bool) (a b : Assignment) : Type 0 where
  pub up : (e : Decision) → m e ≡ true → r e ≡ true → a e ≡ true → b e ≡ true
  pub down : (e : Decision) → m e ≡ true → r e ≡ false → b e ≡ true → a e ≡ true

-- the rule depends on the decisions of m alone, rises with those of r, and falls with the others
abbrev pub RisesBy : Equation → Decision → (Decision → Bool) → (Decision → Bool) → Type 0
RisesBy rule d m r = (a b : Assignment) → Higher m r a b → rule d a ≡ true → rule d b ≡ true

pub corner_completes : (r : Decision → Bool) (k : Known) (b : Bool) → IsCompletion k (corner r k b)
corner_completes r k b d v h = rw h refl

pub above_least : (m r : Decision → Bool) (k : Known) (a : Assignment) → IsCompletion k a → Higher m r (corner r k false) a
above_least m r k a c = record { up = λ e n h. up e (k e) (c e) h; down = λ e n h. down e (k e) (c e) h }
  where
    up : (e : Decision) (o : Option Bool) → ((v : Bool) → o ≡ Some v → a e ≡ v) → r e ≡ true → at_corner r false e o ≡ true → a e ≡ true
    up e None f h t = absurd (both_ways false refl (rw h at t))
    up e (Some v) f h t = f v refl ∙ t

    down : (e : Decision) (o : Option Bool) → ((v : Bool) → o ≡ Some v → a e ≡ v) → r e ≡ false → a e ≡ true → at_corner r false e o ≡ true
    down e None f h t = rw h refl
    down e (Some v) f h t = sym (f v refl) ∙ t

pub below_greatest : (m r : Decision → Bool) (k : Known) (a : Assignment) → IsCompletion k a → Higher m r a (corner r k true)
below_greatest m r k a c = record { up = λ e n h. up e (k e) (c e) h; down = λ e n h. down e (k e) (c e) h }
  where
    up : (e : Decision) (o : Option Bool) → ((v : Bool) → o ≡ Some v → a e ≡ v) → r e ≡ true → a e ≡ true → at_corner r true e o ≡ true
    up e None f h t = rw h refl
    up e (Some v) f h t = sym (f v refl) ∙ t

    down : (e : Decision) (o : Option Bool) → ((v : Bool) → o ≡ Some v → a e ≡ v) → r e ≡ false → at_corner r true e o ≡ true → a e ≡ true
    down e None f h t = absurd (both_ways false refl (rw h at t))
    down e (Some v) f h t = f v refl ∙ t

-- an open decision is forced to true where its rule gives that at the least corner
pub forced_by_least : (rule : Equation) (k : Known) (d : Decision) (m r : Decision → Bool) → RisesBy rule d m r → k d ≡ None → rule d (corner r k false) ≡ true → IsForced rule k d true
forced_by_least rule k d m r f o least = record {
  is_open = o;
  value = λ a c. f (corner r k false) a (above_least m r k a c) least;
}

-- and to false where it gives that at the greatest
pub forced_by_greatest : (rule : Equation) (k : Known) (d : Decision) (m r : Decision → Bool) → RisesBy rule d m r → k d ≡ None → rule d (corner r k true) ≡ false → IsForced rule k d false
forced_by_greatest rule k d m r f o greatest = record {
  is_open = o;
  value = λ a c. go a c (cases_Bool (rule d a));
}
  where
    go : (a : Assignment) → IsCompletion k a → (rule d a ≡ true) ⊎ (rule d a ≡ false) → rule d a ≡ false
    go a c (inr h) = h
    go a c (inl h) = absurd (both_ways _ greatest (f a (corner r k true) (below_greatest m r k a c) h))

-- an open decision is forced exactly to what its rule gives at both corners
pub forced_by_corners : (rule : Equation) (k : Known) (d : Decision) (b : Bool) (m r : Decision → Bool) → RisesBy rule d m r → k d ≡ None → rule d (corner r k false) ≡ b → rule d (corner r k true) ≡ b → IsForced rule k d b
forced_by_corners rule k d true m r f o least greatest = forced_by_least rule k d m r f o least
forced_by_corners rule k d false m r f o least greatest = forced_by_greatest rule k d m r f o greatest

pub corners_when_forced : (rule : Equation) (k : Known) (d : Decision) (b : Bool) (r : Decision → Bool) → IsForced rule k d b → (rule d (corner r k false) ≡ b) × (rule d (corner r k true) ≡ b)
corners_when_forced rule k d b r f = (f.value _ (corner_completes r k false), f.value _ (corner_completes r k true))

-- two assignments that agree where the rule depends on them give it one value
pub agree : (rule : Equation) (d : Decision) (m r : Decision → Bool) → RisesBy rule d m r → (a b : Assignment) → ((e : Decision) → m e ≡ true → a e ≡ b e) → rule d a ≡ rule d b
agree rule d m r f a b g = alike _ _
    (f a b (record { up = λ e n _ h. sym (g e n) ∙ h; down = λ e n _ h. g e n ∙ h }))
    (f b a (record { up = λ e n _ h. g e n ∙ h; down = λ e n _ h. sym (g e n) ∙ h }))
