-- Tests, options and answers, whatever they are of.
use Rattle.std.proofs.Common.{◌≡◌, ℕ, refl, sym, ap, arith}
use Rattle.std.specs.Prelude.{◌==◌, Bool, true, false, Option, None, Some, Result, Ok, Err, IfOk}
use Rattle.std.proofs.lemmas.Bool.{both_ways, eq-eqb, eqb-true}
use Rattle.std.proofs.lemmas.Bool.Decides.{nat_tests}
use Rattle.dip_decide_table.specs.Situations.{is_at}

-- two tests that hold alike are equal
pub alike : (x y : Bool) → (x ≡ true → y ≡ true) → (y ≡ true → x ≡ true) → x ≡ y
alike true y f g = sym (f refl)
alike false true f g = g refl
alike false false f g = refl

pub flip_eq : (x p : ℕ) → (x == p) ≡ true → (p == x) ≡ true
flip_eq x p e = grind (arith, nat_tests)

-- options

pub is_at_is : (o : Option ℕ) (q : ℕ) → is_at o q ≡ true → o ≡ Some q
is_at_is None q h = absurd (both_ways false refl h)
is_at_is (Some p) q h = ap Some (eqb-true p q h)

pub at_is : (o : Option ℕ) (q : ℕ) → o ≡ Some q → is_at o q ≡ true
at_is o q e = rw e (eq-eqb q q refl)

-- what holds of each good answer holds more
pub if_ok_more : {A E : Type 0} (P Q : A → Type 0) (r : Result A E) → ((a : A) → P a → Q a) → IfOk r P → IfOk r Q
if_ok_more P Q (Ok a) f h = f a h
if_ok_more P Q (Err e) f h = h
