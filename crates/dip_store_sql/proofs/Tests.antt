-- What a test on a text or a number in a WHERE finds.
use Rattle.std.proofs.Common.{◌≡◌, ℤ, List, ℕ, pos, Bool, true, false, ◌&&◌, ◌==◌, Some, arith, bytes_eq, refl, ap, ◌∙◌}
use Rattle.std.proofs.lemmas.Bool.Decides.{nat_tests}
use Rattle.std.proofs.lemmas.Int.{ints}
use Rattle.std.proofs.lemmas.Map.Text.{is_eq-slice_cmp}
use Rattle.sqlite.specs.declared.types.Value.TheVariants.{Int, Text}
use Rattle.sqlite_value.proofs.OrderLemmas.{value_cmp-Text, value_cmp-Int}
use Rattle.sqlite.specs.Collation.TheVariants.{Binary}
use Rattle.sqlite_sql.specs.declared.ops.BinaryOp.TheVariants.{Compare}
use Rattle.sqlite_sql.specs.declared.ops.CompareOp.TheVariants.{Eq}
use Rattle.sqlite.specs.Ops.{binary, is_true, from_truth}
use Rattle.std.specs.Ordering.{is_eq, int_cmp}

truth_is : (b : Bool) → is_true (from_truth (Some b)) ≡ b
truth_is true = refl
truth_is false = refl

pub text_test : (a b : List ℕ) → is_true (binary (Compare Eq Binary) (Text a) (Text b)) ≡ bytes_eq a b
unfolding binary
text_test a b = truth_is _ ∙ rw (value_cmp-Text a b) (is_eq-slice_cmp a b)

pub int_test : (a b : ℤ) → is_true (binary (Compare Eq Binary) (Int a) (Int b)) ≡ is_eq (int_cmp a b)
unfolding binary
int_test a b = truth_is _ ∙ ap is_eq (value_cmp-Int a b)

-- numbers that the tables hold are natural
pub number_test : (m n : ℕ) → is_true (binary (Compare Eq Binary) (Int (pos m)) (Int (pos n))) ≡ (m == n)
number_test m n = int_test (pos m) (pos n) ∙ same_number
  where
    same_number : is_eq (int_cmp (pos m) (pos n)) ≡ (m == n)
    same_number = grind (arith, ints, nat_tests)

-- the end of a list of tests that all have to pass
pub and_true : (b : Bool) → (b && true) ≡ b
and_true true = refl
and_true false = refl

pub and_both : (a b : Bool) → (a && (b && true)) ≡ (a && b)
and_both a b = ap (λ x. a && x) (and_true b)

pub and_all : (a b c : Bool) → (a && (b && (c && true))) ≡ (a && (b && c))
and_all a b c = ap (λ x. a && (b && x)) (and_true c)
