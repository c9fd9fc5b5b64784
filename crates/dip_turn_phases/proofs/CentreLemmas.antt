-- Centres and victory.
use Rattle.std.proofs.Common.{◌≡◌, ℕ, ◌+◌, ◌-◌, ◌*◌, Bool, cond, suc, List, [], ◌∷◌, length, count_by, refl, ap, ◌∙◌, arith}
use Rattle.std.specs.Prelude.{nat_lt}
use Rattle.std.specs.List.{range_with_len, slice_index_or}
use Rattle.std.proofs.lemmas.Bool.Decides.{nat_tests}
use Rattle.std.proofs.lemmas.List.FromFn.{length-range_with_len}
use Rattle.dip_map.specs.Charts.{Chart, Province, is_centre, no_province, provs}
use Rattle.dip_orders_placed.proofs.KeptLaws.{count_cons}
use Rattle.dip_turn_phases.specs.Centres.{centres}

-- more than half are owned where the others are fewer
pub more_than_half : (all owned : ℕ) → nat_lt (all - owned) owned ≡ nat_lt all (2 * owned)
more_than_half all owned = grind (arith, nat_tests)

-- a test of numbers that says of each number from a on what its province says
numbers_counted : (ps : List Province) (f : ℕ → Bool) (a : ℕ) → ((i : ℕ) → f (a + i) ≡ (slice_index_or ps i no_province).centre) → count_by f (range_with_len a (length ps)) ≡ count_by (λ p. p.centre) ps
numbers_counted [] f a h = refl
numbers_counted (p ∷ ps) f a h =
    let here : f a ≡ p.centre = ap f (omega arith) ∙ h 0 in
    let rest = numbers_counted ps f (a + 1) (λ i. ap f (omega arith) ∙ h (suc i)) in
    omega (arith, count_cons f a (range_with_len (a + 1) (length ps)), count_cons (λ (x : Province). x.centre) p ps, ap {B = ℕ} (λ (b : Bool). cond b 1 0) here, rest)

-- the provinces that are centres are as many as the centres
pub centres_counted : (m : Chart) → count_by (is_centre m) (provs m) ≡ centres m
centres_counted m =
    numbers_counted m.provinces (is_centre m) 0 (λ i. let same : 0 + i ≡ i = omega arith in
    ap (is_centre m) same)

-- a number for each province
pub length_provs : (m : Chart) → length (provs m) ≡ length m.provinces
length_provs m = length-range_with_len 0 (length m.provinces)
