-- Lines that two texts have alike at the front.
use Rattle.std.proofs.Common.{◌≡◌, ◌≤◌, ◌+◌, ℕ, Bool, true, false, cond, List, [], ◌∷◌, length, refl, arith}
use Rattle.std.specs.Str.{bytes_eq}
use Rattle.dip_check_papers.specs.Differing.{alike}

pub none_alike : (ls : List (List ℕ)) → alike ls [] ≡ 0
none_alike [] = refl
none_alike (l ∷ ls) = refl

-- no more lines are alike than there are
pub few_alike : (ls ks : List (List ℕ)) → alike ls ks ≤ length ls
few_alike [] ks = omega arith
few_alike (l ∷ ls) [] = omega arith
few_alike (l ∷ ls) (k ∷ ks) = by (bytes_eq l k) (few_alike ls ks)
  where
    by : (t : Bool) → alike ls ks ≤ length ls → cond t (alike ls ks + 1) 0 ≤ length (l ∷ ls)
    by true few = omega (arith, few)
    by false few = omega arith
