-- What a movement makes of a board.
use Rattle.std.proofs.Common.{◌≡◌, ℕ, ◌+◌, Bool, true, false, cond, not, refl, arith}
use Rattle.std.specs.Prelude.{◌&&◌, ◌||◌, nat_lt}
use Rattle.std.proofs.lemmas.Bool.Decides.{nat_tests}
use Rattle.dip_decide_rules.specs.Deciding.{Assignment}
use Rattle.dip_decide_rules.specs.declared.decisions.Decision.TheVariants.{Move}
use Rattle.dip_decide_rules.specs.Movement.{Situation, has_path, head_to_head, prevent, support}

positive : (a b c : Bool) (n : ℕ) → nat_lt 0 (cond (not a || (b && c)) 0 (1 + n)) ≡ (a && not (b && c))
positive true true true n = refl
positive true true false n = grind (arith, nat_tests)
positive true false c n = grind (arith, nat_tests)
positive false b c n = refl

-- a move has prevent strength where it has a path and isn't the loser of a fight head to head
pub prevents : (s : Situation) (a : Assignment) (p q : ℕ) → nat_lt 0 (prevent s a p q) ≡ (has_path s a p && not (head_to_head s p q && a (Move q)))
prevents s a p q = positive (has_path s a p) (head_to_head s p q) (a (Move q)) (support s a p)
