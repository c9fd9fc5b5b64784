-- What the laws of movement speak of.
use Rattle.std.specs.Prelude.{◌≡◌, ℕ, ◌≤◌, ◌&&◌, not, Bool, true, false, List, [], ◌∷◌, length}
use Rattle.std.specs.List.{list_any}
use Rattle.dip_map.specs.Boards.{Position, IsOf}
use Rattle.dip_map.specs.Charts.{Chart, are_provs_single}
use Rattle.dip_orders_placed.specs.Standing.{are_in_force, units_of}
use Rattle.dip_orders_placed.specs.declared.placed.PlacedOrder.{PlacedOrder}
use Rattle.dip_decide_rules.specs.Movement.{Situation, goes, is_listed}
use Rattle.dip_decide_rules.specs.Rings.{first_or}

-- one order for each unit of a board, each in force
pub record AreOrders (m : Chart) (b : Position) (orders : List PlacedOrder) : Type 0 where
  pub is_of : IsOf m b
  pub units : units_of orders ≡ b.units
  pub in_force : are_in_force orders ≡ true

-- each of these goes to the next, and the last one to `end`
abbrev pub AreGoing : Situation → ℕ → List ℕ → Type 0
AreGoing s end [] = Unit {0}
AreGoing s end (p ∷ ps) = (goes s p (first_or end ps) ≡ true) × AreGoing s end ps

-- three or more moves by land in a cycle, where no other move goes to their provinces
pub record IsCycle (s : Situation) (first : ℕ) (rest : List ℕ) : Type 0 where
  pub three : 3 ≤ length (first ∷ rest)
  pub distinct : are_provs_single (first ∷ rest) ≡ true
  pub round : AreGoing s first (first ∷ rest)
  pub by_land : (p : ℕ) → is_listed (first ∷ rest) p ≡ true → s.convoyed p ≡ false
  pub alone : (p w q : ℕ) → is_listed (first ∷ rest) p ≡ true → goes s p q ≡ true → goes s w q ≡ true → w ≡ p

-- from p these lead to q, each of them passes
abbrev pub AreJoined : (ℕ → Bool) → (ℕ → ℕ → Bool) → ℕ → ℕ → List ℕ → Type 0
AreJoined test next q p [] = next p q ≡ true
AreJoined test next q p (x ∷ xs) = (test x ≡ true) × (next p x ≡ true) × AreJoined test next q x xs

-- a chain of one or more that pass joins p to q
abbrev pub IsChain : (ℕ → Bool) → (ℕ → ℕ → Bool) → ℕ → ℕ → List ℕ → Type 0
IsChain test next q p xs = (1 ≤ length xs) × AreJoined test next q p xs

-- the fleet in x convoys the move of p, and no move goes to it
abbrev pub is_undisturbed : Situation → ℕ → ℕ → Bool
is_undisturbed s p x = s.convoys x p && not (list_any (λ m. goes s m x) s.places)
