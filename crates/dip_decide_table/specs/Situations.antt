-- The situation of a movement: what its units are ordered to do, each named by its province.
use Rattle.std.specs.Prelude.{ℕ, ◌==◌, Bool, false, not, ◌&&◌, List, Option, None, Some}
use Rattle.std.specs.List.{list_any}
use Rattle.std.specs.Option.{is_some}

-- what movement needs of a map, a board and its orders
pub record Situation : Type 0 where
  -- the provinces with a unit
  pub places : List ℕ
  pub is_occupied : ℕ → Bool
  -- the two units are of one power
  pub same_power : ℕ → ℕ → Bool
  -- where its move goes
  pub target : ℕ → Option ℕ
  -- its move goes by convoy
  pub convoyed : ℕ → Bool
  -- its support matches, and is for the second unit
  pub supports : ℕ → ℕ → Bool
  -- the province into which it supports a move
  pub aim : ℕ → Option ℕ
  -- it is a fleet in a sea, and its convoy matches the move of the second unit
  pub convoys : ℕ → ℕ → Bool
  -- neighbours for a fleet, of any coast
  pub next : ℕ → ℕ → Bool

-- where it goes is q
abbrev pub is_at : Option ℕ → ℕ → Bool
is_at None q = false
is_at (Some p) q = p == q

-- the unit in p has a move to q
abbrev pub goes : Situation → ℕ → ℕ → Bool
goes s p q = is_at (s.target p) q

-- the unit in p has a move
abbrev pub has_move : Situation → ℕ → Bool
has_move s p = is_some (s.target p)

-- head to head: the two go to one another's provinces, neither by convoy
abbrev pub head_to_head : Situation → ℕ → ℕ → Bool
head_to_head s p q = (goes s p q && goes s q p) && (not (s.convoyed p) && not (s.convoyed q))

-- the unit in h has a support that matches
abbrev pub is_support : Situation → ℕ → Bool
is_support s h = list_any (λ p. s.supports h p) s.places

-- p is one of these
abbrev pub is_listed : List ℕ → ℕ → Bool
is_listed ps p = list_any (λ x. x == p) ps
