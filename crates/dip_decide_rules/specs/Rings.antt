-- How a circle is looked for: from move to move, each open, until one comes round.
use Rattle.std.specs.Prelude.{◌≡◌, ℕ, ◌==◌, Bool, true, false, List, [], ◌∷◌, Option, None, Some, zero, suc, Vec, if◌then◌else◌}
use Rattle.std.specs.declared.alloc.Global.{Global}
use Rattle.dip_decide_rules.specs.declared.decisions.Decision.TheVariants.{Move, Path}
use Rattle.dip_decide_rules.specs.Deciding.{Known, AreDistinct}
use Rattle.dip_decide_rules.specs.Movement.{Situation, is_listed}
use Rattle.dip_decide_rules.specs.Steps.{is_unknown, moves_of}

-- the unit in that province, where its move is open
abbrev pub open_at : Known → Option ℕ → Option ℕ
open_at k None = None
open_at k (Some q) = if is_unknown (k (Move q)) then Some q else None

-- whose open move the move of p waits for
abbrev pub waits_for : Situation → Known → ℕ → Option ℕ
waits_for s k p = open_at k (s.target p)

abbrev pub is_none_or : (ℕ → Bool) → Option ℕ → Bool
is_none_or test None = true
is_none_or test (Some q) = test q

-- within n turns one comes from p to a move that waits for none
abbrev pub leaves : Situation → Known → ℕ → ℕ → Bool
leaves s k zero p = false
leaves s k (suc n) p = is_none_or (leaves s k n) (waits_for s k p)

-- the first of these, else p
abbrev pub first_or : ℕ → List ℕ → ℕ
first_or p [] = p
first_or p (q ∷ qs) = q

-- each waits for the next, and the last one for `end`
abbrev pub AreWaiting : Situation → Known → List ℕ → ℕ → Type 0
AreWaiting s k [] end = Unit {0}
AreWaiting s k (p ∷ ps) end = (waits_for s k p ≡ Some (first_or end ps)) × AreWaiting s k ps end

-- the moves of these units are open
abbrev pub AreOpen : Known → List ℕ → Type 0
AreOpen k ps = (p : ℕ) → is_listed ps p ≡ true → k (Move p) ≡ None

-- the paths of these units are open
abbrev pub ArePathsOpen : Known → List ℕ → Type 0
ArePathsOpen k ps = (p : ℕ) → is_listed ps p ≡ true → k (Path p) ≡ None

-- a ring of open moves, each of which waits for the next
pub record IsRing (s : Situation) (k : Known) (ps : List ℕ) : Type 0 where
  pub first : ℕ
  pub rest : List ℕ
  pub shape : ps ≡ first ∷ rest
  pub waiting : AreWaiting s k ps first
  pub distinct : AreDistinct (moves_of ps)
  pub unknown : AreOpen k ps

-- the units from p on
abbrev pub from_on : ℕ → List ℕ → List ℕ
from_on p [] = []
from_on p (x ∷ xs) = if x == p then x ∷ xs else from_on p xs

-- from `start` one came by these open moves to the open move of `here`
pub record IsTrail (s : Situation) (k : Known) (start : ℕ) (trail : List ℕ) (here : ℕ) : Type 0 where
  pub first : first_or here trail ≡ start
  pub waiting : AreWaiting s k trail here
  pub distinct : AreDistinct (moves_of trail)
  pub unknown : AreOpen k (here ∷ trail)

-- a ring that was found, or that from `start` on one comes into none
abbrev pub RingOr : Situation → Known → ℕ → Option (Vec ℕ Global) → Type 0
RingOr s k start None = (n : ℕ) × (leaves s k n start ≡ true)
RingOr s k start (Some ring) = IsRing s k ring.items

-- a ring that was found; or, where the unit's move is open, that from it on one comes into none
abbrev pub RingAt : Situation → Known → ℕ → Option (Vec ℕ Global) → Type 0
RingAt s k p None = k (Move p) ≡ None → (n : ℕ) × (leaves s k n p ≡ true)
RingAt s k p (Some ring) = IsRing s k ring.items

-- a ring that was found, or that from no open move of these units on one comes into any
abbrev pub CircleOr : Situation → Known → List ℕ → Option (Vec ℕ Global) → Type 0
CircleOr s k places None = (p : ℕ) → is_listed places p ≡ true → k (Move p) ≡ None → (n : ℕ) × (leaves s k n p ≡ true)
CircleOr s k places (Some ring) = IsRing s k ring.items

-- there is one at least
abbrev pub IsNonEmpty : List ℕ → Type 0
IsNonEmpty ps = (p : ℕ) × (rest : List ℕ) × (ps ≡ p ∷ rest)
