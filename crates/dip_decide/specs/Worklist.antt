-- A list of decisions, each once, and a mark for each that is on it.
use Rattle.std.specs.Prelude.{◌≡◌, ◌<◌, ◌≤◌, ◌+◌, ◌++◌, ℕ, Bool, false, List, [], ◌∷◌, length, take, if◌then◌else◌}
use Rattle.std.specs.List.{slice_index_or}
use Rattle.dip_decide_rules.specs.declared.decisions.Decision.{Decision}
use Rattle.dip_decide_rules.specs.declared.decisions.Decision.TheVariants.{Move, Path, Support}
use Rattle.dip_decide_rules.specs.Deciding.{is_among, AreDistinct}

-- the province whose unit a decision is about
abbrev pub unit_of : Decision → ℕ
unit_of (Move p) = p
unit_of (Path p) = p
unit_of (Support p) = p

-- the number of its mark
abbrev pub mark_of : Decision → ℕ
mark_of (Move p) = p
mark_of (Path p) = 256 + p
mark_of (Support p) = 512 + p

-- each stands on the list once, and is marked exactly where it stands there
pub record AreMarked (list : List Decision) (marks : List Bool) : Type 0 where
  pub distinct : AreDistinct list
  pub long : length marks ≡ 768
  pub marked : (d : Decision) → unit_of d < 256
      → slice_index_or marks (mark_of d) false ≡ is_among d list

-- so many of these are on the list, and these are marked
pub record IsFilled (many : ℕ) (list : List Decision) (marks : List Bool) : Type 0 where
  pub within : many ≤ length list
  pub marked : AreMarked (take many list) marks

-- the list with one more, if that is so
abbrev pub listed_if : Bool → Decision → List Decision → List Decision
listed_if b d list = if b then list ++ d ∷ [] else list
