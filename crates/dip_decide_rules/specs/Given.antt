-- What the lists of the code stand for.
use Rattle.std.specs.Prelude.{◌≡◌, ◌&&◌, ℕ, Bool, false, List, length, Option, None, Some, if◌then◌else◌}
use Rattle.std.specs.List.{slice_index_or}
use Rattle.dip_decide_rules.specs.declared.decisions.Decision.{Decision}
use Rattle.dip_decide_rules.specs.declared.decisions.Decision.TheVariants.{Move, Path, Support}
pub use Rattle.dip_decide_table.specs.Rows.{situation_of}
use Rattle.dip_decide_rules.specs.declared.values.Values.{Values}
use Rattle.dip_decide_rules.specs.Deciding.{Equation, Known, IsForced}
use Rattle.dip_decide_rules.specs.Movement.{is_listed}

-- what is known; a province after the lists has nothing to decide
abbrev pub known_of : Values → Known
known_of k (Move p) = slice_index_or k.moves.items p (Some false)
known_of k (Path p) = slice_index_or k.paths.items p (Some false)
known_of k (Support p) = slice_index_or k.supports.items p (Some false)

-- what is known at first of one that is decided, or isn't
abbrev pub at_start : Bool → Option Bool
at_start decided = if decided then None else Some false

-- a column of so many provinces where what is decided of these units is open, and all else false
pub record IsOpened (size : ℕ) (decided : ℕ → Bool) (units : List ℕ) (column : List (Option Bool)) : Type 0 where
  pub sized : length column ≡ size
  pub at : (q : ℕ) → slice_index_or column q (Some false) ≡ at_start (decided q && is_listed units q)

-- the value to which a decision is forced, or that there is none
abbrev pub IsAnswer : Equation → Known → Decision → Option Bool → Type 0
IsAnswer rule k d None = (b : Bool) → IsForced rule k d b → ⊥
IsAnswer rule k d (Some b) = IsForced rule k d b
