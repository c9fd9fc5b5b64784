-- A column in which the provinces of broken paths are marked.
use Rattle.std.specs.Prelude.{ℕ, Bool, true, List, [], ◌∷◌, Option, Some}
use Rattle.std.specs.List.{slice_set}
use Rattle.dip_decide_rules.specs.declared.decisions.Step as Written
use Rattle.dip_decide_rules.specs.declared.decisions.Step.TheVariants.{Forced, Circle, Knot}

-- with these provinces marked
abbrev pub with_all : List ℕ → List (Option Bool) → List (Option Bool)
with_all [] column = column
with_all (p ∷ ps) column = with_all ps (slice_set column p (Some true))

-- with those marked whose paths a step breaks
abbrev pub with_broken : Written.Step → List (Option Bool) → List (Option Bool)
with_broken (Forced d) column = column
with_broken (Circle ps) column = column
with_broken (Knot ps) column = with_all ps.items column

-- with those marked whose paths any of these steps breaks
abbrev pub with_steps : List Written.Step → List (Option Bool) → List (Option Bool)
with_steps [] column = column
with_steps (s ∷ steps) column = with_steps steps (with_broken s column)
