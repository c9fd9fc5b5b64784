-- Papers that aren't found right, or of which none is explained.
use Rattle.std.specs.Prelude.{ℕ, List, Option, false}
use Rattle.dip_map.specs.Charts.{Chart}
use Rattle.dip_check_runs.specs.Runs.{EndsBegun, EndsEarly, IsChecked, IsExplained, TellsIfGame}
use Rattle.dip_judge_system.specs.declared.failures.Failure.{Failure}
use Rattle.dip_judge_system.specs.declared.failures.Failure.TheVariants.{Checking, Negative}

-- papers weren't found right, which was told, and they are no game's; or it couldn't be told
abbrev pub FailsCheck : Chart → Option (List ℕ) → Option (List ℕ) → Option (List ℕ) → Option (List ℕ) → Failure → Type 0
FailsCheck m known left before after Negative = IsChecked m known left before after false × TellsIfGame m known false
FailsCheck m known left before after (Checking fault) = EndsEarly m known before after fault
FailsCheck m known left before after failure = ⊥

-- there was no explanation, and why was told; or it couldn't be told
abbrev pub FailsExplaining : Chart → ℕ → Option (List ℕ) → Option (List ℕ) → Option (List ℕ) → Option (List ℕ) → Failure → Type 0
FailsExplaining m number known left before after Negative = IsExplained m number known left before after false
FailsExplaining m number known left before after (Checking fault) = EndsBegun m number known left before after fault
FailsExplaining m number known left before after failure = ⊥
