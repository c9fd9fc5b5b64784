-- Which faults a call may answer, and how a run goes.
use Rattle.std.specs.Prelude.{◌≡◌, ℕ, List, Option, ◌<◌, ◌⊎◌, IfErr, IfSome, IsErrOf, OnOk, Result, Err, length}
use Rattle.dip_map.specs.Charts.{Chart}
use Rattle.dip_desk_keeper.specs.Keeping.{Book, IsOpen, WasTold}
use Rattle.dip_desk_machine.specs.Lawful.{IsLawful}
use Rattle.dip_desk_state.specs.Faults.{faults_with}
use Rattle.dip_desk_state.specs.declared.faults.KeepFault.TheVariants.{Damaged, Disk}
use Rattle.dip_judge_runs.specs.Runs.{AnswersAll, IsReadToEnd, IsReadWhole, IsUntouched, StopsAt}
use Rattle.dip_judge_runs.specs.declared.run.RunFault.{RunFault}
use Rattle.dip_judge_runs.specs.declared.run.RunFault.TheVariants.{Read, TooLong, Write, Memory, Keep}

-- the input can't be read: by the reader's fault, its size, or want of memory
abbrev pub IsReadingFault : RunFault → Type 0
IsReadingFault Read = Unit {0}
IsReadingFault TooLong = Unit {0}
IsReadingFault Memory = Unit {0}
IsReadingFault _ = ⊥

-- a fault between two letters or of the keeper
abbrev pub IsTakingFault : RunFault → Type 0
IsTakingFault Memory = Unit {0}
IsTakingFault (Keep fault) = Unit {0}
IsTakingFault _ = ⊥

-- a fault after the reading
abbrev pub IsAnsweringFault : RunFault → Type 0
IsAnsweringFault Write = Unit {0}
IsAnsweringFault Memory = Unit {0}
IsAnsweringFault (Keep fault) = Unit {0}
IsAnsweringFault _ = ⊥

-- where a run stops by the fault: while it reads, nothing was written and no letter was taken; after it the whole input was read
abbrev pub StopsBy : {K : Type 0} → RunFault → Option (List ℕ) → Option (List ℕ) → Option (List ℕ) → Option (List ℕ) → K → K → Type 0
StopsBy Read known left before after old new = IsUntouched before after old new
StopsBy TooLong known left before after old new = IsUntouched before after old new × IfSome known (λ input. 16777216 < length input)
StopsBy Memory known left before after old new = IsUntouched before after old new ⊎ IsReadToEnd known left
StopsBy _ known left before after old new = IsReadToEnd known left

-- the count of the keeper's faults after a call: a fault of the disk raises it
abbrev pub faults_after_run : {A : Type 0} → Result A RunFault → ℕ → ℕ
faults_after_run (Err (Keep fault)) n = faults_with fault n
faults_after_run _ n = n

-- how each letter of an input is taken over a keeper and answered: from an open one on, over an honest disk,
-- what is answered and written, or how a fault ends it; which faults there are, and how many of the disk
pub record AnswersInput {K : Type 0} (m : Chart) (b : Book K) (input : List ℕ) (old new : K) (before after : Option (List ℕ))
    (result : Result (Unit {0}) RunFault) : Type 0 where
  -- each letter, and the keeper is open again
  pub answers : IsOpen m b old → b.honest new
      → OnOk result (IsOpen m b new × AnswersAll m input (b.content m old) (b.content m new) before after)
  -- or a front of the input
  pub ends : IsOpen m b old → b.honest new → IfErr result (λ f. StopsAt m b f input old new before after)
  -- over a lawful content, as an empty desk's is, nothing is Damaged
  pub never : IsOpen m b old → b.honest new → IsLawful m (b.content m old) → IsErrOf result (Keep Damaged) → ⊥
  -- the disk is told of only where the store told of a fault
  pub failed : IsOpen m b old → b.honest new → IsErrOf result (Keep Disk) → WasTold b old new
  pub fault : IfErr result IsAnsweringFault
  pub count : b.faults new ≡ faults_after_run result (b.faults old)
  pub fair : b.honest new → b.honest old
  pub same_map : b.map_sum new ≡ b.map_sum old

-- how a run reads an input, takes each letter of it over a keeper, and writes its reply before the next
pub record RunsFile {K : Type 0} (m : Chart) (b : Book K) (known left : Option (List ℕ)) (old new : K) (before after : Option (List ℕ))
    (result : Result (Unit {0}) RunFault) : Type 0 where
  pub ok : OnOk result (IsReadToEnd known left)
  pub err : IfErr result (λ f. StopsBy f known left before after old new)
  -- the whole input was answered, and the keeper is open again
  pub answers : IsOpen m b old → b.honest new → OnOk result (IsOpen m b new
      × ((input : List ℕ) × IsReadWhole known left input × AnswersAll m input (b.content m old) (b.content m new) before after))
  -- or nothing was done, or a front of it was answered
  pub ends : IsOpen m b old → b.honest new → IfErr result (λ f. IsUntouched before after old new
      ⊎ ((input : List ℕ) × IsReadWhole known left input × StopsAt m b f input old new before after))
  -- from a lawful content on, as an empty desk is, Damaged is never told
  pub never : IsOpen m b old → b.honest new → IsLawful m (b.content m old) → IsErrOf result (Keep Damaged) → ⊥
  -- the disk is told of only where the store told of a fault
  pub failed : IsOpen m b old → b.honest new → IsErrOf result (Keep Disk) → WasTold b old new
  pub count : b.faults new ≡ faults_after_run result (b.faults old)
  pub fair : b.honest new → b.honest old
  pub same_map : b.map_sum new ≡ b.map_sum old
