-- A run from a fresh desk on.
use Rattle.std.proofs.Common.{◌≡◌, ◌⊎◌, inl, inr, ℕ, List, Option, Result, Ok, Err, IfErr, OnOk, IsErrOf, refl, subst, ap}
use Rattle.dip_map.specs.Charts.{Chart}
use Rattle.dip_desk_memory.specs.InMemory.{book, state}
use Rattle.dip_desk_keeper.specs.Keeping.{IsOpen}
use Rattle.dip_desk_memory.specs.declared.memory.MemoryKeeper.{MemoryKeeper}
use Rattle.dip_desk_state.specs.State.{State}
use Rattle.dip_desk_state.specs.declared.faults.KeepFault.TheVariants.{Memory as no_room, Disk, Damaged}
use Rattle.dip_judge_runs.specs.Fresh.{AnswersFresh, IsCutShort, IsMemoryFault, fresh_desk}
use Rattle.dip_judge_runs.specs.RunFaults.{faults_after_run}
use Rattle.dip_judge_runs.specs.Runs.{AnswersAll, IsReadWhole, IsUntouched, Stops, StopsAt}
use Rattle.dip_judge_runs.specs.declared.run.RunFault.{RunFault}
use Rattle.dip_judge_runs.specs.declared.run.RunFault.TheVariants.{Read, TooLong, Write, Memory, Keep}

module _ (m : Chart) (secret : List ℕ) (old new : MemoryKeeper) (known left before after : Option (List ℕ)) (is_fresh : state old ≡ fresh_desk secret) where
  pub answered : {A E : Type 0} (r : Result A E)
      → OnOk r (IsOpen m book new × ((input : List ℕ) × IsReadWhole known left input × AnswersAll m input (state old) (state new) before after))
      → OnOk r (AnswersFresh m secret known left before after)
  answered (Ok x) run = (run.1.0, state new, run.1.1, subst (λ s. AnswersAll m run.1.0 s (state new) before after) is_fresh run.1.2)
  answered (Err e) run = tt

  stopped : (f : RunFault)
      → IsUntouched before after old new ⊎ ((input : List ℕ) × IsReadWhole known left input × StopsAt m book f input old new before after)
      → (after ≡ before) ⊎ ((input : List ℕ) × (t : State) × IsReadWhole known left input × Stops m f input (fresh_desk secret) t before after)
  stopped f (inl nothing) = inl nothing.written
  stopped f (inr run) = inr (run.0, run.2.state, run.1, subst (λ s. Stops m f run.0 s run.2.state before after) is_fresh run.2.stops)

  memory_alone : (f : RunFault) → 0 ≡ faults_after_run {A = Unit {0}} (Err f) 0 → (f ≡ Keep Damaged → ⊥) → IsMemoryFault f
  memory_alone Read count never = tt
  memory_alone TooLong count never = tt
  memory_alone Write count never = tt
  memory_alone Memory count never = tt
  memory_alone (Keep no_room) count never = refl
  memory_alone (Keep Disk) count never = absurd (cc)
  memory_alone (Keep Damaged) count never = absurd (never refl)

  pub cut_short : (r : Result (Unit {0}) RunFault) → 0 ≡ faults_after_run r 0 → (IsErrOf r (Keep Damaged) → ⊥)
      → IfErr r (λ f. IsUntouched before after old new ⊎ ((input : List ℕ) × IsReadWhole known left input × StopsAt m book f input old new before after))
      → IfErr r (λ f. IsCutShort m secret f known left before after)
  cut_short (Ok x) count never run = tt
  cut_short (Err f) count never run = (memory_alone f count (λ e. never (ap (λ x. Err x) e)), stopped f run)
