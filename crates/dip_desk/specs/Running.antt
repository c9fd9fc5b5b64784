-- What a run over letters keeps.
use Rattle.std.specs.Prelude.{◌≡◌, ℕ, List, Result, OnOk, IfOk, IfErr, take, slice_get, Some}
use Rattle.dip_map.specs.Charts.{Chart}
use Rattle.dip_desk_state.specs.Records.{Reply}
use Rattle.dip_desk_state.specs.Faults.{faults_after_run}
use Rattle.dip_desk_keeper.specs.Keeping.{Book, Ends, IsOpen, WasTold}
use Rattle.dip_desk_machine.specs.Lawful.{IsLawful}
use Rattle.dip_desk_machine.specs.Machine.{IsDamagedBy, Step}
use Rattle.dip_desk_machine.specs.Mail.{Mail}
use Rattle.dip_desk_state.specs.State.{State}
use Rattle.dip_desk_machine.specs.Published.{IsFair}
use Rattle.dip_desk_machine.specs.View.{IsHistory, Turn}
use Rattle.dip_desk_state.specs.declared.faults.KeepFault.{KeepFault}
use Rattle.dip_desk_state.specs.declared.faults.KeepFault.TheVariants.{Damaged, Disk}

-- the replies are those of a history of the machine over the letters; each seat's view settles what it is told, and each movement that
-- it publishes satisfies the decision equations for the orders that stood
abbrev pub Answers : Chart → State → List Mail → List Reply → State → Type 0
Answers m old letters replies new =
    (turns : List Turn) × IsHistory m old letters replies new turns × IsFair m old turns new

-- letters taken in turn, up to the first that the keeper gives no answer to: from an open keeper on, over an honest
-- disk, what is answered, or how a fault ends it; which faults there are, and how many of the disk
pub record Runs {K X : Type 0} (m : Chart) (b : Book K) (old new : K) (letters : List Mail) (say : X → List Reply)
    (result : Result X (X × KeepFault)) : Type 0 where
  -- all letters are answered, and the keeper is open again
  pub done : IsOpen m b old → b.honest new
      → IfOk result (λ x. IsOpen m b new × Answers m (b.content m old) letters (say x) (b.content m new))
  -- or up to a fault those before it, and a crash leaves the state after them, or that after the next letter too
  pub ends : IsOpen m b old → b.honest new → IfErr result (λ e. (n : ℕ) × (s : State)
      × Answers m (b.content m old) (take n letters) (say e.0) s
      × Ends m b old new s (λ t. (it : Mail) × (slice_get letters n ≡ Some it) × (r : Reply) × Step m s it r t))
  -- Damaged is told only where the record of the author of the next letter may be it, in the state after the letters before; and never
  -- from a lawful state on, which stays lawful, where the keeper shows it still
  pub damaged : IsOpen m b old → b.honest new
      → IfErr result (λ e. e.1 ≡ Damaged → (n : ℕ) × (s : State) × Answers m (b.content m old) (take n letters) (say e.0) s
      × (it : Mail) × (slice_get letters n ≡ Some it) × IsDamagedBy m it s)
  pub never : IsOpen m b old → b.honest new → IsLawful m (b.content m old) → IfErr result (λ e. e.1 ≡ Damaged → ⊥)
  -- Disk is told only where the store told of a fault
  pub failed : IsOpen m b old → b.honest new → IfErr result (λ e. e.1 ≡ Disk → WasTold b old new)
  pub lawful : IsOpen m b old → b.honest new → b.shows new → IsLawful m (b.content m old) → IsLawful m (b.content m new)
  pub count : b.faults new ≡ faults_after_run result (b.faults old)
