-- Calls that change nothing.
use Rattle.std.specs.Prelude.{◌≡◌, ◌⊎◌, false, IsTrue, Result, OnOk}
use Rattle.sqlite.specs.Store.{Ghosts}
use Rattle.sqlite.specs.Held.{Held, state}
use Rattle.sqlite.specs.State.{HasCleanDisk, IsUnchanged, KeepsCommit, Survives}

-- the call commits nothing; where it succeeds it changes nothing, where it fails it may undo
pub record LeavesAlone {S X E : Type 0} (g : Ghosts S) (old new : Held S) (r : Result X E)
    : Type 0 where
  pub survives : Survives (state g old) (state g new) (λ _. ⊥)
  pub mode : old.in_transaction ≡ false → new.in_transaction ≡ false
  pub keeps : HasCleanDisk (state g new) → KeepsCommit (state g old) (state g new)
  pub shows : HasCleanDisk (state g new) → IsTrue (state g new).is_open
      → ((state g new).now ≡ (state g old).now) ⊎ ((state g new).now ≡ (state g old).committed)
  pub same : HasCleanDisk (state g new) → IsTrue (state g new).is_open
      → OnOk r (IsUnchanged (state g old) (state g new))
