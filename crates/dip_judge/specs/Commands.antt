-- What each command over a store comes to: what it does and leaves, and what it fails by.
use Rattle.std.specs.Prelude.{◌≡◌, ◌⊎◌, ℕ, Err, IfErr, List, Ok, OnErr, OnOk, Option, Result}
use Rattle.sqlite.specs.Held.{Held, state}
use Rattle.sqlite.specs.Store.{Ghosts}
use Rattle.dip_map.specs.Charts.{Chart}
use Rattle.dip_desk_state.specs.State.{State}
use Rattle.dip_judge_runs.specs.Fresh.{fresh_desk}
use Rattle.dip_judge_system.specs.declared.failures.Failure.{Failure}
use Rattle.dip_judge_system.specs.declared.failures.Failure.TheVariants.{Store}
use Rattle.dip_store.specs.Calls.{does_show, is_honest}
use Rattle.dip_store.specs.Causes.{has_faulted}
use Rattle.dip_store.specs.Opening.{Holds, IsDesk, IsNowOf, IsUnmadeBy, LeavesText, Says, SaysText}
use Rattle.dip_store.specs.StoreFault.{StoreFault}
use Rattle.dip_judge.specs.declared.stored.StoreCommand.{StoreCommand}
use Rattle.dip_judge.specs.declared.stored.StoreCommand.TheVariants.{Init, Letters, Serve, Report}
use Rattle.dip_judge.specs.Lasting.{Lasts, LastsFrom}
use Rattle.dip_judge.specs.Stores.{AnswersFrom, IsIdle, IsReportFailure, IsServeFailure, ReadsInput, Reports, ServesFrom, StopsFrom, StopsReport, StopsServing, TellsOfStore}

-- how a desk is made in a store, for the map of this text, whose master has this secret
pub record MakesDesk {S : Type 0} (g : Ghosts S) (m : Chart) (text master : List ℕ)
    (store new : Held S) (result : Result (Unit {0}) StoreFault) : Type 0 where
  pub made : is_honest g new
      → OnOk result (Holds g m (fresh_desk master) new × SaysText g text new × LeavesText g text new)
  pub unmade : IfErr result (IsUnmadeBy g store new)
  pub same : does_show g new → OnErr result ((state g new).committed ≡ (state g store).committed)
  pub fair : does_show g new → is_honest g store

-- how letters are answered from the desk of a store on
pub record AnswersStored {S : Type 0} (g : Ghosts S) (m : Chart) (text : List ℕ)
    (store new : Held S) (known left before after : Option (List ℕ))
    (result : Result (Unit {0}) Failure) : Type 0 where
  pub done : is_honest g new → (s : State) → Says m s (state g store).now
      → OnOk result (AnswersFrom g m s new known left before after)
  pub stops : is_honest g new → (s : State) → IsDesk g m s store
      → IfErr result (StopsFrom g m (has_faulted g store new) (IsNowOf g store) s new known left before after)
  pub reads : ReadsInput known left before after result
  pub tells : TellsOfStore g m text store new result
  pub lasts : LastsFrom g m text store new (Lasts g m text new result)
  pub fair : is_honest g new → is_honest g store

-- how all papers of a game of the desk of a store are written
pub record ReportsStored {S : Type 0} (g : Ghosts S) (m : Chart) (text game : List ℕ)
    (store new : Held S) (before after : Option (List ℕ)) (result : Result (Unit {0}) Failure)
    : Type 0 where
  pub done : is_honest g new → (s : State) → Says m s (state g store).now
      → OnOk result (Reports game s before after × Holds g m s new)
  pub stops : is_honest g new → (s : State) → IsDesk g m s store
      → IfErr result (StopsReport g m (has_faulted g store new) (IsNowOf g store) game s new before after)
  pub failed : IfErr result IsReportFailure
  pub tells : TellsOfStore g m text store new result
  pub lasts : LastsFrom g m text store new (Lasts g m text new result)
  pub fair : is_honest g new → is_honest g store

-- how so many clients are served from the desk of a store on
pub record ServesStored {S : Type 0} (g : Ghosts S) (m : Chart) (text : List ℕ) (count : ℕ)
    (store new : Held S) (result : Result (Unit {0}) Failure) : Type 0 where
  pub done : is_honest g new → (s : State) → Says m s (state g store).now
      → OnOk result (ServesFrom g m (has_faulted g store new) count s new)
  pub stops : is_honest g new → (s : State) → IsDesk g m s store
      → IfErr result (StopsServing g m (has_faulted g store new) (IsNowOf g store) count s new)
  pub failed : IfErr result IsServeFailure
  pub tells : TellsOfStore g m text store new result
  -- a desk that was lawful lasts, or there was a fault of the disk
  pub lasts : LastsFrom g m text store new (Lasts g m text new result ⊎ has_faulted g store new)
  pub fair : is_honest g new → is_honest g store

-- what making a desk came to, as the program tells it
abbrev pub as_told : Result (Unit {0}) StoreFault → Result (Unit {0}) Failure
as_told (Ok done) = Ok done
as_told (Err fault) = Err (Store fault)

module _ {S : Type 0} (g : Ghosts S) (m : Chart) (text : List ℕ) where
  -- how a desk is made in a store, as it is told
  abbrev pub MakesDeskTold : List ℕ → Held S → Held S → Result (Unit {0}) Failure → Type 0
  MakesDeskTold master store new result = (made : Result (Unit {0}) StoreFault) × (result ≡ as_told made)
      × MakesDesk g m text master store new made

  -- how a command is done over a store, and what it reads and writes
  abbrev pub DoesStored : Option (List ℕ) → Option (List ℕ) → Option (List ℕ) → Option (List ℕ)
      → StoreCommand → Held S → Held S → Result (Unit {0}) Failure → Type 0
  DoesStored known left before after (Init master) store new result =
      MakesDeskTold master.now store new result × IsIdle known left before after
  DoesStored known left before after Letters store new result =
      AnswersStored g m text store new known left before after result
  DoesStored known left before after (Serve port count) store new result =
      ServesStored g m text count store new result × IsIdle known left before after
  DoesStored known left before after (Report game) store new result =
      ReportsStored g m text game.now store new before after result × (left ≡ known)
