-- What is done over a store.
use Rattle.std.specs.Prelude.{◌≡◌, ◌≤◌, ◌⊎◌, ℕ, Err, IsSome, List, None, Ok, Option, Result}
use Rattle.std.specs.Io.KnownBytes.{Appends}
use Rattle.sqlite.specs.Effect.{Database}
use Rattle.sqlite.specs.Store.{Ghosts}
use Rattle.sqlite.specs.Held.{Held, state}
use Rattle.dip_map.specs.Charts.{Chart}
use Rattle.dip_desk_state.specs.State.{State, game_at}
use Rattle.dip_desk_state.specs.declared.faults.KeepFault.TheVariants as keep
use Rattle.dip_desk_keeper.specs.Papers.{AreBegun, papers_text}
use Rattle.dip_desk_keeper.specs.declared.paper_faults.PaperFault.TheVariants as paper
use Rattle.dip_store.specs.Calls.{is_honest}
use Rattle.dip_store.specs.Opening.{Holds, IsMadeForText, IsShutBy, StaysShut, StoreEnds}
use Rattle.dip_judge_runs.specs.RunFaults.{StopsBy}
use Rattle.dip_judge_runs.specs.Runs.{AnswersAll, IsReadToEnd, IsReadWhole, Stops, TakesNext}
use Rattle.dip_judge_runs.specs.declared.run.RunFault.{RunFault}
use Rattle.dip_judge_runs.specs.declared.run.RunFault.TheVariants as run
use Rattle.dip_http.specs.Serving.{IsShut, Serves, TakesOne}
use Rattle.dip_judge_system.specs.declared.failures.Failure.{Failure}
use Rattle.dip_judge_system.specs.declared.failures.Failure.TheVariants.{Listen, NoGame, NoMemory, Papers, Run, Serving, Store}

-- what an answer over a store tells of its map: the store isn't opened, for such a reason; else it
-- was made for the map of this text
abbrev pub TellsOfStore : {S : Type 0} → Ghosts S → Chart → List ℕ → Held S → Held S
    → Result (Unit {0}) Failure → Type 0
TellsOfStore g m text store new (Err (Store fault)) = IsShutBy g m text store new fault
TellsOfStore g m text store new result =
    is_honest g new → IsMadeForText m text (state g store).now

-- the failure of a keeper says that the disk failed
abbrev pub IsOfDisk : Failure → Type 0
IsOfDisk (Run (run.Keep keep.Disk)) = Unit {0}
IsOfDisk (Serving keep.Disk) = Unit {0}
IsOfDisk (Papers (paper.Keep keep.Disk)) = Unit {0}
IsOfDisk failure = ⊥

-- which it says only where there was this fault
abbrev pub BlamesDisk : Type 0 → Failure → Type 0
BlamesDisk Fault failure = IsOfDisk failure → Fault

-- nothing was read, and nothing written
abbrev pub IsIdle : Option (List ℕ) → Option (List ℕ) → Option (List ℕ) → Option (List ℕ) → Type 0
IsIdle known left before after = (left ≡ known) × (after ≡ before)

-- the whole input was read, and all its letters were answered, from one state to another, which the store holds
abbrev pub AnswersFrom : {S : Type 0} → Ghosts S → Chart → State → Held S → Option (List ℕ) → Option (List ℕ) → Option (List ℕ) → Option (List ℕ) → Type 0
AnswersFrom g m old new known left before after =
    (s : State) × (input : List ℕ) × IsReadWhole known left input × AnswersAll m input old s before after × Holds g m s new

-- a front of the input was answered, up to a fault: a crash leaves the state after the letters so answered, or after the next one too
pub record StopsIn {S : Type 0} (g : Ghosts S) (m : Chart) (Fault : Type 0) (fault : RunFault) (input : List ℕ) (old : State) (new : Held S)
    (before after : Option (List ℕ)) : Type 0 where
  pub state : State
  pub stops : Stops m fault input old state before after
  pub ends : StoreEnds g m Fault new state (TakesNext m stops.rest state)

-- answering from a store stopped at a failure: of the store, which isn't opened, and nothing was
-- read; or of the run, which blames the disk for no more than its fault, and nothing was written, or a
-- front of the input was answered
abbrev pub StopsFrom : {S : Type 0} → Ghosts S → Chart → Type 0 → (Database → Type 0) → State
    → Held S → Option (List ℕ) → Option (List ℕ) → Option (List ℕ) → Option (List ℕ) → Failure
    → Type 0
StopsFrom g m Fault Was old new known left before after (Store fault) =
    IsIdle known left before after × StaysShut g m Fault new old Was
StopsFrom g m Fault Was old new known left before after (Run fault) =
    BlamesDisk Fault (Run fault)
    × (((after ≡ before) × StoreEnds g m Fault new old (λ _. ⊥))
    ⊎ ((input : List ℕ) × IsReadWhole known left input
    × StopsIn g m Fault fault input old new before after))
StopsFrom g m Fault Was old new known left before after failure = ⊥

-- what is read and written up to a fault, whatever the store has
abbrev pub ReadsUpTo : Option (List ℕ) → Option (List ℕ) → Option (List ℕ) → Option (List ℕ) → Failure → Type 0
ReadsUpTo known left before after (Store fault) = IsIdle known left before after
ReadsUpTo known left before after (Run fault) = StopsBy fault known left before after (tt {0}) (tt {0})
ReadsUpTo known left before after failure = ⊥

-- the input was read to its end, or up to a failure
abbrev pub ReadsInput : Option (List ℕ) → Option (List ℕ) → Option (List ℕ) → Option (List ℕ) → Result (Unit {0}) Failure → Type 0
ReadsInput known left before after (Ok done) = IsReadToEnd known left
ReadsInput known left before after (Err failure) = ReadsUpTo known left before after failure

-- all papers of the game were written, in their order and nothing else
abbrev pub Reports : List ℕ → State → Option (List ℕ) → Option (List ℕ) → Type 0
Reports game s before after = IsSome (game_at game s) × Appends before after (papers_text (game_at game s))

-- there is no such game; or a beginning of its papers was written
abbrev pub ReportsUpTo : List ℕ → State → Option (List ℕ) → Option (List ℕ) → Failure → Type 0
ReportsUpTo game s before after NoGame = (game_at game s ≡ None) × (after ≡ before)
ReportsUpTo game s before after (Papers fault) = AreBegun (game_at game s) before after
ReportsUpTo game s before after failure = ⊥

-- a report failed: the store isn't opened, and nothing was written; or it was, and ends as it was
abbrev pub StopsReport : {S : Type 0} → Ghosts S → Chart → Type 0 → (Database → Type 0) → List ℕ
    → State → Held S → Option (List ℕ) → Option (List ℕ) → Failure → Type 0
StopsReport g m Fault Was game s new before after (Store fault) =
    (after ≡ before) × StaysShut g m Fault new s Was
StopsReport g m Fault Was game s new before after failure =
    ReportsUpTo game s before after failure × BlamesDisk Fault failure
    × StoreEnds g m Fault new s (λ _. ⊥)

-- a report may fail by its store, by a game that isn't there, or while papers are written
abbrev pub IsReportFailure : Failure → Type 0
IsReportFailure (Store fault) = Unit {0}
IsReportFailure NoGame = Unit {0}
IsReportFailure (Papers fault) = Unit {0}
IsReportFailure failure = ⊥

-- a failure of serving
abbrev pub IsServeFailure : Failure → Type 0
IsServeFailure (Store fault) = Unit {0}
IsServeFailure NoMemory = Unit {0}
IsServeFailure Listen = Unit {0}
IsServeFailure (Serving fault) = IsShut fault
IsServeFailure failure = ⊥

-- so many clients were served, and the store holds what they left; or a fault of the disk came with one that was told of want of memory
abbrev pub ServesFrom : {S : Type 0} → Ghosts S → Chart → Type 0 → ℕ → State → Held S → Type 0
ServesFrom g m Fault count old new = ((s : State) × Serves m count old s × Holds g m s new) ⊎ Fault

-- at most so many: a crash leaves the state after them, or after a letter more; or there was such a fault before
pub record ServesUpTo {S : Type 0} (g : Ghosts S) (m : Chart) (Fault : Type 0) (count : ℕ) (old : State) (new : Held S) : Type 0 where
  pub n : ℕ
  pub most : n ≤ count
  pub state : State
  pub serves : Serves m n old state
  pub ends : StoreEnds g m Fault new state (TakesOne m state) ⊎ Fault

-- nobody was served, and the store isn't opened or ends as it was: memory ran out, or the port
-- couldn't be listened on; or at most so many
abbrev pub StopsServing : {S : Type 0} → Ghosts S → Chart → Type 0 → (Database → Type 0) → ℕ
    → State → Held S → Failure → Type 0
StopsServing g m Fault Was count old new (Store fault) = StaysShut g m Fault new old Was
StopsServing g m Fault Was count old new NoMemory = StoreEnds g m Fault new old (λ _. ⊥)
StopsServing g m Fault Was count old new Listen = StoreEnds g m Fault new old (λ _. ⊥)
StopsServing g m Fault Was count old new (Serving fault) =
    BlamesDisk Fault (Serving fault) × ServesUpTo g m Fault count old new
StopsServing g m Fault Was count old new failure = ⊥
