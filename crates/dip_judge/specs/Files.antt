-- What a command leaves of the store in a file, from what the file held on.
use Rattle.std.specs.Prelude.{◌≡◌, ◌≤◌, ℕ, Err, List, None, OnOk, Option, Result, Some}
use Rattle.sqlite.specs.Effect.{Database, IsDatabase}
use Rattle.sqlite.specs.Files.{AreFoundIn, HoldsDatabase}
use Rattle.sqlite.specs.Held.{Held, state}
use Rattle.sqlite.specs.Recovery.{Image}
use Rattle.sqlite.specs.Store.{Ghosts}
use Rattle.sqlite.specs.Tree.{Trees}
use Rattle.dip_map.specs.Charts.{Chart}
use Rattle.dip_judge_words.specs.declared.args.Args.{Args}
use Rattle.dip_judge_words.specs.declared.args.Args.TheVariants.{Init, Letters, LettersOver, Serve, Report, Check, Explain, Version}
use Rattle.dip_desk_state.specs.State.{State}
use Rattle.dip_store.specs.Calls.{does_show, is_honest}
use Rattle.dip_store.specs.Opening.{Holds, IsMadeForText, IsShutFor, Says, SaysText}
use Rattle.dip_store.specs.StoreFault.{StoreFault}
use Rattle.dip_judge_runs.specs.Fresh.{fresh_desk}
use Rattle.dip_judge_system.specs.FileFaults.{IsFindFault, IsOpenFault}
use Rattle.dip_judge.specs.Stores.{AnswersFrom, Reports, ServesFrom, StopsFrom, StopsReport, StopsServing}
use Rattle.dip_judge_system.specs.declared.failures.Failure.{Failure}
use Rattle.dip_judge_system.specs.declared.failures.Failure.TheVariants.{Store}

-- the database is found in the file
abbrev pub IsFoundIn : Image → Database → Type 0
IsFoundIn image db = IsDatabase db × AreFoundIn image db.trees

-- the file held a desk of this state by the map: whatever database is found in it says this state
abbrev pub HeldDesk : Image → Chart → State → Type 0
HeldDesk image m s = (db : Database) → IsFoundIn image db → Says m s db

-- a store was opened, and this is so of it as it is handed back
abbrev pub WasOpened : {H : Type 0} → Option H → (H → Type 0) → Type 0
WasOpened None P = ⊥
WasOpened (Some store) P = P store

-- a command over a store failed, by a fault of the store, which couldn't be opened; or it was opened, and this is so of it as it is
-- handed back
abbrev pub IsUnopened : (StoreFault → Type 0) → Failure → Type 0
IsUnopened Fault (Store fault) = Fault fault
IsUnopened Fault failure = ⊥

abbrev pub IfOpened : {H : Type 0} → (StoreFault → Type 0) → Failure → Option H → (H → Type 0) → Type 0
IfOpened Fault failure None P = IsUnopened Fault failure
IfOpened Fault failure (Some store) P = P store

-- while the disk returns what was written: from the state that the file held to what the store has
abbrev pub FromHeld : {S : Type 0} → Ghosts S → Image → Chart → (State → Held S → Type 0) → Held S
    → Type 0
FromHeld g image m P store = is_honest g store → (s : State) → HeldDesk image m s → P s store

-- the store told of a fault of the disk
abbrev pub HasFaults : {S : Type 0} → Ghosts S → Held S → Type 0
HasFaults g store = 1 ≤ (state g store).faults

-- a database that is found in the file was made for the map of this text
abbrev pub WasMadeFor : Image → Chart → List ℕ → Type 0
WasMadeFor image m text = (db : Database) × IsFoundIn image db × IsMadeForText m text db

-- one that is found in it isn't opened by the map of this text, for such a reason
abbrev pub WasShutFor : Image → Chart → List ℕ → Type 0 → StoreFault → Type 0
WasShutFor image m text Fault fault =
    (db : Database) × IsFoundIn image db × IsShutFor m text db Fault fault

-- what a command over a store tells of the map: the store isn't opened, for such a reason; else it
-- was made for the map of this text
abbrev pub TellsOfFile : {S : Type 0} → Ghosts S → Image → Chart → List ℕ → Held S
    → Result (Unit {0}) Failure → Type 0
TellsOfFile g image m text new (Err (Store fault)) =
    is_honest g new → WasShutFor image m text (HasFaults g new) fault
TellsOfFile g image m text new result = is_honest g new → WasMadeFor image m text

-- a new desk is there, whose master has this secret; or what was committed is as the file held it
abbrev pub MadeIn : {S : Type 0} → Ghosts S → Chart → List ℕ → Held S → Type 0
MadeIn g m master store = is_honest g store → Holds g m (fresh_desk master) store

abbrev pub UnmadeIn : {S : Type 0} → Ghosts S → Image → Held S → Type 0
UnmadeIn g image store = does_show g store → (db : Trees) → HoldsDatabase image db → (state g store).committed.trees ≡ db

module _ {S : Type 0} (g : Ghosts S) (image : Image) (m : Chart) (known left before after : Option (List ℕ)) where
  -- letters were answered, all or up to a failure
  abbrev pub AnswersIn : Held S → Type 0
  AnswersIn = FromHeld g image m (λ s new. AnswersFrom g m s new known left before after)

  abbrev pub AnswersUpTo : Failure → Held S → Type 0
  AnswersUpTo failure = FromHeld g image m (λ s new.
      StopsFrom g m (HasFaults g new) (IsFoundIn image) s new known left before after failure)

module _ {S : Type 0} (g : Ghosts S) (image : Image) (m : Chart) where
  -- clients were served, so many or up to a failure
  abbrev pub ServesIn : ℕ → Held S → Type 0
  ServesIn count = FromHeld g image m (λ s new. ServesFrom g m (HasFaults g new) count s new)

  abbrev pub StopsServingIn : ℕ → Failure → Held S → Type 0
  StopsServingIn count failure = FromHeld g image m (λ s new.
      StopsServing g m (HasFaults g new) (IsFoundIn image) count s new failure)

  -- a game's papers were written, and nothing changed; or they were not all written
  abbrev pub ReportsIn : List ℕ → Option (List ℕ) → Option (List ℕ) → Held S → Type 0
  ReportsIn game before after =
      FromHeld g image m (λ s new. Reports game s before after × Holds g m s new)

  abbrev pub StopsReportIn : List ℕ → Option (List ℕ) → Option (List ℕ) → Failure → Held S → Type 0
  StopsReportIn game before after failure = FromHeld g image m (λ s new.
      StopsReport g m (HasFaults g new) (IsFoundIn image) game s new before after failure)

module _ {S : Type 0} (g : Ghosts S) (image : Image) (m : Chart) (known left before after : Option (List ℕ)) where
  -- what a command that went well leaves of the store that it opened; over tables in memory, and of the version, there is none
  abbrev pub LeavesStore : Args → Option (Held S) → Type 0
  LeavesStore (Init path master file) opened = WasOpened opened (MadeIn g m master.now)
  LeavesStore (Letters master file) opened = Unit {0}
  LeavesStore (LettersOver path file) opened = WasOpened opened (AnswersIn g image m known left before after)
  LeavesStore (Serve path port count file) opened = WasOpened opened (ServesIn g image m count)
  LeavesStore (Report path game file) opened = WasOpened opened (ReportsIn g image m game.now before after)
  LeavesStore (Check file) opened = Unit {0}
  LeavesStore (Explain paper file) opened = Unit {0}
  LeavesStore Version opened = Unit {0}

  -- and one that ended early
  abbrev pub StopsStore : Args → Failure → Option (Held S) → Type 0
  StopsStore (Init path master file) failure opened = IfOpened IsOpenFault failure opened (UnmadeIn g image)
  StopsStore (Letters master file) failure opened = Unit {0}
  StopsStore (LettersOver path file) failure opened = IfOpened IsFindFault failure opened (AnswersUpTo g image m known left before after failure)
  StopsStore (Serve path port count file) failure opened = IfOpened IsFindFault failure opened (StopsServingIn g image m count failure)
  StopsStore (Report path game file) failure opened = IfOpened IsFindFault failure opened (StopsReportIn g image m game.now before after failure)
  StopsStore (Check file) failure opened = Unit {0}
  StopsStore (Explain paper file) failure opened = Unit {0}
  StopsStore Version failure opened = Unit {0}

-- what a command tells of the store that it opened, by the map of this text: a new desk is of that
-- text; the others tell whether the file's desk is
abbrev pub TellsStore : {S : Type 0} → Ghosts S → Image → Chart → List ℕ → Args → Held S
    → Result (Unit {0}) Failure → Type 0
TellsStore g image m text (Init path master file) new result =
    is_honest g new → OnOk result (SaysText g text new)
TellsStore g image m text (Letters master file) new result = Unit {0}
TellsStore g image m text (LettersOver path file) new result = TellsOfFile g image m text new result
TellsStore g image m text (Serve path port count file) new result =
    TellsOfFile g image m text new result
TellsStore g image m text (Report path game file) new result =
    TellsOfFile g image m text new result
TellsStore g image m text (Check file) new result = Unit {0}
TellsStore g image m text (Explain paper file) new result = Unit {0}
TellsStore g image m text Version new result = Unit {0}
