-- What serving clients does to a desk.
use Rattle.std.specs.Prelude.{◌≡◌, ◌≤◌, ◌⊎◌, ℕ, zero, suc, None, List, [], ◌++◌, IfErr, IsErrOf, OnOk, Result}
use Rattle.dip_map.specs.Charts.{Chart}
use Rattle.dip_desk_keeper.specs.Keeping.{Book, Ends, IsOpen, WasTold}
use Rattle.dip_desk_machine.specs.Lawful.{IsLawful}
use Rattle.dip_desk_machine.specs.Machine.{Step}
use Rattle.dip_desk_machine.specs.Mail.{IsMail, Mail}
use Rattle.dip_desk_machine.specs.Published.{IsFair}
use Rattle.dip_desk_state.specs.Records.{Reply}
use Rattle.dip_desk_machine.specs.View.{IsRun, Turn}
use Rattle.dip_desk_state.specs.Faults.{faults_after}
use Rattle.dip_desk_state.specs.State.{State}
use Rattle.dip_desk_state.specs.declared.faults.KeepFault.{KeepFault}
use Rattle.dip_desk_state.specs.declared.faults.KeepFault.TheVariants.{Memory, Disk, Damaged}
use Rattle.dip_http.specs.Answering.{IsAnswer}
use Rattle.dip_http.specs.Ends.{Answered, EndsBy}
use Rattle.dip_http.specs.Laws.{AreTurnsOf}
use Rattle.dip_http.specs.declared.faults.HttpFault.{HttpFault}

-- one client: its call isn't taken and nothing changes, or its request is answered as it is to be, as far as the desk goes, or up to a
-- fault
abbrev pub MeetsOne : Chart → State → State → Type 0
MeetsOne m old new = (new ≡ old) ⊎ (Answered m None old new None None ⊎ ((fault : HttpFault) × EndsBy m fault None old new None None))

-- so many clients, one after the other
abbrev pub Meets : Chart → ℕ → State → State → Type 0
Meets m zero old new = new ≡ old
Meets m (suc n) old new = (mid : State) × Meets m n old mid × MeetsOne m mid new

-- a client whose bytes have this answer, all of which was written or a beginning: a letter that it posted was taken in a turn, and the
-- answer carries the reply; GET and HEAD are answered from public parts and papers
pub record IsAnsweredIn (m : Chart) (old : State) (turns : List Turn) (new : State) : Type 0 where
  pub input : List ℕ
  pub answer : List ℕ
  pub answers : IsAnswer m input old answer new
  pub turns_of : AreTurnsOf input answer turns

-- a client who was answered, with the turn that he posted; or one of whom nothing was taken
abbrev pub Visits : Chart → State → List Turn → State → Type 0
Visits m old turns new = ((turns ≡ []) × (new ≡ old)) ⊎ IsAnsweredIn m old turns new

-- so many clients, whose turns stand one after the other
abbrev pub VisitAll : Chart → ℕ → State → List Turn → State → Type 0
VisitAll m zero old turns new = (turns ≡ []) × (new ≡ old)
VisitAll m (suc n) old turns new =
    (mid : State) × (before : List Turn) × (last : List Turn) × (turns ≡ before ++ last) × VisitAll m n old before mid × Visits m mid last new

-- so many clients make a history: what each seat is told in it is settled by its view, and each published movement satisfies the decision
-- equations for the orders that stood
pub record Serves (m : Chart) (count : ℕ) (old new : State) : Type 0 where
  pub turns : List Turn
  pub visits : VisitAll m count old turns new
  pub run : IsRun m old turns new
  pub fair : IsFair m old turns new

-- a letter more was taken
abbrev pub TakesOne : Chart → State → State → Type 0
TakesOne m old new = (it : Mail) × (r : Reply) × IsMail it × Step m old it r new

-- one client over a keeper that was open: a crash leaves the state after it, or after a letter more
pub record MeetsAt {K : Type 0} (m : Chart) (b : Book K) (old new : K) : Type 0 where
  pub state : State
  pub meets : MeetsOne m (b.content m old) state
  pub ends : Ends m b old new state (TakesOne m state)

-- at most so many clients over a keeper that was open: a crash leaves the state after them, or after a letter more. Or
-- a fault of the disk came with one that was told of want of memory, and nothing is said of a crash after that
pub record MeetsTo {K : Type 0} (m : Chart) (b : Book K) (count : ℕ) (old new : K) : Type 0 where
  pub n : ℕ
  pub most : n ≤ count
  pub state : State
  pub meets : Meets m n (b.content m old) state
  pub ends : Ends m b old new state (TakesOne m state) ⊎ WasTold b old new

-- a fault that ends the serving: after any other the keeper goes on
abbrev pub IsShut : KeepFault → Type 0
IsShut Memory = ⊥
IsShut Disk = Unit {0}
IsShut Damaged = Unit {0}

-- a keeper after one client: what was met, and what is kept of it; the serving goes on but for a fault of the disk, or rows that no judge wrote
pub record MeetsNext {K : Type 0} (m : Chart) (b : Book K) (old new : K) (result : Result (Unit {0}) KeepFault) : Type 0 where
  pub ends : IsOpen m b old → b.honest new → MeetsAt m b old new
  pub lawful : IsOpen m b old → b.honest new → b.shows new → IsLawful m (b.content m old) → IsLawful m (b.content m new)
  pub never : IsOpen m b old → b.honest new → IsLawful m (b.content m old) → IsErrOf result Damaged → ⊥
  pub failed : IsOpen m b old → b.honest new → IsErrOf result Disk → WasTold b old new
  pub shut : IfErr result IsShut
  pub count : b.faults new ≡ faults_after result (b.faults old)
  pub told : b.told old ≤ b.told new
  pub fair : b.honest new → b.honest old
  pub same_map : b.map_sum new ≡ b.map_sum old
  pub shown : b.shows new → b.shows old

-- all of so many clients, over a keeper that was open: where it shows what it keeps still, it is open, and they made
-- one history of letters; and it does, or a fault of the disk came with one that was told of want of memory
pub record ServesEach {K : Type 0} (m : Chart) (b : Book K) (count : ℕ) (old new : K) : Type 0 where
  pub shown : b.shows new → IsOpen m b new × Serves m count (b.content m old) (b.content m new)
  pub goes : b.shows new ⊎ WasTold b old new

-- at most so many clients, over a keeper that was open, made one history of letters, and a crash leaves the state after it, or after a letter more.
-- Or a fault of the disk came with one that was told of want of memory, and nothing is said of a crash after that; but where the keeper shows what
-- it keeps still, it has the state after at most so many
pub record ServesTo {K : Type 0} (m : Chart) (b : Book K) (count : ℕ) (old new : K) : Type 0 where
  pub shown : b.shows new → (k : ℕ) × (k ≤ count) × Serves m k (b.content m old) (b.content m new)
  pub n : ℕ
  pub most : n ≤ count
  pub state : State
  pub serves : Serves m n (b.content m old) state
  pub ends : Ends m b old new state (TakesOne m state) ⊎ WasTold b old new

-- how so many clients are served, one after the other: from an open keeper on, over an honest disk, all of them, or
-- some up to a fault; which faults there are, and how many of the disk
pub record ServesAll {K : Type 0} (m : Chart) (b : Book K) (clients : ℕ) (old new : K) (result : Result (Unit {0}) KeepFault) : Type 0 where
  pub goes : IsOpen m b old → b.honest new → OnOk result (ServesEach m b clients old new)
  pub ends : IsOpen m b old → b.honest new → ServesTo m b clients old new
  -- from a lawful content on, as an empty desk is, Damaged is never told, where the keeper shows what it keeps still
  pub never : IsOpen m b old → b.honest new → b.shows new → IsLawful m (b.content m old) → IsErrOf result Damaged → ⊥
  -- the disk is told of only where the store told of a fault
  pub failed : IsOpen m b old → b.honest new → IsErrOf result Disk → WasTold b old new
  pub shut : IfErr result IsShut
  pub count : b.faults new ≡ faults_after result (b.faults old)
  pub fair : b.honest new → b.honest old
  pub same_map : b.map_sum new ≡ b.map_sum old
