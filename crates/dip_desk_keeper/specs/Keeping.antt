-- What each call of a keeper keeps.
use Rattle.std.specs.Prelude.{◌≡◌, ◌≤◌, ◌⊎◌, ℕ, List, Result, OnOk, OnErr, IfOk, IsErrOf}
use Rattle.dip_map.specs.Charts.{Chart}
use Rattle.dip_desk_state.specs.Faults.{faults_after, next_count}
use Rattle.dip_desk_state.specs.State.{State}
use Rattle.dip_desk_state.specs.declared.faults.KeepFault.{KeepFault}
use Rattle.dip_desk_state.specs.declared.faults.KeepFault.TheVariants.{Damaged, Disk}

-- what contracts see of a keeper, whose names are read by a map
pub record Book (K : Type 0) : Type 1 where
  -- what it has
  pub content : Chart → K → State
  -- what an open after a crash may find
  pub may_leave : Chart → K → State → Type 0
  -- an open takes whatever that is: it is what a keeper wrote by this map, made for the map's text
  pub again : Chart → K → Type 0
  -- the sum of that text
  pub map_sum : K → List ℕ
  -- how many faults of the disk it has told of
  pub faults : K → ℕ
  -- and how many its store has told it of
  pub told : K → ℕ
  -- the disk has returned what was written, so far
  pub honest : K → Type 0
  -- it is honest and not shut, so that its content is what is kept
  pub shows : K → Type 0
  -- what is kept are records that a keeper wrote by this map, and no change is under way
  pub sound : Chart → K → Type 0

-- between these two its store told of a fault of the disk: that count rose, where it was not at its greatest
abbrev pub WasTold : {K : Type 0} → Book K → K → K → Type 0
WasTold b old new = next_count (b.told old) ≤ b.told new

-- a crash leaves what is kept, and nothing else
abbrev pub LeavesAlone : {K : Type 0} → Chart → Book K → K → Type 0
LeavesAlone m b k = (s : State) → b.may_leave m k s → s ≡ b.content m k

-- what every call keeps, whatever it answers
pub record Keeps {K X : Type 0} (m : Chart) (b : Book K) (old new : K) (result : Result X KeepFault) : Type 0 where
  pub count : b.faults new ≡ faults_after result (b.faults old)
  pub told : b.told old ≤ b.told new
  pub fair : b.honest new → b.honest old
  pub same_map : b.map_sum new ≡ b.map_sum old
  pub shown : b.shows new → b.shows old
  pub sound : b.sound m old → b.shows new → b.sound m new
  pub firm : b.sound m old → b.honest new → OnOk result (b.sound m new)
  pub stays_open : b.sound m old → b.honest new → b.shows old → OnOk result (b.shows new)
  -- it is shut only where the store told of a fault of the disk
  pub shuts : b.honest new → b.shows old → b.shows new ⊎ WasTold b old new
  -- what a crash leaves can be opened again
  pub again : b.sound m old → b.honest new → b.shows old → b.again m old → b.again m new

-- a keeper of sound records that shows them, and of which a crash leaves them alone, to be opened again
pub record IsOpen {K : Type 0} (m : Chart) (b : Book K) (k : K) : Type 0 where
  pub sound : b.sound m k
  pub shows : b.shows k
  pub alone : LeavesAlone m b k
  pub again : b.again m k

-- how a call that answered a fault ends, in a state: a crash leaves that, or one that is more, which can be opened again; where the keeper shows what it keeps still,
-- it is open and has that state; and it does, or the disk shut it
pub record Ends {K : Type 0} (m : Chart) (b : Book K) (old new : K) (s : State) (More : State → Type 0) : Type 0 where
  pub left : (t : State) → b.may_leave m new t → (t ≡ s) ⊎ More t
  pub again : b.again m new
  pub shown : b.shows new → IsOpen m b new × (b.content m new ≡ s)
  pub goes : (IsOpen m b new × (b.content m new ≡ s)) ⊎ WasTold b old new

-- a look: its value, what Damaged tells, that the store told of what Disk tells, and that nothing else moves; which fault is told doesn't
-- hang on what became of the keeper
pub record Looks {K X : Type 0} (m : Chart) (b : Book K) (old new : K) (Value : X → Type 0) (Damage : Type 0)
    (result : Result X KeepFault) : Type 0 where
  pub keeps : Keeps m b old new result
  pub value : b.sound m old → b.shows new → IfOk result Value
  pub damaged : b.sound m old → b.honest new → b.shows old → IsErrOf result Damaged → Damage
  pub failed : b.sound m old → b.honest new → b.shows old → IsErrOf result Disk → WasTold b old new
  pub same : b.sound m old → b.shows new → b.content m new ≡ b.content m old
  pub left : b.sound m old → b.honest new → (s : State) → b.may_leave m new s → b.may_leave m old s

-- while the keeper shows what it keeps, a crash leaves that alone, where it did before the call
abbrev pub Settles : {K : Type 0} → Chart → Book K → K → K → Type 0
Settles m b old new = b.sound m old → b.honest new → b.shows new → LeavesAlone m b old → LeavesAlone m b new

-- a change that is made whole or not at all; after a fault a crash may leave it made or not. The disk is told of only where the store told
-- of a fault
pub record Changes {K X : Type 0} (m : Chart) (b : Book K) (old new : K) (change : State → State) (Fits : State → Type 0)
    (result : Result X KeepFault) : Type 0 where
  pub keeps : Keeps m b old new result
  pub done : b.sound m old → b.shows new → OnOk result (b.content m new ≡ change (b.content m old))
  pub undone : b.sound m old → b.shows new → OnErr result (b.content m new ≡ b.content m old)
  pub fitting : b.sound m old → b.honest new → b.shows old → Fits (b.content m old) → IsErrOf result Damaged → ⊥
  pub failed : b.sound m old → b.honest new → b.shows old → IsErrOf result Disk → WasTold b old new
  pub settles : Settles m b old new
  pub kept : b.sound m old → b.honest new → OnOk result ((s : State) → b.may_leave m new s → s ≡ b.content m new)
  pub left : b.sound m old → b.honest new
      → OnErr result ((s : State) → b.may_leave m new s → b.may_leave m old s ⊎ (s ≡ change (b.content m old)))

-- a step of a machine, or none: where an answer is given, the step from the old content to the new one says it, and after a
-- fault the content stays. A crash leaves the state after an answer, and after a fault the state before or after a step
pub record Steps {K X R : Type 0} (m : Chart) (b : Book K) (old new : K) (say : X → R) (Step : State → R → State → Type 0)
    (Damage : State → Type 0) (result : Result X KeepFault) : Type 0 where
  pub keeps : Keeps m b old new result
  pub done : b.sound m old → b.shows new → IfOk result (λ x. Step (b.content m old) (say x) (b.content m new))
  pub undone : b.sound m old → b.shows new → OnErr result (b.content m new ≡ b.content m old)
  pub damaged : b.sound m old → b.honest new → b.shows old → IsErrOf result Damaged → Damage (b.content m old)
  pub failed : b.sound m old → b.honest new → b.shows old → IsErrOf result Disk → WasTold b old new
  pub settles : Settles m b old new
  pub kept : b.sound m old → b.honest new → b.shows old → OnOk result ((s : State) → b.may_leave m new s
      → (s ≡ b.content m new) ⊎ ((b.content m new ≡ b.content m old) × b.may_leave m old s))
  pub left : b.sound m old → b.honest new → b.shows old → OnErr result ((s : State) → b.may_leave m new s
      → b.may_leave m old s ⊎ ((r : R) × Step (b.content m old) r s))
