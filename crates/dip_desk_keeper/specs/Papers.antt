-- Papers as they are written out.
use Rattle.std.specs.Prelude.{◌≡◌, ◌<◌, ◌≤◌, ◌⊎◌, ℕ, List, [], Option, None, Some, IfOk, IsErrOf, OnErr, Result, Ok, Err, codes, length, take}
use Rattle.std.specs.List.{flat_map}
use Rattle.std.specs.Io.KnownBytes.{Appends}
use Rattle.dip_desk_keeper.specs.declared.paper_faults.PaperFault.{PaperFault}
use Rattle.dip_desk_keeper.specs.declared.paper_faults.PaperFault.TheVariants.{Write, Keep}
use Rattle.dip_map.specs.Charts.{Chart}
use Rattle.dip_desk_keeper.specs.Keeping.{Book, Ends, IsOpen, WasTold}
use Rattle.dip_desk_state.specs.Bounds.{most_papers}
use Rattle.dip_desk_state.specs.Faults.{faults_with, keep_fault_name}
use Rattle.dip_desk_state.specs.State.{Game, State, game_at}
use Rattle.dip_desk_state.specs.declared.faults.KeepFault.TheVariants.{Damaged, Disk}

-- a fault's name, as a program tells it
abbrev pub paper_fault_name : PaperFault → List ℕ
paper_fault_name Write = codes "Write"
paper_fault_name (Keep fault) = keep_fault_name fault

-- the papers of a game, and of none
abbrev pub papers_of : Option Game → List (List ℕ)
papers_of None = []
papers_of (Some g) = g.papers

-- one after the other
abbrev pub papers_text : Option Game → List ℕ
papers_text g = flat_map (λ p. p) (papers_of g)

-- all papers of the game were written, in their order and nothing else, and so many are told; where there is no game, nothing
abbrev pub AreOut : Option ℕ → Option Game → Option (List ℕ) → Option (List ℕ) → Type 0
AreOut told None before after = (told ≡ None) × (after ≡ before)
AreOut told (Some g) before after = (told ≡ Some (length g.papers)) × Appends before after (papers_text (Some g))

-- all papers of the game, or of none, were written, and so many they are
abbrev pub AreAll : ℕ → Option Game → Option (List ℕ) → Option (List ℕ) → Type 0
AreAll count g before after = (count ≡ length (papers_of g)) × Appends before after (papers_text g)

-- a beginning of them was written
abbrev pub AreBegun : Option Game → Option (List ℕ) → Option (List ℕ) → Type 0
AreBegun g before after = (size : ℕ) × Appends before after (take size (papers_text g))

-- how many faults of the disk a keeper has told of after the call
abbrev pub faults_told : {X : Type 0} → Result X PaperFault → ℕ → ℕ
faults_told (Ok x) n = n
faults_told (Err Write) n = n
faults_told (Err (Keep fault)) n = faults_with fault n

-- what holds where the keeper answered
abbrev pub OnShown : {X : Type 0} → Result X PaperFault → Type 0 → Type 0
OnShown (Ok x) P = P
OnShown (Err Write) P = P
OnShown (Err (Keep fault)) P = Unit {0}

-- a walk through what is kept, which changes nothing. Where the keeper answered it stays open, and it is shut only where the store told of a
-- fault of the disk
pub record Walks {K X : Type 0} (m : Chart) (b : Book K) (old new : K) (result : Result X PaperFault) : Type 0 where
  pub count : b.faults new ≡ faults_told result (b.faults old)
  pub told : b.told old ≤ b.told new
  pub fair : b.honest new → b.honest old
  pub same_map : b.map_sum new ≡ b.map_sum old
  pub shown : b.shows new → b.shows old
  pub sound : b.sound m old → b.shows new → b.sound m new
  pub same : b.sound m old → b.shows new → b.content m new ≡ b.content m old
  pub firm : b.sound m old → b.honest new → OnShown result (b.sound m new)
  pub stays_open : b.sound m old → b.honest new → b.shows old → OnShown result (b.shows new)
  pub shuts : b.honest new → b.shows old → b.shows new ⊎ WasTold b old new
  -- the disk is told of only where the store told of a fault of it
  pub failed : b.sound m old → b.honest new → b.shows old → IsErrOf result (Keep Disk) → WasTold b old new
  pub left : b.sound m old → b.honest new → (s : State) → b.may_leave m new s → b.may_leave m old s
  pub again : b.sound m old → b.honest new → b.shows old → b.again m old → b.again m new

-- papers that a fault ended, from a keeper that was open: a beginning of them was written, a crash leaves what is kept as it was, and the
-- keeper is open and has it, or the store told of a fault
pub record BreaksOff {K : Type 0} (m : Chart) (b : Book K) (game : List ℕ) (old new : K) (before after : Option (List ℕ)) : Type 0 where
  pub begun : AreBegun (game_at game (b.content m old)) before after
  pub ends : Ends m b old new (b.content m old) (λ t. ⊥)

-- how a game's papers are written: from a keeper that was open, over an honest disk, all of them, and it is open and has what it had; or
-- up to a fault. Damaged is told only of more papers than a game may have, and the disk only where the store told of a fault of it
pub record WritesPapers {K X : Type 0} (m : Chart) (b : Book K) (game : List ℕ) (old new : K) (Out : X → Option Game → Type 0)
    (before after : Option (List ℕ)) (result : Result X PaperFault) : Type 0 where
  pub goes : IsOpen m b old → b.honest new → IfOk result (λ x. IsOpen m b new × (b.content m new ≡ b.content m old)
      × Out x (game_at game (b.content m old)))
  pub ends : IsOpen m b old → b.honest new → OnErr result (BreaksOff m b game old new before after)
  pub damaged : IsOpen m b old → b.honest new → IsErrOf result (Keep Damaged) → most_papers < length (papers_of (game_at game (b.content m old)))
  pub failed : IsOpen m b old → b.honest new → IsErrOf result (Keep Disk) → WasTold b old new
  pub count : b.faults new ≡ faults_told result (b.faults old)
  pub fair : b.honest new → b.honest old
  pub same_map : b.map_sum new ≡ b.map_sum old
