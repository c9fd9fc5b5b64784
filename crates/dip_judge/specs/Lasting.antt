-- What lasts from run to run: a desk whose rows a judge alone wrote stays one, of the same map, and none of them is Damaged.
use Rattle.std.specs.Prelude.{◌⊎◌, IfErr, List, OnOk, Result, ℕ}
use Rattle.sqlite.specs.Effect.{Database}
use Rattle.sqlite.specs.Held.{Held, state}
use Rattle.sqlite.specs.Recovery.{Image}
use Rattle.sqlite.specs.Store.{Ghosts}
use Rattle.sqlite.specs.Tree.{Trees}
use Rattle.dip_map.specs.Charts.{Chart}
use Rattle.dip_desk_machine.specs.Lawful.{IsLawful}
use Rattle.dip_desk_state.specs.State.{State}
use Rattle.dip_desk_state.specs.declared.faults.KeepFault.TheVariants.{Damaged}
use Rattle.dip_judge_runs.specs.declared.run.RunFault.TheVariants.{Keep}
use Rattle.dip_judge_words.specs.declared.args.Args.{Args}
use Rattle.dip_judge_words.specs.declared.args.Args.TheVariants.{Init, Letters, LettersOver, Serve, Report, Check, Explain, Version}
use Rattle.dip_store.specs.Calls.{is_honest}
use Rattle.dip_store.specs.Opening.{AreOf, IsDesk, IsMadeForText, Says}
use Rattle.dip_desk_keeper.specs.declared.paper_faults.PaperFault.TheVariants as paper
use Rattle.dip_judge.specs.Files.{HasFaults, IsFoundIn}
use Rattle.dip_judge_system.specs.declared.failures.Failure.{Failure}
use Rattle.dip_judge_system.specs.declared.failures.Failure.TheVariants.{Papers, Run, Serving}

-- keepers wrote the database by the map of this text, and its rows say a lawful state
abbrev pub SaysLawful : Chart → List ℕ → Database → Type 0
SaysLawful m text db = (s : State) × Says m s db × IsLawful m s × IsMadeForText m text db

-- the failure says that rows are Damaged
abbrev pub IsDamage : Failure → Type 0
IsDamage (Run (Keep Damaged)) = Unit {0}
IsDamage (Serving Damaged) = Unit {0}
IsDamage (Papers (paper.Keep Damaged)) = Unit {0}
IsDamage failure = ⊥

-- whatever a crash leaves of the store says a lawful state, and this map
abbrev pub LeavesLawful : {S : Type 0} → Ghosts S → Chart → List ℕ → Held S → Type 0
LeavesLawful g m text store =
    (trees : Trees) → (state g store).may_leave trees → AreOf (SaysLawful m text) trees

-- a lawful desk lasts: nothing is said to be Damaged, and what a crash leaves is lawful and of the
-- same map
pub record Lasts {S : Type 0} (g : Ghosts S) (m : Chart) (text : List ℕ) (new : Held S)
    (result : Result (Unit {0}) Failure) : Type 0 where
  pub never : IfErr result (λ failure. IsDamage failure → ⊥)
  pub left : LeavesLawful g m text new

-- where the store had one, while the disk returns what was written
abbrev pub LastsFrom : {S : Type 0} → Ghosts S → Chart → List ℕ → Held S → Held S → Type 0 → Type 0
LastsFrom g m text store new Lasting = is_honest g new → (s : State) → IsDesk g m s store
    → IsLawful m s → IsMadeForText m text (state g store).now → Lasting

-- the file held a lawful desk: whatever database is found in it says a lawful state, and this map
abbrev pub HeldLawful : Image → Chart → List ℕ → Type 0
HeldLawful image m text = (db : Database) → IsFoundIn image db → SaysLawful m text db

-- a lawful desk of a file lasts, whatever a command over it comes to
abbrev pub LastsIn : {S : Type 0} → Ghosts S → Image → Chart → List ℕ → Held S
    → Result (Unit {0}) Failure → Type 0
LastsIn g image m text new result =
    is_honest g new → HeldLawful image m text → Lasts g m text new result

-- while clients are served, it lasts too, or there was a fault of the disk
abbrev pub LastsServing : {S : Type 0} → Ghosts S → Image → Chart → List ℕ → Held S
    → Result (Unit {0}) Failure → Type 0
LastsServing g image m text new result =
    is_honest g new → HeldLawful image m text → Lasts g m text new result ⊎ HasFaults g new

-- what a command leaves of the store that it opened, by the map of this text: a new desk is lawful
-- and of this map, and one that was stays so
abbrev pub LastsAs : {S : Type 0} → Ghosts S → Image → Chart → List ℕ → Args → Held S
    → Result (Unit {0}) Failure → Type 0
LastsAs g image m text (Init path master file) new result =
    is_honest g new → OnOk result (LeavesLawful g m text new)
LastsAs g image m text (Letters master file) new result = Unit {0}
LastsAs g image m text (LettersOver path file) new result = LastsIn g image m text new result
LastsAs g image m text (Serve path port count file) new result =
    LastsServing g image m text new result
LastsAs g image m text (Report path game file) new result = LastsIn g image m text new result
LastsAs g image m text (Check file) new result = Unit {0}
LastsAs g image m text (Explain paper file) new result = Unit {0}
LastsAs g image m text Version new result = Unit {0}
