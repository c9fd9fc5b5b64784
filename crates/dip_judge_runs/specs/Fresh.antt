-- A desk that nobody has written to yet, and a run from it on.
use Rattle.std.specs.Prelude.{◌≡◌, ◌⊎◌, ℕ, List, [], Option, None, codes}
use Rattle.sha2.specs.Sha256.{sha256}
use Rattle.dip_letters.specs.Digests.{seat_text}
use Rattle.dip_map.specs.Charts.{Chart}
use Rattle.dip_desk_state.specs.State.{State}
use Rattle.dip_desk_state.specs.declared.faults.KeepFault.TheVariants.{Memory as no_room}
use Rattle.dip_judge_runs.specs.Runs.{AnswersAll, IsReadWhole, Stops}
use Rattle.dip_judge_runs.specs.declared.run.RunFault.{RunFault}
use Rattle.dip_judge_runs.specs.declared.run.RunFault.TheVariants.{Keep}

-- a fresh desk: it has no game and no letter of its master, who has that secret
abbrev pub fresh_desk : List ℕ → State
fresh_desk secret = record {
  desk = record { digest = sha256 (seat_text (codes "desk") (codes "master") secret); kept = None };
  games = [];
}

-- the whole input was read, and all its letters were answered from a fresh desk on
abbrev pub AnswersFresh : Chart → List ℕ → Option (List ℕ) → Option (List ℕ) → Option (List ℕ) → Option (List ℕ) → Type 0
AnswersFresh m secret known left before after =
    (input : List ℕ) × (new : State) × IsReadWhole known left input × AnswersAll m input (fresh_desk secret) new before after

-- a keeper in memory has no fault but want of memory
abbrev pub IsMemoryFault : RunFault → Type 0
IsMemoryFault (Keep fault) = fault ≡ no_room
IsMemoryFault _ = Unit {0}

-- a run from a fresh desk on ended by the fault: nothing was written, or the whole input was read, and a front of it was answered
abbrev pub IsCutShort : Chart → List ℕ → RunFault → Option (List ℕ) → Option (List ℕ) → Option (List ℕ) → Option (List ℕ) → Type 0
IsCutShort m secret fault known left before after = IsMemoryFault fault × ((after ≡ before)
    ⊎ ((input : List ℕ) × (new : State) × IsReadWhole known left input × Stops m fault input (fresh_desk secret) new before after))
