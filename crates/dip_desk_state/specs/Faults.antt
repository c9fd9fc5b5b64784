-- A keeper's faults: their names, and how many faults of the disk it has told of.
use Rattle.std.specs.Prelude.{ℕ, ◌+◌, ◌-◌, ◌^◌, min, List, Result, Ok, Err, codes}
use Rattle.dip_desk_state.specs.declared.faults.KeepFault.{KeepFault}
use Rattle.dip_desk_state.specs.declared.faults.KeepFault.TheVariants.{Memory, Disk, Damaged}

-- a fault's name, as a program tells it
abbrev pub keep_fault_name : KeepFault → List ℕ
keep_fault_name Memory = codes "Memory"
keep_fault_name Disk = codes "Disk"
keep_fault_name Damaged = codes "Damaged"

-- a count of faults with one more: it stops at its greatest
abbrev pub next_count : ℕ → ℕ
next_count n = min (n + 1) (2 ^ 64 - 1)

-- the count after a fault: one of the disk raises it
abbrev pub faults_with : KeepFault → ℕ → ℕ
faults_with Memory n = n
faults_with Disk n = next_count n
faults_with Damaged n = n

-- the count after a call
abbrev pub faults_after : {X : Type 0} → Result X KeepFault → ℕ → ℕ
faults_after (Ok x) n = n
faults_after (Err fault) n = faults_with fault n

-- the count after a run, whose fault comes beside the replies so far
abbrev pub faults_after_run : {X Y : Type 0} → Result X (Y × KeepFault) → ℕ → ℕ
faults_after_run (Ok x) n = n
faults_after_run (Err e) n = faults_with e.1 n
