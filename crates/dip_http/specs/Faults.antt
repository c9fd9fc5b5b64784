-- A connection's faults: their names, and how many faults of the disk a keeper has told of after them.
use Rattle.std.specs.Prelude.{ℕ, List, Result, Err, codes}
use Rattle.dip_desk_state.specs.Faults.{faults_with, keep_fault_name}
use Rattle.dip_http.specs.declared.faults.HttpFault.{HttpFault}
use Rattle.dip_http.specs.declared.faults.HttpFault.TheVariants.{Read, Write, Memory, Keep}

-- a fault's name, as the program tells it
abbrev pub http_name : HttpFault → List ℕ
http_name Read = codes "Read"
http_name Write = codes "Write"
http_name Memory = codes "Memory"
http_name (Keep fault) = keep_fault_name fault

-- the count of the keeper's faults after a connection: a fault of the disk raises it
abbrev pub faults_after_answer : {X : Type 0} → Result X HttpFault → ℕ → ℕ
faults_after_answer (Err (Keep fault)) n = faults_with fault n
faults_after_answer _ n = n

-- what holds where the keeper answered, and what holds where it gave no answer
abbrev pub OnKept : {X : Type 0} → Result X HttpFault → Type 0 → Type 0
OnKept (Err (Keep fault)) P = Unit {0}
OnKept _ P = P

abbrev pub OnUnkept : {X : Type 0} → Result X HttpFault → Type 0 → Type 0
OnUnkept (Err (Keep fault)) P = P
OnUnkept _ P = Unit {0}
