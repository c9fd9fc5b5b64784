-- The names of faults, as the program tells them.
use Rattle.std.specs.Prelude.{ℕ, List, codes}
use Rattle.dip_desk_state.specs.Faults.{keep_fault_name}
use Rattle.dip_names.specs.Faults.{fault_name}
use Rattle.dip_judge_runs.specs.declared.run.RunFault.{RunFault}
use Rattle.dip_judge_runs.specs.declared.run.RunFault.TheVariants.{Read, TooLong, Write, Memory, Keep}
use Rattle.dip_judge_runs.specs.declared.reading.ReadFault.TheVariants.{Memory as no_bytes}
use Rattle.dip_judge_runs.specs.declared.map_file.FileFault.{FileFault}
use Rattle.dip_judge_runs.specs.declared.map_file.FileFault.TheVariants.{Unread}
use Rattle.dip_judge_runs.specs.declared.map_file.NoMap.{NoMap}
use Rattle.dip_judge_runs.specs.declared.map_file.NoMap.TheVariants.{File, Map}

-- want of memory has its own name; any other fault of the map's file is told as one of reading
abbrev pub file_name : FileFault → List ℕ
file_name (Unread no_bytes) = codes "Memory"
file_name fault = codes "Read"

-- a file's fault has its own name, and a map's fault its
abbrev pub no_map_name : NoMap → List ℕ
no_map_name (File fault) = file_name fault
no_map_name (Map fault) = fault_name fault

-- a run's fault has its own name, and a keeper's fault its
abbrev pub run_name : RunFault → List ℕ
run_name Read = codes "Read"
run_name TooLong = codes "TooLong"
run_name Write = codes "Write"
run_name Memory = codes "Memory"
run_name (Keep fault) = keep_fault_name fault
