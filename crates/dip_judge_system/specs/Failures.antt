-- What the program tells whoever started it.
use Rattle.std.specs.Prelude.{ℕ, List, [], ◌++◌, Option, None, Some, Result, Ok, Err, codes}
use Rattle.std.specs.Fmt.{decimal}
use Rattle.std.specs.declared.io.ErrorKind.{ErrorKind}
use Rattle.std.specs.declared.io.ErrorKind.TheVariants.{OutOfMemory}
use Rattle.dip_check_papers.specs.Faults.{check_fault_name}
use Rattle.dip_desk_keeper.specs.Papers.{paper_fault_name}
use Rattle.dip_desk_keeper.specs.declared.paper_faults.PaperFault.TheVariants as paper
use Rattle.dip_judge_words.specs.declared.faults.UsageFault.{UsageFault}
use Rattle.dip_judge_words.specs.declared.faults.UsageFault.TheVariants.{Clap, Check, Memory as no_words}
use Rattle.dip_desk_state.specs.Faults.{keep_fault_name}
use Rattle.dip_judge_runs.specs.Names.{no_map_name, run_name}
use Rattle.dip_judge_runs.specs.declared.map_file.NoMap.TheVariants as no_map
use Rattle.dip_judge_runs.specs.declared.run.RunFault.TheVariants as run
use Rattle.dip_store_schema.specs.Faults.{store_fault_name}
use Rattle.dip_judge_system.specs.declared.failures.Failure.{Failure}
use Rattle.dip_judge_system.specs.declared.failures.Failure.TheVariants.{Usage, Map, Store, NoMemory, Listen, Run, Serving, NoGame, Papers, Checking, Negative}

-- the exit status: 1 where the answer is no, 2 for the arguments, 3 for the map, 4 for the store, its keeper and a game that isn't there, 5 for a map's file, the
-- port, input, output or other want of memory
abbrev pub status_of : Failure → ℕ
status_of (Usage no_words) = 5
status_of (Usage fault) = 2
status_of (Map (no_map.File fault)) = 5
status_of (Map (no_map.Map fault)) = 3
status_of (Store fault) = 4
status_of NoMemory = 5
status_of Listen = 5
status_of (Run (run.Keep fault)) = 4
status_of (Run fault) = 5
status_of (Serving fault) = 4
status_of NoGame = 4
status_of (Papers (paper.Keep fault)) = 4
status_of (Papers paper.Write) = 5
status_of (Checking fault) = 5
status_of Negative = 1

-- the exit status of the program: 0 where it did what was asked
abbrev pub exit_status : {A : Type 0} → Result A Failure → ℕ
exit_status (Ok done) = 0
exit_status (Err failure) = status_of failure

-- what is printed: `dip_judge: `, the number or name and LF
abbrev pub told : List ℕ → Option (List ℕ)
told name = Some (codes "dip_judge: " ++ name ++ codes "\n")

-- each fault has its own number or name; where clap refuses the words its own text is printed, of which nothing is said
abbrev pub printed : Failure → Option (List ℕ)
printed (Usage (Clap error)) = None
printed (Usage Check) = Some (codes "dip_judge: Usage\n")
printed (Usage no_words) = Some (codes "dip_judge: Memory\n")
printed (Map fault) = told (no_map_name fault)
printed (Store fault) = told (store_fault_name fault)
printed NoMemory = Some (codes "dip_judge: Memory\n")
printed Listen = Some (codes "dip_judge: Listen\n")
printed (Run fault) = told (run_name fault)
printed (Serving fault) = told (keep_fault_name fault)
printed NoGame = Some (codes "dip_judge: no such game\n")
printed (Papers fault) = told (paper_fault_name fault)
printed (Checking fault) = told (check_fault_name fault)
printed Negative = Some []

-- what `serve` tells once its port is listened on
abbrev pub listening_text : ℕ → Option (List ℕ)
listening_text port = Some (codes "dip_judge: listens on 127.0.0.1:" ++ decimal port ++ codes "\n")

-- what `check` tells of a long input on a terminal
abbrev pub progress_text : ℕ → Option (List ℕ)
progress_text papers = Some (codes "dip_judge: " ++ decimal papers ++ codes " papers right so far\n")

-- why there are no arguments: want of memory, or one of them is no text
abbrev pub words_fault : ErrorKind → UsageFault
words_fault OutOfMemory = no_words
words_fault kind = Check
