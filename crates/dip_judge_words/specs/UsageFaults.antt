-- Which words ask for nothing, and why.
use Rattle.std.specs.Prelude.{◌≡◌, ◌≢◌, [], List, Option, None, Some, codes}
use Rattle.clap.specs.Words.{IsAmong, Text, fault_of, kind_of}
use Rattle.clap.specs.declared.error.Error.{Error}
use Rattle.clap.specs.declared.error.kind.ErrorKind.{ErrorKind}
use Rattle.clap.specs.declared.error.kind.ErrorKind.TheVariants.{DisplayVersion, OutOfMemory}
use Rattle.dip_judge_words.specs.ArgsGiven.{IsFit, IsGiven}
use Rattle.dip_judge_words.specs.CommandLine.{judge_command}
use Rattle.dip_judge_words.specs.declared.args.Args.{Args}
use Rattle.dip_judge_words.specs.declared.faults.UsageFault.{UsageFault}
use Rattle.dip_judge_words.specs.declared.faults.UsageFault.TheVariants.{Clap, Check, Memory}

-- clap refuses the words by an error of that kind, and they don't ask for the version; or it takes them, and gives them nothing that is
-- fit: the secret is none, a number isn't within bounds or isn't written so, or `letters` has both a store and a master, or neither; or
-- memory ran out
abbrev pub IsUsageFault : List Text → UsageFault → Type 0
IsUsageFault words (Clap e) = IsAmong (kind_of e) (fault_of judge_command words) × (kind_of e ≢ DisplayVersion)
IsUsageFault words Check = (fault_of judge_command words ≡ []) × ((a : Args) → IsGiven words a → IsFit a → ⊥)
IsUsageFault words Memory = Unit {0}

-- the fault that an error of clap is
abbrev pub fault_by_kind : ErrorKind → Error → UsageFault
fault_by_kind OutOfMemory e = Memory
fault_by_kind _ e = Clap e

abbrev pub fault_from : Error → UsageFault
fault_from e = fault_by_kind (kind_of e) e

-- a fault's name; where clap refuses the words its own text, of which nothing is said
abbrev pub usage_text : UsageFault → Option Text
usage_text (Clap error) = None
usage_text Check = Some (codes "Usage")
usage_text Memory = Some (codes "Memory")
