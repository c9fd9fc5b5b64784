-- The program, from its words, its map and its input to what it writes.
use Rattle.std.specs.Prelude.{◌≡◌, ℕ, List, Option, true}
use Rattle.std.specs.Io.KnownBytes.{Appends}
use Rattle.clap.specs.Words.{Text}
use Rattle.dip_map.specs.Charts.{Chart}
use Rattle.dip_judge_words.specs.ArgsGiven.{IsFit, IsGiven, map_named}
use Rattle.dip_judge_words.specs.UsageFaults.{IsUsageFault}
use Rattle.dip_judge_words.specs.declared.args.Args.{Args}
use Rattle.dip_judge_words.specs.declared.args.Args.TheVariants.{Init, Letters, LettersOver, Serve, Report, Check, Explain, Version}
use Rattle.dip_judge_runs.specs.MapFiles.{IsMapOf, IsNoMapOf}
use Rattle.dip_judge_runs.specs.Runs.{IsReadToEnd}
use Rattle.dip_judge_runs.specs.Fresh.{AnswersFresh, IsCutShort}
use Rattle.dip_judge.specs.Stores.{IsIdle, IsReportFailure, IsServeFailure, ReadsUpTo}
use Rattle.dip_check_runs.specs.Runs.{IsChecked, IsExplained, TellsIfGame}
use Rattle.dip_judge.specs.Checking.{FailsCheck, FailsExplaining}
use Rattle.dip_judge_system.specs.Version.{FailsVersion, version_text}
use Rattle.dip_judge_system.specs.declared.failures.Failure.{Failure}
use Rattle.dip_judge_system.specs.declared.failures.Failure.TheVariants.{Usage, Map, Store, Run}

-- the words ask for this, which is fit, and the map is the one that they name
abbrev pub IsAsked : List ℕ → List Text → Args → Chart → Type 0
IsAsked standard words a m = IsGiven words a × IsFit a × ((text : List ℕ) × IsMapOf standard (map_named a) text m)

-- what a command reads and writes: over tables in memory the letters were answered, from a fresh desk on; over a store they were read to
-- their end; a report reads nothing; papers are checked to the end of the input, and are all right; one of them is explained; of the version its text is written; and the others write nothing either
abbrev pub Streams : Chart → Option (List ℕ) → Option (List ℕ) → Option (List ℕ) → Option (List ℕ) → Args → Type 0
Streams m known left before after (Init store master file) = IsIdle known left before after
Streams m known left before after (Letters master file) = AnswersFresh m master.now known left before after
Streams m known left before after (LettersOver store file) = IsReadToEnd known left
Streams m known left before after (Serve store port count file) = IsIdle known left before after
Streams m known left before after (Report store game file) = left ≡ known
Streams m known left before after (Check file) = IsChecked m known left before after true × TellsIfGame m known true
Streams m known left before after (Explain paper file) = IsExplained m paper known left before after true
Streams m known left before after Version = (left ≡ known) × Appends before after version_text

-- the words ask for something, by a map, of which this is so
abbrev pub IsAskedFor : List ℕ → List Text → (Args → Chart → Type 0) → Type 0
IsAskedFor standard words P = (a : Args) × (m : Chart) × IsAsked standard words a m × P a m

-- unless the words are wrong or there is no map, they ask for something of which this is so
abbrev pub IfAsked : List ℕ → List Text → Failure → (Args → Chart → Type 0) → Type 0
IfAsked standard words (Usage fault) P = Unit {0}
IfAsked standard words (Map fault) P = Unit {0}
IfAsked standard words failure P = IsAskedFor standard words P

-- the words ask for something, by the map of a text, of which this is so
abbrev pub IsAskedOver : List ℕ → List Text → (Args → Chart → List ℕ → Type 0) → Type 0
IsAskedOver standard words P = (a : Args) × (m : Chart) × (text : List ℕ) × IsGiven words a × IsFit a
    × IsMapOf standard (map_named a) text m × P a m text

-- it was done as the words ask
abbrev pub IsDone : List ℕ → List Text → Option (List ℕ) → Option (List ℕ) → Option (List ℕ) → Option (List ℕ) → Type 0
IsDone standard words known left before after = IsAskedFor standard words (λ a m. Streams m known left before after a)

-- a desk isn't made: only by the store's fault
abbrev pub IsInitFailure : Failure → Type 0
IsInitFailure (Store fault) = Unit {0}
IsInitFailure failure = ⊥

-- a run over tables in memory ended early
abbrev pub EndsFresh : Chart → Text → Option (List ℕ) → Option (List ℕ) → Option (List ℕ) → Option (List ℕ) → Failure → Type 0
EndsFresh m secret known left before after (Run fault) = IsCutShort m secret fault known left before after
EndsFresh m secret known left before after failure = ⊥

-- why a command ends early, and what it read and wrote up to there
abbrev pub Fails : Chart → Option (List ℕ) → Option (List ℕ) → Option (List ℕ) → Option (List ℕ) → Args → Failure → Type 0
Fails m known left before after (Init store master file) failure = IsInitFailure failure × IsIdle known left before after
Fails m known left before after (Letters master file) failure = EndsFresh m master.now known left before after failure
Fails m known left before after (LettersOver store file) failure = ReadsUpTo known left before after failure
Fails m known left before after (Serve store port count file) failure = IsServeFailure failure × IsIdle known left before after
Fails m known left before after (Report store game file) failure = IsReportFailure failure × (left ≡ known)
Fails m known left before after (Check file) failure = FailsCheck m known left before after failure
Fails m known left before after (Explain paper file) failure = FailsExplaining m paper known left before after failure
Fails m known left before after Version failure = (left ≡ known) × FailsVersion before after failure

-- the words ask for something for which there is no map
abbrev pub HasNoMap : List ℕ → List Text → (Option Text → Type 0) → Type 0
HasNoMap standard words None_of = (a : Args) × IsGiven words a × IsFit a × None_of (map_named a)

-- why it isn't done: the words are wrong, or there is no map, and nothing was read and nothing written; or the command ended early
abbrev pub IsFailed : List ℕ → List Text → Option (List ℕ) → Option (List ℕ) → Option (List ℕ) → Option (List ℕ) → Failure → Type 0
IsFailed standard words known left before after (Usage fault) = IsUsageFault words fault × IsIdle known left before after
IsFailed standard words known left before after (Map fault) =
    HasNoMap standard words (λ path. IsNoMapOf standard path fault) × IsIdle known left before after
IsFailed standard words known left before after failure = IsAskedFor standard words (λ a m. Fails m known left before after a failure)
