-- What the words ask for.
use Rattle.std.specs.Prelude.{◌≡◌, ◌≤◌, true, List, [], Option, None, Some, codes, option_map}
use Rattle.std.specs.Fmt.{decimal}
use Rattle.clap.specs.Words.{IsAmong, Row, Text, fault_of, first_of, subcommand_of}
use Rattle.clap.specs.declared.error.kind.ErrorKind.TheVariants.{DisplayVersion}
use Rattle.dip_letters_words.specs.Words.{is_secret}
use Rattle.dip_judge_words.specs.CommandLine.{judge_command}
use Rattle.dip_judge_words.specs.declared.args.Args.{Args}
use Rattle.dip_judge_words.specs.declared.args.Args.TheVariants.{Init, Letters, LettersOver, Serve, Report, Check, Explain, Version}

-- what clap's definition finds in words that it takes: the command's name, and the values of its options
abbrev pub Found : Type 0
Found = Text × List Row

-- the option of that name has this value, or none
abbrev pub Has : Found → Text → Option Text → Type 0
Has found option text = first_of option found.1 ≡ text

-- the map's file that is named
abbrev pub map_named : Args → Option Text
map_named (Init store master file) = option_map (λ f. f.now) file
map_named (Letters master file) = option_map (λ f. f.now) file
map_named (LettersOver store file) = option_map (λ f. f.now) file
map_named (Serve store port count file) = option_map (λ f. f.now) file
map_named (Report store game file) = option_map (λ f. f.now) file
map_named (Check file) = option_map (λ f. f.now) file
map_named (Explain paper file) = option_map (λ f. f.now) file
map_named Version = None

-- the command's name; the version is asked for without one
abbrev pub name_of : Args → Text
name_of (Init store master file) = codes "init"
name_of (Letters master file) = codes "letters"
name_of (LettersOver store file) = codes "letters"
name_of (Serve store port count file) = codes "serve"
name_of (Report store game file) = codes "report"
name_of (Check file) = codes "check"
name_of (Explain paper file) = codes "explain"
name_of Version = []

-- the values of its options but the map; `letters` has a store or a master, not both
abbrev pub HasValues : Found → Args → Type 0
HasValues found (Init store master file) = Has found (codes "store") (Some store.now) × Has found (codes "master") (Some master.now)
HasValues found (Letters master file) = Has found (codes "store") None × Has found (codes "master") (Some master.now)
HasValues found (LettersOver store file) = Has found (codes "store") (Some store.now) × Has found (codes "master") None
HasValues found (Serve store port count file) = Has found (codes "store") (Some store.now)
    × Has found (codes "port") (Some (decimal port)) × Has found (codes "count") (Some (decimal count))
HasValues found (Report store game file) = Has found (codes "store") (Some store.now) × Has found (codes "game") (Some game.now)
HasValues found (Check file) = Unit {0}
HasValues found (Explain paper file) = Has found (codes "paper") (Some (decimal paper))
HasValues found Version = ⊥

-- what is found is this command with these values
pub record Shows (found : Found) (a : Args) : Type 0 where
  pub name : found.0 ≡ name_of a
  pub values : HasValues found a
  pub file : Has found (codes "map") (map_named a)

-- clap's definition finds nothing in the words but that they ask for the version
abbrev pub AsksVersion : List Text → Type 0
AsksVersion words = IsAmong DisplayVersion (fault_of judge_command words)

-- it takes the words, and gives them this command and these values
abbrev pub GivesCommand : List Text → Args → Type 0
GivesCommand words a = (fault_of judge_command words ≡ [])
    × ((found : Found) × (subcommand_of judge_command words ≡ Some found) × Shows found a)

-- the words ask for the version, or give a command with its values
abbrev pub IsGiven : List Text → Args → Type 0
IsGiven words Version = AsksVersion words
IsGiven words a = GivesCommand words a

-- the master's secret is one, and the numbers are within bounds
abbrev pub IsFit : Args → Type 0
IsFit (Init store master file) = is_secret master.now ≡ true
IsFit (Letters master file) = is_secret master.now ≡ true
IsFit (Serve store port count file) = (1 ≤ port) × (port ≤ 65535) × (1 ≤ count) × (count ≤ 999999)
IsFit (Explain paper file) = (1 ≤ paper) × (paper ≤ 999999999)
IsFit _ = Unit {0}
