-- The command line of the judge, in the terms of clap's definition.
use Rattle.std.specs.Prelude.{true, Some, codes}
use Rattle.clap.specs.Words.{App, Rule, Text, new_app, new_rule, with_rule, with_subcommand}

-- the option of that name, with one value
abbrev pub option_rule : Text → Rule
option_rule name = record (new_rule name) { long = Some name; value_names = 1 }

-- the option of that name, with one value, which its command requires
abbrev pub required_rule : Text → Rule
required_rule name = record (option_rule name) { required = true }

-- `init --store F --master S [--map M]`
abbrev pub init_command : App
init_command = with_rule (with_rule (with_rule (new_app (codes "init"))
    (required_rule (codes "store"))) (required_rule (codes "master"))) (option_rule (codes "map"))

-- `letters [--store F] [--master S] [--map M]`
abbrev pub letters_command : App
letters_command = with_rule (with_rule (with_rule (new_app (codes "letters"))
    (option_rule (codes "store"))) (option_rule (codes "master"))) (option_rule (codes "map"))

-- `serve --store F --port P`, to which more comes
abbrev pub listening_command : App
listening_command = with_rule (with_rule (new_app (codes "serve"))
    (required_rule (codes "store"))) (required_rule (codes "port"))

-- `serve --store F --port P --count N [--map M]`
abbrev pub serve_command : App
serve_command = with_rule (with_rule listening_command
    (required_rule (codes "count"))) (option_rule (codes "map"))

-- `report --store F --game G [--map M]`
abbrev pub report_command : App
report_command = with_rule (with_rule (with_rule (new_app (codes "report"))
    (required_rule (codes "store"))) (required_rule (codes "game"))) (option_rule (codes "map"))

-- `check [--map M]`
abbrev pub check_command : App
check_command = with_rule (new_app (codes "check")) (option_rule (codes "map"))

-- `explain --paper N [--map M]`
abbrev pub explain_command : App
explain_command = with_rule (with_rule (new_app (codes "explain"))
    (required_rule (codes "paper"))) (option_rule (codes "map"))

-- the program, which wants a command or tells its version, with the first two commands
abbrev pub mail_command : App
mail_command = with_subcommand (with_subcommand (on_required (new_app (codes "dip_judge"))) init_command.top) letters_command.top
  where
    on_required : App → App
    on_required a = record a { top = record a.top { has_version = true; subcommand_required = true } }

-- the program with the first four commands: `serve` and `report` work over a store alone
abbrev pub desk_command : App
desk_command = with_subcommand (with_subcommand mail_command serve_command.top) report_command.top

-- the program
abbrev pub judge_command : App
judge_command = with_subcommand (with_subcommand desk_command check_command.top) explain_command.top
