use Rattle.std.proofs.Common.{rules, ◌≡◌, [], map}
use Rattle.clap.specs.Words.{fault_of, subcommand_of, subcommand_rows_of}
use Rattle.dip_judge_words.specs.CommandLine.{judge_command}
use Rattle.dip_judge_words.proofs.CommandLineLemmas.{none_given}
use Rattle.dip_judge_words.proofs.reading.read_args.Goals as goal

pub returns-in_default-asked_of-clause-faults : goal.returns-in_default-asked_of-clause-faults
returns-in_default-asked_of-clause-faults c =
    let words = map (λ w. w.now) c.args.words.now in
    let rows = subcommand_rows_of c.in-Some.matches in
    let taken : fault_of judge_command words ≡ [] = search rules in
    let same : rows ≡ subcommand_of judge_command words = search rules in
    (taken, λ a. none_given words rows a taken same c.in_default-asked_of.ensures)
