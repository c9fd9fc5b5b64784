use Rattle.std.proofs.Common.{rules}
use Rattle.dip_judge_words.proofs.CommandLineLemmas.{asks_by, refused_by, taken_by}
use Rattle.dip_judge_words.proofs.reading.matches_of.Goals as goal

pub returns-in-Ok-clause-taken : goal.returns-in-Ok-clause-taken
returns-in-Ok-clause-taken c = taken_by _ _ c.in_ok-judge_command.ensures c.in-Ok.ensures.kinds

pub returns-in-DisplayVersion-clause-version : goal.returns-in-DisplayVersion-clause-version
returns-in-DisplayVersion-clause-version c =
    asks_by _ _ c.in-Err.error c.in_ok-judge_command.ensures c.in-Err.ensures.kinds (search rules)

pub returns : goal.returns
returns c = record {
  taken = tt;
  found = tt;
  version = tt;
  faults = rw (c.from.ensures) (refused_by _ _ c.in-Err.error c.in_ok-judge_command.ensures c.in-Err.ensures.kinds (search rules));
}
