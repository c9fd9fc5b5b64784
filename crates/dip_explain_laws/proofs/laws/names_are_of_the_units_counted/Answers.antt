use Rattle.dip_explain_laws.proofs.NameLemmas.{attackers_named, opponents_named, preventers_named}
use Rattle.dip_explain_laws.proofs.laws.names_are_of_the_units_counted.Goals as goal

pub returns-clause-attackers : goal.returns-clause-attackers
returns-clause-attackers c line p q some = attackers_named line p q some

pub returns-clause-opponents : goal.returns-clause-opponents
returns-clause-opponents c line p q some = opponents_named line p q some

pub returns-clause-preventers : goal.returns-clause-preventers
returns-clause-preventers c line q w some = preventers_named line q w some
