use Rattle.dip_explain_laws.proofs.RouteLemmas.{carrier_matches}
use Rattle.dip_explain_laws.proofs.VerdictLemmas.{told_carried, told_fleet, told_server, told_stranded}
use Rattle.dip_explain_laws.proofs.laws.routes_are_of_the_fleets_named.Goals as goal

pub returns-clause-there : goal.returns-clause-there
returns-clause-there c steps a line p q i t o y = told_carried steps a line t i p q o y

pub returns-clause-none : goal.returns-clause-none
returns-clause-none c steps a line p q i t o n r = told_stranded steps a line t i p q o n r

pub returns-clause-named : goal.returns-clause-named
returns-clause-named c steps a line p x t m y l = told_server steps a line t p x m y l

pub returns-clause-carriers : goal.returns-clause-carriers
returns-clause-carriers c s p x i = carrier_matches s i p x

pub returns-clause-fleets : goal.returns-clause-fleets
returns-clause-fleets c steps a line p x t m n = told_fleet steps a line t p x m n
