use Rattle.dip_explain_laws.proofs.LineLemmas.{line_agrees, line_gives, line_known, line_stands, lines_apart}
use Rattle.dip_explain_laws.proofs.laws.lines_rest_on_those_above.Goals as goal

pub returns-clause-ordered : goal.returns-clause-ordered
returns-clause-ordered c m orders s a k above step below = lines_apart m orders s a below step above k

pub returns-clause-known : goal.returns-clause-known
returns-clause-known c s steps a k step d l e = line_known s steps a e k step l d

pub returns-clause-follows : goal.returns-clause-follows
returns-clause-follows c s steps a k step l e = line_stands s steps a e k step l

pub returns-clause-gives : goal.returns-clause-gives
returns-clause-gives c s steps a k step l e = line_gives s steps a e k step l

pub returns-clause-agrees : goal.returns-clause-agrees
returns-clause-agrees c s steps a k step l e = line_agrees s steps a e k step l
