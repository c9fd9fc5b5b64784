use Rattle.std.proofs.lemmas.Bool.{and_parts}
use Rattle.dip_decide_laws.specs.Words.{goes_to}
use Rattle.dip_decide_laws.proofs.ConvoyLemmas.{carried}
use Rattle.dip_decide_laws.proofs.laws.dislodged_fleets_carry_nobody.Goals as goal

pub returns : goal.returns
returns c m b orders a o q d there far entered =
    let x = and_parts (goes_to o q) _ entered in
    carried m b orders a d o there q x.0 c.chains_are_found.ensures far x.1
