use Rattle.std.proofs.Common.{suc, length}
use Rattle.dip_decide_rules.proofs.Chaining.{found_chain, chain_found}
use Rattle.dip_decide.proofs.laws.chains_are_found.Goals as goal

pub returns : goal.returns
returns c test next places q p listed = (λ h. found_chain test next places q (suc (length places)) p h, λ j. chain_found test next places q listed p j.0 j.1)
