use Rattle.std.proofs.Common.{rules}
use Rattle.std.proofs.lemmas.Slice.Eq.{slice_eq-Decides}
use Rattle.dip_store_memory.proofs.boards.same_dislodged.Goals as goal

pub returns : goal.returns
returns c = (slice_eq-Decides (λ a b. search rules) c.args.these.now c.args.those.now c.eq.result c.eq.ensures).0
