use Rattle.std.proofs.Common.{◌≡◌, ◌∙◌, ap, arith}
use Rattle.dip_store_memory.specs.Owns.{many_owns}
use Rattle.dip_store_memory.proofs.Owning.{tally, tally_all}
use Rattle.dip_store_memory.proofs.owns.SeenOwns.is_full.Goals as goal

pub loop-owns-init : goal.loop-owns-init
loop-owns-init c =
    let all : tally c.into_iter-owns-iterator.result ≡ many_owns c.args.self.now =
    ap tally (c.into_iter-owns-iterator.ensures.into_iter_gives ∙ c.values-owns-items.ensures.rest) ∙ tally_all c.self.inside.games.entries ∙ ap many_owns c.self.view_is
    in (omega arith, omega (arith, all))
