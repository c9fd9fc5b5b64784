use Rattle.std.proofs.Common.{◌∙◌, ap, arith, true}
use Rattle.dip_store_memory.specs.Idle.{is_idle, is_still}
use Rattle.dip_store_memory.proofs.Idling.{stirred_found, told_still}
use Rattle.dip_store_memory.proofs.idle.IdleSeats.is_idle.Goals as goal

pub returns-in_default : goal.returns-in_default
returns-in_default c =
    ap (is_still c.args.power) (c.in_default.ensures.value ∙ stirred_found c.args.game.now c.self.inside.games.entries)
    ∙ ap (is_idle c.args.game.now c.args.power) c.self.view_is

pub returns-in-Some-get : goal.returns-in-Some-get
returns-in-Some-get c =
    told_still c.in-Some.stirred.now c.from-index.result c.args.power c.in-Some-get.has.now (c.in-Some-get.ensures.lookup.4 (omega arith) true) (c.from-index.ensures ∙ c.index.ensures)
    ∙ ap (is_still c.args.power) (c.in-Some.ensures.value ∙ stirred_found c.args.game.now c.self.inside.games.entries)
    ∙ ap (is_idle c.args.game.now c.args.power) c.self.view_is

pub returns-in-None : goal.returns-in-None
returns-in-None c =
    told_still c.in-Some.stirred.now c.from-index.result c.args.power true (c.in-None.ensures.lookup.4 (omega arith) true) (c.from-index.ensures ∙ c.index.ensures)
    ∙ ap (is_still c.args.power) (c.in-Some.ensures.value ∙ stirred_found c.args.game.now c.self.inside.games.entries)
    ∙ ap (is_idle c.args.game.now c.args.power) c.self.view_is
