use Rattle.std.proofs.Common.{ap, ◌∙◌, List, ℕ, true, [], ◌∷◌}
use Rattle.std.proofs.lemmas.List.{take_all}
use Rattle.dip_decide_rules.specs.declared.decisions.Decision.TheVariants.{Move}
use Rattle.dip_decide_rules.specs.Deciding.{Known, give}
use Rattle.dip_decide_rules.specs.Given.{known_of}
use Rattle.dip_decide_rules.specs.Steps.{moves_of}
use Rattle.dip_decide_rules.proofs.Giving.{give_move, move_open}
use Rattle.dip_decide_rules.proofs.values.Values.give_moves.Goals as goal

pub give-requires : goal.give-requires
give-requires c =
    ap (λ (k : Known). k (Move c.p-item.result)) c.loop-p.invariant ∙ move_open (known_of c.args.self.now) c.args.units.now c.loop-p.p-index c.p-item.result true c.requires.distinct c.loop-p-test.true c.p-item.is c.requires.unknown

pub loop-p-preserved : goal.loop-p-preserved
loop-p-preserved c =
    c.give.ensures ∙ ap (λ (k : Known). give k (Move c.p-item.result ∷ []) true) c.loop-p.invariant ∙ give_move (known_of c.args.self.now) c.args.units.now c.loop-p.p-index c.p-item.result true c.loop-p-test.true c.p-item.is

pub returns : goal.returns
returns c = c.loop-p.invariant ∙ ap (λ (ps : List ℕ). give (known_of c.args.self.now) (moves_of ps) true) (take_all c.loop-p.p-index c.args.units.now c.loop-p-test.false)
