use Rattle.std.proofs.Common.{ap, ◌∙◌, List, ℕ, false, [], ◌∷◌}
use Rattle.std.proofs.lemmas.List.{take_all}
use Rattle.dip_decide_rules.specs.declared.decisions.Decision.TheVariants.{Path}
use Rattle.dip_decide_rules.specs.Deciding.{Known, give}
use Rattle.dip_decide_rules.specs.Given.{known_of}
use Rattle.dip_decide_rules.specs.Steps.{paths_of}
use Rattle.dip_decide_rules.proofs.Giving.{give_path, path_open}
use Rattle.dip_decide_rules.proofs.values.Values.break_paths.Goals as goal

pub give-requires : goal.give-requires
give-requires c =
    ap (λ (k : Known). k (Path c.p-item.result)) c.loop-p.invariant ∙ path_open (known_of c.args.self.now) c.args.units.now c.loop-p.p-index c.p-item.result false c.requires.distinct c.loop-p-test.true c.p-item.is c.requires.unknown

pub loop-p-preserved : goal.loop-p-preserved
loop-p-preserved c =
    c.give.ensures ∙ ap (λ (k : Known). give k (Path c.p-item.result ∷ []) false) c.loop-p.invariant ∙ give_path (known_of c.args.self.now) c.args.units.now c.loop-p.p-index c.p-item.result false c.loop-p-test.true c.p-item.is

pub returns : goal.returns
returns c = c.loop-p.invariant ∙ ap (λ (ps : List ℕ). give (known_of c.args.self.now) (paths_of ps) false) (take_all c.loop-p.p-index c.args.units.now c.loop-p-test.false)
