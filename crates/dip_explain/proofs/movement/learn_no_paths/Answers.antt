use Rattle.std.proofs.Common.{◌∙◌, ap, sym, ◌+◌, List, ℕ, drop, false}
use Rattle.std.proofs.lemmas.List.{at_drop_all}
use Rattle.dip_decide_rules.specs.Deciding.{Known}
use Rattle.dip_decide_rules.specs.Given.{known_of}
use Rattle.dip_decide_rules.specs.Steps.{paths_of}
use Rattle.dip_explain.specs.Movement.{learned}
use Rattle.dip_explain_strengths.proofs.Filtering.{item_next}
use Rattle.dip_explain.proofs.movement.learn_no_paths.Goals as goal

pub loop-p-preserved : goal.loop-p-preserved
loop-p-preserved c =
    ap (λ (k : Known). learned k (paths_of (drop (c.loop-p.p-index + 1) c.args.units.now)) false) c.learn.ensures
    ∙ ap (λ (ps : List ℕ). learned (known_of c.loop-p.known) (paths_of ps) false) (sym (item_next c.args.units.now c.loop-p.p-index c.p-item.result c.loop-p-test.true c.p-item.is))
    ∙ c.loop-p.invariant

pub returns : goal.returns
returns c = sym (at_drop_all (λ (ps : List ℕ). learned (known_of c.loop-p.known) (paths_of ps) false) c.args.units.now c.loop-p.p-index c.loop-p-test.false) ∙ c.loop-p.invariant
