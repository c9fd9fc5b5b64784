use Rattle.std.proofs.Common.{rules, sym, ◌∙◌}
use Rattle.std.proofs.lemmas.Fn.{filter_same}
use Rattle.dip_decide_rules.specs.declared.decisions.Decision.TheVariants.{Path}
use Rattle.dip_decide_rules.specs.Given.{known_of}
use Rattle.dip_decide_rules.specs.Steps.{is_unknown}
use Rattle.dip_decide_rules.proofs.RingLaws.{none_open}
use Rattle.dip_decide.proofs.circles.open_paths.Goals as goal

pub returns : goal.returns
returns c =
    let kept = filter_same _ (λ p. is_unknown (known_of c.args.values.now (Path p))) _ (λ x b f t. search rules) _ _ c.retain.ensures.filtered in
    rw (c.in_ok-paths.ensures, c.as_slice.ensures.value) at kept

pub returns-then-not-has_open_path : goal.returns-then-not-has_open_path
returns-then-not-has_open_path c =
    rw c.new.ensures.items (sym (none_open (λ p. is_unknown (known_of c.args.values.now (Path p))) c.args.table.now.places.items (sym c.has_open_path.ensures ∙ c.if-not-has_open_path.true)))
