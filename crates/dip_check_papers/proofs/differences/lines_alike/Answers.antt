use Rattle.std.proofs.Common.{◌≡◌, ℕ, Bor, List, [], drop, map, ap, ◌∙◌, arith}
use Rattle.std.proofs.lemmas.List.{drop_all}
use Rattle.dip_check_papers.specs.Differing.{alike}
use Rattle.dip_check_papers.proofs.DifferenceLemmas.{none_alike}
use Rattle.dip_check_papers.proofs.differences.lines_alike.Goals as goal

abbrev texts : List (Bor (List ℕ)) → List (List ℕ)
texts ls = map {A = Bor (List ℕ)} {B = List ℕ} (λ t. t.now) ls

pub returns-then-others-number : goal.returns-then-others-number
returns-then-others-number c =
    let gone : drop c.loop-number.number c.args.others.now ≡ [] = drop_all c.loop-number.number c.args.others.now (omega (arith, c.if-others-number.true)) in
    let none : alike (texts (drop c.loop-number.number c.args.lines.now)) (texts (drop c.loop-number.number c.args.others.now)) ≡ 0 =
    ap (λ (ls : List (Bor (List ℕ))). alike (texts (drop c.loop-number.number c.args.lines.now)) (texts ls)) gone ∙ none_alike (texts (drop c.loop-number.number c.args.lines.now)) in
    omega (arith, c.loop-number.invariant, none)
