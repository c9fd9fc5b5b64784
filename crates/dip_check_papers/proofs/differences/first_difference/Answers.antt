use Rattle.std.proofs.Common.{◌≡◌, ◌≤◌, ℕ, Bor, List, length, map, arith}
use Rattle.std.proofs.lemmas.List.{length-map}
use Rattle.dip_check_papers.specs.Differing.{alike}
use Rattle.dip_check_papers.proofs.DifferenceLemmas.{few_alike}
use Rattle.dip_check_papers.proofs.differences.first_difference.Goals as goal

abbrev texts : List (Bor (List ℕ)) → List (List ℕ)
texts ls = map {A = Bor (List ℕ)} {B = List ℕ} (λ t. t.now) ls

pub overflow_add-number-in-None : goal.overflow_add-number-in-None
overflow_add-number-in-None c =
    let lines = c.as_slice.result.now in
    let few : alike (texts lines) (texts c.as_slice-2.result.now) ≤ length (texts lines) = few_alike (texts lines) (texts c.as_slice-2.result.now) in
    let all : length (texts lines) ≡ length lines = length-map lines (λ (l : Bor (List ℕ)). l.now) in
    let small = c.in_ok-lines.lines.small in
    let value = c.as_slice.ensures.len in
    let number = c.lines_alike-number.ensures in
    omega (arith, few, all, small, value, number)
