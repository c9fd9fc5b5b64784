use Rattle.std.proofs.Common.{◌≡◌, Ok, Some, option_map, sym, ap, ◌∙◌, rules}
use Rattle.std.specs.Fmt.{decimal}
use Rattle.std.proofs.lemmas.Fmt.{parse-decimal}
use Rattle.dip_check_papers.proofs.words.number_after.Goals as goal

some_same : {A : Type 0} (x y : A) → Some x ≡ Some y → x ≡ y
some_same x y e = cc

pub returns-in-Some : goal.returns-in-Some
returns-in-Some c = λ n low e.
    let word : c.in-Some.word.now ≡ decimal n = some_same c.in-Some.word.now (decimal n) (ap (option_map (λ w. w.now)) (sym c.in-Some.is) ∙ (c.word_after.ensures ∙ e)) in
    let read : c.parse.result ≡ Ok n = parse-decimal 64 n c.in-Some.word.now c.parse.result low low word c.parse.ensures.value.0 in
    search rules
