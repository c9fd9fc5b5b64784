use Rattle.std.proofs.Common.{◌≡◌, ◌++◌, ◌∷◌, [], ◌==◌, ◌≢◌, append_assoc, sym, ℕ, List, Option, Some, None, true, not, codes, ap, ◌∙◌, arith}
use Rattle.std.specs.Fmt.{decimal}
use Rattle.std.specs.Result.{result_ok}
use Rattle.std.proofs.lemmas.Bool.Decides.{nat_tests}
use Rattle.std.proofs.lemmas.Fmt.{parse-decimal}
use Rattle.dip_letters.specs.Lines.{cut_at}
use Rattle.dip_letters.specs.Reading.{after_name}
use Rattle.dip_letters.proofs.LineLemmas.{cut_again}
use Rattle.dip_letters.proofs.NameLemmas.{after_again}
use Rattle.dip_check_papers.proofs.LineLemmas.{lacks_by}
use Rattle.dip_check_papers.proofs.NameTexts.{number_all}
use Rattle.dip_check_papers.proofs.ticks.due_told.Goals as goal

no_space : (b : ℕ) → not (b == 32) ≡ true → b ≢ 32
no_space b h same = grind (arith, nat_tests)

cut_number : (due : ℕ) (tail : List ℕ) → cut_at 32 (decimal due ++ 32 ∷ tail) ≡ Some (decimal due, tail)
cut_number due tail =
    cut_again 32 (decimal due) tail (lacks_by (λ b. not (b == 32)) 32 no_space (decimal due) (number_all (λ b. not (b == 32)) (λ d low. grind (arith, nat_tests)) due))

some_of : {A : Type 0} (x y : A) → Some x ≡ Some y → x ≡ y
some_of x y e = cc

-- what is after the paper's last U
text_after : (head text more : List ℕ) → text ≡ head ++ 85 ∷ more → after_name (head ++ 85 ∷ []) text ≡ Some more
text_after head text more is = ap (after_name (head ++ 85 ∷ [])) (is ∙ sym (append_assoc head (85 ∷ []) more)) ∙ after_again (head ++ 85 ∷ []) more

pub returns-in_err-after_last_u : goal.returns-in_err-after_last_u
returns-in_err-after_last_u c = λ head tail rest due is lacks text small.
    let none : None ≡ Some (codes "E " ++ (decimal due ++ 32 ∷ rest)) = c.in_err-after_last_u.ensures head tail is lacks ∙ text_after head c.args.text.now (codes "E " ++ (decimal due ++ 32 ∷ rest)) text in
    cc

pub returns-in_err-rest : goal.returns-in_err-rest
returns-in_err-rest c = λ head tail rest due is lacks text small.
    let more : List ℕ = codes "E " ++ (decimal due ++ 32 ∷ rest) in
    let last : c.in_ok-after_last_u.field-0.now ≡ more = some_of c.in_ok-after_last_u.field-0.now more (c.in_ok-after_last_u.ensures head tail is lacks ∙ text_after head c.args.text.now more text) in
    let none : None ≡ Some (decimal due ++ 32 ∷ rest) = c.in_err-rest.ensures ∙ ap (after_name (codes "E ")) last ∙ after_again (codes "E ") (decimal due ++ 32 ∷ rest) in
    cc

pub returns-in_err-number : goal.returns-in_err-number
returns-in_err-number c = λ head tail rest due is lacks text small.
    let more : List ℕ = codes "E " ++ (decimal due ++ 32 ∷ rest) in
    let last : c.in_ok-after_last_u.field-0.now ≡ more = some_of c.in_ok-after_last_u.field-0.now more (c.in_ok-after_last_u.ensures head tail is lacks ∙ text_after head c.args.text.now more text) in
    let read : Some c.in_ok-rest.rest.now ≡ Some (decimal due ++ 32 ∷ rest) = c.in_ok-rest.ensures ∙ ap (after_name (codes "E ")) last ∙ after_again (codes "E ") (decimal due ++ 32 ∷ rest) in
    let same : c.in_ok-rest.rest.now ≡ decimal due ++ 32 ∷ rest = some_of c.in_ok-rest.rest.now (decimal due ++ 32 ∷ rest) read in
    let none : ◌≡◌ {A = Option (List ℕ × List ℕ)} None (Some (decimal due, rest)) = c.in_err-number.ensures ∙ ap (cut_at 32) same ∙ cut_number due rest in
    cc

pub returns : goal.returns
returns c = λ head tail rest due is lacks text small.
    let more : List ℕ = codes "E " ++ (decimal due ++ 32 ∷ rest) in
    let last : c.in_ok-after_last_u.field-0.now ≡ more = some_of c.in_ok-after_last_u.field-0.now more (c.in_ok-after_last_u.ensures head tail is lacks ∙ text_after head c.args.text.now more text) in
    let read : Some c.in_ok-rest.rest.now ≡ Some (decimal due ++ 32 ∷ rest) = c.in_ok-rest.ensures ∙ ap (after_name (codes "E ")) last ∙ after_again (codes "E ") (decimal due ++ 32 ∷ rest) in
    let same : c.in_ok-rest.rest.now ≡ decimal due ++ 32 ∷ rest = some_of c.in_ok-rest.rest.now (decimal due ++ 32 ∷ rest) read in
    let parts : ◌≡◌ {A = Option (List ℕ × List ℕ)} (Some (c.in_ok-number.number.now, c.in_ok-number._rest.now)) (Some (decimal due, rest)) = c.in_ok-number.ensures ∙ ap (cut_at 32) same ∙ cut_number due rest in
    let number : c.in_ok-number.number.now ≡ decimal due =
    ap (λ (p : List ℕ × List ℕ). p.0) (some_of {A = List ℕ × List ℕ} (c.in_ok-number.number.now, c.in_ok-number._rest.now) (decimal due, rest) parts) in
    c.ok.ensures.value ∙ ap result_ok (parse-decimal 64 due c.in_ok-number.number.now c.parse.result small small number c.parse.ensures.value.0)
