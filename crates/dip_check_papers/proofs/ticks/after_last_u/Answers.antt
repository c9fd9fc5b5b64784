use Rattle.std.proofs.Common.{◌≡◌, ◌∷◌, ◌∙◌, ℕ, Bor, List, None, Option, option_map, rules, length, length-append, inl, inr, sym, ap, refl, arith}
use Rattle.dip_letters.proofs.LineLemmas.{cut_takes}
use Rattle.dip_check_papers.proofs.LineLemmas.{utf8_after}
use Rattle.dip_check_papers.proofs.ToldPapers.{left_cut, stands_further, stands_last, stands_no_more}
use Rattle.dip_check_papers.proofs.ticks.after_last_u.Goals as goal

pub loop-before-smaller : goal.loop-before-smaller
loop-before-smaller c =
    let t = cut_takes 85 c.loop-before.at.now (c.in-Some.before.now, c.in-Some.rest.now) (sym c.in-Some.ensures) in
    omega (arith, ap length t.1, length-append c.in-Some.before.now (85 ∷ c.in-Some.rest.now))

pub loop-before-preserved : goal.loop-before-preserved
loop-before-preserved c = (
  (λ head tail is lacks. stands_further head tail c.args.text.now c.loop-before.at.now c.loop-before.left.now lacks c.in-Some.before.now c.in-Some.rest.now c.in-Some.ensures
      c.in_ok-more.more.now c.in_ok-left.left.now c.in_ok-more.ensures c.in_ok-left.ensures (c.loop-before.invariant.0 head tail is lacks)),
  (
    utf8_after 85 c.loop-before.at.now c.in-Some.before.now c.in-Some.rest.now (omega arith) c.loop-before.invariant.1.0 c.in-Some.ensures,
    utf8_after 85 c.loop-before.left.now c.in-Some.before.now c.in_ok-left.left.now (omega arith) c.loop-before.invariant.1.1
        (left_cut c.loop-before.at.now c.loop-before.left.now c.in-Some.before.now c.in-Some.rest.now c.in-Some.ensures c.in_ok-more.more.now c.in_ok-left.left.now c.in_ok-more.ensures c.in_ok-left.ensures),
  ),
)

pub loop-before-init : goal.loop-before-init
loop-before-init c = ((λ head tail is lacks. inr (head, is, refl)), (c.utf8.paper, c.utf8.text))

pub returns-in_err-more : goal.returns-in_err-more
returns-in_err-more c = λ head tail is lacks.
    let gone : ◌≡◌ {A = Option (Bor (List ℕ))} c.from_residual.result None = search (rules, c.from_residual.ensures) in
    ap (option_map {T = Bor (List ℕ)} {U = List ℕ} (λ s. s.now)) gone ∙ stands_no_more head tail c.args.text.now c.loop-before.at.now c.loop-before.left.now lacks c.in-Some.before.now c.in-Some.rest.now c.in-Some.ensures
    (inl c.in_err-more.ensures) (c.loop-before.invariant.0 head tail is lacks)

pub returns-in_err-left : goal.returns-in_err-left
returns-in_err-left c = λ head tail is lacks.
    let gone : ◌≡◌ {A = Option (Bor (List ℕ))} c.from_residual-in_err-left.result None = search (rules, c.from_residual-in_err-left.ensures) in
    ap (option_map {T = Bor (List ℕ)} {U = List ℕ} (λ s. s.now)) gone ∙ stands_no_more head tail c.args.text.now c.loop-before.at.now c.loop-before.left.now lacks c.in-Some.before.now c.in-Some.rest.now c.in-Some.ensures
    (inr (c.in_ok-more.more.now, c.in_ok-more.ensures, c.in_err-left.ensures)) (c.loop-before.invariant.0 head tail is lacks)

pub returns : goal.returns
returns c = λ head tail is lacks. stands_last head tail c.args.text.now c.loop-before.at.now c.loop-before.left.now lacks c.in_default.ensures (c.loop-before.invariant.0 head tail is lacks)
