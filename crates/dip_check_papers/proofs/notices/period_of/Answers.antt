use Rattle.std.proofs.Common.{◌≡◌, Result, Ok, Err, sym, ap, ◌∙◌, arith}
use Rattle.std.proofs.lemmas.Fmt.{parse-decimal}
use Rattle.dip_letters.specs.Notes.NoticeRequest.{Period}
use Rattle.dip_check_papers.proofs.notices.period_of.Goals as goal
use Rattle.dip_check_papers.proofs.notices.period_of.Goals.{else-period-ge1-via-then-period-ge1+else-period-le-LONGEST_PERIOD, else-period-ge1-via-else-period-ge1}

ok_same : {A E : Type 0} (x y : A) → ◌≡◌ {A = Result A E} (Ok x) (Ok y) → x ≡ y
ok_same x y e = cc

no_error : {A E : Type 0} (e : E) (y : A) → ◌≡◌ {A = Result A E} (Err e) (Ok y) → ⊥
no_error e y is = cc

pub returns-then-period-le-LONGEST_PERIOD-clause-told : goal.returns-then-period-le-LONGEST_PERIOD-clause-told
returns-then-period-le-LONGEST_PERIOD-clause-told c = λ n least most e.
    ap Period (ok_same c.in-Ok.period n (sym c.in-Ok.is ∙ parse-decimal 32 n c.args.word.now c.parse.result (omega (arith, most)) (omega (arith, most)) e c.parse.ensures.value.0))

pub returns-else-period-ge1-clause-told : goal.returns-else-period-ge1-clause-told
returns-else-period-ge1-clause-told c = λ n least most e.
    let same : c.in-Ok.period ≡ n = ok_same c.in-Ok.period n (sym c.in-Ok.is ∙ parse-decimal 32 n c.args.word.now c.parse.result (omega (arith, most)) (omega (arith, most)) e c.parse.ensures.value.0) in
    elim c.else-period-ge1.branch [
      | else-period-ge1-via-then-period-ge1+else-period-le-LONGEST_PERIOD w ↦ absurd (omega (arith, same, most, w.if-period-le-LONGEST_PERIOD.false))
      | else-period-ge1-via-else-period-ge1 w ↦ absurd (omega (arith, same, least, w.if-period-ge1.false))
    ]

pub returns-in-Err-clause-told : goal.returns-in-Err-clause-told
returns-in-Err-clause-told c = λ n least most e.
    no_error _ n (sym c.in-Err.is ∙ parse-decimal 32 n c.args.word.now c.parse.result (omega (arith, most)) (omega (arith, most)) e c.parse.ensures.value.0)
