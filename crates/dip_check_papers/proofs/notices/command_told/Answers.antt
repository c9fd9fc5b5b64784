use Rattle.std.proofs.Common.{◌≡◌, ◌≢◌, List, ℕ, Bool, true, false, [], ◌∷◌, sym, ap, subst, ◌∙◌, codes}
use Rattle.std.specs.Option.{MatchOption}
use Rattle.std.specs.Str.{bytes_eq}
use Rattle.std.proofs.lemmas.Bool.{false≢true}
use Rattle.std.proofs.lemmas.Slice.Eq.{bytes_eq-Decides}
use Rattle.dip_letters.specs.Views.{notice_request}
use Rattle.dip_check_papers.proofs.Judged.{IsPeriodLine, close_line, pause_line, period_line, resume_line}
use Rattle.dip_check_papers.proofs.notices.command_told.Goals as goal

is_text : (line name : List ℕ) (r : Bool) → r ≡ bytes_eq line name → r ≡ true → line ≡ name
is_text line name r says passed = (bytes_eq-Decides line name).0 (sym says ∙ passed)

is_other : (line name : List ℕ) (r : Bool) → r ≡ bytes_eq line name → r ≡ false → line ≢ name
is_other line name r says failed e = false≢true (sym failed ∙ says ∙ (bytes_eq-Decides line name).1 e)

pub returns-then-eq-clause-told : goal.returns-then-eq-clause-told
returns-then-eq-clause-told c = λ n command is.
    pause_line n command (is ∙ ap (λ (l : List ℕ). l ∷ []) (is_text c.args.line.now (codes "paused") c.eq.result c.eq.ensures c.if-eq.true))

pub returns-then-eq-2-clause-told : goal.returns-then-eq-2-clause-told
returns-then-eq-2-clause-told c = λ n command is.
    resume_line n command (is ∙ ap (λ (l : List ℕ). l ∷ []) (is_text c.args.line.now (codes "resumed") c.eq-2.result c.eq-2.ensures c.if-eq-2.true))

pub returns-then-eq-3-clause-told : goal.returns-then-eq-3-clause-told
returns-then-eq-3-clause-told c = λ n command is.
    close_line n command (is ∙ ap (λ (l : List ℕ). l ∷ []) (is_text c.args.line.now (codes "closed") c.eq-3.result c.eq-3.ensures c.if-eq-3.true))

pub returns-clause-told : goal.returns-clause-told
returns-clause-told c = λ n command is.
    let line : List ℕ = c.args.line.now in
    let said : IsPeriodLine n line = period_line n line command is (is_other line (codes "paused") c.eq.result c.eq.ensures c.if-eq.false)
    (is_other line (codes "resumed") c.eq-2.result c.eq-2.ensures c.if-eq-2.false) (is_other line (codes "closed") c.eq-3.result c.eq-3.ensures c.if-eq-3.false) in
    subst (λ k. MatchOption c.period_told.result ⊥ (λ r. notice_request r ≡ k)) (sym said.is) (c.period_told.ensures.told said.period said.least said.most said.says)
