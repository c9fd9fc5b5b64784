use Rattle.std.proofs.Common.{List, ℕ, Bor, option_map, sym, ap, ◌∙◌, codes}
use Rattle.std.specs.Fmt.{decimal}
use Rattle.dip_check_papers.proofs.PaperLemmas.{rest_same, rest_some}
use Rattle.dip_check_papers.proofs.notices.period_told.Goals as goal

pub returns-in-Some-clause-told : goal.returns-in-Some-clause-told
returns-in-Some-clause-told c = λ n least most e.
    c.period_of.ensures.told n least most (rest_same (codes "period ") c.args.line.now c.in-Some.word.now (decimal n) (ap (option_map (λ (s : Bor (List ℕ)). s.now)) (sym c.in-Some.is) ∙ c.rest_after.ensures) e)

pub returns-in-None-clause-told : goal.returns-in-None-clause-told
returns-in-None-clause-told c = λ n least most e. rest_some (codes "period ") c.args.line.now (decimal n) (ap (option_map (λ (s : Bor (List ℕ)). s.now)) (sym c.in-None.is) ∙ c.rest_after.ensures) e
