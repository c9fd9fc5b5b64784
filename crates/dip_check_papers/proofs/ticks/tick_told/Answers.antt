use Rattle.std.proofs.Common.{◌≡◌, ◌<◌, ◌+◌, ◌^◌, ℕ, Option, Some, ap, ◌∙◌, arith, unwrap_or}
use Rattle.dip_check_papers.proofs.ticks.tick_told.Goals as goal

pub returns-clause-told : goal.returns-clause-told
returns-clause-told c = λ head tail rest tick is lacks text low timely.
    let due : ℕ = tick + c.args.before.now.period in
    let small : due < 2 ^ 64 = omega (arith, timely, c.tick_before.ensures.period) in
    let read : c.due_told.result ≡ Some due = c.due_told.ensures head tail rest due is lacks text small in
    let number : c.unwrap_or.result ≡ due = c.unwrap_or.ensures ∙ ap (λ (o : Option ℕ). unwrap_or o 0) read in
    c.tick_before.ensures.told tick low timely number
