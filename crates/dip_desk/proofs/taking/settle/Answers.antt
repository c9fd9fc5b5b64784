use Rattle.std.proofs.Common.{◌≡◌, ap, sym, refl, subst, ◌∙◌, string_bytes}
use Rattle.dip_desk.specs.Fitting.{VerdictFits}
use Rattle.dip_desk_keeper.specs.Fitting.{Fits}
use Rattle.dip_desk_machine.specs.Machine as m
use Rattle.dip_desk_machine.specs.Mail.{mail}
use Rattle.dip_desk_state.specs.ChangeRows as desk_rows
use Rattle.dip_desk_state.specs.State.{Change, state_after}
use Rattle.dip_desk_machine.specs.Verdicts.{verdict}
use Rattle.dip_desk_state.specs.Rows as rows
use Rattle.dip_desk_keeper.proofs.Keepings.{unmade}
use Rattle.dip_desk.proofs.taking.settle.Goals as goal

pub returns-in-Err : goal.returns-in-Err
returns-in-Err g c =
    let n = mail c.args.letter.now in
    let who = desk_rows.author c.args.author in
    let text = string_bytes c.in-Taken.text in
    let effect = desk_rows.effect c.in-Taken.effect in
    let old = g.K.Keeper.book.content c.args.map.now c.args.keeper.now in
    let made_of = desk_rows.change c.in_ok-change-in-Taken.change in
    let is : verdict c.args.decided ≡ m.Taken text effect = ap verdict c.in-Taken.is in
    let change : made_of ≡ m.change_of n who text effect = c.in_ok-change-in-Taken.ensures in
    unmade c.args.map.now g.K.Keeper.book c.args.keeper.now c.apply.new.self (state_after made_of) (Fits c.args.map.now made_of) c.in-Err.fault (λ r. rows.reply r)
    (m.Settles n who (verdict c.args.decided)) (λ s. VerdictFits c.args.map.now n who (verdict c.args.decided) s) c.in-Err.ensures
    (λ s made. (m.reply_of n (verdict c.args.decided), (refl, made ∙ ap (λ (x : Change). state_after x old) change ∙ sym (ap (λ (x : m.Verdict). m.after n who x old) is))))
    (λ s suits. subst (λ (x : Change). Fits c.args.map.now x s) (sym change) (subst (λ (x : m.Verdict). VerdictFits c.args.map.now n who x s) is suits))
