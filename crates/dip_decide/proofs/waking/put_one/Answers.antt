use Rattle.std.proofs.Common.{◌≡◌, sym, ◌∙◌, false, None}
use Rattle.std.proofs.lemmas.Bool.{both_ways}
use Rattle.dip_decide_rules.specs.Deciding.{is_among}
use Rattle.dip_decide_rules.specs.Given.{situation_of, known_of}
use Rattle.dip_decide_rules.specs.Movement.{mentions}
use Rattle.dip_decide.proofs.Taken.{one_taken, one_passed}
use Rattle.dip_decide.proofs.Tested.{is_open, not_none}
use Rattle.dip_decide.proofs.waking.put_one.Goals as goal
use Rattle.dip_decide.proofs.waking.put_one.Goals.{else-is_none-via-then-is_none+then-not-has+else-mentions, else-is_none-via-then-is_none+else-not-has, else-is_none-via-else-is_none}

pub returns-in_ok-push : goal.returns-in_ok-push
returns-in_ok-push c =
    let s = situation_of c.args.table.now in
    let k = known_of c.args.values.now in
    let o : k c.args.d.now ≡ None = sym c.look.ensures ∙ is_open c.look.result c.is_none.result c.is_none.ensures c.if-is_none.true in
    let n : is_among c.args.d.now c.args.work.now ≡ false = sym c.has.ensures ∙ c.if-not-has.true in
    rw c.in_ok-push.ensures (one_taken s k c.requires.situation c.requires.started c.args.e.now c.args.d.now c.args.work.now o (sym c.mentions.ensures ∙ c.if-mentions.true) n)

pub returns-else-is_none : goal.returns-else-is_none
returns-else-is_none c =
    let s = situation_of c.args.table.now in
    let k = known_of c.args.values.now in
    let d = c.args.d.now in
    let e = c.args.e.now in
    elim c.else-is_none.branch [
      | else-is_none-via-then-is_none+then-not-has+else-mentions w ↦ one_passed s k e d c.args.work.now (λ o m. let f : mentions s d e ≡ false = sym w.mentions.ensures ∙ w.if-mentions.false in absurd (both_ways _ f m))
      | else-is_none-via-then-is_none+else-not-has w ↦ one_passed s k e d c.args.work.now (λ o m. sym w.has.ensures ∙ w.if-not-has.false)
      | else-is_none-via-else-is_none w ↦ one_passed s k e d c.args.work.now (λ o m. absurd (not_none c.look.result c.is_none.result c.is_none.ensures w.if-is_none.false (c.look.ensures ∙ o)))
    ]
