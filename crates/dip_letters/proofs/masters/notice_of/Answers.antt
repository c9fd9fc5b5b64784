use Rattle.std.proofs.Common.{codes}
use Rattle.dip_letters.specs.Reading.{notice_at}
use Rattle.dip_letters.specs.Views.{notice_request}
use Rattle.dip_letters.specs.declared.letters.Notice.TheVariants.{Close, Pause, Resume}
use Rattle.dip_letters.proofs.ChoiceLemmas.{said_by_either, said_plainly}
use Rattle.dip_letters.proofs.masters.notice_of.Goals as goal

pub returns : goal.returns
unfolding notice_at
returns c =
    let pause = said_plainly notice_request (codes "PAUSE") Pause c.args.line.now c.args.body.now c.plain_of.result c.plain_of.ensures in
    let resume = said_plainly notice_request (codes "RESUME") Resume c.args.line.now c.args.body.now c.plain_of-2.result c.plain_of-2.ensures in
    let close = said_plainly notice_request (codes "CLOSE") Close c.args.line.now c.args.body.now c.plain_of-3.result c.plain_of-3.ensures in
    let two = said_by_either notice_request _ _ _ _ _ c.or.ensures pause resume in
    let three = said_by_either notice_request _ _ _ _ _ c.or-2.ensures two c.new_period_of.ensures in
    let four = said_by_either notice_request _ _ _ _ _ c.or-3.ensures three c.announce_of.ensures in
    said_by_either notice_request _ _ _ _ _ c.or-4.ensures four close
