use Rattle.std.proofs.Common.{Err, Ok, refl}
use Rattle.dip_judge.proofs.stored.do_stored.Goals as goal

pub returns-in-Ok-default : goal.returns-in-Ok-default
returns-in-Ok-default g c = rw c.in-Init.is (((Ok tt, refl, rw c.in-Ok-default.is-0 at c.make_desk.ensures), (refl, refl)))

pub returns-in-Err-default : goal.returns-in-Err-default
returns-in-Err-default g c = rw c.in-Init.is (((Err _, refl, rw c.in-Err-default.is-0 at c.make_desk.ensures), (refl, refl)))

pub returns-in-Letters : goal.returns-in-Letters
returns-in-Letters g c = rw c.in-Letters.is c.answer_stored.ensures

pub returns-in-Serve : goal.returns-in-Serve
returns-in-Serve g c = rw c.in-Serve.is (c.serve_stored.ensures, (refl, refl))

pub returns-in-Report : goal.returns-in-Report
returns-in-Report g c = rw c.in-Report.is (c.report_stored.ensures, refl)
