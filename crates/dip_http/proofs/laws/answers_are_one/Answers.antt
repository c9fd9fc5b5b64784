use Rattle.dip_http.proofs.OneAnswer.{answers_one}
use Rattle.dip_http.proofs.laws.answers_are_one.Goals as goal

pub returns : goal.returns
returns c = λ m. answers_one m (c.histories_are_one.ensures.once m)
