use Rattle.dip_http.proofs.PublicAnswers.{public_answers}
use Rattle.dip_http.proofs.laws.gets_are_public.Goals as goal

pub returns : goal.returns
returns c = λ m. public_answers m
