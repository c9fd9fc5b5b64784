use Rattle.dip_http.proofs.Posts.{turns}
use Rattle.dip_http.proofs.laws.connections_are_turns.Goals as goal

pub returns : goal.returns
returns c = λ m. turns m
