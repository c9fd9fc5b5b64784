use Rattle.dip_http.proofs.Posts.{posts_settled}
use Rattle.dip_http.proofs.laws.posts_are_settled.Goals as goal

pub returns : goal.returns
returns c = λ m. posts_settled m (c.answered_from_what_is_seen.ensures m)
