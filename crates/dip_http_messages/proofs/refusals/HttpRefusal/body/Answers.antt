use Rattle.dip_http_messages.proofs.RefusalNumbers.{body_400, body_404, body_405, body_411, body_413, body_503}
use Rattle.dip_http_messages.proofs.refusals.HttpRefusal.body.Goals as goal

pub returns-in-BadRequest : goal.returns-in-BadRequest
returns-in-BadRequest c = rw c.in-BadRequest.is body_400

pub returns-in-NotFound : goal.returns-in-NotFound
returns-in-NotFound c = rw c.in-NotFound.is body_404

pub returns-in-OnlyPost : goal.returns-in-OnlyPost
returns-in-OnlyPost c = rw c.in-OnlyPost.is body_405

pub returns-in-OnlyGet : goal.returns-in-OnlyGet
returns-in-OnlyGet c = rw c.in-OnlyGet.is body_405

pub returns-in-LengthRequired : goal.returns-in-LengthRequired
returns-in-LengthRequired c = rw c.in-LengthRequired.is body_411

pub returns-in-TooLarge : goal.returns-in-TooLarge
returns-in-TooLarge c = rw c.in-TooLarge.is body_413

pub returns-in-Unavailable : goal.returns-in-Unavailable
returns-in-Unavailable c = rw c.in-Unavailable.is body_503
