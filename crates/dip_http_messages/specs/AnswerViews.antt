-- What the code's values say.
use Rattle.std.specs.Prelude.{ℕ, List, Option, Some, None, option_map, codes}
use Rattle.dip_http_messages.specs.Answers.{answer_bytes, head_bytes}
use Rattle.dip_http_messages.specs.Verdicts.{Verdict, refuse, show_game, show_paper, take_letter}
use Rattle.dip_http_messages.specs.declared.writing.Answer.{Answer}
use Rattle.dip_http_messages.specs.declared.refusals.HttpRefusal.{HttpRefusal}
use Rattle.dip_http_messages.specs.declared.refusals.HttpRefusal.TheVariants.{BadRequest, NotFound, OnlyPost, OnlyGet, LengthRequired, TooLarge, Unavailable}
use Rattle.dip_http_messages.specs.declared.plans.Plan.{Plan}
use Rattle.dip_http_messages.specs.declared.plans.Plan.TheVariants.{Refuse, Game, Paper, Letter}

-- what stands before the body of an answer
abbrev pub head_text : Answer → ℕ → List ℕ
head_text a size = head_bytes a.status a.kind.now (option_map (λ m. m.now) a.allow) size

-- the bytes of an answer with this body
abbrev pub answer_text : Answer → List ℕ → List ℕ
answer_text a body = answer_bytes a.status a.kind.now (option_map (λ m. m.now) a.allow) a.quiet body

abbrev pub status_number : HttpRefusal → ℕ
status_number BadRequest = 400
status_number NotFound = 404
status_number OnlyPost = 405
status_number OnlyGet = 405
status_number LengthRequired = 411
status_number TooLarge = 413
status_number Unavailable = 503

abbrev pub allowed : HttpRefusal → Option (List ℕ)
allowed OnlyPost = Some (codes "POST")
allowed OnlyGet = Some (codes "GET, HEAD")
allowed _ = None

abbrev pub plan_view : Plan → Verdict
plan_view (Refuse refusal) = refuse (status_number refusal) (allowed refusal)
plan_view (Game name) = show_game name.now
plan_view (Paper name number) = show_paper name.now number.now
plan_view (Letter size) = take_letter size
