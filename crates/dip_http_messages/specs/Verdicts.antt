-- What is to be done with a request; the nesting of the cases is the order in which refusals are looked for.
use Rattle.std.specs.Prelude.{◌||◌, ℕ, List, Bool, if◌then◌else◌, Option, Some, None, codes}
use Rattle.std.specs.Str.{bytes_eq}
use Rattle.httparse.specs.Grammar.{RequestHead}
use Rattle.dip_http_messages.specs.Heads.{Ask, ask_of}
use Rattle.dip_http_messages.specs.declared.size.Size.{Size}
use Rattle.dip_http_messages.specs.declared.size.Size.TheVariants.{Unsaid, Fits, TooLarge}
use Rattle.dip_http_messages.specs.Places.{Place, letters, game, paper, place_of}

-- refused by a status, perhaps with the methods that are allowed; a game or a paper to be shown; a letter of so many bytes to be taken
pub data Verdict : Type 0 where
  refuse : (status : ℕ) → (allow : Option (List ℕ)) → Verdict
  show_game : (name : List ℕ) → Verdict
  show_paper : (name number : List ℕ) → Verdict
  take_letter : (size : ℕ) → Verdict

abbrev pub is_head : List ℕ → Bool
is_head method = bytes_eq method (codes "HEAD")

abbrev pub is_get : List ℕ → Bool
is_get method = bytes_eq method (codes "GET") || is_head method

-- 411, then 413
abbrev pub letter_verdict : Size → Verdict
letter_verdict Unsaid = refuse 411 None
letter_verdict (Fits n) = take_letter n
letter_verdict TooLarge = refuse 413 None

abbrev pub only_get : List ℕ → Verdict → Verdict
only_get method v = if is_get method then v else refuse 405 (Some (codes "GET, HEAD"))

-- 404 of the route, then 405
abbrev pub place_verdict : List ℕ → Size → Option Place → Verdict
place_verdict method size None = refuse 404 None
place_verdict method size (Some letters) = if bytes_eq method (codes "POST") then letter_verdict size else refuse 405 (Some (codes "POST"))
place_verdict method size (Some (game name)) = only_get method (show_game name)
place_verdict method size (Some (paper name number)) = only_get method (show_paper name number)

-- 400 of the head's target and fields, before all of these
abbrev pub ask_verdict : List ℕ → Option Ask → Verdict
ask_verdict method None = refuse 400 None
ask_verdict method (Some ask) = place_verdict method ask.1 (place_of ask.0)

-- what is to be done with a request of this head
abbrev pub verdict_of : RequestHead → Verdict
verdict_of head = ask_verdict head.method (ask_of head)
