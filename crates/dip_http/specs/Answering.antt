-- What is answered to a request, and what the desk is after it.
use Rattle.std.specs.Prelude.{◌≡◌, ◌≢◌, ◌⊎◌, ◌<◌, ◌≤◌, ℕ, List, [], ◌++◌, Bool, false, Option, Some, None, codes, length, replicate, take}
use Rattle.httparse.specs.Grammar.{RequestHead}
use Rattle.sha2.specs.Sha256.{sha256}
use Rattle.dip_map.specs.Charts.{Chart}
use Rattle.dip_letters.specs.Letters.{spelling}
use Rattle.dip_letters.specs.declared.letters.LetterFault.TheVariants.{Malformed}
use Rattle.dip_desk_state.specs.Records.{Public, Reply}
use Rattle.dip_desk_state.specs.declared.records.Outcome.{Outcome}
use Rattle.dip_desk_state.specs.declared.records.Outcome.TheVariants.{Done, Unknown, OutOfTurn}
use Rattle.dip_desk_state.specs.Texts.{reply_text}
use Rattle.dip_desk_machine.specs.Machine.{Step, fault_reply}
use Rattle.dip_desk_machine.specs.Mail.{IsMail, Mail}
use Rattle.dip_desk_state.specs.State.{State, paper_at, public_at}
use Rattle.dip_http_messages.specs.Heads.{IsHead, HasNoHead}
use Rattle.dip_http_messages.specs.Numbers.{IsNumber}
use Rattle.dip_http_messages.specs.Texts.{state_text}
use Rattle.dip_http_messages.specs.Answers.{answer_bytes, plain, refusal}
use Rattle.dip_http_messages.specs.Verdicts.{Verdict, refuse, show_game, show_paper, take_letter, verdict_of, is_head}

-- the public part of a game; 404 where there is no such game
abbrev pub game_answer : Chart → Bool → Option Public → List ℕ
game_answer m quiet None = refusal 404 None quiet
game_answer m quiet (Some p) = answer_bytes 200 (codes "application/json") None quiet (state_text m p)

-- a paper; 404 where there is no such game or paper
abbrev pub paper_answer : Bool → Option (List ℕ) → List ℕ
paper_answer quiet None = refusal 404 None quiet
paper_answer quiet (Some text) = answer_bytes 200 plain None quiet text

-- the paper of a number, if there is a number
abbrev pub paper_named : List ℕ → Option ℕ → State → Option (List ℕ)
paper_named name None s = None
paper_named name (Some n) s = paper_at name n s

-- the status of a reply: 403 where nobody is known as the letter's author, 409 where its number is out of turn
abbrev pub status_of : Outcome → ℕ
status_of Done = 200
status_of Unknown = 403
status_of OutOfTurn = 409

-- the body is a letter of the grammar, with nothing but empty lines around it
pub record IsOneLetter (body : List ℕ) (n : Mail) : Type 0 where
  pub fits : IsMail n
  pub sum : n.sum ≡ sha256 (spelling n.note)
  pub before : ℕ
  pub after : ℕ
  pub is : body ≡ replicate before 10 ++ (spelling n.note ++ replicate after 10)

-- a letter is taken by a step of the desk, and the answer carries the reply
pub record Takes (m : Chart) (n : Mail) (old : State) (answer : List ℕ) (new : State) : Type 0 where
  pub reply : Reply
  pub step : Step m old n reply new
  pub carries : answer ≡ answer_bytes (status_of reply.outcome) plain None false (reply_text reply)

-- a body that isn't one letter is answered by nobody, and changes nothing
pub record IsNoLetter (body : List ℕ) (old : State) (answer : List ℕ) (new : State) : Type 0 where
  pub none : (n : Mail) → IsOneLetter body n → ⊥
  pub carries : answer ≡ answer_bytes 400 plain None false (reply_text (fault_reply Malformed))
  pub same : new ≡ old

-- what is answered to a body
abbrev pub Posts : Chart → List ℕ → State → List ℕ → State → Type 0
Posts m body old answer new = ((n : Mail) × IsOneLetter body n × Takes m n old answer new) ⊎ IsNoLetter body old answer new

-- what is answered to a request by its verdict, and what the desk is after it; quiet is HEAD, and the rest is all that follows the head
abbrev pub Carries : Chart → Verdict → Bool → List ℕ → State → List ℕ → State → Type 0
Carries m (refuse status allow) quiet rest old answer new = (answer ≡ refusal status allow quiet) × (new ≡ old)
Carries m (show_game name) quiet rest old answer new = (answer ≡ game_answer m quiet (public_at name old)) × (new ≡ old)
Carries m (show_paper name number) quiet rest old answer new =
    (n : Option ℕ) × IsNumber number n × (answer ≡ paper_answer quiet (paper_named name n old)) × (new ≡ old)
Carries m (take_letter size) quiet rest old answer new =
    ((size ≤ length rest) × Posts m (take size rest) old answer new)
    ⊎ ((length rest < size) × (answer ≡ refusal 400 None false) × (new ≡ old))

-- what is answered to all bytes of a connection: nothing to none, 400 to those that begin with no head, and to a head what its verdict
-- carries
pub data IsAnswer (m : Chart) : List ℕ → State → List ℕ → State → Type 0 where
  silent : (desk : State) → IsAnswer m [] desk [] desk
  headless : (input : List ℕ) (desk : State) → input ≢ [] → HasNoHead input → IsAnswer m input desk (refusal 400 None false) desk
  headed : (input : List ℕ) (old : State) (answer : List ℕ) (new : State) (head : RequestHead) (rest : List ℕ) → IsHead input head rest
      → Carries m (verdict_of head) (is_head head.method) rest old answer new → IsAnswer m input old answer new
