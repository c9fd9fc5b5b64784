-- Laws of the answers over HTTP.
use Rattle.std.specs.Prelude.{◌≡◌, ◌≤◌, ℕ, List, [], ◌∷◌, None, false, true, length, take}
use Rattle.httparse.specs.Grammar.{RequestHead}
use Rattle.dip_map.specs.Charts.{Chart}
use Rattle.dip_desk_machine.specs.Machine.{SeatName, author, seen_by}
use Rattle.dip_desk_machine.specs.Mail.{Mail}
use Rattle.dip_desk_state.specs.State.{Seat, State, paper_at, public_at}
use Rattle.dip_desk_machine.specs.View.{IsRun, Turn, reply_in}
use Rattle.dip_desk_state.specs.Texts.{reply_text}
use Rattle.dip_http_messages.specs.Answers.{answer_bytes, plain}
use Rattle.dip_http_messages.specs.Heads.{IsHead}
use Rattle.dip_http_messages.specs.Verdicts.{is_get, take_letter, verdict_of}
use Rattle.dip_http.specs.Answering.{IsAnswer, IsOneLetter, status_of}

-- the bytes of a connection have one answer, and leave one content
abbrev pub HasOneAnswer : Chart → Type 0
HasOneAnswer m = (input : List ℕ) (old x y : State) (a b : List ℕ) → IsAnswer m input old a x → IsAnswer m input old b y → (a ≡ b) × (x ≡ y)

-- two contents tell everybody the same: of each game its public part, and each of its papers
pub record TellAlike (s t : State) : Type 0 where
  pub public : (name : List ℕ) → public_at name s ≡ public_at name t
  pub papers : (name : List ℕ) (n : ℕ) → paper_at name n s ≡ paper_at name n t

-- a request by GET or HEAD is answered from what everybody is told, and changes nothing
abbrev pub IsAnsweredFromPublic : Chart → Type 0
IsAnsweredFromPublic m = (input : List ℕ) (head : RequestHead) (rest : List ℕ) → IsHead input head rest → is_get head.method ≡ true
    → (s t x y : State) (a b : List ℕ) → TellAlike s t → IsAnswer m input s a x → IsAnswer m input t b y
    → (a ≡ b) × (x ≡ s) × (y ≡ t)

-- the bytes of a connection post this letter
pub record IsPost (input : List ℕ) (n : Mail) : Type 0 where
  pub head : RequestHead
  pub rest : List ℕ
  pub headed : IsHead input head rest
  pub size : ℕ
  pub asks : verdict_of head ≡ take_letter size
  pub whole : size ≤ length rest
  pub letter : IsOneLetter (take size rest) n

-- a posted letter of a seat gets one answer over all contents that the seat sees alike, and leaves them alike for it
abbrev pub IsPostSettled : Chart → Type 0
IsPostSettled m = (input : List ℕ) (n : Mail) (seat : SeatName) → IsPost input n → seat.game ≡ n.note.game
    → (s t x y : State) (a b : List ℕ) → author m n s ≡ Seat seat.power → author m n t ≡ Seat seat.power → seen_by seat s ≡ seen_by seat t
    → IsAnswer m input s a x → IsAnswer m input t b y → (a ≡ b) × (seen_by seat x ≡ seen_by seat y)

-- a turn of the letter that a connection posts: the answer carries the turn's reply, with the status of its kind
pub record IsPostedIn (input answer : List ℕ) (t : Turn) : Type 0 where
  pub post : IsPost input t.letter
  pub carries : answer ≡ answer_bytes (status_of (reply_in t).outcome) plain None false (reply_text (reply_in t))

-- the turns of a connection: that of the letter which it posts, and none where it posts no letter
abbrev pub AreTurnsOf : List ℕ → List ℕ → List Turn → Type 0
AreTurnsOf input answer [] = (n : Mail) → IsPost input n → ⊥
AreTurnsOf input answer (t ∷ []) = IsPostedIn input answer t
AreTurnsOf input answer (t ∷ u ∷ ts) = ⊥

-- a connection makes a history of its turns
abbrev pub AreTurns : Chart → Type 0
AreTurns m = (input : List ℕ) (old new : State) (answer : List ℕ) → IsAnswer m input old answer new
    → (turns : List Turn) × IsRun m old turns new × AreTurnsOf input answer turns
