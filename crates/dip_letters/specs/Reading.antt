-- How a text is read as a letter, on lists of bytes. The grammar is in `Letters`.
use Rattle.std.specs.Prelude.{◌&&◌, ◌||◌, not, ℕ, zero, suc, Bool, true, false, List, [], ◌∷◌, ◌++◌, Option, Some, None, codes, option_map, if◌then◌else◌}
use Rattle.std.specs.Option.{option_or}
use Rattle.std.specs.Str.{bytes_eq}
use Rattle.std.specs.Str.Parse.{digits_value}
pub use Rattle.dip_letters_words.specs.Lines.{after_name}
use Rattle.dip_letters_words.specs.Lines.{line_at, split_lines, split_words, word_at}
use Rattle.dip_letters_words.specs.Words.{is_due, is_empty, is_game, is_name, is_number, is_order_line, is_secret, is_small_number, is_text}
use Rattle.dip_letters.specs.Notes.{MasterRequest, Note, NoticeRequest, PlayerRequest, Request, SeatNote}
use Rattle.dip_letters.specs.Notes.MasterRequest.{Create, Notify, Replace, Tick}
use Rattle.dip_letters.specs.Notes.NoticeRequest.{Announce, Close, Pause, Period, Resume}
use Rattle.dip_letters.specs.Notes.PlayerRequest.{Inbox, Orders, Press, Show, Vote, VoteFor, Withdraw}
use Rattle.dip_letters.specs.Notes.Request.{Master, Player}
use Rattle.dip_names.specs.Options.{◌>>=◌}

-- the value after a name in the first line, and what follows that line
abbrev pub field_at : List ℕ → (List ℕ → Bool) → List ℕ → Option (List ℕ × List ℕ)
field_at name test text = do
  l ← line_at text
  v ← after_name name l.0
  if test v then Some (v, l.1) else None

unfoldable pub game_at : List ℕ → Option (List ℕ × List ℕ)
game_at text = field_at (codes "GAME ") is_game text

unfoldable pub sender_at : List ℕ → Option (List ℕ × List ℕ)
sender_at text = field_at (codes "FROM ") is_name text

unfoldable pub secret_at : List ℕ → Option (List ℕ × List ℕ)
secret_at text = field_at (codes "SECRET ") is_secret text

unfoldable pub number_at : List ℕ → Option (ℕ × List ℕ)
number_at text = do
  n ← field_at (codes "NUMBER ") is_number text
  Some (digits_value 10 n.0, n.1)

-- the lines before the command, and what follows them
pub record Head : Type 0 where
  pub game : List ℕ
  pub sender : List ℕ
  pub secret : List ℕ
  pub number : ℕ

unfoldable pub head_at : List ℕ → Option (Head × List ℕ)
head_at text = do
  rest ← after_name (codes "LETTER" ++ 10 ∷ []) text
  game ← game_at rest
  sender ← sender_at game.1
  secret ← secret_at sender.1
  number ← number_at secret.1
  Some (record { game = game.0; sender = sender.0; secret = secret.0; number = number.0 }, number.1)

abbrev pub line_fits : (List ℕ → Bool) → (List ℕ → Bool) → Option (List ℕ × List ℕ) → Bool
line_fits test next None = false
line_fits test next (Some l) = test l.0 && next l.1

-- at most so many lines, each passing the test, and nothing else
unfoldable pub lines_fit : (List ℕ → Bool) → ℕ → List ℕ → Bool
lines_fit test zero text = is_empty text
lines_fit test (suc n) text = is_empty text || line_fits test (lines_fit test n) (line_at text)

abbrev pub is_some : {A : Type 0} → Option A → Bool
is_some None = false
is_some (Some x) = true

abbrev pub with_item : {A : Type 0} → Option A → List A → List A
with_item None items = []
with_item (Some x) items = x ∷ items

-- the items of the lines before the first that is none
abbrev pub items_from : {A : Type 0} → (List ℕ → Option A) → List (List ℕ) → List A
items_from item [] = []
items_from item (l ∷ ls) = with_item (item l) (items_from item ls)

-- whether the body is 1 to so many lines that pass the test
abbrev pub is_body : (List ℕ → Bool) → ℕ → List ℕ → Bool
is_body test most body = not (is_empty body) && lines_fit test most body

-- the items of a body, one a line
abbrev pub items_at : {A : Type 0} → (List ℕ → Option A) → ℕ → List ℕ → Option (List A)
items_at item most body = if is_body (λ l. is_some (item l)) most body then Some (items_from item (split_lines body)) else None

-- the order lines of a body
unfoldable pub order_lines_at : List ℕ → Option (List (List ℕ))
order_lines_at body = if is_body is_order_line 64 body then Some (split_lines body) else None

-- a power and a secret
unfoldable pub seat_words_at : List ℕ → Option SeatNote
seat_words_at words = do
  w ← word_at words
  if is_name w.0 && is_secret w.1 then Some (record { power = w.0; secret = w.1 }) else None

-- the seat of a line
unfoldable pub seat_at : List ℕ → Option SeatNote
seat_at line = do
  words ← after_name (codes "SEAT ") line
  seat_words_at words

-- the seats of a body
unfoldable pub seats_at : List ℕ → Option (List SeatNote)
seats_at body = items_at seat_at 7 body

-- what a line of a text says after its mark
unfoldable pub text_at : List ℕ → Option (List ℕ)
text_at line = do
  text ← after_name (codes "> ") line
  if is_text text then Some text else None

-- the text of a body
unfoldable pub texts_at : List ℕ → Option (List (List ℕ))
texts_at body = items_at text_at 80 body

abbrev pub word_fits : (List ℕ → Bool) → (List ℕ → Bool) → List ℕ → Option (List ℕ × List ℕ) → Bool
word_fits test next text None = test text
word_fits test next text (Some w) = test w.0 && next w.1

-- a word and at most so many others, a space before each of these, all passing the test
unfoldable pub words_fit : (List ℕ → Bool) → ℕ → List ℕ → Bool
words_fit test zero text = test text
words_fit test (suc n) text = word_fits test (words_fit test n) text (word_at text)

-- 1 to 7 names
unfoldable pub names_at : List ℕ → Option (List (List ℕ))
names_at text = if words_fit is_name 6 text then Some (split_words text) else None

-- whether a word is YES, where it is YES or NO
abbrev pub answer_at : List ℕ → Option Bool
answer_at text = if bytes_eq text (codes "YES") then Some true else (if bytes_eq text (codes "NO") then Some false else None)

-- a number and what follows its space
unfoldable pub due_at : List ℕ → Option (ℕ × List ℕ)
due_at text = do
  w ← word_at text
  if is_due w.0 then Some (digits_value 10 w.0, w.1) else None

unfoldable pub period_at : List ℕ → Option (ℕ × List ℕ)
period_at text = do
  w ← word_at text
  if is_small_number w.0 then Some (digits_value 10 w.0, w.1) else None

-- ---- commands, each by its line and the body after it

-- a command that is its name alone, without a body
abbrev pub plain_at : {A : Type 0} → List ℕ → A → List ℕ → List ℕ → Option A
plain_at name command line body = if bytes_eq line name && is_empty body then Some command else None

unfoldable pub orders_at : List ℕ → List ℕ → Option PlayerRequest
orders_at line body = if bytes_eq line (codes "ORDERS") then option_map Orders (order_lines_at body) else None

-- press of a colour, whose command begins with this name
unfoldable pub press_at : Bool → List ℕ → List ℕ → List ℕ → Option PlayerRequest
press_at grey name line body = do
  words ← after_name name line
  addressees ← names_at words
  text ← texts_at body
  Some (Press grey addressees text)

unfoldable pub vote_at : List ℕ → List ℕ → Option PlayerRequest
vote_at line body = do
  word ← after_name (codes "VOTE ") line
  draw ← answer_at word
  if is_empty body then Some (Vote draw) else None

unfoldable pub vote_for_at : List ℕ → List ℕ → Option PlayerRequest
vote_for_at line body = do
  words ← after_name (codes "VOTE FOR ") line
  powers ← names_at words
  if is_empty body then Some (VoteFor powers) else None

unfoldable pub inbox_at : List ℕ → List ℕ → Option PlayerRequest
inbox_at line body = do
  word ← after_name (codes "INBOX ") line
  if is_small_number word && is_empty body then Some (Inbox (digits_value 10 word)) else None

-- the first of two that is there
infixl 10 ◌<|>◌
abbrev pub ◌<|>◌ : {A : Type 0} → Option A → Option A → Option A
first <|> second = option_or first second

-- a power's command
unfoldable pub player_at : List ℕ → List ℕ → Option PlayerRequest
player_at line body =
    orders_at line body <|> plain_at (codes "WITHDRAW") Withdraw line body <|> press_at false (codes "PRESS WHITE TO ") line body
    <|> press_at true (codes "PRESS GREY TO ") line body <|> vote_at line body <|> vote_for_at line body <|> plain_at (codes "SHOW") Show line body <|> inbox_at line body

unfoldable pub new_period_at : List ℕ → List ℕ → Option NoticeRequest
new_period_at line body = do
  word ← after_name (codes "PERIOD ") line
  if is_small_number word && is_empty body then Some (Period (digits_value 10 word)) else None

unfoldable pub announce_at : List ℕ → List ℕ → Option NoticeRequest
announce_at line body = if bytes_eq line (codes "ANNOUNCE") then option_map Announce (texts_at body) else None

unfoldable pub notice_at : List ℕ → List ℕ → Option NoticeRequest
notice_at line body =
    plain_at (codes "PAUSE") Pause line body <|> plain_at (codes "RESUME") Resume line body <|> new_period_at line body <|> announce_at line body
    <|> plain_at (codes "CLOSE") Close line body

-- an answer at the front of a text, and what follows it
unfoldable pub first_answer_at : List ℕ → Option (Bool × List ℕ)
first_answer_at text =
    option_map (λ rest. (true, rest)) (after_name (codes "YES") text) <|> option_map (λ rest. (false, rest)) (after_name (codes "NO") text)

-- an answer after the name INTENT
unfoldable pub intent_word_at : List ℕ → Option (Option Bool)
intent_word_at text = do
  word ← after_name (codes " INTENT ") text
  option_map Some (answer_at word)

-- what a line says of INTENT: an answer after its name, or nothing
unfoldable pub intent_at : List ℕ → Option (Option Bool)
intent_at text = if is_empty text then Some None else intent_word_at text

-- CREATE: when the game begins, its period, whether it has grey press, what it says of INTENT, and its seats
unfoldable pub opening_at : List ℕ → List ℕ → Option MasterRequest
opening_at line body = do
  fields ← after_name (codes "CREATE DUE ") line
  due ← due_at fields
  more ← after_name (codes "PERIOD ") due.1
  period ← period_at more
  last ← after_name (codes "GREY ") period.1
  grey ← first_answer_at last
  intent ← intent_at grey.1
  seats ← seats_at body
  Some (Create due.0 period.0 grey.0 intent seats)

unfoldable pub tick_at : List ℕ → List ℕ → Option MasterRequest
tick_at line body = do
  word ← after_name (codes "TICK ") line
  if is_due word && is_empty body then Some (Tick (digits_value 10 word)) else None

unfoldable pub replace_at : List ℕ → List ℕ → Option MasterRequest
replace_at line body = do
  words ← after_name (codes "REPLACE ") line
  seat ← seat_words_at words
  if is_empty body then Some (Replace seat) else None

-- the master's command
unfoldable pub master_at : List ℕ → List ℕ → Option MasterRequest
master_at line body = opening_at line body <|> tick_at line body <|> replace_at line body <|> option_map Notify (notice_at line body)

unfoldable pub command_at : List ℕ → Option Request
command_at text = do
  l ← line_at text
  option_map Player (player_at l.0 l.1) <|> option_map Master (master_at l.0 l.1)

-- the note of a letter, without its last line
unfoldable pub note_at : List ℕ → Option Note
note_at text = do
  head ← head_at text
  command ← command_at head.1
  Some (record { game = head.0.game; sender = head.0.sender; secret = head.0.secret; number = head.0.number; command = command })
