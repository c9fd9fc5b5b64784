-- The desk machine: who wrote a letter, what is decided of it, what it leaves and what is replied.
use Rattle.std.specs.Prelude.{true, false, ℕ, ◌≡◌, ◌≤◌, ◌⊎◌, ◌==◌, Bool, List, [], Option, None, Some, option_and_then, unwrap_or, bytes_eq, is_some, nat_lt, codes, if◌then◌else◌}
use Rattle.dip_letters.specs.Letters.{is_on}
use Rattle.dip_letters.specs.Notes.{PlayerRequest, Request}
use Rattle.dip_letters.specs.Notes.MasterRequest.{Create, Tick, Replace, Notify}
use Rattle.dip_letters.specs.Notes.PlayerRequest.{Orders, Withdraw, Press, Vote as VoteNote, VoteFor, Show, Inbox}
use Rattle.dip_letters.specs.Notes.Request.{Player, Master}
use Rattle.dip_letters.specs.declared.letters.LetterFault.{LetterFault}
use Rattle.dip_letters.specs.declared.letters.LetterFault.TheVariants.{Malformed as Unreadable, TooLong as OverLong}
use Rattle.dip_map.specs.Charts.{Chart, power_of}
use Rattle.dip_map.specs.Boards.{IsOf}
use Rattle.dip_desk_machine.specs.Mail.{Mail}
use Rattle.dip_desk_games.specs.Noting.{CanPublish}
use Rattle.dip_desk_games.specs.Ordering.{has_foreign, outcome_of_lines}
use Rattle.dip_desk_machine.specs.Pressing.{item_of, readers_of}
use Rattle.dip_desk_games.specs.Ticking.{IsPlayable, is_due, is_over}
use Rattle.dip_desk_machine.specs.Voting.{plain_vote, set_of}
use Rattle.dip_desk_state.specs.State.{State, Game, Author, Nobody, TheMaster, Seat, Change, Effect, Nothing, Delivers, Part, game_at, have_room, own_at, own_of, page_of, part_at, public_at, seat_at, state_after, whole_of}
use Rattle.dip_desk_state.specs.Writable.{IsPublicOf}
use Rattle.dip_reports.specs.Texts.{inbox_text, refusal_line, show_text, withdrawn_line}
use Rattle.dip_desk_state.specs.Records.{Public, Own, Item, Kept, Head, Reply, For, Whole}
use Rattle.dip_desk_state.specs.declared.records.Outcome.TheVariants.{Unknown as NoneKnown, OutOfTurn as Refused, Done}
use Rattle.dip_reports.specs.declared.refusals.Refusal.TheVariants.{Malformed, Unknown, Stale, NumberUsed, TooLong, GameOver, WrongSender}
pub use Rattle.dip_desk_games.specs.Decided.{Verdict, NotKnown, Again, OutOfTurn, Taken, refusal_verdict, unless}
pub use Rattle.dip_desk_machine.specs.MasterCommands.{digest, new_seat, with_more, new_seats, opening_public, open_game, creation, paper_verdict, IsPublished, draw_verdict, OnTime, Ticks, notified, notice_verdict, replaced, replacement}
pub use Rattle.dip_desk_machine.specs.PlayerCommands.{orders_effect, orders_verdict, press_to, addressed, vote_verdict}

-- the master, where the desk has the digest of the letter's secret
abbrev pub master_author : Mail → State → Author
master_author n s = if bytes_eq (digest (codes "desk") (codes "master") n.note.secret) s.desk.digest then TheMaster else Nobody

-- the seat, where it has the digest of the letter's secret
abbrev pub seat_author : Mail → ℕ → Option Own → Author
seat_author n power None = Nobody
seat_author n power (Some o) = if bytes_eq (digest n.note.game n.note.sender n.note.secret) o.digest then Seat power else Nobody

abbrev pub power_author : Mail → Option ℕ → State → Author
power_author n None s = Nobody
power_author n (Some power) s = seat_author n power (own_at n.note.game power s)

-- the time of TICK is one of the grammar
abbrev pub IsTimely : Request → Type 0
IsTimely (Player command) = Unit {0}
IsTimely (Master (Create due period grey intent seats)) = Unit {0}
IsTimely (Master (Tick tick)) = tick ≤ 999999999999
IsTimely (Master (Replace seat)) = Unit {0}
IsTimely (Master (Notify notice)) = Unit {0}

-- who wrote the letter
abbrev pub author : Chart → Mail → State → Author
author m n s = if bytes_eq n.note.sender (codes "master") then master_author n s else power_author n (power_of m n.note.sender) s

-- a letter with its author's last number: the same letter again gets the same reply
abbrev pub repeat_verdict : Mail → Kept → Verdict
repeat_verdict n k = if bytes_eq n.sum k.sum then Again k.reply else OutOfTurn (refusal_line (NumberUsed k.number))

-- what an old number comes to; None where the number is new
abbrev pub old_number : Mail → Option Kept → Option Verdict
old_number n None = None
old_number n (Some k) =
    if nat_lt n.note.number k.number then Some (OutOfTurn (refusal_line (Stale k.number)))
    else if n.note.number == k.number then Some (repeat_verdict n k)
    else None

-- an old number is answered as such; a new one may be decided so
abbrev pub NumberedBy : Option Verdict → (Verdict → Type 0) → Verdict → Type 0
NumberedBy (Some old) New v = v ≡ old
NumberedBy None New v = New v

-- a seat: its game and its power
pub record SeatName : Type 0 where
  pub game : List ℕ
  pub power : ℕ

-- what a seat sees: the public part of its game, and its own part with its inbox
pub record Seen : Type 0 where
  pub public : Option Public
  pub seat : Option Part

abbrev pub seen_in : ℕ → Option Game → Seen
seen_in power None = record { public = None; seat = None }
seen_in power (Some g) = record { public = Some g.public; seat = seat_at power g.seats }

abbrev pub seen_by : SeatName → State → Seen
seen_by seat s = seen_in seat.power (game_at seat.game s)

-- what a command of a power comes to, by what its seat sees alone; the page is of its inbox, where the command shows one
abbrev pub player_verdict : Chart → PlayerRequest → Public → Own → List Item → Verdict
player_verdict m (Orders lines) p o page =
    unless (is_over p.status) GameOver (orders_verdict m o (outcome_of_lines m p.board o.power o.pending lines))
player_verdict m Withdraw p o page = unless (is_over p.status) GameOver (Taken withdrawn_line (orders_effect o.pending []))
player_verdict m (Press grey names text) p o page =
    addressed (readers_of m o.power names) (press_to p o grey (item_of m o.power grey names text))
player_verdict m (VoteNote draw) p o page = vote_verdict m p (plain_vote draw)
player_verdict m (VoteFor names) p o page = addressed (set_of m names) (λ powers. vote_verdict m p (For powers))
player_verdict m Show p o page = Taken (show_text m p o) Nothing
player_verdict m (Inbox first) p o page = Taken (inbox_text o.items first page) Nothing

-- what a seat's command comes to: the master's commands aren't for it
abbrev pub seat_command : Chart → Request → Public → Own → List Item → Verdict
seat_command m (Player command) p o page = player_verdict m command p o page
seat_command m (Master command) p o page = refusal_verdict WrongSender

-- what a seat's letter comes to: an old number is answered as such; a new one is decided by its command
abbrev pub seat_verdict : Chart → Mail → Public → Own → List Item → Verdict
seat_verdict m n p o page = unwrap_or (old_number n o.kept) (seat_command m n.note.command p o page)

-- the items of a box that a command shows: INBOX at most ten, from a number on
abbrev pub page_shown : Request → List Item → List Item
page_shown (Player (Orders lines)) box = []
page_shown (Player Withdraw) box = []
page_shown (Player (Press grey names text)) box = []
page_shown (Player (VoteNote draw)) box = []
page_shown (Player (VoteFor names)) box = []
page_shown (Player Show) box = []
page_shown (Player (Inbox first)) box = page_of first 10 box
page_shown (Master command) box = []

-- without a game or a seat nobody is known
abbrev pub verdict_by : Chart → Mail → Option Public → Option Part → Verdict
verdict_by m n None seat = NotKnown
verdict_by m n (Some p) None = NotKnown
verdict_by m n (Some p) (Some s) = seat_verdict m n p s.own (page_shown n.note.command s.box)

-- what a seat's letter comes to, by what the seat sees alone
abbrev pub verdict_on : Chart → Mail → Seen → Verdict
verdict_on m n s = verdict_by m n s.public s.seat

-- the seat has a standing line that is no order on the board
abbrev pub IsForeignTo : Chart → Option Public → Option Own → Type 0
IsForeignTo m (Some p) (Some o) = has_foreign m p.board o.power o.pending ≡ true
IsForeignTo m (Some p) None = ⊥
IsForeignTo m None o = ⊥

abbrev pub IsForeign : Chart → Seen → Type 0
IsForeign m s = IsForeignTo m s.public (own_of s.seat)

-- the board of the game isn't one of the map
abbrev pub IsOffMap : Chart → Option Public → Type 0
IsOffMap m None = ⊥
IsOffMap m (Some p) = IsOf m p.board → ⊥

-- a game in which a command of the master can't be done: TICK where its phase can't be adjudicated, a notice where it can't publish, and
-- both where its public part isn't one of the map
abbrev pub IsSpoiled : Chart → Request → Game → Type 0
IsSpoiled m (Player command) g = ⊥
IsSpoiled m (Master (Create due period grey intent seats)) g = ⊥
IsSpoiled m (Master (Tick tick)) g = IsPlayable m (whole_of g) → IsPublicOf m g.public → ⊥
IsSpoiled m (Master (Replace seat)) g = ⊥
IsSpoiled m (Master (Notify notice)) g = CanPublish m g.public → IsPublicOf m g.public → ⊥

abbrev pub IsSpoiledIn : Chart → Request → Option Game → Type 0
IsSpoiledIn m command None = ⊥
IsSpoiledIn m command (Some g) = IsSpoiled m command g

-- press of a seat that is accepted, where a count has no room for it: what the seat has sent, or a reader's inbox
abbrev pub IsFull : Chart → Mail → ℕ → Option Game → Type 0
IsFull m n power None = ⊥
IsFull m n power (Some g) =
    (text : List ℕ) × (readers : List ℕ) × (item : Item)
    × (Taken text (Delivers readers item) ≡ verdict_on m n (seen_in power (Some g))) × (have_room (Seat power) readers g.seats ≡ false)

-- what the record of a letter's author may be Damaged by: a seat's by its own standing lines, by a board of its game that isn't one of
-- the map, or, for press, by a full count of its game; the master's, where its number is new, by the game that its command can't be done
-- in; nobody's by nothing
abbrev pub MayBeDamaged : Chart → State → Mail → Author → Type 0
MayBeDamaged m s n Nobody = ⊥
MayBeDamaged m s n TheMaster = (old_number n s.desk.kept ≡ None) × IsSpoiledIn m n.note.command (game_at n.note.game s)
MayBeDamaged m s n (Seat power) =
    IsForeign m (seen_in power (game_at n.note.game s))
    ⊎ (IsOffMap m (seen_in power (game_at n.note.game s)).public ⊎ IsFull m n power (game_at n.note.game s))

abbrev pub TicksIn : Chart → ℕ → Game → Verdict → Type 0
TicksIn m tick g v = Ticks m tick (whole_of g) (is_over g.public.status) (is_due tick g.public) v

-- whether the power of that name has a seat in the game
abbrev pub has_seat : Chart → List ℕ → Game → Bool
has_seat m name g = is_some (option_and_then (λ p. seat_at p g.seats) (power_of m name))

-- what a new letter of the master may come to in a game that is there: the powers' commands aren't for it
abbrev pub DecidesIn : Chart → Mail → Request → Game → Verdict → Type 0
DecidesIn m n (Player command) g v = v ≡ refusal_verdict WrongSender
DecidesIn m n (Master (Create due period grey intent seats)) g v =
    v ≡ creation m (opening_public m n.note.game due period grey (is_on intent)) (new_seats m n.note.game seats) (Some g)
DecidesIn m n (Master (Tick tick)) g v = TicksIn m tick g v
DecidesIn m n (Master (Replace seat)) g v = v ≡ replacement m n.note.game seat (has_seat m seat.power g)
DecidesIn m n (Master (Notify notice)) g v = v ≡ notice_verdict m notice g.public

-- where no game has the name, a letter of the master but CREATE is nobody's, whatever its number
abbrev pub DecidesNew : Chart → Mail → Option Kept → Request → Verdict → Type 0
DecidesNew m n k (Player command) v = v ≡ NotKnown
DecidesNew m n k (Master (Create due period grey intent seats)) v =
    NumberedBy (old_number n k)
    (λ v. v ≡ creation m (opening_public m n.note.game due period grey (is_on intent)) (new_seats m n.note.game seats) None) v
DecidesNew m n k (Master (Tick tick)) v = v ≡ NotKnown
DecidesNew m n k (Master (Replace seat)) v = v ≡ NotKnown
DecidesNew m n k (Master (Notify notice)) v = v ≡ NotKnown

-- what a letter of the master may come to, by what is kept of the last one
abbrev pub MasterDecides : Chart → Mail → Option Kept → Request → Option Game → Verdict → Type 0
MasterDecides m n k command None v = DecidesNew m n k command v
MasterDecides m n k command (Some g) v = NumberedBy (old_number n k) (DecidesIn m n command g) v

-- what may be decided of a letter
abbrev pub Decides : Chart → State → Mail → Author → Verdict → Type 0
Decides m s n Nobody v = v ≡ NotKnown
Decides m s n TheMaster v = MasterDecides m n s.desk.kept n.note.command (game_at n.note.game s) v
Decides m s n (Seat power) v = v ≡ verdict_on m n (seen_in power (game_at n.note.game s))

-- what the master sees of the game that its letter names: there is none; there is one; its public part; all of it; or whether it has a
-- seat
pub data Sees : Type 0 where
  NoGame : Sees
  AGame : Sees
  ThePublic : (public : Public) → Sees
  TheWhole : (whole : Whole) → Sees
  ASeat : (is_there : Bool) → Sees

-- all that a letter is decided by, what its author sees: nothing, where nobody is the author; what is kept of the master's last
-- letter, and what its command needs of its game; the public part of a seat's game and its own part, with a page of its inbox
-- where the command shows one
pub data Sight : Type 0 where
  OfNobody : Sight
  OfMaster : (kept : Option Kept) → (sees : Sees) → Sight
  OfSeat : (power : ℕ) → (public : Public) → (own : Own) → (page : List Item) → Sight

-- the seat's sight, where it has the digest of the letter's secret
abbrev pub seat_sight : Mail → ℕ → Option Public → Option Part → Sight
seat_sight n power None seat = OfNobody
seat_sight n power (Some p) None = OfNobody
seat_sight n power (Some p) (Some s) =
    if bytes_eq (digest n.note.game n.note.sender n.note.secret) s.own.digest
    then OfSeat power p s.own (page_shown n.note.command s.box) else OfNobody

abbrev pub power_sight : Mail → Option ℕ → State → Sight
power_sight n None s = OfNobody
power_sight n (Some power) s = seat_sight n power (public_at n.note.game s) (part_at n.note.game power s)

-- what a command of the master needs of a game: all of it for TICK alone
abbrev pub needs_of : Chart → Request → Game → Sees
needs_of m (Player command) g = AGame
needs_of m (Master (Create due period grey intent seats)) g = AGame
needs_of m (Master (Tick tick)) g = TheWhole (whole_of g)
needs_of m (Master (Replace seat)) g = ASeat (has_seat m seat.power g)
needs_of m (Master (Notify notice)) g = ThePublic g.public

abbrev pub master_sees : Chart → Request → Option Game → Sees
master_sees m command None = NoGame
master_sees m command (Some g) = needs_of m command g

-- the master's, where the desk has the digest of the letter's secret
abbrev pub master_sight : Chart → Mail → State → Sight
master_sight m n s =
    if bytes_eq (digest (codes "desk") (codes "master") n.note.secret) s.desk.digest
    then OfMaster s.desk.kept (master_sees m n.note.command (game_at n.note.game s)) else OfNobody

-- what the author of a letter sees
abbrev pub sight_of : Chart → Mail → State → Sight
sight_of m n s =
    if bytes_eq n.note.sender (codes "master") then master_sight m n s else power_sight n (power_of m n.note.sender) s

-- whose sight it is
abbrev pub author_of : Sight → Author
author_of OfNobody = Nobody
author_of (OfMaster kept sees) = TheMaster
author_of (OfSeat power public own page) = Seat power

-- what a letter of the master may come to by what its command sees alone: what it may come to in each game of which it sees that
abbrev pub MasterDecidesBy : Chart → Mail → Option Kept → Request → Sees → Verdict → Type 0
MasterDecidesBy m n k command sees v = (game : Option Game) → master_sees m command game ≡ sees → MasterDecides m n k command game v

-- what may be decided of a letter by a sight alone
abbrev pub DecidedBy : Chart → Mail → Sight → Verdict → Type 0
DecidedBy m n OfNobody v = v ≡ NotKnown
DecidedBy m n (OfMaster kept sees) v = MasterDecidesBy m n kept n.note.command sees v
DecidedBy m n (OfSeat power public own page) v = v ≡ seat_verdict m n public own page

-- of a game by which nothing can be decided: its phase can't be adjudicated, or it can't publish
abbrev pub IsDamagedGame : Chart → Sees → Type 0
IsDamagedGame m NoGame = ⊥
IsDamagedGame m AGame = ⊥
IsDamagedGame m (ThePublic public) = CanPublish m public → ⊥
IsDamagedGame m (TheWhole whole) = IsPlayable m whole → ⊥
IsDamagedGame m (ASeat is_there) = ⊥

-- a sight by which nothing can be decided: of such a game, where the letter's number is new, or of standing lines one of which is no
-- order on the board
abbrev pub IsDamagedSight : Chart → Mail → Sight → Type 0
IsDamagedSight m n OfNobody = ⊥
IsDamagedSight m n (OfMaster kept sees) = (old_number n kept ≡ None) × IsDamagedGame m sees
IsDamagedSight m n (OfSeat power public own page) = IsForeignTo m (Some public) (Some own)

-- what is kept of a letter
abbrev pub kept_of : Mail → List ℕ → Kept
kept_of n text = record { number = n.note.number; sum = n.sum; reply = text }

-- what a letter that is taken changes
abbrev pub change_of : Mail → Author → List ℕ → Effect → Change
change_of n who text effect = record { game = n.note.game; author = who; kept = kept_of n text; effect = effect }

-- the state after a letter
abbrev pub after : Mail → Author → Verdict → State → State
after n who NotKnown s = s
after n who (Again text) s = s
after n who (OutOfTurn text) s = s
after n who (Taken text effect) s = state_after (change_of n who text effect) s

abbrev pub head_of : Mail → Head
head_of n = record { game = n.note.game; sender = n.note.sender; number = n.note.number }

-- whoever isn't known gets one and the same reply
abbrev pub reply_of : Mail → Verdict → Reply
reply_of n NotKnown = record { outcome = NoneKnown; head = None; text = refusal_line Unknown }
reply_of n (Again text) = record { outcome = Done; head = Some (head_of n); text = text }
reply_of n (OutOfTurn text) = record { outcome = Refused; head = Some (head_of n); text = text }
reply_of n (Taken text effect) = record { outcome = Done; head = Some (head_of n); text = text }

-- one step: from old, the machine may give this reply to the letter and go on to new
abbrev pub Step : Chart → State → Mail → Reply → State → Type 0
Step m old n r new = (v : Verdict) × Decides m old n (author m n old) v × (r ≡ reply_of n v) × (new ≡ after n (author m n old) v old)

-- the reply to bytes that are no letter
abbrev pub fault_reply : LetterFault → Reply
fault_reply Unreadable = record { outcome = NoneKnown; head = None; text = refusal_line Malformed }
fault_reply OverLong = record { outcome = NoneKnown; head = None; text = refusal_line TooLong }

-- what the record of the author whom a letter has in a state may be Damaged by
abbrev pub IsDamagedBy : Chart → Mail → State → Type 0
IsDamagedBy m n s = MayBeDamaged m s n (author m n s)

-- a letter that is taken by a verdict of its author
abbrev pub Settles : Mail → Author → Verdict → State → Reply → State → Type 0
Settles n who v old r new = (r ≡ reply_of n v) × (new ≡ after n who v old)
