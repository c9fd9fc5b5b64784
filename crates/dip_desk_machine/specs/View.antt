-- What one seat is shown by a history, and what follows from it alone.
use Rattle.std.specs.Prelude.{ℕ, ◌≡◌, ◌==◌, ◌&&◌, Bool, true, false, List, [], ◌∷◌, ◌++◌, Option, None, Some, option_map, bytes_eq, flat_map, map, if◌then◌else◌}
use Rattle.std.specs.List.{list_any}
use Rattle.dip_desk_machine.specs.Mail.{Mail}
use Rattle.dip_map.specs.Charts.{Chart}
use Rattle.dip_desk_state.specs.State.{State, Game, Author, Seat, Effect, Nothing, Pending, Votes, Delivers, Opens, Publishes, Seats, NewSeat, Part, after_paper, fresh, game_at, is_seat, seat_at, with_digest, with_item, with_letter}
use Rattle.dip_desk_machine.specs.Machine.{Decides, SeatName, Seen, Verdict, NotKnown, Again, OutOfTurn, Taken, after, author, kept_of, reply_of, seen_by, verdict_on}
use Rattle.dip_desk_state.specs.Records.{Item, Public, Reply}

-- one step of a history: the state before it, the letter, and what was decided. What it leaves follows
pub record Turn : Type 0 where
  pub before : State
  pub letter : Mail
  pub verdict : Verdict

abbrev pub author_in : Chart → Turn → Author
author_in m t = author m t.letter t.before

abbrev pub left_by : Chart → Turn → State
left_by m t = after t.letter (author_in m t) t.verdict t.before

abbrev pub reply_in : Turn → Reply
reply_in t = reply_of t.letter t.verdict

-- a history: each step begins where the last ended, and may be decided so
abbrev pub IsRun : Chart → State → List Turn → State → Type 0
IsRun m old [] new = new ≡ old
IsRun m old (t ∷ ts) new = (t.before ≡ old) × Decides m t.before t.letter (author_in m t) t.verdict × IsRun m (left_by m t) ts new

-- what a seat is shown: a letter of its own; press that came to it; a paper, the public part that stands after it and whether a phase
-- was played; or its digest
pub data Event : Type 0 where
  OwnLetter : (letter : Mail) → Event
  Heard : (item : Item) → Event
  Published : (public : Public) → (paper : List ℕ) → (played : Bool) → Event
  Seated : (digest : List ℕ) → Event

-- whether the seat is the letter's author
abbrev pub writes : SeatName → Mail → Author → Bool
writes seat n who = bytes_eq n.note.game seat.game && is_seat who seat.power

abbrev pub own_events : Bool → Mail → List Event
own_events mine n = if mine then OwnLetter n ∷ [] else []

-- the digest that CREATE gives the power
abbrev pub seat_events : ℕ → List NewSeat → List Event
seat_events power [] = []
seat_events power (s ∷ ss) = if s.power == power then Seated s.digest ∷ [] else seat_events power ss

-- what an effect shows each seat of its game
abbrev pub effect_events : ℕ → Effect → List Event
effect_events power Nothing = []
effect_events power (Pending orders) = []
effect_events power (Votes vote) = []
effect_events power (Delivers readers item) = if list_any (λ p. p == power) readers then Heard item ∷ [] else []
effect_events power (Opens public paper seats) = Published public paper false ∷ seat_events power seats
effect_events power (Publishes public paper played) = Published public paper played ∷ []
effect_events power (Seats seat) = if seat.power == power then Seated seat.digest ∷ [] else []

abbrev pub verdict_events : ℕ → Verdict → List Event
verdict_events power NotKnown = []
verdict_events power (Again text) = []
verdict_events power (OutOfTurn text) = []
verdict_events power (Taken text effect) = effect_events power effect

-- what a letter shows a seat: its own letter, and what an effect in its game shows it
abbrev pub events_for : SeatName → Mail → Author → Verdict → List Event
events_for seat n who v = own_events (writes seat n who) n ++ (if bytes_eq n.note.game seat.game then verdict_events seat.power v else [])

abbrev pub events_in : Chart → SeatName → Turn → List Event
events_in m seat t = events_for seat t.letter (author_in m t) t.verdict

-- the view of a seat: all that a history shows it, in order
abbrev pub view : Chart → SeatName → List Turn → List Event
view m seat ts = flat_map (events_in m seat) ts

abbrev pub own_replies : Bool → Turn → List Reply
own_replies mine t = if mine then reply_in t ∷ [] else []

-- the replies to the seat's own letters, in order
abbrev pub replies_to : Chart → SeatName → List Turn → List Reply
replies_to m seat [] = []
replies_to m seat (t ∷ ts) = own_replies (writes seat t.letter (author_in m t)) t ++ replies_to m seat ts

-- what a seat's own letter does to its part
abbrev pub part_by : Mail → Verdict → Part → Part
part_by n NotKnown s = s
part_by n (Again text) s = s
part_by n (OutOfTurn text) s = s
part_by n (Taken text effect) s = with_letter (kept_of n text) effect s

abbrev pub seat_with_digest : ℕ → List ℕ → Option Part → Option Part
seat_with_digest power by None = Some (fresh (record { power = power; digest = by }))
seat_with_digest power by (Some s) = Some (with_digest by s)

-- what a seat sees after one more event
abbrev pub absorb : Chart → ℕ → Seen → Event → Seen
absorb m power s (OwnLetter n) = record { public = s.public; seat = option_map (part_by n (verdict_on m n s)) s.seat }
absorb m power s (Heard item) = record { public = s.public; seat = option_map (with_item item) s.seat }
absorb m power s (Published public paper played) = record { public = Some public; seat = option_map (after_paper played) s.seat }
absorb m power s (Seated by) = record { public = s.public; seat = seat_with_digest power by s.seat }

abbrev pub absorb_all : Chart → ℕ → Seen → List Event → Seen
absorb_all m power s [] = s
absorb_all m power s (e ∷ es) = absorb_all m power (absorb m power s e) es

-- what a seat is told by one more event
abbrev pub replies_at : Chart → Seen → Event → List Reply
replies_at m s (OwnLetter n) = reply_of n (verdict_on m n s) ∷ []
replies_at m s (Heard item) = []
replies_at m s (Published public paper played) = []
replies_at m s (Seated by) = []

abbrev pub replies_to_events : Chart → ℕ → Seen → List Event → List Reply
replies_to_events m power s [] = []
replies_to_events m power s (e ∷ es) = replies_at m s e ++ replies_to_events m power (absorb m power s e) es

-- the turns are a history of these letters, with these replies
pub record IsHistory (m : Chart) (old : State) (letters : List Mail) (replies : List Reply) (new : State) (turns : List Turn) : Type 0 where
  pub run : IsRun m old turns new
  pub asked : map (λ t. t.letter) turns ≡ letters
  pub answered : map (λ t. reply_in t) turns ≡ replies

-- where an effect may come: opening a game needs a free name, which the game bears; all others need the game, which keeps its name, and
-- a new digest its seat
abbrev pub Suits : List ℕ → Option Game → Effect → Type 0
Suits name None Nothing = Unit {0}
Suits name None (Pending orders) = ⊥
Suits name None (Votes vote) = ⊥
Suits name None (Delivers readers item) = ⊥
Suits name None (Opens public paper seats) = public.game ≡ name
Suits name None (Publishes public paper played) = ⊥
Suits name None (Seats seat) = ⊥
Suits name (Some g) Nothing = Unit {0}
Suits name (Some g) (Pending orders) = Unit {0}
Suits name (Some g) (Votes vote) = Unit {0}
Suits name (Some g) (Delivers readers item) = Unit {0}
Suits name (Some g) (Opens public paper seats) = ⊥
Suits name (Some g) (Publishes public paper played) = public.game ≡ g.public.game
Suits name (Some g) (Seats seat) = (s : Part) × (seat_at seat.power g.seats ≡ Some s)

-- what each seat sees after an effect is what its events say, where the effect may come: the author knows of its own letter, and
-- nobody sees more
abbrev pub AreEffectsShown : Chart → Type 0
AreEffectsShown m = (seat : SeatName) (s : State) (n : Mail) (who : Author) (text : List ℕ) (e : Effect) → Suits n.note.game (game_at n.note.game s) e
    → (writes seat n who ≡ true → verdict_on m n (seen_by seat s) ≡ Taken text e)
    → seen_by seat (after n who (Taken text e) s) ≡ absorb_all m seat.power (seen_by seat s) (events_for seat n who (Taken text e))

-- whatever other history begins with the same for a seat and shows it the same, tells it the same and leaves it the same
abbrev pub IsSettledByView : Chart → State → List Turn → State → Type 0
IsSettledByView m old turns new = (seat : SeatName) (first last : State) (others : List Turn) → IsRun m first others last
    → seen_by seat first ≡ seen_by seat old → view m seat others ≡ view m seat turns
    → (replies_to m seat others ≡ replies_to m seat turns) × (seen_by seat last ≡ seen_by seat new)

-- a letter of a seat gets one reply in all states that the seat sees alike, and leaves them alike
abbrev pub IsAnsweredFromSeen : Chart → Type 0
IsAnsweredFromSeen m = (a b : State) (n : Mail) (power : ℕ) (v w : Verdict) → Decides m a n (Seat power) v → Decides m b n (Seat power) w
    → seen_by (record { game = n.note.game; power = power }) a ≡ seen_by (record { game = n.note.game; power = power }) b
    → (reply_of n v ≡ reply_of n w)
    × (seen_by (record { game = n.note.game; power = power }) (after n (Seat power) v a) ≡ seen_by (record { game = n.note.game; power = power }) (after n (Seat power) w b))

-- a letter is decided in one way: a tick too, whoever adjudicates
abbrev pub IsDecidedOnce : Chart → Type 0
IsDecidedOnce m = (s : State) (n : Mail) (who : Author) (v w : Verdict) → Decides m s n who v → Decides m s n who w → v ≡ w

-- so letters have one history from a state on: all their replies, all papers and what is left are the same
abbrev pub HistoriesAreOne : Chart → Type 0
HistoriesAreOne m = (old new last : State) (ts us : List Turn) → IsRun m old ts new → IsRun m old us last
    → map (λ t. t.letter) ts ≡ map (λ u. u.letter) us → (ts ≡ us) × (new ≡ last)
