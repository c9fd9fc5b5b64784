-- What the desk keeps, its named parts, and what a change makes of it.
use Rattle.std.specs.Prelude.{◌≡◌, ℕ, zero, suc, ◌+◌, ◌-◌, ◌==◌, Bool, true, false, List, [], ◌∷◌, ◌++◌, Option, None, Some, option_map, option_and_then, map, nat_lt, take, drop, bytes_eq, if◌then◌else◌, ◌&&◌}
use Rattle.std.specs.List.{list_all, list_any}
use Rattle.dip_desk_state.specs.Bounds.{most_items, most_sent}
use Rattle.dip_desk_state.specs.Keyed.{at, change_at}
use Rattle.dip_desk_state.specs.Records.{Public, Own, Item, Kept, Standing, Vote, No, Whole}

-- the master's row
pub record Desk : Type 0 where
  pub digest : List ℕ
  pub kept : Option Kept

-- a seat: its own part, and its inbox
pub record Part : Type 0 where
  pub own : Own
  pub box : List Item

-- a game: its public part, the texts of its papers, and its seats
pub record Game : Type 0 where
  pub public : Public
  pub papers : List (List ℕ)
  pub seats : List Part

pub record State : Type 0 where
  pub desk : Desk
  pub games : List Game

abbrev pub name_of : Game → List ℕ
name_of g = g.public.game

abbrev pub power_in : Part → ℕ
power_in s = s.own.power

-- the game of a name
abbrev pub game_at : List ℕ → State → Option Game
game_at name s = at bytes_eq name_of name s.games

-- the seat of a power
abbrev pub seat_at : ℕ → List Part → Option Part
seat_at power seats = at (λ a b. a == b) power_in power seats

-- the own part of a seat, where there is one
abbrev pub own_of : Option Part → Option Own
own_of seat = option_map (λ s. s.own) seat

-- the seat of a power in the game of a name
abbrev pub part_at : List ℕ → ℕ → State → Option Part
part_at name power s = option_and_then (λ g. seat_at power g.seats) (game_at name s)

-- the named parts, as a keeper answers them
abbrev pub public_at : List ℕ → State → Option Public
public_at name s = option_map (λ g. g.public) (game_at name s)

abbrev pub own_at : List ℕ → ℕ → State → Option Own
own_at name power s = option_and_then (λ g. own_of (seat_at power g.seats)) (game_at name s)

abbrev pub digest_at : List ℕ → ℕ → State → Option (List ℕ)
digest_at name power s = option_map (λ o. o.digest) (own_at name power s)

-- an own part that votes for no draw and has no standing orders
pub record IsIdle (o : Own) : Type 0 where
  pub vote : o.vote ≡ No
  pub pending : o.pending ≡ []

-- the items of a box from a number on, at most so many; their numbers count from 1
abbrev pub page_of : ℕ → ℕ → List Item → List Item
page_of first most box = take most (drop (first - 1) box)

abbrev pub items_at : List ℕ → ℕ → ℕ → ℕ → State → Option (List Item)
items_at name power first most s = option_and_then (λ g. option_map (λ p. page_of first most p.box) (seat_at power g.seats)) (game_at name s)

-- a game with the own parts of its seats
abbrev pub whole_of : Game → Whole
whole_of g = record { public = g.public; seats = map (λ s. s.own) g.seats }

abbrev pub whole_at : List ℕ → State → Option Whole
whole_at name s = option_map whole_of (game_at name s)

-- the paper of a number, which count from 1
abbrev pub paper_numbered : ℕ → List (List ℕ) → Option (List ℕ)
paper_numbered n [] = None
paper_numbered zero (p ∷ ps) = None
paper_numbered (suc zero) (p ∷ ps) = Some p
paper_numbered (suc (suc n)) (p ∷ ps) = paper_numbered (suc n) ps

abbrev pub paper_at : List ℕ → ℕ → State → Option (List ℕ)
paper_at name n s = option_and_then (λ g. paper_numbered n g.papers) (game_at name s)

-- who wrote a letter
pub data Author : Type 0 where
  Nobody : Author
  TheMaster : Author
  Seat : (power : ℕ) → Author

abbrev pub is_seat : Author → ℕ → Bool
is_seat Nobody power = false
is_seat TheMaster power = false
is_seat (Seat p) power = p == power

-- whether a seat may send one letter of press more, where it is the author
abbrev pub may_send : Author → Own → Bool
may_send who o = if is_seat who o.power then nat_lt o.sent most_sent else true

-- whether its inbox may get one item more, where it is a reader
abbrev pub may_get : List ℕ → Own → Bool
may_get readers o = if list_any (λ p. p == o.power) readers then nat_lt o.items most_items else true

-- whether a seat's counts have room for a letter of press
abbrev pub has_room : Author → List ℕ → Own → Bool
has_room who readers o = may_send who o && may_get readers o

-- whether the counts of all seats have
abbrev pub have_room : Author → List ℕ → List Part → Bool
have_room who readers seats = list_all (λ s. has_room who readers s.own) seats

-- a power and its digest
pub record NewSeat : Type 0 where
  pub power : ℕ
  pub digest : List ℕ

-- what a letter does to its game
pub data Effect : Type 0 where
  Nothing : Effect
  -- the author's standing orders, by province
  Pending : (orders : List Standing) → Effect
  -- what the author votes for
  Votes : (vote : Vote) → Effect
  -- press for the inboxes of these powers
  Delivers : (readers : List ℕ) → (item : Item) → Effect
  -- a new game with its first paper
  Opens : (public : Public) → (paper : List ℕ) → (seats : List NewSeat) → Effect
  -- a paper, and the public part after it; where a phase was played no order stands any more
  Publishes : (public : Public) → (paper : List ℕ) → (played : Bool) → Effect
  -- another digest for a seat
  Seats : (seat : NewSeat) → Effect

-- what an accepted letter changes: what is kept of it, and its effect
pub record Change : Type 0 where
  pub game : List ℕ
  pub author : Author
  pub kept : Kept
  pub effect : Effect

-- a seat that nobody has used yet
abbrev pub fresh : NewSeat → Part
fresh s = record {
  own = record { power = s.power; digest = s.digest; vote = No; pending = []; kept = None; sent = 0; items = 0 };
  box = [];
}

-- what an effect does to its author's own part
abbrev pub own_effect : Effect → Own → Own
own_effect Nothing o = o
own_effect (Pending orders) o = record o { pending = orders }
own_effect (Votes vote) o = record o { vote = vote }
own_effect (Delivers readers item) o = record o { sent = o.sent + 1 }
own_effect (Opens public paper seats) o = o
own_effect (Publishes public paper played) o = o
own_effect (Seats seat) o = o

-- a seat with a letter of its own
abbrev pub with_letter : Kept → Effect → Part → Part
with_letter k e s = record s { own = own_effect e (record s.own { kept = Some k }) }

-- a seat with one item more
abbrev pub with_item : Item → Part → Part
with_item item s = record { own = record s.own { items = s.own.items + 1 }; box = s.box ++ item ∷ [] }

abbrev pub with_digest : List ℕ → Part → Part
with_digest by s = record s { own = record s.own { digest = by } }

-- a seat after a paper: where a phase was played, it has no standing orders
abbrev pub after_paper : Bool → Part → Part
after_paper played s = if played then record s { own = record s.own { pending = [] } } else s

-- what an effect does to each seat of its game
abbrev pub with_effect : Effect → Part → Part
with_effect Nothing s = s
with_effect (Pending orders) s = s
with_effect (Votes vote) s = s
with_effect (Delivers readers item) s = if list_any (λ p. p == power_in s) readers then with_item item s else s
with_effect (Opens public paper seats) s = s
with_effect (Publishes public paper played) s = after_paper played s
with_effect (Seats seat) s = if seat.power == power_in s then with_digest seat.digest s else s

-- the seats with a letter of one of them
abbrev pub with_author : Author → Kept → Effect → List Part → List Part
with_author Nobody k e seats = seats
with_author TheMaster k e seats = seats
with_author (Seat power) k e seats = change_at (λ a b. a == b) power_in power (with_letter k e) seats

-- the public part after an effect; a game keeps its name
abbrev pub public_after : Effect → Public → Public
public_after Nothing p = p
public_after (Pending orders) p = p
public_after (Votes vote) p = p
public_after (Delivers readers item) p = p
public_after (Opens public paper seats) p = p
public_after (Publishes public paper played) p = record public { game = p.game }
public_after (Seats seat) p = p

abbrev pub papers_after : Effect → List (List ℕ) → List (List ℕ)
papers_after Nothing ps = ps
papers_after (Pending orders) ps = ps
papers_after (Votes vote) ps = ps
papers_after (Delivers readers item) ps = ps
papers_after (Opens public paper seats) ps = ps
papers_after (Publishes public paper played) ps = ps ++ paper ∷ []
papers_after (Seats seat) ps = ps

-- the game after a letter: its author's seat has the letter, and then each seat what the effect does to it
abbrev pub game_after : Change → Game → Game
game_after c g = record {
  public = public_after c.effect g.public;
  papers = papers_after c.effect g.papers;
  seats = map (with_effect c.effect) (with_author c.author c.kept c.effect g.seats);
}

-- a new game
abbrev pub opening_game : Public → List ℕ → List NewSeat → Game
opening_game public paper seats = record { public = public; papers = paper ∷ []; seats = map fresh seats }

-- the game that an effect opens: it stands last
abbrev pub new_games : Effect → List Game
new_games Nothing = []
new_games (Pending orders) = []
new_games (Votes vote) = []
new_games (Delivers readers item) = []
new_games (Opens public paper seats) = opening_game public paper seats ∷ []
new_games (Publishes public paper played) = []
new_games (Seats seat) = []

-- the master's row, where the letter is the master's
abbrev pub desk_after : Author → Kept → Desk → Desk
desk_after Nobody k d = d
desk_after TheMaster k d = record d { kept = Some k }
desk_after (Seat power) k d = d

-- the state after a change
abbrev pub state_after : Change → State → State
state_after c s = record {
  desk = desk_after c.author c.kept s.desk;
  games = change_at bytes_eq name_of c.game (game_after c) s.games ++ new_games c.effect;
}
