-- What a keeper in memory has in its lists.
use Rattle.std.specs.Prelude.{◌≡◌, ◌<◌, ◌==◌, ℕ, Bool, true, false, List, ◌++◌, Option, None, Some, String, map, string_bytes, bytes_eq, nat_le, if◌then◌else◌}
use Rattle.std.specs.List.{list_all}
use Rattle.std.specs.declared.alloc.Global.{Global}
use Rattle.dip_desk_state.specs.Bounds.{most_papers, most_sent}
use Rattle.dip_desk_state.specs.Keyed.{change_at}
use Rattle.dip_desk_state.specs.State as s
use Rattle.dip_desk_state.specs.Records.{Kept, Standing, Vote}
use Rattle.dip_desk_state.specs.Rows as rows
use Rattle.dip_desk_memory.specs.declared.games.GameRow.{GameRow}
use Rattle.dip_desk_memory.specs.declared.games.SeatRow.{SeatRow}
use Rattle.dip_desk_memory.specs.declared.recording.Given.{Given}
use Rattle.dip_desk_memory.specs.declared.recording.Given.TheVariants as row

-- a seat with its inbox
abbrev pub part : SeatRow → s.Part
part r = record { own = rows.own r.own; box = rows.items r.inbox.items }

abbrev pub parts : List SeatRow → List s.Part
parts rs = map part rs

-- the game of that name
abbrev pub game : List ℕ → GameRow → s.Game
game name g = record {
  public = record (rows.public g.public.value) { game = name };
  papers = rows.lines g.papers.items;
  seats = parts g.seats.items;
}

-- the games, by their names
abbrev pub games : List (String Global × GameRow) → List s.Game
games entries = map (λ e. game (string_bytes e.0) e.1) entries

-- the name in a game's public part
abbrev pub name_in : GameRow → List ℕ
name_in g = string_bytes g.public.value.game

-- each game's public part has the name that the game lies under
abbrev pub are_named : List (String Global × GameRow) → Bool
are_named entries = list_all (λ e. bytes_eq (name_in e.1) (string_bytes e.0)) entries

-- what an effect gives its author to keep: standing orders, a vote, or neither
pub data Gift : Type 0 where
  Neither : Gift
  Orders : (orders : List Standing) → Gift
  AVote : (vote : Vote) → Gift

abbrev pub given : Given → Gift
given row.Nothing = Neither
given (row.Pending orders) = Orders (rows.standings orders.items)
given (row.Vote vote) = AVote (rows.vote vote)

abbrev pub given_in : s.Effect → Gift
given_in s.Nothing = Neither
given_in (s.Pending orders) = Orders orders
given_in (s.Votes vote) = AVote vote
given_in (s.Delivers readers item) = Neither
given_in (s.Opens public paper seats) = Neither
given_in (s.Publishes public paper played) = Neither
given_in (s.Seats seat) = Neither

-- what press does to the seats of its game: this wants memory
abbrev pub delivered : s.Effect → List s.Part → List s.Part
delivered s.Nothing ps = ps
delivered (s.Pending orders) ps = ps
delivered (s.Votes vote) ps = ps
delivered (s.Delivers readers item) ps = map (s.with_effect (s.Delivers readers item)) ps
delivered (s.Opens public paper seats) ps = ps
delivered (s.Publishes public paper played) ps = ps
delivered (s.Seats seat) ps = ps

-- what the other effects do to each seat of their game
abbrev pub reached : s.Effect → s.Part → s.Part
reached s.Nothing p = p
reached (s.Pending orders) p = p
reached (s.Votes vote) p = p
reached (s.Delivers readers item) p = p
reached (s.Opens public paper seats) p = p
reached (s.Publishes public paper played) p = s.after_paper played p
reached (s.Seats seat) p = if seat.power == s.power_in p then s.with_digest seat.digest p else p

-- what an effect brings into a game: press or a paper
pub record Brings (e : s.Effect) (old new : GameRow) : Type 0 where
  pub public : (key : List ℕ) → (game key new).public ≡ s.public_after e (game key old).public
  pub papers : rows.lines new.papers.items ≡ s.papers_after e (rows.lines old.papers.items)
  pub seats : parts new.seats.items ≡ delivered e (parts old.seats.items)

abbrev pub is_press : s.Effect → Bool
is_press s.Nothing = false
is_press (s.Pending orders) = false
is_press (s.Votes vote) = false
is_press (s.Delivers readers item) = true
is_press (s.Opens public paper seats) = false
is_press (s.Publishes public paper played) = false
is_press (s.Seats seat) = false

-- whether the counts that an author's effect raises have room for it
abbrev pub finds_room : s.Author → s.Effect → List s.Part → Bool
finds_room who s.Nothing ps = true
finds_room who (s.Pending orders) ps = true
finds_room who (s.Votes vote) ps = true
finds_room who (s.Delivers readers item) ps = s.have_room who readers ps
finds_room who (s.Opens public paper seats) ps = true
finds_room who (s.Publishes public paper played) ps = nat_le public.papers most_papers
finds_room who (s.Seats seat) ps = true

-- whether the inboxes that an effect reaches have
abbrev pub inboxes_have_room : s.Effect → List s.Part → Bool
inboxes_have_room s.Nothing ps = true
inboxes_have_room (s.Pending orders) ps = true
inboxes_have_room (s.Votes vote) ps = true
inboxes_have_room (s.Delivers readers item) ps = list_all (λ p. s.may_get readers p.own) ps
inboxes_have_room (s.Opens public paper seats) ps = true
inboxes_have_room (s.Publishes public paper played) ps = true
inboxes_have_room (s.Seats seat) ps = true

-- the seat may have sent one more, where the effect is press
abbrev pub MaySend : s.Effect → s.Part → Type 0
MaySend e p = is_press e ≡ true → p.own.sent < most_sent

-- so may the author
abbrev pub AuthorMaySend : s.Author → s.Effect → s.Part → Type 0
AuthorMaySend who e p = s.is_seat who (s.power_in p) ≡ true → MaySend e p

-- the games after a change
abbrev pub games_after : s.Change → List s.Game → List s.Game
games_after c gs = change_at bytes_eq s.name_of c.game (s.game_after c) gs ++ s.new_games c.effect

-- what is kept of a letter of the master
abbrev pub last_of : s.Change → Option Kept
last_of c = by c.author c.kept
  where
    by : s.Author → Kept → Option Kept
    by s.Nobody k = None
    by s.TheMaster k = Some k
    by (s.Seat power) k = None

-- the master's row with the last letter, where there is one
abbrev pub desk_with : Option Kept → s.Desk → s.Desk
desk_with None d = d
desk_with (Some k) d = record d { kept = Some k }
