-- What holds of each state that the desk comes to from an empty one.
use Rattle.std.specs.Prelude.{◌≡◌, ◌<◌, ◌≤◌, ◌==◌, ◌+◌, ℕ, List, [], ◌∷◌, length, true, Ok, Option, None, Some, bytes_eq, count_by, map, if◌then◌else◌}
use Rattle.std.specs.List.{AllByRecursion, list_all}
use Rattle.dip_map.specs.Boards.{Position}
use Rattle.dip_map.specs.Charts.{Chart, powers}
use Rattle.dip_orders.specs.Reading.{order_of}
use Rattle.dip_orders.specs.Texts.{order_text}
use Rattle.dip_orders_placed.specs.declared.placed.PlacedOrder.{PlacedOrder}
use Rattle.dip_desk_state.specs.Bounds.{most_items, most_sent}
use Rattle.dip_desk_state.specs.Records.{Kept, Standing, Reply}
use Rattle.dip_desk_state.specs.Fitting.{AreAscending}
use Rattle.dip_desk_state.specs.Keyed.{at}
use Rattle.dip_desk_machine.specs.Mail.{IsMail, Mail}
use Rattle.dip_desk_games.specs.Ordering.{kept_orders, prov_of}
use Rattle.dip_desk_machine.specs.Machine.{MayBeDamaged, Step}
use Rattle.dip_desk_state.specs.State.{Author, Game, Part, State, name_of, power_in}
use Rattle.dip_desk_state.specs.Writable.{IsPublicOf, IsVoteOf}

-- what is kept stands together: it is orders of the power on the board, one a province, by province, and each can be given beside
-- all of them
pub record AreStanding (m : Chart) (b : Position) (power : ℕ) (kept : List Standing) : Type 0 where
  pub orders : List PlacedOrder
  pub lines : kept ≡ kept_orders m orders
  pub ascending : AreAscending (map prov_of orders)
  pub each : AllByRecursion (λ o. order_of m b power orders (order_text m o) ≡ Ok o) orders

-- the number of an author's last letter, 0 before the first
abbrev pub last_number : Option Kept → ℕ
last_number None = 0
last_number (Some k) = k.number

-- a seat of a game with this board: it is of a power of the map; its vote names powers of the map; its orders stand together; its last
-- letter has a letter's number; it has sent no more press than a seat may, and its items are counted and no more than six others may send
pub record IsLawfulSeat (m : Chart) (b : Position) (s : Part) : Type 0 where
  pub power : power_in s < length m.realms
  pub vote : IsVoteOf m s.own.vote
  pub pending : AreStanding m b (power_in s) s.own.pending
  pub last : last_number s.own.kept ≤ 999999999
  pub sent : s.own.sent ≤ most_sent
  pub items : s.own.items ≡ length s.box
  pub box : length s.box ≤ most_items

-- how much press the seats of a game but one power's have sent
abbrev pub sent_by_others : ℕ → List Part → ℕ
sent_by_others power [] = 0
sent_by_others power (s ∷ ss) = (if power_in s == power then 0 else s.own.sent) + sent_by_others power ss

-- a game: its public part is one of the map, each power of the map has one seat, and there are at most seven, no box holds more than the
-- others have sent, and its papers are counted
pub record IsLawfulGame (m : Chart) (g : Game) : Type 0 where
  pub public : IsPublicOf m g.public
  pub powers : list_all (λ p. count_by (λ s. power_in s == p) g.seats == 1) (powers m) ≡ true
  pub few : length g.seats ≤ 7
  pub seats : AllByRecursion (IsLawfulSeat m g.public.board) g.seats
  pub boxes : AllByRecursion (λ s. length s.box ≤ sent_by_others (power_in s) g.seats) g.seats
  pub papers : g.public.papers ≡ length g.papers

-- no two games have one name
abbrev pub AreNamedApart : List Game → Type 0
AreNamedApart [] = Unit {0}
AreNamedApart (g ∷ gs) = (at bytes_eq name_of (name_of g) gs ≡ None) × AreNamedApart gs

-- lawful games with names apart; each paper of a game has a number of the master's of its own, and so there are no more than a letter
-- may have for its number
pub record IsLawful (m : Chart) (s : State) : Type 0 where
  pub games : AllByRecursion (IsLawfulGame m) s.games
  pub names : AreNamedApart s.games
  pub numbered : AllByRecursion (λ g. g.public.papers ≤ last_number s.desk.kept) s.games
  pub last : last_number s.desk.kept ≤ 999999999

-- a state without games, whose master has had no letter, is lawful
abbrev pub IsLawfulAtFirst : Chart → Type 0
IsLawfulAtFirst m = (digest : List ℕ) → IsLawful m (record { desk = record { digest = digest; kept = None }; games = [] })

-- each step of a letter leads from a lawful state to a lawful one
abbrev pub StaysLawful : Chart → Type 0
StaysLawful m = (old : State) (n : Mail) (r : Reply) (new : State) → IsMail n → IsLawful m old → Step m old n r new → IsLawful m new

-- in a lawful state no letter of the grammar finds anything Damaged
abbrev pub IsNeverDamaged : Chart → Type 0
IsNeverDamaged m = (s : State) (n : Mail) (who : Author) → IsMail n → IsLawful m s → MayBeDamaged m s n who → ⊥
