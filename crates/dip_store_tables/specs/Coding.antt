-- What holds of tables that a keeper wrote by a map, and of changes that it can write.
use Rattle.std.specs.Prelude.{◌≡◌, ◌<◌, ◌==◌, ℕ, Bool, true, false, [], ◌∷◌, length, bytes_eq, List}
use Rattle.std.specs.List.{AllByRecursion, list_any}
use Rattle.dip_map.specs.Charts.{Chart}
use Rattle.dip_map.specs.Boards.{IsOf}
use Rattle.dip_store_tables.specs.Boards.{power_name}
use Rattle.dip_desk_state.specs.State.{Effect, Nothing, Pending, Votes, Delivers, Opens, Publishes, Seats, Change}
use Rattle.dip_store_rows.specs.Tables.{BallotRow, DeskRow, GameRow, SeatRow, Tables, is_ballot, is_named, is_seat}
use Rattle.dip_desk_state.specs.Writable.{Lacks, IsPlainItem, IsStatusOf, IsVoteOf, IsAuthorOf}
pub use Rattle.dip_store_rows.specs.Apart.{AreApart, same_name, same_seat}

-- the seat's power is one of the map
abbrev pub IsSeatOf : Chart → SeatRow → Type 0
IsSeatOf m s = (p : ℕ) × (p < length m.realms) × (s.power ≡ power_name m p)

-- the game of that name is there
abbrev pub HasGame : List GameRow → List ℕ → Type 0
HasGame games name = list_any (is_named name) games ≡ true

-- the seat's ballot is there
abbrev pub HasBallot : List BallotRow → List ℕ → List ℕ → Type 0
HasBallot ballots name power = list_any (is_ballot name power) ballots ≡ true

-- the master's row is there, each seat's power is one of the map, and its game is there, and so is its ballot
pub record AreCoded (m : Chart) (t : Tables) : Type 0 where
  pub desk : (d : DeskRow) × (t.desk ≡ d ∷ []) × ((d.id == 1) ≡ true)
  pub seats : AllByRecursion (IsSeatOf m) t.seats
  pub games : AllByRecursion (λ s. HasGame t.games s.game) t.seats
  pub ballots : AllByRecursion (λ s. HasBallot t.ballots s.game s.power) t.seats

abbrev pub IsEffectOf : Chart → Effect → Type 0
IsEffectOf m Nothing = Unit {0}
IsEffectOf m (Pending orders) = AllByRecursion (λ o. o.province < length m.provinces) orders
IsEffectOf m (Votes vote) = IsVoteOf m vote
IsEffectOf m (Delivers readers item) = IsPlainItem item
IsEffectOf m (Opens public paper seats) =
    IsOf m public.board × IsStatusOf m public.status × AllByRecursion (λ s. s.power < length m.realms) seats
IsEffectOf m (Publishes public paper played) = IsOf m public.board × IsStatusOf m public.status
IsEffectOf m (Seats seat) = seat.power < length m.realms

-- a change that can be written: what it names is of the map, its letter has a number, and its game's name no end of line
pub record IsChangeOf (m : Chart) (c : Change) : Type 0 where
  pub author : IsAuthorOf m c.author
  pub effect : IsEffectOf m c.effect
  pub numbered : (c.kept.number == 0) ≡ false
  pub named : Lacks 10 c.game
