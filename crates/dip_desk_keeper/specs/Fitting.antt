-- What a keeper may be asked to keep.
use Rattle.std.specs.Prelude.{◌≡◌, ◌≤◌, ◌+◌, true, List, ℕ, Option, None, Some}
use Rattle.dip_map.specs.Charts.{Chart}
use Rattle.dip_letters.specs.Words.{is_game}
use Rattle.dip_desk_state.specs.Bounds.{most_papers}
use Rattle.dip_desk_state.specs.Fitting.{FitsMap}
use Rattle.dip_desk_state.specs.State.{Author, Change, Effect, Game, have_room, Nothing, Pending, Votes, Delivers, Opens, Publishes, Seats, State, game_at}
use Rattle.dip_desk_state.specs.Writable.{IsAuthorOf}

-- an author's effect that finds place in the game that it names: press finds room in the count of what its author has sent and in those
-- of its readers' inboxes; a new game has that name, and there is none of it yet; a paper has the next number of its game, which is no
-- more than a game has
abbrev pub FindsPlace : List ℕ → Author → Effect → Option Game → Type 0
FindsPlace name who Nothing game = Unit {0}
FindsPlace name who (Pending orders) game = Unit {0}
FindsPlace name who (Votes vote) game = Unit {0}
FindsPlace name who (Delivers readers item) None = Unit {0}
FindsPlace name who (Delivers readers item) (Some g) = have_room who readers g.seats ≡ true
FindsPlace name who (Opens public paper seats) game = (public.game ≡ name) × (game ≡ None)
FindsPlace name who (Publishes public paper played) None = ⊥
FindsPlace name who (Publishes public paper played) (Some g) = (public.papers ≡ g.public.papers + 1) × (public.papers ≤ most_papers)
FindsPlace name who (Seats seat) game = Unit {0}

-- an effect that fits the map and what a state has of the game that it names
abbrev pub FitsGame : Chart → List ℕ → Author → Effect → Option Game → Type 0
FitsGame m name who e game = FitsMap m e × FindsPlace name who e game

-- a change that a keeper has no reason to refuse: its author is of the map, its letter has a letter's number, its game has a game's
-- name, and its effect fits
pub record Fits (m : Chart) (c : Change) (s : State) : Type 0 where
  pub author : IsAuthorOf m c.author
  pub least : 1 ≤ c.kept.number
  pub most : c.kept.number ≤ 999999999
  pub name : is_game c.game ≡ true
  pub effect : FitsGame m c.game c.author c.effect (game_at c.game s)
