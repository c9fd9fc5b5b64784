-- What a keeper in memory finds no place for.
use Rattle.std.specs.Prelude.{◌≡◌, ◌<◌, ◌⊎◌, false, List, ℕ, Option, None, Some}
use Rattle.dip_desk_state.specs.Bounds.{most_papers}
use Rattle.dip_desk_state.specs.State.{Author, Effect, Game, have_room, Nothing, Pending, Votes, Delivers, Opens, Publishes, Seats}

-- an author's effect that finds no place in the game that it names: a count of its game, which is at its bound, has no room for press; a
-- new game has another name than that, or has more papers than a game has, or there is one of it already; a paper has a number that is more
-- than a game has papers
abbrev pub LacksPlace : List ℕ → Author → Effect → Option Game → Type 0
LacksPlace name who Nothing game = ⊥
LacksPlace name who (Pending orders) game = ⊥
LacksPlace name who (Votes vote) game = ⊥
LacksPlace name who (Delivers readers item) None = ⊥
LacksPlace name who (Delivers readers item) (Some g) = have_room who readers g.seats ≡ false
LacksPlace name who (Opens public paper seats) game = (public.game ≡ name → ⊥) ⊎ ((most_papers < public.papers) ⊎ (game ≡ None → ⊥))
LacksPlace name who (Publishes public paper played) None = ⊥
LacksPlace name who (Publishes public paper played) (Some g) = most_papers < public.papers
LacksPlace name who (Seats seat) game = ⊥
