-- What is remembered of games.
use Rattle.std.specs.Prelude.{◌≡◌, ℕ, Bool, true, false, List, [], Option, None, Some, is_some, option_map, length, nat_lt, bytes_eq, ◌&&◌, if◌then◌else◌}
use Rattle.std.specs.Map.{lookup}
use Rattle.sqlite_trees.specs.Tree.{IsAscending}
use Rattle.dip_desk_state.specs.Records.{Public}
use Rattle.dip_desk_state.specs.State.{Change, Effect, Nothing, Pending, Votes, Delivers, Opens, Publishes, Seats, Game, State, name_of, public_at}

-- public parts of games, each under its game's name
abbrev pub Parts : Type 0
Parts = List (List ℕ × Public)

-- what is remembered of the game of a name
abbrev pub part_of : List ℕ → Parts → Option Public
part_of name ps = lookup (bytes_eq name) ps

-- it, with that name
abbrev pub named_part : List ℕ → Parts → Option Public
named_part name ps = option_map (λ (p : Public). record p { game = name }) (part_of name ps)

-- so many parts are remembered at most
abbrev pub most_seen : ℕ
most_seen = 16384

-- the parts that stay where one more comes: all, or none where these are the most
abbrev pub with_room : Parts → Parts
with_room ps = if nat_lt (length ps) most_seen then ps else []

-- each part that is remembered is the one that a state has
abbrev pub Recalls : State → Parts → Type 0
Recalls s ps = (name : List ℕ) (p : Public) → part_of name ps ≡ Some p → public_at name s ≡ Some p

-- a state has a game of that name
abbrev pub IsThere : List ℕ → State → Type 0
IsThere name s = is_some (public_at name s) ≡ true

-- no two of these games have one name
abbrev pub DifferByName : List Game → Type 0
DifferByName gs = IsAscending (λ a b. bytes_eq (name_of a) (name_of b) ≡ false) gs

-- whether an effect gives its game another public part
abbrev pub is_paper : Effect → Bool
is_paper Nothing = false
is_paper (Pending orders) = false
is_paper (Votes vote) = false
is_paper (Delivers readers item) = false
is_paper (Opens public paper seats) = false
is_paper (Publishes public paper played) = true
is_paper (Seats seat) = false

-- whether a change gives another to the game of a name
abbrev pub gives_part : Change → List ℕ → Bool
gives_part c name = is_paper c.effect && bytes_eq c.game name

-- how many papers the part has that a change replaces, where it is among these
abbrev pub replaced_papers : Change → Parts → Option ℕ
replaced_papers c ps = if is_paper c.effect then option_map (λ p. p.papers) (part_of c.game ps) else None
