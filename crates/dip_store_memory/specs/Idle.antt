-- Which seats of the games that were opened here have neither ordered nor voted since.
use Rattle.std.specs.Prelude.{◌≡◌, ◌&&◌, ℕ, Bool, true, false, not, List, [], Option, None, Some, IfSome, bytes_eq, get_or, length, nat_lt, if◌then◌else◌}
use Rattle.std.specs.Map.{lookup}
use Rattle.dip_desk_state.specs.State.{Change, Effect, Nothing, Pending, Votes, Delivers, Opens, Publishes, Seats, IsIdle, State, is_seat, own_at}

-- of each such game, under its name: which of its first powers have ordered or voted
abbrev pub Idle : Type 0
Idle = List (List ℕ × List Bool)

-- whether a power hasn't
abbrev pub is_still : ℕ → Option (List Bool) → Bool
is_still power None = false
is_still power (Some stirred) = not (get_or stirred power true)

abbrev pub is_idle : List ℕ → ℕ → Idle → Bool
is_idle name power ws = is_still power (lookup (bytes_eq name) ws)

-- of so many games at most it is known
abbrev pub most_idle : ℕ
most_idle = 16384

-- what stays known where one more comes: all, or nothing where these are the most
abbrev pub idle_with_room : Idle → Idle
idle_with_room ws = if nat_lt (length ws) most_idle then ws else []

-- each seat of which that is known votes for no draw, and no order of it stands
abbrev pub RecallsIdle : State → Idle → Type 0
RecallsIdle s ws = (name : List ℕ) (power : ℕ) → is_idle name power ws ≡ true → IfSome (own_at name power s) IsIdle

-- whether an effect gives its author orders or a vote
abbrev pub is_stirring : Effect → Bool
is_stirring Nothing = false
is_stirring (Pending orders) = true
is_stirring (Votes vote) = true
is_stirring (Delivers readers item) = false
is_stirring (Opens public paper seats) = false
is_stirring (Publishes public paper played) = false
is_stirring (Seats seat) = false

-- whether a change gives them to the seat of a power in the game of a name
abbrev pub stirs : Change → List ℕ → ℕ → Bool
stirs c name power = is_stirring c.effect && (bytes_eq c.game name && is_seat c.author power)
