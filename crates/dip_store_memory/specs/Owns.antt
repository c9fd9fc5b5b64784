-- What is remembered of seats.
use Rattle.std.specs.Prelude.{◌≡◌, ◌==◌, ◌+◌, ◌⊎◌, ℕ, Bool, true, false, List, [], ◌∷◌, Option, None, Some, length, nat_le, bytes_eq, unwrap_or, if◌then◌else◌}
use Rattle.std.specs.List.{AllByRecursion}
use Rattle.std.specs.Map.{lookup}
use Rattle.dip_desk_state.specs.Keyed.{at}
use Rattle.dip_desk_state.specs.Records.{Kept, Own}
use Rattle.dip_desk_state.specs.State.{Change, Effect, Nothing, Pending, Votes, Delivers, Opens, Publishes, Seats, State, is_seat, own_at, own_effect}

-- own parts of seats, under the names of their games
abbrev pub Owns : Type 0
Owns = List (List ℕ × List Own)

-- those that are remembered of the game of a name
abbrev pub owns_of : List ℕ → Owns → List Own
owns_of name ws = unwrap_or (lookup (bytes_eq name) ws) []

-- the own part of a power among them
abbrev pub own_among : ℕ → List Own → Option Own
own_among power os = at (λ a b. a == b) (λ o. o.power) power os

-- a state has this own part in the game of a name
abbrev pub HasOwn : State → List ℕ → Own → Type 0
HasOwn s name o = own_at name o.power s ≡ Some o

-- each own part that is remembered meets a condition, which the name of its game is given too
abbrev pub HoldsOwns : (List ℕ → Own → Type 0) → Owns → Type 0
HoldsOwns P ws = (name : List ℕ) → AllByRecursion (P name) (owns_of name ws)

-- each is the one that a state has
abbrev pub RecallsOwns : State → Owns → Type 0
RecallsOwns s = HoldsOwns (HasOwn s)

-- of each game all that was remembered still is, or nothing
abbrev pub MayForget : Owns → Owns → Type 0
MayForget old new = (name : List ℕ) → (owns_of name new ≡ owns_of name old) ⊎ (owns_of name new ≡ [])

-- so many own parts are remembered at most
abbrev pub most_owns : ℕ
most_owns = 1024

-- how many are
abbrev pub many_owns : Owns → ℕ
many_owns [] = 0
many_owns (g ∷ gs) = length g.1 + many_owns gs

-- those that stay where one more comes: all, or none where these are the most
abbrev pub owns_with_room : Owns → Owns
owns_with_room ws = if nat_le most_owns (many_owns ws) then [] else ws

-- a reply is remembered with its own part up to so many bytes
abbrev pub most_reply : ℕ
most_reply = 4096

-- whether what is kept is of them
abbrev pub is_short : Option Kept → Bool
is_short None = true
is_short (Some k) = nat_le (length k.reply) most_reply

-- each that is remembered keeps a reply of them, or none
abbrev pub AreShort : Owns → Type 0
AreShort = HoldsOwns (λ name o. is_short o.kept ≡ true)

-- whether an effect changes no own part but its author's, or is a paper
abbrev pub leaves_owns_known : Effect → Bool
leaves_owns_known Nothing = true
leaves_owns_known (Pending orders) = true
leaves_owns_known (Votes vote) = true
leaves_owns_known (Delivers readers item) = false
leaves_owns_known (Opens public paper seats) = false
leaves_owns_known (Publishes public paper played) = true
leaves_owns_known (Seats seat) = false

-- an own part after a paper: where a phase was played, it has no standing orders
abbrev pub papered : Effect → Own → Own
papered Nothing o = o
papered (Pending orders) o = o
papered (Votes vote) o = o
papered (Delivers readers item) o = o
papered (Opens public paper seats) o = o
papered (Publishes public paper played) o = if played then record o { pending = [] } else o
papered (Seats seat) o = o

-- an own part of its game after a change of such an effect
abbrev pub own_after : Change → Own → Own
own_after c o = papered c.effect (if is_seat c.author o.power then own_effect c.effect (record o { kept = Some c.kept }) else o)
