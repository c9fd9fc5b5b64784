-- When a game is drawn, and between whom.
use Rattle.std.specs.Prelude.{ℕ, Bool, false, ◌==◌, ◌&&◌, ◌||◌, ◌+◌, List, [], ◌∷◌, Option, None, Some, bytes_eq as are_same, filter, if◌then◌else◌}
use Rattle.std.specs.List.{list_all, list_any}
use Rattle.dip_map.specs.Boards.{Position, owns}
use Rattle.dip_map.specs.Charts.{Chart, powers, provs}
use Rattle.dip_desk_games.specs.Among.{is_among}
use Rattle.dip_desk_state.specs.Records.{Own, Public, Drawn, Vote, No, Yes, For, Whole}

-- a power with a unit, standing or dislodged
abbrev pub has_unit : Position → ℕ → Bool
has_unit b power = list_any (λ u. u.power == power) b.units || list_any (λ d. d.unit.power == power) b.dislodged

-- a power that owns a centre
abbrev pub has_centre : Chart → Position → ℕ → Bool
has_centre m b power = list_any (λ p. owns b power p) (provs m)

-- a survivor: a power with a unit or an owned centre
abbrev pub survives : Chart → Position → ℕ → Bool
survives m b power = has_unit b power || has_centre m b power

-- all survivors, by name
abbrev pub survivors : Chart → Position → List ℕ
survivors m b = filter (survives m b) (powers m)

-- what a power votes for: what its seat does, and no draw where it has none
abbrev pub vote_of : List Own → ℕ → Vote
vote_of [] power = No
vote_of (o ∷ os) power = if o.power == power then o.vote else vote_of os power

-- the powers between which a vote asks for a draw: all survivors, or those that it names
abbrev pub asked : List ℕ → Vote → Option (List ℕ)
asked survivors No = None
asked survivors Yes = Some survivors
asked survivors (For powers) = Some powers

-- whether it is these powers
abbrev pub is_set : List ℕ → Option (List ℕ) → Bool
is_set set None = false
is_set set (Some powers) = are_same powers set

-- whether every survivor's vote asks for this set, and it holds survivors alone
abbrev pub is_agreed : List ℕ → List Own → List ℕ → Bool
is_agreed survivors seats set =
    list_all (λ p. is_set set (asked survivors (vote_of seats p))) survivors && list_all (λ p. is_among p survivors) set

abbrev pub where_agreed : List ℕ → List Own → Option (List ℕ) → Option (List ℕ)
where_agreed survivors seats None = None
where_agreed survivors seats (Some set) = if is_agreed survivors seats set then Some set else None

-- the set that the first of these powers asks for
abbrev pub first_asked : List ℕ → List Own → Option (List ℕ)
first_asked [] seats = None
first_asked (p ∷ ps) seats = asked (p ∷ ps) (vote_of seats p)

abbrev pub agreed : List ℕ → List Own → Option (List ℕ)
agreed survivors seats = where_agreed survivors seats (first_asked survivors seats)

-- the powers between which a game is drawn: there is a survivor, every survivor's vote asks for one set, and it holds survivors alone
abbrev pub drawn_between : Chart → Whole → Option (List ℕ)
drawn_between m w = agreed (survivors m w.public.board) w.seats

-- the public part after a draw: the powers that share the game; board and due tick stay
abbrev pub public_drawn : List ℕ → Public → Public
public_drawn powers p = record p { status = Drawn powers; papers = p.papers + 1 }
