-- Centres: who owns them after Fall, and who has won.
use Rattle.std.specs.Prelude.{ℕ, ◌+◌, ◌*◌, ◌==◌, nat_lt, Bool, true, false, List, [], ◌∷◌, find, Option, None, Some, option_map, count_by, if◌then◌else◌}
use Rattle.std.specs.List.{filter_map}
use Rattle.dip_names.specs.declared.names.Unit.{Unit as AUnit}
use Rattle.dip_map.specs.Charts.{Chart, is_centre, powers, provs}
use Rattle.dip_map.specs.Boards.{Position, owner, centres_owned}
use Rattle.dip_turn_phases.specs.declared.lines.CentreLine.{CentreLine}

-- the unit that stands in a province
abbrev pub holder : List AUnit → ℕ → Option AUnit
holder us p = find (λ u. u.place.prov == p) us

-- who owns a centre: the power of the unit in it, and where it is empty its owner
abbrev pub owner_by : Option AUnit → Option ℕ → Option ℕ
owner_by None owner = owner
owner_by (Some u) owner = Some u.power

-- who owns a province: only a centre changes hands
abbrev pub owner_after : Chart → List AUnit → ℕ → Option ℕ → Option ℕ
owner_after m us p owner = if is_centre m p then owner_by (holder us p) owner else owner

-- the owners from province i on
abbrev pub owners_after : Chart → List AUnit → ℕ → List (Option ℕ) → List (Option ℕ)
owners_after m us i [] = []
owners_after m us i (o ∷ os) = owner_after m us i o ∷ owners_after m us (i + 1) os

-- the board with centres in new hands
abbrev pub with_owners : Chart → Position → Position
with_owners m b = record b { owners = owners_after m b.units 0 b.owners }

-- how many centres the map has
abbrev pub centres : Chart → ℕ
centres m = count_by (λ p. p.centre) m.provinces

-- the power owns more than half of all centres
abbrev pub has_won : Chart → Position → ℕ → Bool
has_won m b power = nat_lt (centres m) (2 * centres_owned b power)

-- who has won, if anybody has
abbrev pub winner : Chart → Position → Option ℕ
winner m b = find (has_won m b) (powers m)

-- the two are one power, or nobody
abbrev pub is_same_owner : Option ℕ → Option ℕ → Bool
is_same_owner None None = true
is_same_owner None (Some r) = false
is_same_owner (Some q) None = false
is_same_owner (Some q) (Some r) = q == r

-- a province that another power owns than before, with that power
abbrev pub centre_line : Position → Position → ℕ → Option CentreLine
centre_line b new p =
    if is_same_owner (owner b p) (owner new p) then None
    else option_map (λ r. record { prov = p; power = r }) (owner new p)

-- the changed centres, by code
abbrev pub centre_lines : Chart → Position → Position → List CentreLine
centre_lines m b new = filter_map (centre_line b new) (provs m)
