-- Whom press reaches, and what its readers are shown.
use Rattle.std.specs.Prelude.{ℕ, Bool, true, false, ◌==◌, ◌&&◌, not, List, [], ◌∷◌, Option, Some, None, bytes_eq, codes, filter, if◌then◌else◌}
use Rattle.std.specs.List.{list_any}
use Rattle.dip_map.specs.Charts.{Chart, power_of, powers, realm}
use Rattle.dip_desk_state.specs.Records.{Item, White, Grey}
pub use Rattle.dip_desk_games.specs.Among.{is_among}

-- a name that stands for all other powers
abbrev pub names_all : List ℕ → Bool
names_all name = bytes_eq name (codes "all")

-- `all` alone
abbrev pub is_to_all : List (List ℕ) → Bool
is_to_all [] = false
is_to_all (name ∷ []) = names_all name
is_to_all (name ∷ other ∷ more) = false

-- every power of the map but this one
abbrev pub other_powers : Chart → ℕ → List ℕ
other_powers m power = filter (λ p. not (p == power)) (powers m)

abbrev pub with_power : Option ℕ → Option (List ℕ) → Option (List ℕ)
with_power (Some p) (Some more) = Some (p ∷ more)
with_power (Some p) None = None
with_power None more = None

-- the powers of these names, where each is one of the map's
abbrev pub named_powers : Chart → List (List ℕ) → Option (List ℕ)
named_powers m [] = Some []
named_powers m (name ∷ names) = with_power (power_of m name) (named_powers m names)

-- none stands twice
abbrev pub are_distinct : List ℕ → Bool
are_distinct [] = true
are_distinct (p ∷ ps) = not (is_among p ps) && are_distinct ps

-- powers to which a writer may send: none of them twice, and not the writer
abbrev pub may_read : ℕ → List ℕ → Bool
may_read writer readers = are_distinct readers && not (is_among writer readers)

abbrev pub readers_where : ℕ → Option (List ℕ) → Option (List ℕ)
readers_where writer None = None
readers_where writer (Some readers) = if may_read writer readers then Some readers else None

-- whom a power's press reaches by its addressees: `all` alone is every other power, and stands with no other name; all others are names of
-- powers of the map, none twice, and not the writer's
abbrev pub readers_of : Chart → ℕ → List (List ℕ) → Option (List ℕ)
readers_of m writer names =
    if is_to_all names then Some (other_powers m writer)
    else if list_any names_all names then None
    else readers_where writer (named_powers m names)

-- what its readers are shown: of white press its writer and its addressees as they were named; of grey press only whether all have it
abbrev pub item_of : Chart → ℕ → Bool → List (List ℕ) → List (List ℕ) → Item
item_of m writer grey names text = if grey then Grey (is_to_all names) text else White (realm m writer).name names text
