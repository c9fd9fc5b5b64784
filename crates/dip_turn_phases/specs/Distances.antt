-- The distance of a unit to the home centres of a power, as a function.
use Rattle.std.specs.Prelude.{ℕ, ◌+◌, ◌&&◌, Bool, zero, suc, if◌then◌else◌}
use Rattle.std.specs.List.{list_any}
use Rattle.dip_names.specs.declared.names.Kind.{Kind}
use Rattle.dip_names.specs.declared.names.Kind.TheVariants.{Army, Fleet}
use Rattle.dip_names.specs.declared.names.Place.{Place}
use Rattle.dip_map.specs.Charts.{Chart, fleet_next, is_fleet_place, is_home}
use Rattle.dip_map.specs.Walks.{ways}

-- n steps by neighbours of either kind lead from province p to a home centre of the power r
abbrev pub army_walks : Chart → ℕ → ℕ → ℕ → Bool
army_walks m r zero p = is_home m r p
army_walks m r (suc n) p = list_any (λ q. army_walks m r n q) (ways m p)

-- n steps by fleet neighbours lead from a to a home centre of the power r
abbrev pub fleet_walks : Chart → ℕ → ℕ → Place → Bool
fleet_walks m r zero a = is_fleet_place m a && is_home m r a.prov
fleet_walks m r (suc n) a = list_any (λ b. fleet_walks m r n b) (fleet_next m a)

-- n steps of a unit of that kind lead from a to a home centre of the power r
abbrev pub walks : Chart → Kind → ℕ → Place → ℕ → Bool
walks m Army r a n = army_walks m r n a.prov
walks m Fleet r a n = fleet_walks m r n a

-- of n numbers from i on the first that passes, or the one after them
abbrev pub least_from : (ℕ → Bool) → ℕ → ℕ → ℕ
least_from test i zero = i
least_from test i (suc n) = if test i then i else least_from test (i + 1) n

-- the least number of steps to a home centre of the power, whoever owns it; 1,000 where none leads there
unfoldable pub distance_of : Chart → Kind → Place → ℕ → ℕ
distance_of m kind a r = least_from (walks m kind r a) 0 1000
