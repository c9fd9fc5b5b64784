-- What a power may build or has to remove in Winter.
use Rattle.std.specs.Prelude.{ℕ, ◌-◌, ◌&&◌, min, ℤ, pos, ◌-ℤ◌, count_by}
use Rattle.dip_map.specs.Charts.{Chart, home}
use Rattle.dip_map.specs.Boards.{Position, owns, is_vacant, centres_owned, units_counted}

-- how many of the power's home centres are its own and vacant
abbrev pub vacant_homes : Chart → Position → ℕ → ℕ
vacant_homes m b power = count_by (λ p. owns b power p && is_vacant b p) (home m power)

-- how many units the power may build: as many as it has centres more than units, at most one in each of its vacant home centres
abbrev pub builds_due : Chart → Position → ℕ → ℕ
builds_due m b power = min (centres_owned b power - units_counted b power) (vacant_homes m b power)

-- how many units the power has to remove: as many as it has more than centres
abbrev pub removals_due : Position → ℕ → ℕ
removals_due b power = units_counted b power - centres_owned b power

-- what a power may build, or has to remove, which is then below zero
abbrev pub allowance : Chart → Position → ℕ → ℤ
allowance m b power = pos (builds_due m b power) -ℤ pos (removals_due b power)
