-- Kinds of units and terrains of provinces.
use Rattle.std.specs.Prelude.{Bool, true, false}
use Rattle.dip_names.specs.declared.names.Kind.{Kind}
use Rattle.dip_names.specs.declared.names.Kind.TheVariants.{Army, Fleet}
use Rattle.dip_names.specs.declared.names.Terrain.{Terrain}
use Rattle.dip_names.specs.declared.names.Terrain.TheVariants.{Inland, Coast, Sea}

-- whether two kinds are one
abbrev pub is_kind : Kind → Kind → Bool
is_kind Army Army = true
is_kind Army Fleet = false
is_kind Fleet Army = false
is_kind Fleet Fleet = true

-- whether a terrain is the open sea
abbrev pub is_sea : Terrain → Bool
is_sea Inland = false
is_sea Coast = false
is_sea Sea = true

-- whether a terrain is a coast
abbrev pub is_coastal : Terrain → Bool
is_coastal Inland = false
is_coastal Coast = true
is_coastal Sea = false
