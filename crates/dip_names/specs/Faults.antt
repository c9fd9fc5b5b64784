-- The faults of maps: their numbers, and what each says.
use Rattle.std.specs.Prelude.{ℕ, List, codes}
use Rattle.dip_names.specs.declared.faults.MapFault.{MapFault}
use Rattle.dip_names.specs.declared.faults.MapFault.TheVariants.{NotToml, WrongField, UnknownName, NotSymmetric, DoubledName, OverLimit, Memory}

-- the number of a fault, as it is told
abbrev pub fault_name : MapFault → List ℕ
fault_name NotToml = codes "M1"
fault_name WrongField = codes "M2"
fault_name UnknownName = codes "M3"
fault_name NotSymmetric = codes "M4"
fault_name DoubledName = codes "M5"
fault_name OverLimit = codes "M6"
fault_name Memory = codes "M7"

-- the number and what it says
unfoldable pub fault_text : MapFault → List ℕ
fault_text NotToml = codes "M1 not TOML"
fault_text WrongField = codes "M2 missing or wrong field"
fault_text UnknownName = codes "M3 unknown name"
fault_text NotSymmetric = codes "M4 neighbour not symmetric"
fault_text DoubledName = codes "M5 doubled name"
fault_text OverLimit = codes "M6 over a limit"
fault_text Memory = codes "M7 memory"
