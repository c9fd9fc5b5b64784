-- The faults of order lines: their numbers and words.
use Rattle.std.specs.Prelude.{ℕ, List, codes}
use Rattle.dip_orders.specs.declared.faults.OrderFault.{OrderFault}
use Rattle.dip_orders.specs.declared.faults.OrderFault.TheVariants.{CannotBeRead, UnknownProvince, NoUnitThere, WrongKind, OutOfReach, CoastNeeded, WrongCoast, NoSuchUnit, SupportOutOfReach, NoConvoyThere, NotInThisPhase, NoBuildThere, AllowanceUsed, NoSuchRetreat}

-- the number of a fault, as printed after O
abbrev pub fault_number : OrderFault → ℕ
fault_number CannotBeRead = 1
fault_number UnknownProvince = 2
fault_number NoUnitThere = 3
fault_number WrongKind = 4
fault_number OutOfReach = 5
fault_number CoastNeeded = 6
fault_number WrongCoast = 7
fault_number NoSuchUnit = 8
fault_number SupportOutOfReach = 9
fault_number NoConvoyThere = 10
fault_number NotInThisPhase = 11
fault_number NoBuildThere = 12
fault_number AllowanceUsed = 13
fault_number NoSuchRetreat = 14

-- a fault in words, as printed
abbrev pub fault_words : OrderFault → List ℕ
fault_words CannotBeRead = codes "cannot be read"
fault_words UnknownProvince = codes "unknown province"
fault_words NoUnitThere = codes "no unit of yours there"
fault_words WrongKind = codes "wrong kind of unit"
fault_words OutOfReach = codes "out of reach"
fault_words CoastNeeded = codes "coast needed"
fault_words WrongCoast = codes "wrong coast"
fault_words NoSuchUnit = codes "no such unit to support or convoy"
fault_words SupportOutOfReach = codes "support out of reach"
fault_words NoConvoyThere = codes "no convoy there"
fault_words NotInThisPhase = codes "not in this phase"
fault_words NoBuildThere = codes "no build there"
fault_words AllowanceUsed = codes "allowance used"
fault_words NoSuchRetreat = codes "no such retreat"
