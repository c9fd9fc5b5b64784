-- Why a file of a store isn't opened.
use Rattle.dip_store_schema.specs.declared.faults.StoreFault.{StoreFault}
use Rattle.dip_store_schema.specs.declared.faults.StoreFault.TheVariants.{Disk, Memory, OtherSchema}

-- a file that isn't opened: want of memory, or the disk
abbrev pub IsOpenFault : StoreFault → Type 0
IsOpenFault Memory = Unit {0}
IsOpenFault Disk = Unit {0}
IsOpenFault _ = ⊥

-- a file that isn't found or isn't opened: there is no such file, or want of memory, or the disk
abbrev pub IsFindFault : StoreFault → Type 0
IsFindFault OtherSchema = Unit {0}
IsFindFault fault = IsOpenFault fault
