-- Why rows aren't read or written, as a fault of rows tells it.
use Rattle.dip_store_sql.specs.Causes.{IsCaused}
use Rattle.dip_store_sql.specs.Refusals.{IsBlamed, IsWant}
use Rattle.dip_store_sql.specs.declared.row_faults.RowFault.{RowFault}
use Rattle.dip_store_sql.specs.declared.row_faults.RowFault.TheVariants.{Memory, Sql, Misfit}

-- no row is to blame: want of memory, or an error of the database that tells of that, or of the disk where there was this fault of it
abbrev pub IsFromOutside : Type 0 → RowFault → Type 0
IsFromOutside fault Memory = Unit {0}
IsFromOutside fault (Sql error) = IsCaused fault error
IsFromOutside fault Misfit = ⊥

-- for want alone, by the disk where there was this fault of it, and as a misfit only where it is one
abbrev pub FailsFor : Type 0 → Type 0 → RowFault → Type 0
FailsFor fault misfit Memory = Unit {0}
FailsFor fault misfit (Sql e) = IsWant fault e
FailsFor fault misfit Misfit = misfit

-- the disk is told of only where there was this fault of it
abbrev pub BlamesFor : Type 0 → RowFault → Type 0
BlamesFor fault Memory = Unit {0}
BlamesFor fault (Sql e) = IsBlamed fault e
BlamesFor fault Misfit = Unit {0}
