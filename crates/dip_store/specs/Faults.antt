-- The keeper's fault for a fault of the database.
use Rattle.sqlite.specs.declared.error.Error.{Error}
use Rattle.sqlite.specs.declared.error.Error.TheVariants.{SqliteFailure}
use Rattle.sqlite.specs.declared.error.ErrorCode.{ErrorCode}
use Rattle.sqlite.specs.declared.error.ErrorCode.TheVariants.{OutOfMemory, SystemIoFailure, DatabaseCorrupt, DiskFull, TooBig, NoRowid, Closed}
use Rattle.dip_store_sql.specs.declared.row_faults.RowFault.{RowFault}
use Rattle.dip_store_sql.specs.declared.row_faults.RowFault.TheVariants as rows
use Rattle.dip_desk_state.specs.declared.faults.KeepFault.{KeepFault}
use Rattle.dip_desk_state.specs.declared.faults.KeepFault.TheVariants.{Memory, Disk, Damaged}
pub use Rattle.dip_store_schema.specs.Faults.{store_fault_name}

-- want of memory, or of room for a row, which is too long to be stored or finds no number left; a fault of the disk, want of room on it, or
-- a store that such a fault has shut before; anything else shows that the tables aren't a desk's
abbrev pub code_fault : ErrorCode → KeepFault
code_fault OutOfMemory = Memory
code_fault TooBig = Memory
code_fault NoRowid = Memory
code_fault SystemIoFailure = Disk
code_fault DatabaseCorrupt = Disk
code_fault DiskFull = Disk
code_fault Closed = Disk
code_fault _ = Damaged

abbrev pub error_fault : Error → KeepFault
error_fault (SqliteFailure code) = code_fault code
error_fault _ = Damaged

-- of a look or a change
abbrev pub row_fault : RowFault → KeepFault
row_fault rows.Memory = Memory
row_fault (rows.Sql error) = error_fault error
row_fault rows.Misfit = Damaged
