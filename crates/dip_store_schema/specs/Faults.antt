-- Why a store isn't opened, by the fault of the database.
use Rattle.std.specs.Prelude.{ℕ, List, codes}
use Rattle.sqlite.specs.declared.error.Error.{Error}
use Rattle.sqlite.specs.declared.error.Error.TheVariants.{SqliteFailure}
use Rattle.sqlite.specs.declared.error.ErrorCode.{ErrorCode}
use Rattle.sqlite.specs.declared.error.ErrorCode.TheVariants.{OutOfMemory, SystemIoFailure, DatabaseCorrupt, DiskFull, Closed}
use Rattle.dip_store_sql.specs.declared.row_faults.RowFault.{RowFault}
use Rattle.dip_store_sql.specs.declared.row_faults.RowFault.TheVariants as rows
use Rattle.dip_store_schema.specs.declared.faults.StoreFault.{StoreFault}
use Rattle.dip_store_schema.specs.declared.faults.StoreFault.TheVariants as stores

-- a fault's number, as a program tells it
abbrev pub store_fault_name : StoreFault → List ℕ
store_fault_name stores.Memory = codes "S1"
store_fault_name stores.Disk = codes "S2"
store_fault_name stores.OtherMap = codes "S3"
store_fault_name stores.OtherSchema = codes "S4"

-- of a database that is opened or made
abbrev pub open_code_fault : ErrorCode → StoreFault
open_code_fault OutOfMemory = stores.Memory
open_code_fault _ = stores.Disk

abbrev pub open_fault : Error → StoreFault
open_fault (SqliteFailure code) = open_code_fault code
open_fault _ = stores.Disk

-- and of its rows: anything else shows that the tables aren't a desk's
abbrev pub row_code_fault : ErrorCode → StoreFault
row_code_fault OutOfMemory = stores.Memory
row_code_fault SystemIoFailure = stores.Disk
row_code_fault DatabaseCorrupt = stores.Disk
row_code_fault DiskFull = stores.Disk
row_code_fault Closed = stores.Disk
row_code_fault _ = stores.OtherSchema

abbrev pub row_fault : Error → StoreFault
row_fault (SqliteFailure code) = row_code_fault code
row_fault _ = stores.OtherSchema

abbrev pub desk_fault : RowFault → StoreFault
desk_fault rows.Memory = stores.Memory
desk_fault (rows.Sql error) = row_fault error
desk_fault rows.Misfit = stores.OtherSchema
