-- What an error of the database has for its cause.
use Rattle.std.specs.Prelude.{◌≡◌, ◌⊎◌, IsTrue}
use Rattle.sqlite.specs.Disk.{MoreFaults}
use Rattle.sqlite.specs.declared.error.Error.{Error}
use Rattle.sqlite.specs.declared.error.Error.TheVariants.{SqliteFailure}
use Rattle.sqlite.specs.declared.error.ErrorCode.TheVariants as code
use Rattle.sqlite.specs.Store.{Ghosts}
use Rattle.sqlite.specs.Held.{Held, state}
use Rattle.sqlite.specs.State.{State, is_disk_error}

-- between these two the store told of a fault of its disk
abbrev pub Faulted : State → State → Type 0
Faulted old new = MoreFaults old.faults new.faults

abbrev pub has_faulted : {S : Type 0} → Ghosts S → Held S → Held S → Type 0
has_faulted g old new = Faulted (state g old) (state g new)

-- want of memory, or an error of the disk where there was this fault
abbrev pub IsCaused : Type 0 → Error → Type 0
IsCaused fault e = (e ≡ SqliteFailure code.OutOfMemory) ⊎ (IsTrue (is_disk_error e) × fault)
