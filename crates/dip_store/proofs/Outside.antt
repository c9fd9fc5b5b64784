-- Want of memory, of room, and faults of the disk are never told as Damaged.
use Rattle.std.proofs.Common.{◌≡◌, IsTrue, false, true, inl, inr, refl, ap, sym, ◌∙◌}
use Rattle.sqlite.specs.State.{is_disk_error}
use Rattle.sqlite.specs.declared.error.Error.{Error}
use Rattle.sqlite.specs.declared.error.Error.TheVariants.{SqliteFailure}
use Rattle.sqlite.specs.declared.error.ErrorCode.{ErrorCode}
use Rattle.sqlite.specs.declared.error.ErrorCode.TheVariants.{OutOfMemory, SystemIoFailure, DatabaseCorrupt, DiskFull, TooBig, NoRowid, Closed}
use Rattle.dip_store_sql.specs.RowFaults.{BlamesFor, FailsFor, IsFromOutside}
use Rattle.dip_store_sql.specs.declared.row_faults.RowFault.{RowFault}
use Rattle.dip_store_sql.specs.declared.row_faults.RowFault.TheVariants as rows
use Rattle.dip_desk_state.specs.declared.faults.KeepFault.{KeepFault}
use Rattle.dip_desk_state.specs.declared.faults.KeepFault.TheVariants.{Memory, Disk, Damaged}
use Rattle.dip_store_sql.specs.Refusals.{IsBlamed, IsWant}
use Rattle.dip_store_sql.specs.Causes.{IsCaused}
use Rattle.dip_store.specs.Faults.{code_fault, error_fault, row_fault}

not_memory : Memory ≡ Damaged → ⊥
not_memory is = absurd (cc)

not_disk : Disk ≡ Damaged → ⊥
not_disk is = absurd (cc)

-- an error of the disk
code_of_disk : (c : ErrorCode) → IsTrue (is_disk_error (SqliteFailure c)) → code_fault c ≡ Damaged → ⊥
code_of_disk SystemIoFailure disk is = not_disk is
code_of_disk DatabaseCorrupt disk is = not_disk is
code_of_disk DiskFull disk is = not_disk is
code_of_disk _ disk is = absurd (let x : false ≡ true = disk in cc)

error_of_disk : (e : Error) → IsTrue (is_disk_error e) → error_fault e ≡ Damaged → ⊥
error_of_disk (SqliteFailure c) disk is = code_of_disk c disk is
error_of_disk _ disk is = absurd (let x : false ≡ true = disk in cc)

-- an error that is told otherwise
told_as : (e : Error) (f : KeepFault) (other : Error) → e ≡ other → error_fault other ≡ f → (f ≡ Damaged → ⊥) → error_fault e ≡ Damaged → ⊥
told_as e f other same told off is = off (sym told ∙ ap error_fault (sym same) ∙ is)

error_outside : (fault : Type 0) (e : Error) → IsCaused fault e → error_fault e ≡ Damaged → ⊥
error_outside fault e (inl memory) is = told_as e Memory (SqliteFailure OutOfMemory) memory refl not_memory is
error_outside fault e (inr disk) is = error_of_disk e disk.0 is

error_wanting : (fault : Type 0) (e : Error) → IsWant fault e → error_fault e ≡ Damaged → ⊥
error_wanting fault e (inl outside) is = error_outside fault e outside is
error_wanting fault e (inr (inl big)) is = told_as e Memory (SqliteFailure TooBig) big refl not_memory is
error_wanting fault e (inr (inr full)) is = told_as e Memory (SqliteFailure NoRowid) full refl not_memory is

-- and the disk is told of only where there was a fault of it
error_blamed : (fault : Type 0) (e : Error) → IsCaused fault e → error_fault e ≡ Disk → fault
error_blamed fault e (inl memory) is = absurd (let bad : Memory ≡ Disk = ap error_fault (sym memory) ∙ is in cc)
error_blamed fault e (inr disk) is = disk.1

-- of a look
pub look_outside : (fault : Type 0) (e : RowFault) → IsFromOutside fault e → row_fault e ≡ Damaged → ⊥
look_outside fault rows.Memory own is = not_memory is
look_outside fault (rows.Sql e) own is = error_outside fault e own is
look_outside fault rows.Misfit own is = absurd own

pub look_blamed : (fault : Type 0) (e : RowFault) → IsFromOutside fault e → row_fault e ≡ Disk → fault
look_blamed fault rows.Memory own is = absurd (let bad : Memory ≡ Disk = is in cc)
look_blamed fault (rows.Sql e) own is = error_blamed fault e own is
look_blamed fault rows.Misfit own is = absurd own

-- and of a change that is no misfit
pub make_outside : (fault Misfit : Type 0) (e : RowFault) → FailsFor fault Misfit e → (Misfit → ⊥) → row_fault e ≡ Damaged → ⊥
make_outside fault Misfit rows.Memory fails fits is = not_memory is
make_outside fault Misfit (rows.Sql e) fails fits is = error_wanting fault e fails is
make_outside fault Misfit rows.Misfit fails fits is = fits fails

-- of any change the disk is told of only where there was a fault of it
code_caused : (fault : Type 0) (c : ErrorCode) → IsBlamed fault (SqliteFailure c) → code_fault c ≡ Disk → fault
code_caused fault OutOfMemory blamed is = absurd (let bad : Memory ≡ Disk = is in cc)
code_caused fault TooBig blamed is = absurd (let bad : Memory ≡ Disk = is in cc)
code_caused fault NoRowid blamed is = absurd (let bad : Memory ≡ Disk = is in cc)
code_caused fault SystemIoFailure blamed is = blamed refl
code_caused fault DatabaseCorrupt blamed is = blamed refl
code_caused fault DiskFull blamed is = blamed refl
code_caused fault Closed blamed is = blamed refl
code_caused fault _ blamed is = absurd (let bad : Damaged ≡ Disk = is in cc)

error_caused : (fault : Type 0) (e : Error) → IsBlamed fault e → error_fault e ≡ Disk → fault
error_caused fault (SqliteFailure c) blamed is = code_caused fault c blamed is
error_caused fault _ blamed is = absurd (let bad : Damaged ≡ Disk = is in cc)

pub make_caused : (fault : Type 0) (e : RowFault) → BlamesFor fault e → row_fault e ≡ Disk → fault
make_caused fault rows.Memory blamed is = absurd (let bad : Memory ≡ Disk = is in cc)
make_caused fault (rows.Sql e) blamed is = error_caused fault e blamed is
make_caused fault rows.Misfit blamed is = absurd (let bad : Damaged ≡ Disk = is in cc)
