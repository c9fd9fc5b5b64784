-- Why a statement that writes fails.
use Rattle.std.specs.Prelude.{◌≡◌, ◌⊎◌, Bool, true, false, IsTrue}
use Rattle.sqlite.specs.declared.error.Error.{Error}
use Rattle.sqlite.specs.declared.error.Error.TheVariants.{SqliteFailure}
use Rattle.sqlite.specs.declared.error.ErrorCode.TheVariants as code
use Rattle.dip_store_sql.specs.Causes.{IsCaused}

-- want of memory, this fault of the disk, or want of room: a row that is too long to be stored, or no number left for one
abbrev pub IsWant : Type 0 → Error → Type 0
IsWant fault e = IsCaused fault e ⊎ ((e ≡ SqliteFailure code.TooBig) ⊎ (e ≡ SqliteFailure code.NoRowid))

-- an error of the disk, or that a fault of it has shut the store before
abbrev pub is_outage : Error → Bool
is_outage (SqliteFailure code.SystemIoFailure) = true
is_outage (SqliteFailure code.DatabaseCorrupt) = true
is_outage (SqliteFailure code.DiskFull) = true
is_outage (SqliteFailure code.Closed) = true
is_outage _ = false

-- it is told only where there was this fault
abbrev pub IsBlamed : Type 0 → Error → Type 0
IsBlamed fault e = IsTrue (is_outage e) → fault
