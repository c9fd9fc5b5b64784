-- What an error of the database tells.
use Rattle.std.specs.Prelude.{◌≡◌, ◌⊎◌, IsTrue}
use Rattle.sqlite.specs.declared.error.Error.{Error}
use Rattle.sqlite.specs.declared.error.Error.TheVariants.{SqlInputError, SqliteFailure}
use Rattle.sqlite.specs.declared.error.ErrorCode.TheVariants as code
use Rattle.sqlite.specs.State.{is_disk_error}

-- want of memory, or a fault of the disk
abbrev pub IsOutside : Error → Type 0
IsOutside e = (e ≡ SqliteFailure code.OutOfMemory) ⊎ IsTrue (is_disk_error e)

-- the text of a statement is wrong, or names what the schema hasn't
abbrev pub IsOfText : Error → Type 0
IsOfText (SqlInputError fault) = Unit {0}
IsOfText _ = ⊥
