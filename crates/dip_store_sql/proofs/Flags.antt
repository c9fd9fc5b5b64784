-- A flag as a value of a column.
use Rattle.std.proofs.Common.{◌≡◌, pos, Bool, true, false, if◌then◌else◌, refl}
use Rattle.sqlite.specs.declared.types.Value.{Value}
use Rattle.sqlite.specs.declared.types.Value.TheVariants.{Int}
use Rattle.dip_store_rows.specs.Made.{number_of}

pub flag : (b : Bool) → ◌≡◌ {A = Value} (Int (if b then pos 1 else pos 0)) (Int (pos (number_of b)))
flag true = refl
flag false = refl
