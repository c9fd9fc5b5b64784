-- What a text that is understood means.
use Rattle.std.proofs.Common.{◌≡◌, Ok, Err, Result}
use Rattle.sqlite.specs.Command.{Command}
use Rattle.sqlite_resolve.specs.declared.compiled.Compiled.{Compiled}
use Rattle.sqlite_resolve.specs.declared.error.CompileError.{CompileError}
use Rattle.sqlite.proofs.Callers.{command_of}
use Rattle.dip_store_sql.specs.Asking.{command_in}

pub commanded : (r : Result Compiled CompileError) (command : Command) → command_in r command → command_of r ≡ command
commanded (Ok c) command h = h
commanded (Err e) command h = absurd h
