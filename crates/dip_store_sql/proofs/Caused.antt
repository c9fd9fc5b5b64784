-- A cause that is told of a part of a call is told of the whole.
use Rattle.std.proofs.Common.{inl, inr, ◌≤◌, arith}
use Rattle.sqlite.specs.declared.error.Error.{Error}
use Rattle.sqlite.specs.State.{State}
use Rattle.dip_store_sql.specs.Causes.{Faulted, IsCaused}

pub caused_weaker : (one two : Type 0) (e : Error) → (one → two) → IsCaused one e → IsCaused two e
caused_weaker one two e turn (inl memory) = inl memory
caused_weaker one two e turn (inr disk) = inr (disk.0, turn disk.1)

-- a fault counts after another call
pub faulted_late : (a b c : State) → a.faults ≤ b.faults → Faulted b c → Faulted a c
faulted_late a b c counts more = omega (arith, counts, more)

-- and before one
pub faulted_early : (a b c : State) → b.faults ≤ c.faults → Faulted a b → Faulted a c
faulted_early a b c counts more = omega (arith, counts, more)
