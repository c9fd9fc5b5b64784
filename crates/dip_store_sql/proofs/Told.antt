-- A want that is told of a part is one of the whole.
use Rattle.std.proofs.Common.{inl, inr, Err, IfErr, Ok, Result}
use Rattle.sqlite.specs.declared.error.Error.{Error}
use Rattle.dip_store_sql.proofs.Caused.{caused_weaker}
use Rattle.dip_store_sql.specs.Refusals.{IsWant}

pub want_weaker : (one two : Type 0) (e : Error) → (one → two) → IsWant one e → IsWant two e
want_weaker one two e turn (inl caused) = inl (caused_weaker one two e turn caused)
want_weaker one two e turn (inr room) = inr room

-- of a whole answer
pub want_of : {X : Type 0} (one two : Type 0) (r : Result X Error) → (one → two) → IfErr r (IsWant one) → IfErr r (IsWant two)
want_of one two (Ok x) turn want = tt
want_of one two (Err e) turn want = want_weaker one two e turn want
