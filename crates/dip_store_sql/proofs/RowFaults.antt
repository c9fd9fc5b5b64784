-- What a part fails for is what the whole fails for.
use Rattle.std.proofs.Common.{◌≡◌, Err, IfErr, Ok, Result, sym, subst}
use Rattle.std.specs.Result.{IsErrAnd}
use Rattle.sqlite.specs.declared.error.Error.{Error}
use Rattle.dip_store_sql.proofs.Blamed.{want_blamed}
use Rattle.dip_store_sql.proofs.Caused.{caused_weaker}
use Rattle.dip_store_sql.proofs.Told.{want_weaker}
use Rattle.dip_store_sql.specs.Causes.{IsCaused}
use Rattle.dip_store_sql.specs.Refusals.{IsWant}
use Rattle.dip_store_sql.specs.RowFaults.{BlamesFor, FailsFor, IsFromOutside}
use Rattle.dip_store_sql.specs.declared.row_faults.RowFault.{RowFault}
use Rattle.dip_store_sql.specs.declared.row_faults.RowFault.TheVariants.{Memory, Sql, Misfit}

pub outside_weaker : (one two : Type 0) (e : RowFault) → (one → two) → IsFromOutside one e → IsFromOutside two e
outside_weaker one two Memory turn own = tt
outside_weaker one two (Sql e) turn own = caused_weaker one two e turn own
outside_weaker one two Misfit turn own = own

-- of a whole answer
pub outside_of : {X : Type 0} (one two : Type 0) (r : Result X RowFault) → (one → two) → IfErr r (IsFromOutside one) → IfErr r (IsFromOutside two)
outside_of one two (Ok x) turn own = tt
outside_of one two (Err e) turn own = outside_weaker one two e turn own

-- of a row that was read
pub read_of : {X : Type 0} (two : Type 0) (r : Result X RowFault) → IfErr r (IsFromOutside ⊥) → IfErr r (IsFromOutside two)
read_of two r own = outside_of ⊥ two r (λ none. absurd none) own

-- a fault that is handed on
pub passed_on : {X : Type 0} (one two : Type 0) (e : RowFault) (r : Result X RowFault) → IsErrAnd r (λ f. f ≡ e) → (one → two) → IsFromOutside one e → IfErr r (IsFromOutside two)
passed_on one two e (Ok x) gives turn own = tt
passed_on one two e (Err f) gives turn own = subst (IsFromOutside two) (sym gives) (outside_weaker one two e turn own)

-- and an error of the database
pub told_on : {X : Type 0} (one two : Type 0) (e : Error) (r : Result X RowFault) → IsErrAnd r (λ f. f ≡ Sql e) → (one → two) → IsCaused one e → IfErr r (IsFromOutside two)
told_on one two e (Ok x) gives turn own = tt
told_on one two e (Err f) gives turn own = subst (IsFromOutside two) (sym gives) (caused_weaker one two e turn own)

-- an error of the database that is want
pub sql_fails : {X : Type 0} (one two misfit : Type 0) (e : Error) (r : Result X RowFault) → IsErrAnd r (λ f. f ≡ Sql e) → (one → two) → IsWant one e → IfErr r (FailsFor two misfit)
sql_fails one two misfit e (Ok x) gives turn want = tt
sql_fails one two misfit e (Err f) gives turn want = subst (FailsFor two misfit) (sym gives) (want_weaker one two e turn want)

-- a fault of a part
pub fault_fails : (f g one two : Type 0) (e : RowFault) → (f → g) → (one → two) → FailsFor f one e → FailsFor g two e
fault_fails f g one two Memory late turn fails = tt
fault_fails f g one two (Sql e) late turn fails = want_weaker f g e late fails
fault_fails f g one two Misfit late turn fails = turn fails

-- another fault that is passed on
pub same_fails : {X : Type 0} (f g one two : Type 0) (e : RowFault) (r : Result X RowFault) → IsErrAnd r (λ x. x ≡ e) → (f → g) → (one → two) → FailsFor f one e → IfErr r (FailsFor g two)
same_fails f g one two e (Ok x) gives late turn fails = tt
same_fails f g one two e (Err x) gives late turn fails = subst (FailsFor g two) (sym gives) (fault_fails f g one two e late turn fails)

-- what fails for want tells of the disk only where that is to blame
pub fails_blame : (fault misfit : Type 0) (e : RowFault) → FailsFor fault misfit e → BlamesFor fault e
fails_blame fault misfit Memory fails = tt
fails_blame fault misfit (Sql e) fails = want_blamed fault e fails
fails_blame fault misfit Misfit fails = tt

pub result_blames : {X : Type 0} (fault misfit : Type 0) (r : Result X RowFault) → IfErr r (FailsFor fault misfit) → IfErr r (BlamesFor fault)
result_blames fault misfit (Ok x) fails = tt
result_blames fault misfit (Err e) fails = fails_blame fault misfit e fails

-- an answer whose fault is one of a part
pub result_fails : {X : Type 0} (f g one two : Type 0) (r : Result X RowFault) → (f → g) → (one → two) → IfErr r (FailsFor f one) → IfErr r (FailsFor g two)
result_fails f g one two (Ok x) late turn fails = tt
result_fails f g one two (Err e) late turn fails = fault_fails f g one two e late turn fails
