-- Reading a column: where it has a value of its kind, it fails only for want of memory; and no fault of it is the disk's.
use Rattle.std.proofs.Common.{◌≡◌, ◌≢◌, ◌<◌, ℕ, List, length, Result, Ok, Err, IfErr, inl, inr, true, false, Bool, sym, ap, ◌∙◌}
use Rattle.sqlite.specs.declared.error.Error.{Error}
use Rattle.sqlite.specs.declared.error.Error.TheVariants.{SqliteFailure}
use Rattle.sqlite.specs.declared.error.ErrorCode.TheVariants.{OutOfMemory}
use Rattle.sqlite.specs.declared.types.Value.{Value}
use Rattle.sqlite.specs.declared.types.Value.TheVariants.{Text as Words}
use Rattle.sqlite.specs.Order.{Row, column}
use Rattle.sqlite.specs.Reading.{IsReadError}
use Rattle.dip_store_rows.specs.Texts.{IsText}
use Rattle.dip_store_sql.specs.Causes.{IsCaused}
use Rattle.dip_store_sql.specs.Refusals.{IsBlamed, is_outage}
use Rattle.dip_store_sql.specs.Values.{HasText}

pub reads : {X : Type 0} (r : Result X Error) (row : Row) (at : ℕ) (P : Type 0)
    → IfErr r (IsReadError at (column row at)) → IfErr r (λ e. e ≢ SqliteFailure OutOfMemory → at < length row → P → ⊥)
    → at < length row → P → IfErr r (IsCaused ⊥)
reads (Ok x) row at P named kind low is = tt
reads (Err e) row at P named kind low is = by_cause named
  where
    other : (e ≢ SqliteFailure OutOfMemory) → IsCaused ⊥ e
    other off = absurd (kind off low is)

    by_cause : IsReadError at (column row at) e → IsCaused ⊥ e
    by_cause (inl a) = other (λ same. cc)
    by_cause (inr (inl a)) = other (λ same. cc)
    by_cause (inr (inr (inl a))) = other (λ same. cc)
    by_cause (inr (inr (inr (inl a)))) = other (λ same. cc)
    by_cause (inr (inr (inr (inr same)))) = inl same

-- an error of reading a column is none of the disk
unblamed : (at : ℕ) (v : Value) (e : Error) → IsReadError at v e → IsBlamed ⊥ e
unblamed at v e (inl is) out = absurd (let x : false ≡ true = sym (ap is_outage is) ∙ out in cc)
unblamed at v e (inr (inl is)) out = absurd (let x : false ≡ true = sym (ap is_outage is) ∙ out in cc)
unblamed at v e (inr (inr (inl is))) out = absurd (let x : false ≡ true = sym (ap is_outage is) ∙ out in cc)
unblamed at v e (inr (inr (inr (inl is)))) out = absurd (let x : false ≡ true = sym (ap is_outage is) ∙ out in cc)
unblamed at v e (inr (inr (inr (inr is)))) out = absurd (let x : false ≡ true = sym (ap is_outage is) ∙ out in cc)

pub read_unblamed : {X : Type 0} (r : Result X Error) (at : ℕ) (v : Value) → IfErr r (IsReadError at v) → IfErr r (IsBlamed ⊥)
read_unblamed (Ok x) at v named = tt
read_unblamed (Err e) at v named = unblamed at v e named

pub has_text : (r : Row) (at : ℕ) (t : List ℕ) → at < length r → column r at ≡ Words t → IsText t → HasText r at
has_text r at t low is it = record { there = low; text = t; is = is; utf8 = it.utf8 }
