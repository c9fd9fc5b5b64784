-- What a text that is only prepared tells.
use Rattle.std.proofs.Common.{◌≡◌, ◌⊎◌, inl, inr, IsTrue, ℕ, List, [], Ok, Err, Result, length, replicate, true, false, refl, sym, ap, subst, ◌∙◌, ◌≤◌}
use Rattle.std.proofs.lemmas.List.{length-replicate}
use Rattle.sqlite.specs.declared.error.Error.{Error}
use Rattle.sqlite.specs.declared.error.Error.TheVariants.{SqlInputError}
use Rattle.sqlite.specs.declared.types.Value.TheVariants.{Null}
use Rattle.sqlite.specs.Order.{Row}
use Rattle.sqlite.specs.Listing.{understood}
use Rattle.sqlite.specs.Outline.{Outline}
use Rattle.sqlite.specs.Store.{Ghosts}
use Rattle.sqlite.specs.Held.{Held, state}
use Rattle.sqlite.specs.Schema.{Schema}
use Rattle.sqlite.specs.State.{HasCause, HasCleanDisk, Survives, State, IsNotRun, IsUnchanged, KeepsCommit, is_disk_error, store_error}
use Rattle.sqlite.specs.Steps.{Outlines}
use Rattle.dip_store_sql.specs.Compiled.{Compiled}
use Rattle.dip_store_sql.specs.CompileError.{CompileError}
use Rattle.dip_store_sql.specs.StoreError.{StoreError}
use Rattle.dip_store_sql.specs.StoreError.TheVariants.{OutOfMemory, Io, Corrupt, Full, Broken, Unstorable}
use Rattle.sqlite.specs.Given.{IsPlain}
use Rattle.dip_store_sql.specs.Causes.{Faulted, IsCaused}
use Rattle.dip_store_sql.specs.Faults.{IsOfText}
use Rattle.dip_store_schema.specs.Alone.{LeavesAlone}
use Rattle.dip_store_sql.specs.Asking.{IsWhole}
use Rattle.dip_store_schema.specs.Known.{IsKnown, is_of_text}
use Rattle.dip_store_sql.proofs.Parts.{fails, went}

-- a text that was prepared is understood
outlined : (r : Result Compiled CompileError) (s : Outline) → Outlines r s → (c : Compiled) × (r ≡ Ok c)
outlined (Ok c) s h = (c, refl)
outlined (Err e) s h = absurd h

pub prepared : (schema : Schema) (text : List ℕ) (s : Outline) → Outlines (understood schema text) s → IsKnown schema text
prepared schema text s h = outlined (understood schema text) s h

-- an error of a text, and one that isn't
pub of_text : (e : Error) → is_of_text e ≡ true → IsOfText e
of_text (SqlInputError fault) is = tt
of_text _ is = absurd (let x : false ≡ true = is in cc)

not_of_text : (e : Error) → is_of_text e ≡ false → IsOfText e → ⊥
not_of_text (SqlInputError fault) is h = absurd (let x : true ≡ false = is in cc)
not_of_text _ is h = h

pub unchanged_keeps : (old new : State) → IsUnchanged old new → KeepsCommit old new
unchanged_keeps old new u = record { was_open = λ _. u.0.was_open; committed = λ _. u.0.committed_is }

module _ (sql : List ℕ) (old new : State) (e : Error) (told : (params : Row) → IsNotRun old new sql params e) where
  -- nothing was committed
  pub told_keeps : KeepsCommit old new
  unfolding IsNotRun
  told_keeps = elim (told []) [
    | inl none ↦ unchanged_keeps old new none.1
    | inr fault ↦ record { was_open = fault.3.was_open; committed = λ up. (fault.3.undone up).1 }
  ]

  -- what it shows is as before, or as it was committed
  pub told_shows : IsTrue new.is_open → (new.now ≡ old.now) ⊎ (new.now ≡ old.committed)
  unfolding IsNotRun
  told_shows up = elim (told []) [
    | inl none ↦ inl none.1.0.now_is
    | inr fault ↦ inr (fault.3.undone up).0
  ]

  -- an error of a text that is whole wherever it is understood is of that text, want of memory, or one of the disk where the store told of a fault of it
  pub told_caused : IsTrue old.is_open → IsWhole sql → is_of_text e ≡ false → IsCaused (Faulted old new) e
  unfolding IsNotRun
  told_caused up whole other = elim (told []) [
    | inl none ↦ elim none.0 [
      | inl a ↦ absurd (not_of_text e other (subst IsOfText (sym a.2) tt))
      | inr b ↦ known b.0 b.1 (whole.reads old.now.schema b.0 b.1)
    ]
    | inr fault ↦ by_store fault.0 fault.1 fault.2
  ]
    where
      by_store : (cause : StoreError) → e ≡ store_error cause → HasCause old new ⊥ cause → IsCaused (Faulted old new) e
      by_store OutOfMemory is why = inl is
      by_store Io is why = inr (ap is_disk_error is, why)
      by_store Corrupt is why = inr (ap is_disk_error is, why)
      by_store Full is why = inr (ap is_disk_error is, why)
      by_store Broken is why = absurd (let x = sym up ∙ why in cc)
      by_store Unstorable is why = absurd why

      known : (c : Compiled) → understood old.now.schema sql ≡ Ok c → (length sql ≤ c.tail) × IsPlain (Ok c) → IsCaused (Faulted old new) e
      known c is both = elim (told (replicate (length c.names) Null)) [
        | inl none ↦ absurd (elim none.0 [
          | inl a ↦ (let x = sym is ∙ a.1 in cc)
          | inr b ↦ let x = sym is ∙ b.1 in let same : c ≡ b.0 = cc in elim b.2 [
            | inl d ↦ d.0 (subst (λ (k : Compiled). length sql ≤ k.tail) same both.0)
            | inr d ↦ elim d [
              | inl f ↦ f.0 (subst (λ (k : Compiled). length (replicate (length c.names) Null) ≡ length k.names) same (length-replicate (length c.names) Null))
              | inr f ↦ f.0 (subst (λ (k : Compiled). k.formats ≡ []) same both.1.1)
            ]
          ]
        ])
        | inr fault ↦ by_store fault.0 fault.1 fault.2
      ]

module _ {S : Type 0} (g : Ghosts S) (old new : Held S) (survives : Survives (state g old) (state g new) (λ _. ⊥)) (mode : old.in_transaction ≡ false → new.in_transaction ≡ false) where
  pub alone_ok : {X : Type 0} (x : X) → (HasCleanDisk (state g new) → IsUnchanged (state g old) (state g new)) → LeavesAlone g old new (went X Error x)
  alone_ok x same = record { survives = survives; mode = mode; keeps = λ clean. unchanged_keeps _ _ (same clean); shows = λ clean up. inl (same clean).0.now_is; same = λ clean up. same clean }

  pub alone_err : (X : Type 0) (sql : List ℕ) (e : Error) → (HasCleanDisk (state g new) → (params : Row) → IsNotRun (state g old) (state g new) sql params e) → LeavesAlone g old new (fails X Error e)
  alone_err X sql e told = record { survives = survives; mode = mode; keeps = λ clean. told_keeps sql (state g old) (state g new) e (told clean); shows = λ clean up. told_shows sql (state g old) (state g new) e (told clean) up; same = λ clean up. tt }
