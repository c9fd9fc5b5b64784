-- A transaction of parts fails for want alone where each of its parts does.
use Rattle.std.proofs.Common.{◌≡◌, true, inl, inr, Ok, Err, Result, IsTrue, IfErr, refl, sym, ap, ◌∙◌, arith}
use Rattle.dip_store_sql.specs.StoreError.{StoreError}
use Rattle.dip_store_sql.specs.StoreError.TheVariants.{OutOfMemory, Io, Corrupt, Full, Broken, Unstorable}
use Rattle.sqlite.specs.declared.error.Error.{Error}
use Rattle.sqlite.specs.Tree.{Trees}
use Rattle.sqlite.specs.Store.{Ghosts}
use Rattle.sqlite.specs.Held.{Held, state}
use Rattle.sqlite.specs.State.{State, HasCause, HasCleanDisk, Survives, is_disk_error, store_error}
use Rattle.sqlite.specs.Steps.{FailsToCommit}
use Rattle.dip_store_tables.specs.Tables.{Tables}
use Rattle.dip_store_sql.specs.Calls.{IsKept, does_show, is_honest, tables_in}
use Rattle.dip_store_sql.specs.Causes.{Faulted, has_faulted}
use Rattle.dip_store_sql.proofs.Blamed.{want_blamed}
use Rattle.dip_store_sql.proofs.Caused.{faulted_late}
use Rattle.dip_store_sql.proofs.Parts.{fails, went}
use Rattle.dip_store_sql.specs.Refusals.{IsBlamed, IsWant}
use Rattle.dip_store_sql.specs.Transactions.{Does, IsReady}
use Rattle.dip_store_sql.proofs.Told.{want_weaker}

-- an open store fails for want
caused : (old new : State) (e : Error) (cause : StoreError) → e ≡ store_error cause → HasCause old new ⊥ cause → IsTrue old.is_open → IsWant (Faulted old new) e
caused old new e OutOfMemory is why up = inl (inl is)
caused old new e Io is why up = inl (inr (ap is_disk_error is, why))
caused old new e Corrupt is why up = inl (inr (ap is_disk_error is, why))
caused old new e Full is why up = inl (inr (ap is_disk_error is, why))
caused old new e Broken is why up = absurd (let x = sym up ∙ why in cc)
caused old new e Unstorable is why up = absurd why

module _ {S : Type 0} (g : Ghosts S) (f : Tables → Tables) (Keep : Tables → Type 0) (old last end : Held S) (kept : IsKept g old) (shows : does_show g old) where
  abbrev begun : Held S
  begun = record old { in_transaction = true }

  ready : IsReady (state g begun)
  ready = record { inside = refl; up = shows.1; unlimited = kept.unlimited; good = kept.good }

  -- a part failed
  pub parts_want : (X : Type 0) (e : Error) → Does f Keep (state g begun) (state g last) (fails X Error e) → is_honest g last → Keep (f (tables_in g old)) → IsWant (has_faulted g old last) e
  parts_want X e parts clean keep = parts.fails clean ready keep

  pub parts_blame : (X : Type 0) (e : Error) → Does f Keep (state g begun) (state g last) (fails X Error e) → is_honest g last → IsBlamed (has_faulted g old last) e
  parts_blame X e parts clean = parts.blames clean ready

  -- the parts went well: whatever the tables are to be, the commit fails for want alone
  pub commit_wants : (X Y : Type 0) (x : X) (r : Result Y Error) (Commits : Trees → Type 0) → Does f Keep (state g begun) (state g last) (went X Error x) → Survives (state g last) (state g end) Commits
      → (HasCleanDisk (state g end) → IfErr r (FailsToCommit (state g last) (state g end))) → is_honest g end → IfErr r (IsWant (has_faulted g old end))
  commit_wants X Y x (Ok y) Commits parts survives err clean = tt
  commit_wants X Y x (Err e) Commits parts survives err clean =
      let late = parts.ready (omega (arith, clean, survives.clean)) ready in
      elim (err clean) [
        | inl f ↦ want_weaker _ _ e (faulted_late (state g old) (state g last) (state g end) parts.writes.survives.counts) (caused (state g last) (state g end) e f.0 f.1 f.2 late.up)
        | inr out ↦ absurd (let x = sym late.inside ∙ out.1 in cc)
      ]

-- what is want is told of the disk only where that is to blame
pub want_blames : {Y : Type 0} (fault : Type 0) (r : Result Y Error) → IfErr r (IsWant fault) → IfErr r (IsBlamed fault)
want_blames fault (Ok y) want = tt
want_blames fault (Err e) want = want_blamed fault e want
