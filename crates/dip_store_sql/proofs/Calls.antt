-- What a statement of a transaction does, and that it fails for want alone.
use Rattle.std.proofs.Common.{◌≡◌, inl, inr, ℕ, List, [], ◌∷◌, ◌++◌, true, false, IsTrue, Ok, Err, Result, refl, sym, ap, subst, ◌∙◌}
use Rattle.std.specs.List.{AllByRecursion}
use Rattle.sqlite.specs.declared.error.Error.{Error}
use Rattle.sqlite.specs.declared.error.Error.TheVariants.{SqliteFailure}
use Rattle.sqlite.specs.declared.error.ErrorCode.TheVariants.{TransactionState}
use Rattle.sqlite.specs.Store.{Ghosts}
use Rattle.sqlite.specs.Held.{Held, state}
use Rattle.sqlite.specs.Order.{Row}
use Rattle.sqlite.specs.Table.{Table}
use Rattle.sqlite.specs.Tree.{Trees}
use Rattle.sqlite.specs.Command.{Command}
use Rattle.sqlite.specs.Command.TheVariants.{Commit, Rollback, Release, RollbackTo}
use Rattle.sqlite.specs.Listing.{understood}
use Rattle.sqlite.specs.State.{State, HasCleanDisk, Survives, EndsScope, Executes, ExecutesInside}
use Rattle.sqlite_resolve.specs.declared.compiled.Compiled.{Compiled}
use Rattle.sqlite_resolve.specs.declared.error.CompileError.{CompileError}
use Rattle.dip_store_sql.specs.Asking.{command_in}
use Rattle.dip_store_sql.specs.Schema.{our_schema}
use Rattle.dip_store_rows.specs.Tables.{Tables}
use Rattle.dip_store_sql.specs.Calls.{Writes}
use Rattle.dip_store_sql.specs.Causes.{Faulted, IsCaused}
use Rattle.dip_store_sql.specs.Good.{IsGood}
use Rattle.dip_store_sql.specs.Rows.{tables_of}
use Rattle.dip_store_sql.specs.Refusals.{IsBlamed, IsWant}
use Rattle.dip_store_sql.specs.Storing.{AreSpared, CanStand, Stores, StoresBehind}
use Rattle.dip_store_sql.specs.Transactions.{Does, FailsOutside, IsReady}
use Rattle.dip_store_sql.proofs.Blamed.{IsAlwaysCalm, edits_calm, executes_blamed}
use Rattle.dip_store_sql.proofs.Failing.{edits_rows, other_than}
use Rattle.dip_store_sql.proofs.Parts.{one}

module _ (sql : List ℕ) (params : Row) (old new : State) (command : Command) (means : command_in (understood our_schema sql) command) (edits : edits_rows command ≡ true) where
  -- it doesn't end the transaction
  goes_on : IsReady old → EndsScope 0 sql params old → ⊥
  unfolding EndsScope
  goes_on ready ends = go (understood our_schema sql) (ap (λ s. understood s sql) ready.good.schema) means
    where
      go : (r : Result Compiled CompileError) → understood old.now.schema sql ≡ r → command_in r command → ⊥
      go (Ok c) is does =
          let x = sym is ∙ ends.1.is in
          let same : c ≡ ends.0 = cc in
          let here : command ≡ ends.0.command = sym does ∙ ap (λ (k : Compiled). k.command) same in
          elim ends.2 [
            | inl end ↦ elim end [ inl e ↦ other_than command Commit edits refl (here ∙ e) | inr e ↦ other_than command Rollback edits refl (here ∙ e) ]
            | inr end ↦ elim end.1 [ inl e ↦ other_than command (Release end.0) edits refl (here ∙ e) | inr e ↦ other_than command (RollbackTo end.0) edits refl (here ∙ e) ]
          ]
      go (Err e) is does = does

  -- it tells of the disk only where the store did
  blamed : (e : Error) → IsReady old → Executes sql params old new (Err e) → IsBlamed (Faulted old new) e
  blamed e ready ran = executes_blamed sql params old new e ready.up (λ c is. calm (understood our_schema sql) (ap (λ s. understood s sql) ready.good.schema) c is means) ran
    where
      calm : (r : Result Compiled CompileError) → understood old.now.schema sql ≡ r → (c : Compiled) → understood old.now.schema sql ≡ Ok c → command_in r command → IsAlwaysCalm c.command
      calm (Ok k) here c is does =
          let x = sym here ∙ is in
          let same : k ≡ c = cc in
          subst IsAlwaysCalm (sym does ∙ ap (λ (k : Compiled). k.command) same) (edits_calm command edits)
      calm (Err e) here c is does = absurd does

  -- where it writes so, it does so
  does_so : (f : Tables → Tables) (Keep : Tables → Type 0) (r : Result ℕ Error) → Writes f old new r → (HasCleanDisk new → IsTrue old.in_transaction → ExecutesInside 0 sql params old new r)
      → ((e : Error) → IsReady old → Keep (f (tables_of old.now.trees)) → Executes sql params old new (Err e) → IsWant (Faulted old new) e) → Does f Keep old new r
  does_so f Keep (Ok count) writes runs wanting = record {
    writes = writes;
    ready = λ clean ready.
        let it = writes.runs clean in
        record {
          inside = it.inside ready.inside;
          up = (runs clean ready.inside).1.is_open;
          unlimited = writes.survives.limit ∙ ready.unlimited;
          good = (it.good ready.good).0;
        };
    fails = λ clean ready keep. tt;
    blames = λ clean ready. tt;
  }
  does_so f Keep (Err e) writes runs wanting = record {
    writes = writes;
    ready = λ clean ready. tt;
    fails = λ clean ready keep. elim (runs clean ready.inside) [
      | inl ran ↦ wanting e ready keep ran.0
      | inr ended ↦ absurd (goes_on ready ended.0)
    ];
    blames = λ clean ready. elim (runs clean ready.inside) [
      | inl ran ↦ blamed e ready ran.0
      | inr ended ↦ absurd (goes_on ready ended.0)
    ];
  }

  -- its rows, where they can stand
  pub stores_one : (Allow : Tables → Type 0) (table : Table) (rows : Trees → List Row) (r : Result ℕ Error) → (HasCleanDisk new → IsTrue old.in_transaction → ExecutesInside 0 sql params old new r)
      → ((e : Error) → IsReady old → Allow (tables_of old.now.trees) → AllByRecursion (CanStand table) (rows old.now.trees) → Executes sql params old new (Err e) → IsCaused (Faulted old new) e)
      → ((count : ℕ) → IsReady old → Executes sql params old new (Ok count) → AreSpared table old.now.trees new.now.trees) → Stores table Allow rows old new r
  stores_one Allow table rows (Ok count) runs cause spares = record { fails = λ clean ready may fits. tt; others = λ clean ready. spares count ready (runs clean ready.inside).0 }
  stores_one Allow table rows (Err e) runs cause spares = record {
    fails = λ clean ready may fits. elim (runs clean ready.inside) [
      | inl ran ↦ cause e ready may fits ran.0
      | inr ended ↦ absurd (goes_on ready ended.0)
    ];
    others = λ clean ready. tt;
  }

  pub behind_one : (Allow : Tables → Type 0) (table : Table) (row : List Row → Row) (r : Result ℕ Error) → Stores table Allow (λ db. row (db table.tree) ∷ []) old new r
      → (HasCleanDisk new → IsTrue old.in_transaction → ExecutesInside 0 sql params old new r)
      → ((count : ℕ) → IsReady old → Executes sql params old new (Ok count) → new.now.trees table.tree ≡ old.now.trees table.tree ++ row (old.now.trees table.tree) ∷ []) → StoresBehind table Allow row old new r
  behind_one Allow table row (Ok count) stores runs stands = record { stores = stores; behind = λ clean ready. stands count ready (runs clean ready.inside).0 }
  behind_one Allow table row (Err e) stores runs stands = record { stores = stores; behind = λ clean ready. tt }

  pub first_one : (Allow : Tables → Type 0) (r : Result ℕ Error) → (HasCleanDisk new → IsTrue old.in_transaction → ExecutesInside 0 sql params old new r)
      → ((e : Error) → IsReady old → Allow (tables_of old.now.trees) → Executes sql params old new (Err e) → IsCaused (Faulted old new) e) → FailsOutside Allow old new r
  first_one Allow (Ok count) runs cause clean ready may = tt
  first_one Allow (Err e) runs cause clean ready may = elim (runs clean ready.inside) [
    | inl ran ↦ cause e ready may ran.0
    | inr ended ↦ absurd (goes_on ready ended.0)
  ]

-- one statement
pub does_one : {S : Type 0} (g : Ghosts S) (sql : List ℕ) (params : Row) (f : Tables → Tables) (Keep : Tables → Type 0) (old new : Held S) (command : Command)
    → command_in (understood our_schema sql) command → edits_rows command ≡ true → (r : Result ℕ Error) → Survives (state g old) (state g new) (λ _. ⊥)
    → ((state g old).in_transaction ≡ false → (r ≡ Err (SqliteFailure TransactionState)) × (new ≡ old))
    → (HasCleanDisk (state g new) → IsTrue (state g old).in_transaction → ExecutesInside 0 sql params (state g old) (state g new) r)
    → ((count : ℕ) → IsGood (state g old).now → Executes sql params (state g old) (state g new) (Ok count) → IsGood (state g new).now × (tables_of (state g new).now.trees ≡ f (tables_of (state g old).now.trees)))
    → ((e : Error) → IsReady (state g old) → Keep (f (tables_of (state g old).now.trees)) → Executes sql params (state g old) (state g new) (Err e) → IsWant (Faulted (state g old) (state g new)) e)
    → Does f Keep (state g old) (state g new) r
does_one g sql params f Keep old new command means edits r survives ended runs does wanting =
    does_so sql params (state g old) (state g new) command means edits f Keep r (one g sql params f old new r survives ended runs does) runs wanting
