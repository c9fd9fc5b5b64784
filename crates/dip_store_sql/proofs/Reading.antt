-- What a connection is left as by a query.
use Rattle.std.proofs.Common.{IsTrue, ◌≡◌, ◌⊎◌, inl, inr, ℕ, List, [], Some, None, Option, Ok, Err, Result, subst}
use Rattle.sqlite_trees.specs.declared.error.StoreError.{StoreError}
use Rattle.sqlite_trees.specs.declared.error.StoreError.TheVariants.{OutOfMemory, Io, Corrupt, Full, Broken, Unstorable}
use Rattle.sqlite.specs.Order.{Row}
use Rattle.sqlite.specs.Command.{Command}
use Rattle.sqlite.specs.Command.TheVariants.{Select, Rows}
use Rattle.sqlite.specs.Effect.{Database, RefusesToRead}
use Rattle.sqlite.specs.declared.error.Error.{Error}
use Rattle.sqlite.specs.declared.error.Error.TheVariants.{QueryReturnedNoRows}
use Rattle.sqlite.specs.Listing.{understood}
use Rattle.sqlite_resolve.specs.declared.compiled.Compiled.{Compiled}
use Rattle.sqlite_schema.specs.declared.command.Returning.{Returning}
use Rattle.sqlite.specs.State.{RunsCommand, FailsToShow, ShowsRows, State, store_error, FailsToQuery, IsNotRun, IsUnchanged, IsRolledBack, QueriesRow, Shown}
use Rattle.sqlite.proofs.Callers.{IsPlain}

-- no refusal says that rows lack
not_refused : (limit : Option ℕ) (command : Command) (db : Database) (params : Row) → RefusesToRead limit command db params QueryReturnedNoRows → ⊥
not_refused limit (Select q names) db params (inl h) = let e = h.0 in cc
not_refused limit (Select q names) db params (inr (inl h)) = let e = h.0 in cc
not_refused limit (Select q names) db params (inr (inr h)) = let e = h.0 in cc
not_refused limit (Rows values width names) db params h = let e = h.0 in cc
not_refused limit _ db params h = cc

-- nor does the store
not_store : (cause : StoreError) → ◌≡◌ {A = Error} QueryReturnedNoRows (store_error cause) → ⊥
not_store OutOfMemory e = cc
not_store Io e = cc
not_store Corrupt e = cc
not_store Full e = cc
not_store Broken e = cc
not_store Unstorable e = cc

module _ (sql : List ℕ) (params : Row) (old new : State) (plain : IsPlain (understood old.now.schema sql)) where
  -- a query that fails changes nothing, but that a change under way may be undone
  pub query_fails : (e : Error) → FailsToQuery sql params old new e → IsUnchanged old new ⊎ IsRolledBack old new
  unfolding FailsToQuery IsNotRun
  query_fails e (inl (inl h)) = inl h.1
  query_fails e (inl (inr f)) = inr f.3
  query_fails e (inr h) = let bare = subst IsPlain h.1.is plain in let it = rw bare.0 at h.2 in inl it.3

  -- a query doesn't fail by want of rows
  pub rows_lack : FailsToQuery sql params old new QueryReturnedNoRows → ⊥
  unfolding FailsToQuery IsNotRun
  rows_lack (inl (inl h)) = elim h.0 [
    | inl a ↦ let e = a.2 in cc
    | inr b ↦ elim b.2 [ inl c ↦ let e = c.1 in cc | inr d ↦ elim d [ inl c ↦ let e = c.1 in cc | inr c ↦ let e = c.1 in cc ] ]
  ]
  rows_lack (inl (inr f)) = not_store f.0 f.1
  rows_lack (inr h) = let bare = subst IsPlain h.1.is plain in let it = rw bare.0 at h.2 in not_refused _ _ _ _ it.2

  shown_same : (rows : List Row) → Shown sql params old new rows → IsUnchanged old new
  unfolding Shown
  shown_same rows h = let bare = subst IsPlain h.1.is plain in let it = rw bare.0 at h.2 in it.3

  -- a row or none is shown and nothing changes
  pub row_same : (row : Row) → QueriesRow sql params old new (Ok row) → IsUnchanged old new
  unfolding QueriesRow
  row_same row (inl h) = h.1
  row_same row (inr h) = shown_same h.0 h.1

  pub none_same : QueriesRow sql params old new (Err QueryReturnedNoRows) → IsUnchanged old new
  unfolding QueriesRow
  none_same (inl h) = absurd (rows_lack h)
  none_same (inr h) = shown_same [] h.1

  pub none_shown : QueriesRow sql params old new (Err QueryReturnedNoRows) → Shown sql params old new []
  unfolding QueriesRow
  none_shown (inl h) = absurd (rows_lack h)
  none_shown (inr h) = h.1

  pub err_undone : (e : Error) → QueriesRow sql params old new (Err e) → IsUnchanged old new ⊎ IsRolledBack old new
  unfolding QueriesRow
  err_undone e (inl h) = query_fails e h
  err_undone e (inr h) = inl (shown_same [] h.1)

module _ (sql : List ℕ) (params : Row) (old new : State) where
  run_open : (c : Compiled) (ps : Row) (e : Error) → RunsCommand old new sql c ps (Err e) → IsTrue new.is_open → IsTrue old.is_open
  run_open c ps e (inl h) up = h.1.0.was_open
  run_open c ps e (inr f) up = f.3.was_open up

  failed_open : (c : Compiled) (ps : Row) (e : Error) (o : Option Returning) → FailsToShow old new sql c ps e o → IsTrue new.is_open → IsTrue old.is_open
  failed_open c ps e None h up = h.3.0.was_open
  failed_open c ps e (Some what) h up = run_open c ps e h up

  refused_open : (e : Error) → FailsToQuery sql params old new e → IsTrue new.is_open → IsTrue old.is_open
  unfolding FailsToQuery IsNotRun
  refused_open e (inl (inl h)) up = h.1.0.was_open
  refused_open e (inl (inr f)) up = f.3.was_open up
  refused_open e (inr h) up = failed_open h.0 _ e h.0.returning h.2 up

  rows_open : (c : Compiled) (ps : Row) (rows : List Row) (o : Option Returning) → ShowsRows old new sql c ps rows o → IsTrue old.is_open
  rows_open c ps rows None h = h.3.0.was_open
  rows_open c ps rows (Some what) h = h.1.shown.was_open

  -- a call on a connection that was shut leaves it shut
  pub row_open : (r : Result Row Error) → QueriesRow sql params old new r → IsTrue new.is_open → IsTrue old.is_open
  unfolding QueriesRow Shown
  row_open (Ok row) (inl h) up = h.1.0.was_open
  row_open (Ok row) (inr h) up = rows_open h.1.0 _ h.0 h.1.0.returning h.1.2
  row_open (Err e) (inl h) up = refused_open e h up
  row_open (Err e) (inr h) up = rows_open h.1.0 _ [] h.1.0.returning h.1.2
