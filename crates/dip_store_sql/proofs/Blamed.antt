-- A statement that writes tells of the disk only where the store did.
use Rattle.std.proofs.Common.{◌≡◌, inl, inr, ℕ, ℤ, List, [], ◌∷◌, ◌++◌, length, fold, Bool, true, false, Some, None, Option, option_map, Ok, Err, Result, IfErr, IsTrue, MatchBool, slice_get, refl, sym, ap, subst, ◌∙◌}
use Rattle.sqlite.specs.declared.types.Value.TheVariants.{Null}
use Rattle.sqlite_trees.specs.declared.error.StoreError.{StoreError}
use Rattle.sqlite_trees.specs.declared.error.StoreError.TheVariants.{OutOfMemory, Io, Corrupt, Full, Broken, Unstorable}
use Rattle.sqlite_resolve.specs.declared.compiled.Compiled.{Compiled}
use Rattle.sqlite_schema.specs.declared.schema.Among.{Among}
use Rattle.sqlite_schema.specs.declared.schema.Keys.{Keys}
use Rattle.sqlite_schema.specs.declared.schema.Constraint.TheVariants.{ForeignKey}
use Rattle.sqlite_schema.specs.declared.command.Returning.{Returning}
use Rattle.sqlite_schema.specs.declared.program.Program.{Program}
use Rattle.sqlite_schema.specs.Rules.{Refers}
use Rattle.sqlite_rules.specs.declared.error.Refusal.{Refusal}
use Rattle.sqlite_rules.specs.declared.error.Refusal.TheVariants.{Violates, Mismatch, NoRowid, BadReference, TooDeep}
use Rattle.sqlite_rules.specs.Calls.{ids_of}
use Rattle.sqlite.specs.Edit.{Edit, edit_of, taken_by}
use Rattle.sqlite.specs.declared.error.Error.{Error}
use Rattle.sqlite.specs.declared.error.Error.TheVariants.{SqliteFailure, InvalidQuery, ExecuteReturnedResults}
use Rattle.sqlite.specs.declared.error.ErrorCode.TheVariants as code
use Rattle.sqlite.specs.Order.{Row}
use Rattle.sqlite.specs.Tree.{Trees}
use Rattle.sqlite.specs.Table.{Table}
use Rattle.sqlite.specs.Schema.{Schema}
use Rattle.sqlite.specs.Command.{Command}
use Rattle.sqlite.specs.Command.TheVariants.{Delete, Insert, Rows, Select, Update}
use Rattle.sqlite.specs.Source.{Source}
use Rattle.sqlite.specs.Source.TheVariants.{Values, Query}
use Rattle.sqlite.specs.Rowids.TheVariants.{Given}
use Rattle.sqlite.specs.Effect.{Database, RefusesQuery, RefusesToRead, edit_error}
use Rattle.sqlite.specs.Does.{AtPlace, Concludes, Counted, Does, OnRows, Returns, Shows, Tally, Tested, WritesRows}
use Rattle.sqlite.specs.Rows.{Counter, CounterIn, Counts, CountsIn, Edited, Gives, Inserts, Part, Queried, Refuses, Sourced, Task, Then, Written, count_of, counting, higher, last_id, rowids_for, sequence, shown, stamped}
use Rattle.sqlite.specs.Listing.{understood}
use Rattle.sqlite.specs.Clock.{timed}
use Rattle.sqlite.specs.declared.run.Mode.{Mode}
use Rattle.sqlite.specs.State.{State, Executes, ExecutesIn, FailsToQuery, HasCause, IsMisplaced, IsNotRun, RunsAlone, RunsCommand, mode_of, shows_rows, store_error, text_of}
use Rattle.dip_store_sql.specs.Causes.{Faulted}
use Rattle.dip_store_sql.specs.Refusals.{IsBlamed, IsWant, is_outage}
use Rattle.dip_store_sql.proofs.Failing.{edits_rows}

-- ---- what the database refuses tells of no outage

abbrev pub IsCalm : {A : Type 0} → Part A → Type 0
IsCalm P = (e : Error) → P (Err (Some e)) → is_outage e ≡ false

then_calm : {A B : Type 0} (First : Part A) (Next : A → Part B) → IsCalm First → ((a : A) → IsCalm (Next a)) → IsCalm (Then First Next)
then_calm First Next first next e (inl s) = let x = s.2 in let same : s.0 ≡ Some e = cc in first e (subst (λ (stop : Option Error). First (Err stop)) same s.1)
then_calm First Next first next e (inr on) = next on.0 e on.2

gives_calm : {A : Type 0} (a : A) → IsCalm (Gives a)
gives_calm a e h = absurd (cc)

refuses_calm : {A : Type 0} (refusal : Error) → is_outage refusal ≡ false → (e : Error) → Refuses {A = A} refusal (Err (Some e)) → is_outage e ≡ false
refuses_calm refusal calm e h = let x = h in let same : e ≡ refusal = cc in ap is_outage same ∙ calm

either_calm : (X Y : Type 0) (b : Bool) (e : Error) → (X → is_outage e ≡ false) → (Y → is_outage e ≡ false) → MatchBool b X Y → is_outage e ≡ false
either_calm X Y true e one other h = one h
either_calm X Y false e one other h = other h

edit_calm : (refusal : Refusal) → is_outage (edit_error refusal) ≡ false
edit_calm (Violates rule) = refl
edit_calm Mismatch = refl
edit_calm BadReference = refl
edit_calm NoRowid = refl
edit_calm TooDeep = refl

edited_calm : (schema : Schema) (keys : Keys) (db : Trees) (edit : Edit) → IsCalm (Edited schema keys db edit)
edited_calm schema keys db edit e h = by h.0 h.2
  where
    by : (refusal : Option Refusal) → Some e ≡ option_map edit_error refusal → is_outage e ≡ false
    by None is = absurd (let x = is in cc)
    by (Some w) is = let x = is in let same : e ≡ edit_error w = cc in ap is_outage same ∙ edit_calm w

query_calm : (limit : Option ℕ) (db : Database) (q : Program) (params : Row) (e : Error) → RefusesQuery limit db q params e → is_outage e ≡ false
query_calm limit db q params e (inl h) = ap is_outage h.0
query_calm limit db q params e (inr (inl h)) = ap is_outage h.0
query_calm limit db q params e (inr (inr h)) = ap is_outage h.0

read_calm : (limit : Option ℕ) (command : Command) (db : Database) (params : Row) (e : Error) → RefusesToRead limit command db params e → is_outage e ≡ false
read_calm limit (Select q names) db params e h = query_calm limit db q params e h
read_calm limit (Rows values width names) db params e h = ap is_outage h.0
read_calm limit _ db params e h = ap is_outage h

queried_calm : (limit : Option ℕ) (db : Database) (q : Program) (params : Row) → IsCalm (Queried limit db q params)
queried_calm limit db q params e h = query_calm limit db q params e h

sourced_calm : (limit : Option ℕ) (db : Database) (params : Row) (from : Source) → IsCalm (Sourced limit db params from)
sourced_calm limit db params (Values terms width) e (inl h) = ap is_outage h.0
sourced_calm limit db params (Values terms width) e (inr h) = ap is_outage h.0
sourced_calm limit db params (Query q) e h = query_calm limit db q params e h

tested_calm : (mode : Mode) (Holds : Among → Type 0) → IsCalm (Tested mode Holds)
tested_calm mode Holds e h = let x = h.1 in let same : e ≡ SqliteFailure (code.ConstraintViolation ForeignKey) = cc in ap is_outage same

counted_calm : (limit : Option ℕ) (rows : List Row) → IsCalm (Counted limit rows)
counted_calm limit rows e h = let x = h.1 in let same : e ≡ SqliteFailure code.OperationInterrupted = cc in ap is_outage same

at_place_calm : {X A : Type 0} (P : X → Part A) (place : Option X) → ((x : X) → IsCalm (P x)) → IsCalm (AtPlace P place)
at_place_calm P None each e h = refuses_calm InvalidQuery refl e h
at_place_calm P (Some x) each e h = each x e h

module _ (task : Task) where
  shows_calm : (what : Returning) (now : Trees) (rows : List Row) → IsCalm (Shows task what now rows)
  shows_calm what now [] = gives_calm []
  shows_calm what now (row ∷ more) =
      then_calm (Sourced task.limit (record { schema = task.schema; trees = now }) (task.params ++ Null ∷ shown task.table row) what.row) (λ first. Then (Shows task what now more) (λ others. Gives (first ++ others)))
      (sourced_calm task.limit (record { schema = task.schema; trees = now }) (task.params ++ Null ∷ shown task.table row) what.row)
      (λ first. then_calm (Shows task what now more) (λ others. Gives (first ++ others)) (shows_calm what now more) (λ others. gives_calm (first ++ others)))

  returns_calm : (w : Written) (returning : Option Returning) → IsCalm (Returns task w returning)
  returns_calm w None = gives_calm []
  returns_calm w (Some what) =
      then_calm (Shows task what w.trees w.rows) (λ rows. Then (Counted task.limit rows) (λ _. Gives rows)) (shows_calm what w.trees w.rows)
      (λ rows. then_calm (Counted task.limit rows) (λ _. Gives rows) (counted_calm task.limit rows) (λ _. gives_calm rows))

  abbrev ended : Written → Bool → List Row → Part (Tally × Database)
  ended w in_doubt rows = Gives (record { rows = Some (length w.rows); last = w.last; shown = rows; in_doubt = in_doubt }, record { schema = task.schema; trees = w.trees })

  concludes_calm : (mode : Mode) (returning : Option Returning) (w : Written) → IsCalm (Concludes task mode returning w)
  concludes_calm mode returning w =
      then_calm (Tested mode (λ among. Refers among task.schema w.trees)) (λ in_doubt. Then (Returns task w returning) (ended w in_doubt)) (tested_calm mode (λ among. Refers among task.schema w.trees))
      (λ in_doubt. then_calm (Returns task w returning) (ended w in_doubt) (returns_calm w returning) (λ rows. gives_calm _))

  counter_in_calm : (db : Trees) (counters : Option Table) → IsCalm (CounterIn task db counters)
  counter_in_calm db None e h = refuses_calm InvalidQuery refl e h
  counter_in_calm db (Some counters) e h = gives_calm _ e h

  counter_calm : (db : Trees) → IsCalm (Counter task db)
  counter_calm db e h = either_calm _ _ task.table.is_counted e (counter_in_calm db (sequence task.schema) e) (gives_calm None e) h

  counts_in_calm : (db : Trees) (counter : Option Row) (top : ℤ) (counters : Option Table) → IsCalm (CountsIn task db counter top counters)
  counts_in_calm db counter top None e h = refuses_calm InvalidQuery refl e h
  counts_in_calm db counter top (Some counters) e h = edited_calm task.schema task.keys db (counting db task.table counters top counter) e h

  counts_calm : (db : Trees) (counter : Option Row) (top : ℤ) → IsCalm (Counts task db counter top)
  counts_calm db counter top e h = either_calm _ _ _ e (counts_in_calm db counter top (sequence task.schema) e) (gives_calm db e) h

  abbrev put_in : Option Row → Edit → Trees → Part Written
  put_in counter edit mid = Then (Counts task mid counter (fold higher (count_of counter) edit.news)) (λ next. Gives (record { trees = next; rows = edit.news; last = last_id edit.news }))

  abbrev put_all_in : Trees → List Row → Option Row → Part Written
  put_all_in db rows counter = let edit = edit_of db task.table [] (rowids_for task.table (count_of counter)) 0 rows in Then (Edited task.schema task.keys db edit) (put_in counter edit)

  inserts_calm : (from : Source) (db : Trees) → IsCalm (Inserts task from db)
  inserts_calm from db =
      then_calm (Sourced task.limit (record { schema = task.schema; trees = db }) (stamped task.table task.params) from) (λ rows. Then (Counter task db) (put_all_in db rows))
      (sourced_calm task.limit (record { schema = task.schema; trees = db }) (stamped task.table task.params) from)
      (λ rows. then_calm (Counter task db) (put_all_in db rows) (counter_calm db)
      (λ counter. let edit = edit_of db task.table [] (rowids_for task.table (count_of counter)) 0 rows in
      then_calm (Edited task.schema task.keys db edit) (put_in counter edit) (edited_calm task.schema task.keys db edit)
      (λ mid. then_calm (Counts task mid counter (fold higher (count_of counter) edit.news)) (λ next. Gives (record { trees = next; rows = edit.news; last = last_id edit.news }))
      (counts_calm mid counter (fold higher (count_of counter) edit.news)) (λ next. gives_calm _))))

  abbrev put_anew : Trees → List Row → Part Written
  put_anew db rows = let edit = edit_of db task.table (ids_of rows) Given 1 rows in Then (Edited task.schema task.keys db edit) (λ next. Gives (record { trees = next; rows = edit.news; last = None }))

  abbrev taken_out : Trees → List Row → Part Written
  taken_out db rows = let edit = edit_of db task.table (ids_of rows) Given 0 [] in Then (Edited task.schema task.keys db edit) (λ next. Gives (record { trees = next; rows = taken_by db edit; last = None }))

  writes_calm : (db : Trees) (command : Command) → edits_rows command ≡ true → IsCalm (WritesRows task db command)
  writes_calm db (Insert at from) edits = inserts_calm from db
  writes_calm db (Update at q) edits =
      then_calm (Queried task.limit (record { schema = task.schema; trees = db }) q task.params) (put_anew db) (queried_calm task.limit (record { schema = task.schema; trees = db }) q task.params)
      (λ rows. let edit = edit_of db task.table (ids_of rows) Given 1 rows in
      then_calm (Edited task.schema task.keys db edit) (λ next. Gives (record { trees = next; rows = edit.news; last = None })) (edited_calm task.schema task.keys db edit) (λ next. gives_calm _))
  writes_calm db (Delete at q) edits =
      then_calm (Queried task.limit (record { schema = task.schema; trees = db }) q task.params) (taken_out db) (queried_calm task.limit (record { schema = task.schema; trees = db }) q task.params)
      (λ rows. let edit = edit_of db task.table (ids_of rows) Given 0 [] in
      then_calm (Edited task.schema task.keys db edit) (λ next. Gives (record { trees = next; rows = taken_by db edit; last = None })) (edited_calm task.schema task.keys db edit) (λ next. gives_calm _))
  writes_calm db _ edits = absurd (let x = edits in cc)

  on_rows_calm : (mode : Mode) (returning : Option Returning) (command : Command) (db : Trees) → edits_rows command ≡ true → IsCalm (OnRows task mode returning command db)
  on_rows_calm mode returning command db edits =
      then_calm (WritesRows task db command) (Concludes task mode returning) (writes_calm db command edits) (concludes_calm mode returning)

-- whatever the database is, no refusal of such a command tells of an outage
abbrev pub IsAlwaysCalm : Command → Type 0
IsAlwaysCalm command = (limit : Option ℕ) (mode : Mode) (params : Row) (db : Database) (text : List ℕ) (returning : Option Returning) → IsCalm (Does limit mode params db text returning command)

abbrev task_on : Option ℕ → Mode → Row → Database → Table → Task
task_on limit mode params db table = record { limit = limit; keys = mode.keys; schema = db.schema; table = table; params = params }

pub edits_calm : (command : Command) → edits_rows command ≡ true → IsAlwaysCalm command
edits_calm (Insert at from) edits limit mode params db text returning =
    at_place_calm (λ table. OnRows (task_on limit mode params db table) mode returning (Insert at from) db.trees) (slice_get db.schema.tables at)
    (λ table. on_rows_calm (task_on limit mode params db table) mode returning (Insert at from) db.trees refl)
edits_calm (Update at q) edits limit mode params db text returning =
    at_place_calm (λ table. OnRows (task_on limit mode params db table) mode returning (Update at q) db.trees) (slice_get db.schema.tables at)
    (λ table. on_rows_calm (task_on limit mode params db table) mode returning (Update at q) db.trees refl)
edits_calm (Delete at q) edits limit mode params db text returning =
    at_place_calm (λ table. OnRows (task_on limit mode params db table) mode returning (Delete at q) db.trees) (slice_get db.schema.tables at)
    (λ table. on_rows_calm (task_on limit mode params db table) mode returning (Delete at q) db.trees refl)
edits_calm _ edits limit mode params db text returning = λ e h. absurd (let x = edits in cc)

-- ---- a statement

module _ (sql : List ℕ) (params : Row) (old new : State) (e : Error) (up : IsTrue old.is_open) where
  calm_blamed : is_outage e ≡ false → IsBlamed (Faulted old new) e
  calm_blamed calm out = absurd (let x = sym calm ∙ out in cc)

  store_blamed : (big : Type 0) (cause : StoreError) → e ≡ store_error cause → HasCause old new big cause → IsBlamed (Faulted old new) e
  store_blamed big OutOfMemory is cause = calm_blamed (ap is_outage is)
  store_blamed big Io is cause = λ out. cause
  store_blamed big Corrupt is cause = λ out. cause
  store_blamed big Full is cause = λ out. cause
  store_blamed big Broken is cause = λ out. absurd (let x = sym up ∙ cause in cc)
  store_blamed big Unstorable is cause = calm_blamed (ap is_outage is)

  not_run_blamed : IsNotRun old new sql params e → IsBlamed (Faulted old new) e
  unfolding IsNotRun
  not_run_blamed (inl h) = calm_blamed (elim h.0 [
    | inl a ↦ ap is_outage a.2
    | inr b ↦ elim b.2 [ inl c ↦ ap is_outage c.1 | inr k ↦ elim k [ inl c ↦ ap is_outage c.1 | inr c ↦ ap is_outage c.1 ] ]
  ])
  not_run_blamed (inr f) = store_blamed ⊥ f.0 f.1 f.2

  misplaced_blamed : (command : Command) → IsMisplaced old command e → IsBlamed (Faulted old new) e
  misplaced_blamed command (inl h) = calm_blamed (ap is_outage h.0)
  misplaced_blamed command (inr h) = calm_blamed (ap is_outage h.0)

  ran_blamed : (c : Compiled) (ps : Row) → IsAlwaysCalm c.command → RunsCommand old new sql c ps (Err e) → IsBlamed (Faulted old new) e
  ran_blamed c ps calm (inl h) = elim h.0 [
    | inl m ↦ misplaced_blamed c.command m
    | inr d ↦ calm_blamed (calm old.step_limit (mode_of old) ps old.now (text_of sql c) c.returning e d.1)
  ]
  ran_blamed c ps calm (inr f) = store_blamed _ f.0 f.1 f.2

  alone_blamed : (c : Compiled) (ps : Row) → IsAlwaysCalm c.command → (b : Bool) → shows_rows false c ≡ b → RunsAlone false old new sql c ps (Err e) → IsBlamed (Faulted old new) e
  alone_blamed c ps calm true shows h = let it = rw shows at h in let x = it.0 in let same : e ≡ ExecuteReturnedResults = cc in calm_blamed (ap is_outage same)
  alone_blamed c ps calm false shows h = ran_blamed c ps calm (rw shows at h)

  pub executes_blamed : ((c : Compiled) → understood old.now.schema sql ≡ Ok c → IsAlwaysCalm c.command) → Executes sql params old new (Err e) → IsBlamed (Faulted old new) e
  unfolding ExecutesIn
  executes_blamed calm (inl h) = not_run_blamed h
  executes_blamed calm (inr h) = alone_blamed h.0 (timed params h.0.formats h.1.now) (calm h.0 h.1.is) (shows_rows false h.0) refl h.2

  -- a query whose text shows nothing that it writes
  pub queries_blamed : ((c : Compiled) → understood old.now.schema sql ≡ Ok c → c.returning ≡ None) → FailsToQuery sql params old new e → IsBlamed (Faulted old new) e
  unfolding FailsToQuery
  queries_blamed silent (inl h) = not_run_blamed h
  queries_blamed silent (inr h) = let it = rw (silent h.0 h.1.is) at h.2 in calm_blamed (read_calm old.step_limit h.0.command it.0 (timed params h.0.formats h.1.now) e it.2)

-- ---- a part of a call

pub want_blamed : (fault : Type 0) (e : Error) → IsWant fault e → IsBlamed fault e
want_blamed fault e (inl (inl memory)) out = absurd (let x : false ≡ true = ap is_outage (sym memory) ∙ out in cc)
want_blamed fault e (inl (inr disk)) out = disk.1
want_blamed fault e (inr (inl big)) out = absurd (let x : false ≡ true = ap is_outage (sym big) ∙ out in cc)
want_blamed fault e (inr (inr full)) out = absurd (let x : false ≡ true = ap is_outage (sym full) ∙ out in cc)

pub blamed_weaker : (one two : Type 0) (e : Error) → (one → two) → IsBlamed one e → IsBlamed two e
blamed_weaker one two e turn blamed out = turn (blamed out)

pub blamed_of : {X : Type 0} (one two : Type 0) (r : Result X Error) → (one → two) → IfErr r (IsBlamed one) → IfErr r (IsBlamed two)
blamed_of one two (Ok x) turn blamed = tt
blamed_of one two (Err e) turn blamed = blamed_weaker one two e turn blamed
