-- Why a CREATE TABLE of ours fails: for want of memory, or by the disk where the store told of a fault.
use Rattle.std.proofs.Common.{◌≡◌, inl, inr, ℕ, List, [], ◌∷◌, ◌+◌, ◌*◌, ◌^◌, ◌≤◌, length, codes, Bool, true, false, Some, None, Option, Ok, Err, Result, IsTrue, IsUtf8, nat_le, refl, sym, ap, subst, ◌∙◌, arith}
use Rattle.std.specs.List.{AllByRecursion}
use Rattle.std.proofs.lemmas.Bool.{leb-false, leb-true}
use Rattle.sqlite.specs.declared.types.Value.TheVariants.{Text}
use Rattle.sqlite_trees.specs.declared.error.StoreError.{StoreError}
use Rattle.sqlite_trees.specs.declared.error.StoreError.TheVariants.{OutOfMemory, Io, Corrupt, Full, Broken, Unstorable}
use Rattle.sqlite_resolve.specs.declared.compiled.Compiled.{Compiled}
use Rattle.sqlite_resolve.specs.declared.error.CompileError.{CompileError}
use Rattle.sqlite_schema.specs.declared.schema.Index.{Index}
use Rattle.sqlite_rules.specs.Lists.{Has}
use Rattle.sqlite_schema.specs.Rules.{index_reals, table_reals}
use Rattle.sqlite_catalog.specs.declared.error.Refusal as alter
use Rattle.sqlite_catalog.specs.declared.error.Refusal.TheVariants as why
use Rattle.sqlite_catalog.specs.Calls.{IsLongTable, RefusesTable}
use Rattle.sqlite_catalog.specs.Listing.{is_fit, is_formed}
use Rattle.sqlite.specs.Change.{automatics, created, is_reserved, is_used, next_tree}
use Rattle.sqlite.specs.Compile.{table_defined_by}
use Rattle.sqlite.specs.declared.error.Error.{Error}
use Rattle.sqlite.specs.Order.{Row}
use Rattle.sqlite.specs.Table.{Table}
use Rattle.sqlite.specs.Schema.{Schema}
use Rattle.sqlite.specs.Command.{Command}
use Rattle.sqlite.specs.Command.TheVariants.{CreateTable}
use Rattle.sqlite.specs.Does.{Does, MakesSequence, MakesTable, lacks_sequence}
use Rattle.sqlite.specs.Effect.{Database}
use Rattle.sqlite.specs.Listing.{understood}
use Rattle.sqlite.specs.Clock.{timed}
use Rattle.sqlite.specs.State.{State, EndsScope, Executes, ExecutesIn, ExecutesInside, HasCause, IsMisplaced, IsNotRun, RunsAlone, RunsCommand, is_disk_error, mode_of, shows_rows, store_error, text_of}
use Rattle.dip_store_sql.specs.Causes.{Faulted, IsCaused}

-- a text of one statement without parameters, that makes a table
pub record IsMaker (r : Result Compiled CompileError) (sql : List ℕ) : Type 0 where
  pub it : Compiled
  pub is : r ≡ Ok it
  pub command : it.command ≡ CreateTable
  pub whole : length sql ≤ it.tail
  pub given : [] ≡ it.names
  pub plain : it.returning ≡ None
  pub clock : it.formats ≡ []
  pub text : text_of sql it ≡ sql

-- such a text, told from what compiling it gives: one CREATE TABLE, without parameters, up to its end
abbrev pub IsMade : List ℕ → Result Compiled CompileError → Type 0
IsMade sql (Ok c) = (c.command ≡ CreateTable) × (nat_le (length sql) c.tail ≡ true) × ([] ≡ c.names) × (c.returning ≡ None) × (c.formats ≡ []) × (text_of sql c ≡ sql)
IsMade sql (Err e) = ⊥

pub maker_of : (sql : List ℕ) (r : Result Compiled CompileError) → IsMade sql r → IsMaker r sql
maker_of sql (Ok c) h = record { it = c; is = refl; command = h.0; whole = leb-true _ _ h.1; given = h.2; plain = h.3; clock = h.4; text = h.5 }
maker_of sql (Err e) h = absurd h

-- the schema has room for the table, and no thing of a name of it
pub record HasPlace (schema : Schema) (sql : List ℕ) (table : Table) : Type 0 where
  pub utf8 : IsUtf8 sql
  pub name : IsUtf8 table.name
  pub free : is_used schema table.name ≡ false
  pub indexes : AllByRecursion (λ i. is_used schema i.name ≡ false) (automatics table 0 0 table.uniques)
  pub plain : is_reserved table.name ≡ false
  pub few : nat_le 65536 (next_tree schema + length table.uniques) ≡ false
  pub reals : nat_le (2 ^ 64) (table_reals table) ≡ false
  pub keys : AllByRecursion (λ key. nat_le (2 ^ 64) (index_reals (table_reals table) key) ≡ false) table.uniques
  pub formed : is_formed table ≡ true
  pub fit : is_fit (Text (codes "table")) (Text table.name) (Text table.name) (Text sql) ≡ true
  pub short : nat_le (10 ^ 9) (2 * length table.name + length sql + 200) ≡ false

-- what all have, each has
pub each_has : {X : Type 0} (P : X → Type 0) (xs : List X) (x : X) → AllByRecursion P xs → Has xs x → P x
each_has P [] x all h = absurd h
each_has P (y ∷ ys) x all (inl same) = subst P (sym same) all.0
each_has P (y ∷ ys) x all (inr more) = each_has P ys x all.1 more

not_both : (b : Bool) → b ≡ true → b ≡ false → ⊥
not_both b is off = absurd (let x = sym is ∙ off in cc)

too_much : (n m : ℕ) → nat_le n m ≡ false → n ≤ m → ⊥
too_much n m off is = let less = leb-false n m off in omega (arith, less, is)

module _ (schema : Schema) (sql : List ℕ) (table : Table) (defined : table_defined_by sql ≡ Ok table) (uncounted : lacks_sequence (created schema table) ≡ false) (place : HasPlace schema sql table) where
  same_table : (made : Table) → table_defined_by sql ≡ Ok made → made ≡ table
  same_table made is = let both : ◌≡◌ {A = Result Table CompileError} (Ok made) (Ok table) = sym is ∙ defined in cc

  not_refused : (reason : alter.Refusal) → RefusesTable schema sql reason → ⊥
  not_refused (why.Invalid e) h = absurd (let x = sym defined ∙ h in cc)
  not_refused why.NameTaken h =
      let same = same_table h.0 h.1 in
      elim h.2 [
        | inl used ↦ not_both _ used (subst (λ (t : Table). is_used schema t.name ≡ false) (sym same) place.free)
        | inr more ↦ not_both _ more.2 (each_has (λ (i : Index). is_used schema i.name ≡ false) (automatics table 0 0 table.uniques) more.0 place.indexes (subst (λ (t : Table). Has (automatics t 0 0 t.uniques) more.0) same more.1))
      ]
  not_refused why.BadName h =
      let same = same_table h.0 h.1 in
      elim h.2 [
        | inl text ↦ text (subst (λ (t : Table). IsUtf8 t.name) (sym same) place.name)
        | inr own ↦ not_both _ own.0 (subst (λ (t : Table). is_reserved t.name ≡ false) (sym same) place.plain)
      ]
  not_refused why.TooBig h =
      let same = same_table h.0 h.1 in
      elim h.2 [
        | inl many ↦ too_much _ _ place.few (subst (λ (t : Table). 65536 ≤ next_tree schema + length t.uniques) same many)
        | inr more ↦ elim more [
          | inl wide ↦ too_much _ _ place.reals (subst (λ (t : Table). 2 ^ 64 ≤ table_reals t) same wide)
          | inr key ↦
              let has = subst (λ (t : Table). Has t.uniques key.0) same key.1 in
              too_much _ _ (each_has (λ k. nat_le (2 ^ 64) (index_reals (table_reals table) k) ≡ false) table.uniques key.0 place.keys has) (subst (λ (t : Table). 2 ^ 64 ≤ index_reals (table_reals t) key.0) same key.2)
        ]
      ]
  not_refused why.BadKey h = not_both _ (subst (λ (t : Table). is_formed t ≡ true) (sym (same_table h.0 h.1)) place.formed) h.2
  not_refused why.BadText h = not_both _ (subst (λ (t : Table). is_fit (Text (codes "table")) (Text t.name) (Text t.name) (Text sql) ≡ true) (sym (same_table h.0 h.1)) place.fit) h.2
  not_refused (why.Violates rule) h = h

  not_long : IsLongTable sql → ⊥
  not_long h = too_much _ _ place.short (subst (λ (t : Table). 10 ^ 9 ≤ 2 * length t.name + length sql + 200) (same_table h.0 h.1) h.2)

  module _ (db : Database) (has : db.schema ≡ schema) where
    -- nothing stops the making of the table
    makes : (stop : Option Error) → MakesTable sql db (Err stop) → ⊥
    makes None h = not_long h
    makes (Some e) (inl h) = h.0 place.utf8
    makes (Some e) (inr h) = not_refused h.0 (subst (λ s. RefusesTable s sql h.0) has h.1)

    sequences : (after : Database) → MakesTable sql db (Ok after) → (stop : Option Error) → MakesSequence after (Err stop) → ⊥
    sequences after made stop h =
        let same : made.table ≡ table = same_table made.table made.defined in
        let is : after.schema ≡ created schema table = made.is ∙ ap (λ s. created s made.table) has ∙ ap (created schema) same in
        let none : lacks_sequence after.schema ≡ false = ap lacks_sequence is ∙ uncounted in
        let out = rw none at h in
        absurd (cc)

    never : (stop : Option Error) → (limit : Option ℕ) (old : State) (params : Row) → Does limit (mode_of old) params db sql None CreateTable (Err stop) → ⊥
    never stop limit old params (inl s) = elim s.1 [
      | inl one ↦ makes one.0 one.1
      | inr on ↦ sequences on.0 on.1 s.0 on.2
    ]
    never stop limit old params (inr on) = absurd (let x = on.2 in cc)

  -- on an open connection it fails for want of memory, or by the disk where the store told of a fault
  module _ (maker : IsMaker (understood schema sql) sql) (old new : State) (has : old.now.schema ≡ schema) (up : IsTrue old.is_open) (e : Error) where
    store_caused : (big : Type 0) → (big → ⊥) → (cause : StoreError) → e ≡ store_error cause → HasCause old new big cause → IsCaused (Faulted old new) e
    store_caused big small OutOfMemory is cause = inl is
    store_caused big small Io is cause = inr (ap is_disk_error is, cause)
    store_caused big small Corrupt is cause = inr (ap is_disk_error is, cause)
    store_caused big small Full is cause = inr (ap is_disk_error is, cause)
    store_caused big small Broken is cause = absurd (let x = sym up ∙ cause in cc)
    store_caused big small Unstorable is cause = absurd (small cause)

    known : understood old.now.schema sql ≡ Ok maker.it
    known = ap (λ s. understood s sql) has ∙ maker.is

    not_run : IsNotRun old new sql [] e → IsCaused (Faulted old new) e
    unfolding IsNotRun
    not_run (inl h) = absurd (elim h.0 [
      | inl a ↦ let x = sym known ∙ a.1 in cc
      | inr b ↦ let x = sym known ∙ b.1 in let same : maker.it ≡ b.0 = cc in elim b.2 [
        | inl d ↦ d.0 (subst (λ (k : Compiled). length sql ≤ k.tail) same maker.whole)
        | inr d ↦ elim d [ inl f ↦ f.0 (subst (λ (k : Compiled). 0 ≡ length k.names) same (ap (λ (ns : List (List ℕ)). length ns) maker.given)) | inr f ↦ f.0 (subst (λ (k : Compiled). k.formats ≡ []) same maker.clock) ]
      ]
    ])
    not_run (inr f) = store_caused ⊥ (λ none. none) f.0 f.1 f.2

    well_placed : (command : Command) → command ≡ CreateTable → IsMisplaced old command e → ⊥
    well_placed command is (inl h) = elim h.1 [
      | inl b ↦ absurd (let x = sym is ∙ b.0 in cc)
      | inr c ↦ elim c.0 [ inl p ↦ absurd (let x = sym is ∙ p in cc) | inr p ↦ absurd (let x = sym is ∙ p in cc) ]
    ]
    well_placed command is (inr h) = elim h.2 [ inl p ↦ absurd (let x = sym is ∙ p in cc) | inr p ↦ absurd (let x = sym is ∙ p in cc) ]

    does_not : (c : Compiled) → maker.it ≡ c → (ps : Row) (stop : Option Error) → Does old.step_limit (mode_of old) ps old.now (text_of sql c) c.returning c.command (Err stop) → ⊥
    does_not c same ps stop h =
        let text : text_of sql c ≡ sql = sym (ap (text_of sql) same) ∙ maker.text in
        let plain : c.returning ≡ None = sym (ap (λ (k : Compiled). k.returning) same) ∙ maker.plain in
        let command : c.command ≡ CreateTable = sym (ap (λ (k : Compiled). k.command) same) ∙ maker.command in
        never old.now has stop old.step_limit old ps (rw (text, plain, command) at h)

    ran : (c : Compiled) → maker.it ≡ c → (ps : Row) → RunsCommand old new sql c ps (Err e) → IsCaused (Faulted old new) e
    ran c same ps (inl h) = absurd (elim h.0 [
      | inl m ↦ well_placed c.command (sym (ap (λ (k : Compiled). k.command) same) ∙ maker.command) m
      | inr d ↦ does_not c same ps (Some e) d.1
    ])
    ran c same ps (inr f) = store_caused _ (does_not c same ps None) f.0 f.1 f.2

    alone : (c : Compiled) → maker.it ≡ c → (ps : Row) (b : Bool) → shows_rows false c ≡ b → RunsAlone false old new sql c ps (Err e) → IsCaused (Faulted old new) e
    alone c same ps true shows h =
        let plain : c.returning ≡ None = sym (ap (λ (k : Compiled). k.returning) same) ∙ maker.plain in
        let command : c.command ≡ CreateTable = sym (ap (λ (k : Compiled). k.command) same) ∙ maker.command in
        absurd (let x = rw (plain, command) at shows in cc)
    alone c same ps false shows h = ran c same ps (rw shows at h)

    create_caused : Executes sql [] old new (Err e) → IsCaused (Faulted old new) e
    unfolding ExecutesIn
    create_caused (inl h) = not_run h
    create_caused (inr h) = let x = sym known ∙ h.1.is in let same : maker.it ≡ h.0 = cc in alone h.0 same (timed [] h.0.formats h.1.now) (shows_rows false h.0) refl h.2

    -- it doesn't end its transaction
    goes_on : EndsScope 0 sql [] old → ⊥
    unfolding EndsScope
    goes_on ends =
        let x = sym known ∙ ends.1.is in
        let same : maker.it ≡ ends.0 = cc in
        let command : CreateTable ≡ ends.0.command = sym maker.command ∙ ap (λ (k : Compiled). k.command) same in
        elim ends.2 [
          | inl end ↦ elim end [ inl p ↦ absurd (let x = command ∙ p in cc) | inr p ↦ absurd (let x = command ∙ p in cc) ]
          | inr end ↦ elim end.1 [ inl p ↦ absurd (let x = command ∙ p in cc) | inr p ↦ absurd (let x = command ∙ p in cc) ]
        ]

    pub create_caused_inside : ExecutesInside 0 sql [] old new (Err e) → IsCaused (Faulted old new) e
    create_caused_inside (inl ran) = create_caused ran.0
    create_caused_inside (inr ended) = absurd (goes_on ended.0)
