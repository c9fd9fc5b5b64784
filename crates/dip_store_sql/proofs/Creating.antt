-- What a CREATE TABLE makes of a schema.
use Rattle.std.proofs.Common.{◌≡◌, ◌⊎◌, inl, inr, ℕ, List, [], ◌∷◌, ◌++◌, false, None, Ok, Err, Result, sym, ap, subst, ◌∙◌}
use Rattle.std.specs.List.{AllByRecursion}
use Rattle.sqlite.specs.Table.{Table}
use Rattle.sqlite.specs.Tree.{Trees}
use Rattle.sqlite.specs.Schema.{Schema}
use Rattle.sqlite.specs.Command.TheVariants.{CreateTable}
use Rattle.sqlite.specs.Compile.{table_defined_by}
use Rattle.sqlite.specs.Change.{created, next_tree, KeepsRows}
use Rattle.sqlite.specs.Does.{Tally, lacks_sequence}
use Rattle.sqlite.specs.Effect.{Database, IsDatabase}
use Rattle.sqlite.specs.Listing.{understood}
use Rattle.sqlite.specs.State.{State, Writes, Executes}
use Rattle.sqlite.proofs.Callers.{IsPlain, command_of, statement_of, runs_as}
use Rattle.dip_store_sql.specs.NewTables.{IsBare}

pub went : {B E R : Type 0} {b : B} {Stops : E → Type 0} → ((stop : E) × Stops stop × (Ok b ≡ Err stop)) ⊎ R → R
went (inl stopped) = absurd (let e = stopped.2 in cc)
went (inr on) = on

pub same_value : {B E : Type 0} {a b : B} → ◌≡◌ {A = Result B E} (Ok a) (Ok b) → a ≡ b
same_value e = cc

still_empty : (tables : List Table) (old new : Trees) → KeepsRows tables old new → AllByRecursion (λ t. old t.tree ≡ []) tables → AllByRecursion (λ t. new t.tree ≡ []) tables
still_empty [] old new kept empty = tt
still_empty (t ∷ ts) old new kept empty = (kept.0 ∙ empty.0, still_empty ts old new kept.1 empty.1)

one_more : {A : Type 0} (P : A → Type 0) (xs : List A) (x : A) → AllByRecursion P xs → P x → AllByRecursion P (xs ++ x ∷ [])
one_more P [] x all here = (here, tt)
one_more P (y ∷ xs) x all here = (all.0, one_more P xs x all.1 here)

module _ (schema : Schema) (sql : List ℕ) (table : Table) (is : command_of (understood schema sql) ≡ CreateTable) (plain : IsPlain (understood schema sql)) (whole : statement_of sql (understood schema sql) ≡ sql)
    (defined : table_defined_by sql ≡ Ok table) (uncounted : lacks_sequence (created schema table) ≡ false) where
  -- a table more, without a row; the rows of the others are as they were
  pub table_more : (old new : State) (count : ℕ) → old.now.schema ≡ schema → Executes sql [] old new (Ok count)
      → (new.now.schema ≡ created schema table) × IsDatabase new.now × KeepsRows schema.tables old.now.trees new.now.trees × (new.now.trees (next_tree schema) ≡ [])
  table_more old new count has h =
      let w = subst (λ t. Writes old new None CreateTable t [] count) whole (runs_as sql [] old new schema has CreateTable is plain count h) in
      let all = went w.changed in
      let first = went all.1 in
      let made = first.1 in
      let both : Ok made.table ≡ Ok table = sym made.defined ∙ defined in
      let same : made.table ≡ table = cc in
      let after : first.0.schema ≡ created schema table = made.is ∙ ap (λ s. created s made.table) has ∙ ap (created schema) same in
      let counts : lacks_sequence first.0.schema ≡ false = ap lacks_sequence after ∙ uncounted in
      let now : new.now ≡ first.0 = ap (λ (p : Tally × Database). p.1) (same_value all.2) ∙ same_value (rw counts at first.2) in
      let here : first.0.trees (next_tree schema) ≡ [] = subst (λ s. first.0.trees (next_tree s) ≡ []) has made.empty in
      let kept : KeepsRows schema.tables old.now.trees first.0.trees = subst (λ (s : Schema). KeepsRows s.tables old.now.trees first.0.trees) has made.others in (
        ap (λ (d : Database). d.schema) now ∙ after,
        w.sound,
        subst (λ (d : Database). KeepsRows schema.tables old.now.trees d.trees) (sym now) kept,
        ap (λ (d : Database). d.trees (next_tree schema)) now ∙ here,
      )

  -- none of its tables has a row, where none had one
  pub bare_more : (old new : State) (count : ℕ) → IsBare schema old.now → Executes sql [] old new (Ok count) → IsBare (created schema table) new.now × IsDatabase new.now
  bare_more old new count bare h =
      let more = table_more old new count bare.schema_is h in
      let empty = one_more (λ (t : Table). new.now.trees t.tree ≡ []) schema.tables (record table { tree = next_tree schema }) (still_empty schema.tables old.now.trees new.now.trees more.2 bare.empty) more.3 in
      (record { schema_is = more.0; empty = empty }, more.1)
