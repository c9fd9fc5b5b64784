-- What INSERT, UPDATE and DELETE on a table without AUTOINCREMENT make of the trees, where no foreign key acts.
use Rattle.std.proofs.Common.{◌≡◌, ℕ, List, [], ◌∷◌, map, filter, length, ◌/◌, false, Some, None, Ok, sym, ap, subst, ◌∙◌, slice_get}
use Rattle.std.specs.List.Sorted.{IsPermutation}
use Rattle.sqlite.specs.declared.types.Value.TheVariants.{Null}
use Rattle.sqlite.specs.Order.{Row}
use Rattle.sqlite.specs.Tree.{Trees}
use Rattle.sqlite.specs.Term.{Term, col, eval_all}
use Rattle.sqlite.specs.Table.{Table}
use Rattle.sqlite.specs.Schema.{Schema}
use Rattle.sqlite.specs.Program.{overlay}
use Rattle.sqlite_schema.specs.declared.schema.Keys.TheVariants.{Enforced}
use Rattle.sqlite.specs.Command.TheVariants.{Insert, Update, Delete}
use Rattle.sqlite.specs.Source.TheVariants.{Values}
use Rattle.sqlite.specs.Edit.{edit_of, taken_by, Applies}
use Rattle.sqlite_rules.specs.Action.{works}
use Rattle.sqlite_rules.specs.Calls.{ids_of}
use Rattle.sqlite.specs.Rowids.TheVariants.{Chosen, Given}
use Rattle.sqlite.specs.Rowids.{Rowids}
use Rattle.sqlite.specs.Does.{Tally, Does}
use Rattle.sqlite.specs.Rows.{Written, stamped, rowids_for, count_of}
use Rattle.sqlite.specs.Effect.{Database, value_rows}
use Rattle.sqlite.specs.Listing.{understood}
use Rattle.sqlite.specs.State.{State, mode_of, Executes}
use Rattle.sqlite.proofs.Callers.{IsPlain, command_of, statement_of, runs_as, one_step}
use Rattle.dip_store_sql.specs.Queries.{plain_query, passes}
use Rattle.dip_store_sql.specs.Writes.{Edits}
use Rattle.dip_store_sql.proofs.Answered.{selected}
use Rattle.dip_store_sql.proofs.Failing.{no_above, no_count, unmatched}
use Rattle.dip_store_sql.proofs.Creating.{same_value, went}

module _ (schema : Schema) (at : ℕ) (table : Table) (listed : slice_get schema.tables at ≡ Some table) (plain : table.is_counted ≡ false)
    (seen : (db : Trees) → overlay db [] table.tree ≡ db table.tree)
    (calm : (olds news : List Row) → works schema Enforced 0 table.tree olds news ≡ []) (sql : List ℕ) (bare : IsPlain (understood schema sql)) where
  module _ (old new : State) (params : Row) (count : ℕ) (has : old.now.schema ≡ schema) where
    -- an INSERT of one list of values adds these rows
    pub inserted : (terms : List Term) (width : ℕ) → command_of (understood schema sql) ≡ Insert at (Values terms width) → Executes sql params old new (Ok count)
        → Edits schema (edit_of old.now.trees table [] Chosen 0 (value_rows (stamped table params) width (length terms / width) terms)) old.now new.now
    inserted terms width is h =
        let db = old.now.trees in
        let command = Insert at (Values terms width) in
        let w = runs_as sql params old new schema has command is bare count h in
        let text = statement_of sql (understood schema sql) in
        let done = went (rw listed at (subst (λ s. Does old.step_limit (mode_of old) params (record old.now { schema = s }) text None command (Ok (w.tally, new.now))) has w.changed)) in
        let now = ap (λ (p : Tally × Database). p.1) (same_value (went (went done.2).2).2) in
        let given = went done.1 in
        let counter = went given.2 in
        let made = went counter.2 in
        let counted = went made.2 in
        let top = count_of counter.0 in
        let same : counted.0 ≡ made.0 = same_value (unmatched _ _ _ (no_count table.is_counted _ plain) counted.1) in
        let trees : new.now.trees ≡ made.0 = ap (λ (d : Database). d.trees) now ∙ ap (λ (it : Written). it.trees) (same_value counted.2) ∙ same in
        let edit = λ (ids : Rowids) (rows : List Row). edit_of db table [] ids 0 rows in
        let applied = one_step schema Enforced db made.0 (edit (rowids_for table top) given.0) (calm (taken_by db (edit (rowids_for table top) given.0)) (edit (rowids_for table top) given.0).news) made.1 in
        let chosen : rowids_for table top ≡ Chosen = no_above table.is_counted top plain in
        let whole : edit (rowids_for table top) given.0 ≡ edit Chosen (value_rows (stamped table params) width (length terms / width) terms) =
        ap (λ ids. edit ids given.0) chosen ∙ ap (edit Chosen) given.1.1 in
        record {
          schema_is = ap (λ (d : Database). d.schema) now;
          sound = w.sound;
          applies = subst (λ e. Applies schema Enforced db e new.now.trees) whole (subst (Applies schema Enforced db (edit (rowids_for table top) given.0)) (sym trees) applied);
        }

    -- an UPDATE puts anew the rows that pass, in some order
    pub updated : (tests shown : List Term) → command_of (understood schema sql) ≡ Update at (record { lets = []; body = plain_query table.tree tests shown [] }) → Executes sql params old new (Ok count)
        → (given : List Row) × IsPermutation (map (λ r. eval_all shown (params ∷ r ∷ [])) (filter (passes tests params) (old.now.trees table.tree))) given
        × Edits schema (edit_of old.now.trees table (ids_of given) Given 1 given) old.now new.now
    updated tests shown is h =
        let db = old.now.trees in
        let command = Update at (record { lets = []; body = plain_query table.tree tests shown [] }) in
        let w = runs_as sql params old new schema has command is bare count h in
        let text = statement_of sql (understood schema sql) in
        let done = went (rw listed at (subst (λ s. Does old.step_limit (mode_of old) params (record old.now { schema = s }) text None command (Ok (w.tally, new.now))) has w.changed)) in
        let now = ap (λ (p : Tally × Database). p.1) (same_value (went (went done.2).2).2) in
        let given = went done.1 in
        let written = went given.2 in
        let trees : new.now.trees ≡ written.0 = ap (λ (d : Database). d.trees) now ∙ ap (λ (it : Written). it.trees) (same_value written.2) in
        let edit = edit_of db table (ids_of given.0) Given 1 given.0 in
        let applied = one_step schema Enforced db written.0 edit (calm (taken_by db edit) edit.news) written.1 in (
          given.0,
          subst (λ rows. IsPermutation (map (λ r. eval_all shown (params ∷ r ∷ [])) (filter (passes tests params) rows)) given.0) (seen db) (selected Null table.tree tests shown (overlay db []) params given.0 (given.1.answer Null)),
          record {
            schema_is = ap (λ (d : Database). d.schema) now;
            sound = w.sound;
            applies = subst (Applies schema Enforced db edit) (sym trees) applied;
          },
        )

    -- a DELETE takes out the rows that pass, named in some order
    pub deleted : (tests : List Term) → command_of (understood schema sql) ≡ Delete at (record { lets = []; body = plain_query table.tree tests (col 1 0 ∷ []) [] }) → Executes sql params old new (Ok count)
        → (given : List Row) × IsPermutation (map (λ r. eval_all (col 1 0 ∷ []) (params ∷ r ∷ [])) (filter (passes tests params) (old.now.trees table.tree))) given
        × Edits schema (edit_of old.now.trees table (ids_of given) Given 0 []) old.now new.now
    deleted tests is h =
        let db = old.now.trees in
        let command = Delete at (record { lets = []; body = plain_query table.tree tests (col 1 0 ∷ []) [] }) in
        let w = runs_as sql params old new schema has command is bare count h in
        let text = statement_of sql (understood schema sql) in
        let done = went (rw listed at (subst (λ s. Does old.step_limit (mode_of old) params (record old.now { schema = s }) text None command (Ok (w.tally, new.now))) has w.changed)) in
        let now = ap (λ (p : Tally × Database). p.1) (same_value (went (went done.2).2).2) in
        let given = went done.1 in
        let written = went given.2 in
        let trees : new.now.trees ≡ written.0 = ap (λ (d : Database). d.trees) now ∙ ap (λ (it : Written). it.trees) (same_value written.2) in
        let edit = edit_of db table (ids_of given.0) Given 0 [] in
        let applied = one_step schema Enforced db written.0 edit (calm (taken_by db edit) edit.news) written.1 in (
          given.0,
          subst (λ rows. IsPermutation (map (λ r. eval_all (col 1 0 ∷ []) (params ∷ r ∷ [])) (filter (passes tests params) rows)) given.0) (seen db) (selected Null table.tree tests (col 1 0 ∷ []) (overlay db []) params given.0 (given.1.answer Null)),
          record {
            schema_is = ap (λ (d : Database). d.schema) now;
            sound = w.sound;
            applies = subst (Applies schema Enforced db edit) (sym trees) applied;
          },
        )
