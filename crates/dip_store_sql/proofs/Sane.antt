-- A statement on records whose keys stay apart fails for want alone.
use Rattle.std.proofs.Common.{◌≡◌, ◌⊎◌, inl, inr, pos, ap₂, ℕ, List, [], ◌∷◌, ◌++◌, ◌/◌, ◌||◌, map, filter, drop, length, Bool, true, false, Some, None, Ok, Err, Result, IsTrue, slice_get, refl, sym, ap, subst, ◌∙◌}
use Rattle.std.specs.List.{AllByRecursion}
use Rattle.std.specs.List.Sorted.{IsPermutation}
use Rattle.std.proofs.lemmas.List.Elements.{All-from_recursion, recursion_from_All}
use Rattle.std.proofs.lemmas.List.Sorted.{All-permutation}
use Rattle.sqlite.specs.declared.types.Value.{Value}
use Rattle.sqlite.specs.declared.types.Value.TheVariants.{Null, Int}
use Rattle.sqlite.specs.declared.error.Error.{Error}
use Rattle.sqlite.specs.declared.error.Error.TheVariants.{SqliteFailure}
use Rattle.sqlite.specs.declared.error.ErrorCode.TheVariants as code
use Rattle.sqlite.specs.Order.{Row}
use Rattle.sqlite.specs.Tree.{Trees, rowid}
use Rattle.sqlite.specs.Ops.{fits_i64}
use Rattle.sqlite.specs.Edit.{Edit, IsOversized, IsRefused, edit_of, id_in, left_by, next_rowid, with_rowid}
use Rattle.sqlite.specs.Rowids.TheVariants.{Chosen, Given}
use Rattle.sqlite_rules.specs.Calls.{ids_of}
use Rattle.sqlite_rules.specs.Lists.{Has}
use Rattle.sqlite_rules.specs.declared.error.Refusal.{Refusal}
use Rattle.sqlite_rules.specs.declared.error.Refusal.TheVariants.{Violates, Mismatch, NoRowid, BadReference, TooDeep}
use Rattle.sqlite.specs.Term.{Term, col, eval_all}
use Rattle.sqlite.specs.Cast.{cast_all, cast_row}
use Rattle.sqlite.specs.Table.{Table}
use Rattle.sqlite.specs.Schema.{Schema}
use Rattle.sqlite.specs.Program.{overlay}
use Rattle.sqlite.specs.Command.{Command}
use Rattle.sqlite.specs.Command.TheVariants.{Insert, Update, Delete}
use Rattle.sqlite.specs.Source.TheVariants.{Values}
use Rattle.sqlite.specs.Effect.{Answers, RefusesQuery, edit_error, is_query, value_rows}
use Rattle.sqlite.specs.Does.{Does}
use Rattle.sqlite.specs.Rows.{stamped}
use Rattle.sqlite.specs.Given.{IsPlain}
use Rattle.sqlite.specs.Listing.{understood}
use Rattle.sqlite.specs.State.{State, Executes, is_pragma, mode_of, shows_rows, text_of}
use Rattle.sqlite_resolve.specs.declared.compiled.Compiled.{Compiled}
use Rattle.sqlite_resolve.specs.declared.error.CompileError.{CompileError}
use Rattle.sqlite_rules.specs.Action.{works}
use Rattle.sqlite_schema.specs.declared.schema.Among.{Among}
use Rattle.sqlite_schema.specs.declared.schema.Keys.TheVariants.{Enforced}
use Rattle.sqlite_schema.specs.declared.program.Program.{Program}
use Rattle.sqlite_schema.specs.Program.{lets_of}
use Rattle.sqlite_schema.specs.Rules.{Refers}
use Rattle.sqlite_typing.specs.Types.{accepts_program, accepts_terms}
use Rattle.dip_store_rows.specs.Lists.{update_where, delete_where}
use Rattle.dip_store_rows.proofs.ListLemmas.{all-filter, all_both, all_map, all_weaker, test_from_all}
use Rattle.dip_store_sql.specs.Asking.{IsAsked, command_in}
use Rattle.dip_store_sql.specs.Recorded.{IsRising, AtMostOne}
use Rattle.dip_store_sql.specs.Queries.{passes, plain_query}
use Rattle.dip_store_sql.proofs.Answered.{selected}
use Rattle.dip_store_sql.proofs.Changes.{cast_int, cast_null}
use Rattle.dip_store_sql.proofs.Edits.{unnumbered}
use Rattle.dip_store_sql.specs.Causes.{Faulted, IsCaused}
use Rattle.dip_store_sql.specs.Refusals.{IsWant}
use Rattle.dip_store_sql.specs.Storing.{CanStandIn}
use Rattle.dip_store_sql.proofs.Failing.{delete_refused, edits_rows, fails, insert_oversized, insert_refused, mode, update_oversized, update_refused}
use Rattle.dip_store_sql.proofs.Passing.{AreKept}
use Rattle.dip_store_sql.proofs.Told.{want_weaker}
use Rattle.dip_store_sql.proofs.Wanting.{KeysApart, delete_wants, insert_all_wants, insert_wants, update_wants, whole_wants}
use Rattle.dip_store_sql.proofs.Faults.{none_any}
use Rattle.dip_store_sql.proofs.Founding.{each_has}
use Rattle.dip_store_sql.proofs.Places.{id_of}
use Rattle.dip_store_sql.proofs.Whole.{as_given}
use Rattle.dip_store_sql.proofs.Found.{within}

-- a plain query of parameters that may be compared is refused by nothing
plainly : (schema : Schema) (db : Trees) (t : ℕ) (tests shown : List Term) (params : Row) → accepts_program schema (lets_of (record { lets = []; body = plain_query t tests shown [] })) (plain_query t tests shown []) params ≡ true
    → (e : Error) → RefusesQuery None (record { schema = schema; trees = db }) (record { lets = []; body = plain_query t tests shown [] }) params e → ⊥
plainly schema db t tests shown params accepts e (inl h) = let x = sym accepts ∙ h.1 in cc
plainly schema db t tests shown params accepts e (inr (inl (h, inl none))) = none
plainly schema db t tests shown params accepts e (inr (inl (h, inr any))) = none_any (overlay db [] t) any
plainly schema db t tests shown params accepts e (inr (inr h)) = let x = h.1 in cc

-- want of memory, of room or of numbers
abbrev is_room : Error → Bool
is_room (SqliteFailure code.OutOfMemory) = true
is_room (SqliteFailure code.TooBig) = true
is_room (SqliteFailure code.NoRowid) = true
is_room _ = false

not_want : (e : Error) → is_room e ≡ false → IsWant ⊥ e → ⊥
not_want e none (inl (inl memory)) = let x : true ≡ false = sym (ap is_room memory) ∙ none in absurd (cc)
not_want e none (inl (inr disk)) = disk.1
not_want e none (inr (inl big)) = let x : true ≡ false = sym (ap is_room big) ∙ none in absurd (cc)
not_want e none (inr (inr full)) = let x : true ≡ false = sym (ap is_room full) ∙ none in absurd (cc)

-- what shows no rows
shows_none : (c : Compiled) (command : Command) → c.command ≡ command → c.returning ≡ None → (is_query command || (is_pragma command || false)) ≡ false → shows_rows false c ≡ false
shows_none c command does plain quiet = rw (does, plain) quiet

module _ (schema : Schema) (at : ℕ) (table : Table) (listed : slice_get schema.tables at ≡ Some table) (bare : table.is_counted ≡ false) (seen : (db : Trees) → overlay db [] table.tree ≡ db table.tree)
    (calm : (olds news : List Row) → works schema Enforced 0 table.tree olds news ≡ []) (refers : (among : Among) (db : Trees) → Refers among schema db)
    {A : Type 0} (put : A → Row) (take : Row → A) (back : (v : Value) (a : A) → take (v ∷ put a) ≡ a) (casts : (a : A) → cast_all table.columns (put a) ≡ put a) (rules : AreKept put schema table)
    (text : List ℕ) (plain : IsPlain (understood schema text)) (params : Row) (asked : IsAsked (length text) (length params) (understood schema text))
    (old new : State) (has : old.now.schema ≡ schema) (up : IsTrue old.is_open) (unlimited : old.step_limit ≡ None) (it : IsRising put take (old.now.trees table.tree)) (e : Error) (h : Executes text params old new (Err e)) where
  abbrev Unmet : Command → Type 0
  Unmet command =
      IsCaused (Faulted old new) e
      ⊎ (((e ≡ SqliteFailure code.TooBig) × (said : List ℕ) × Does None mode params old.now said None command (Err None)) ⊎ ((said : List ℕ) × Does None mode params old.now said None command (Err (Some e))))

  unmet_so : (command : Command) → command_in (understood schema text) command → edits_rows command ≡ true → (is_query command || (is_pragma command || false)) ≡ false → Unmet command
  unmet_so command means edits quiet = go (understood schema text) (ap (λ s. understood s text) has) means plain asked
    where
      go : (r : Result Compiled CompileError) → understood old.now.schema text ≡ r → command_in r command → IsPlain r → IsAsked (length text) (length params) r → Unmet command
      go (Ok c) is means plain asked = elim (fails text params old new c is (within _ _ asked.0) (sym asked.1) plain.1 plain.0 up command means edits (shows_none c command means plain.0 quiet) e h) [
        | inl w ↦ inl w
        | inr more ↦ elim more [
          | inl big ↦ inr (inl (big.0, text_of text c, subst (λ l. Does l (mode_of old) params old.now (text_of text c) None command (Err None)) unlimited big.1))
          | inr d ↦ inr (inr (text_of text c, subst (λ l. Does l (mode_of old) params old.now (text_of text c) None command (Err (Some e))) unlimited d))
        ]
      ]
      go (Err e) is means plain asked = absurd means

  unmet : (command : Command) → command_in (understood schema text) command → edits_rows command ≡ true → (is_query command || (is_pragma command || false)) ≡ false
      → IsWant (Faulted old new) e ⊎ ((said : List ℕ) × Does None mode params old.now said None command (Err (Some e)))
  unmet command means edits quiet = elim (unmet_so command means edits quiet) [
    | inl w ↦ inl (inl w)
    | inr more ↦ elim more [
      | inl big ↦ inl (inr (inl big.0))
      | inr d ↦ inr d
    ]
  ]

  pub insert_all_sane : (terms : List Term) (width : ℕ) → command_in (understood schema text) (Insert at (Values terms width)) → accepts_terms terms (stamped table params) ≡ true
      → (xs : List A) → value_rows (stamped table params) width (length terms / width) terms ≡ unnumbered put xs
      → KeysApart put take back schema table casts rules old.now.trees it (map take (old.now.trees table.tree) ++ xs) → IsWant (Faulted old new) e
  insert_all_sane terms width means accepts xs are unique = elim (unmet (Insert at (Values terms width)) means refl refl) [
    | inl w ↦ w
    | inr d ↦
        let r = insert_refused schema at table listed bare calm refers params old.now has d.0 terms width accepts e d.1 in
        want_weaker ⊥ (Faulted old new) e (λ none. absurd none) (subst (IsWant ⊥) (sym r.2) (insert_all_wants put take back schema table casts rules old.now.trees it xs _ are unique r.0 r.1))
  ]

  pub insert_sane : (terms : List Term) (width : ℕ) → command_in (understood schema text) (Insert at (Values terms width)) → accepts_terms terms (stamped table params) ≡ true
      → (a : A) → value_rows (stamped table params) width (length terms / width) terms ≡ (Null ∷ put a) ∷ []
      → KeysApart put take back schema table casts rules old.now.trees it (map take (old.now.trees table.tree) ++ a ∷ []) → IsWant (Faulted old new) e
  insert_sane terms width means accepts a = insert_all_sane terms width means accepts (a ∷ [])

  -- where the rows can stand, none is too long, and none lacks a number
  none_long : (edit : Edit) → AllByRecursion (CanStandIn schema table) edit.news → (row : Row) → Has edit.news row → IsOversized schema table row → ⊥
  none_long edit all row has = (each_has (CanStandIn schema table) edit.news row all has).0

  no_rule : (edit : Edit) → AllByRecursion (CanStandIn schema table) edit.news → (why : Refusal) → IsWant ⊥ (edit_error why) → IsRefused schema Enforced old.now.trees edit why → ⊥
  no_rule edit all (Violates rule) want refused = not_want (edit_error (Violates rule)) refl want
  no_rule edit all Mismatch want refused = not_want (edit_error Mismatch) refl want
  no_rule edit all BadReference want refused = not_want (edit_error BadReference) refl want
  no_rule edit all TooDeep want refused = not_want (edit_error TooDeep) refl want
  no_rule edit all NoRowid want refused =
      let each = all_weaker (CanStandIn schema table) (λ r. fits_i64 (id_in (rowid r)) ≡ true) (λ r it. it.1) edit.news all in
      absurd (let x = sym (test_from_all (λ r. fits_i64 (id_in (rowid r))) edit.news each) ∙ refused in cc)

  -- a row that can stand after the others
  pub insert_fits : (terms : List Term) (width : ℕ) → command_in (understood schema text) (Insert at (Values terms width)) → accepts_terms terms (stamped table params) ≡ true
      → (a : A) → value_rows (stamped table params) width (length terms / width) terms ≡ (Null ∷ put a) ∷ []
      → KeysApart put take back schema table casts rules old.now.trees it (map take (old.now.trees table.tree) ++ a ∷ [])
      → CanStandIn schema table (Int (next_rowid (old.now.trees table.tree)) ∷ put a) → IsCaused (Faulted old new) e
  insert_fits terms width means accepts a are unique fits = elim (unmet_so (Insert at (Values terms width)) means refl refl) [
    | inl w ↦ w
    | inr more ↦ elim more [
      | inl big ↦ let r = insert_oversized schema at table listed bare calm refers params old.now has big.1 terms width big.2 in absurd (none_long edit all r.0 r.1 r.2)
      | inr d ↦
          let r = insert_refused schema at table listed bare calm refers params old.now has d.0 terms width accepts e d.1 in
          absurd (no_rule edit all r.0 (insert_wants put take back schema table casts rules old.now.trees it a _ are unique r.0 r.1) r.1)
    ]
  ]
    where
      edit : Edit
      edit = edit_of old.now.trees table [] Chosen 0 (value_rows (stamped table params) width (length terms / width) terms)

      news : edit.news ≡ (Int (next_rowid (old.now.trees table.tree)) ∷ put a) ∷ []
      news =
          let cast : cast_row table (Null ∷ put a) ≡ Null ∷ put a = ap₂ ◌∷◌ cast_null (casts a) in
          ap (λ all. (edit_of old.now.trees table [] Chosen 0 all).news) are
          ∙ ap (λ r. with_rowid Chosen (old.now.trees table.tree) r ∷ []) cast

      all : AllByRecursion (CanStandIn schema table) edit.news
      all = subst (AllByRecursion (CanStandIn schema table)) (sym news) (fits, tt)

  -- a row that can be stored, into a table without a row: neither is it too long, nor is no number left
  pub insert_first : (terms : List Term) (width : ℕ) → command_in (understood schema text) (Insert at (Values terms width)) → accepts_terms terms (stamped table params) ≡ true
      → (a : A) → value_rows (stamped table params) width (length terms / width) terms ≡ (Null ∷ put a) ∷ []
      → KeysApart put take back schema table casts rules old.now.trees it (map take (old.now.trees table.tree) ++ a ∷ [])
      → old.now.trees table.tree ≡ [] → (IsOversized schema table (Int (pos 1) ∷ put a) → ⊥) → IsCaused (Faulted old new) e
  insert_first terms width means accepts a are unique empty fits =
      insert_fits terms width means accepts a are unique
      (subst (λ (rows : List Row). CanStandIn schema table (Int (next_rowid rows) ∷ put a)) (sym empty) (fits, refl))

  module _ (tests : List Term) (p : A → Bool) (tells : (v : Value) (a : A) → passes tests params (v ∷ put a) ≡ p a) where
    met : (shown : List Term) (rows : List Row) → Answers (record { schema = schema; trees = old.now.trees }) (record { lets = []; body = plain_query table.tree tests shown [] }) params rows
        → IsPermutation (map (λ r. eval_all shown (params ∷ r ∷ [])) (filter (passes tests params) (old.now.trees table.tree))) rows
    met shown rows got =
        subst (λ all. IsPermutation (map (λ r. eval_all shown (params ∷ r ∷ [])) (filter (passes tests params) all)) rows) (seen old.now.trees)
        (selected Null table.tree tests shown (overlay old.now.trees []) params rows (got.answer Null))

    pub delete_sane : command_in (understood schema text) (Delete at (record { lets = []; body = plain_query table.tree tests (col 1 0 ∷ []) [] }))
        → accepts_program schema (lets_of (record { lets = []; body = plain_query table.tree tests (col 1 0 ∷ []) [] })) (plain_query table.tree tests (col 1 0 ∷ []) []) params ≡ true
        → KeysApart put take back schema table casts rules old.now.trees it (delete_where p (map take (old.now.trees table.tree))) → IsWant (Faulted old new) e
    delete_sane means accepts unique =
        let q : Program = record { lets = []; body = plain_query table.tree tests (col 1 0 ∷ []) [] } in elim (unmet (Delete at q) means refl refl) [
          | inl w ↦ w
          | inr d ↦
              let r = delete_refused schema at table listed bare calm refers params old.now has d.0 q (plainly schema old.now.trees table.tree tests (col 1 0 ∷ []) params accepts) e d.1 in
              absurd (delete_wants put take back schema table casts rules old.now.trees it params tests p tells r.0 (met (col 1 0 ∷ []) r.0 r.1) unique r.2 r.3)
        ]

    pub update_sane : (f : A → A) (shown : List Term) → ((v : Value) (a : A) → eval_all shown (params ∷ (v ∷ put a) ∷ []) ≡ v ∷ v ∷ put (f a)) → AtMostOne p (map take (old.now.trees table.tree))
        → command_in (understood schema text) (Update at (record { lets = []; body = plain_query table.tree tests shown [] }))
        → accepts_program schema (lets_of (record { lets = []; body = plain_query table.tree tests shown [] })) (plain_query table.tree tests shown []) params ≡ true
        → KeysApart put take back schema table casts rules old.now.trees it (update_where p f (map take (old.now.trees table.tree))) → IsWant (Faulted old new) e
    update_sane f shown shows lone means accepts unique =
        let q : Program = record { lets = []; body = plain_query table.tree tests shown [] } in elim (unmet (Update at q) means refl refl) [
          | inl w ↦ w
          | inr d ↦
              let r = update_refused schema at table listed bare calm refers params old.now has d.0 q (plainly schema old.now.trees table.tree tests shown params accepts) e d.1 in
              want_weaker ⊥ (Faulted old new) e (λ none. absurd none) (subst (IsWant ⊥) (sym r.4) (update_wants put take back schema table casts rules old.now.trees it params tests p tells f shown shows lone r.0 (met shown r.0 r.1) unique r.2 r.3))
        ]

    -- rows that can stand anew
    pub update_fits : (f : A → A) (shown : List Term) → ((v : Value) (a : A) → eval_all shown (params ∷ (v ∷ put a) ∷ []) ≡ v ∷ v ∷ put (f a))
        → command_in (understood schema text) (Update at (record { lets = []; body = plain_query table.tree tests shown [] }))
        → accepts_program schema (lets_of (record { lets = []; body = plain_query table.tree tests shown [] })) (plain_query table.tree tests shown []) params ≡ true
        → ((given : List Row) → IsPermutation (map (λ r. eval_all shown (params ∷ r ∷ [])) (filter (passes tests params) (old.now.trees table.tree))) given
        → (why : Refusal) → IsRefused schema Enforced old.now.trees (edit_of old.now.trees table (ids_of given) Given 1 given) why → IsWant ⊥ (edit_error why))
        → AllByRecursion (λ r. CanStandIn schema table (rowid r ∷ put (f (take r)))) (old.now.trees table.tree) → IsCaused (Faulted old new) e
    update_fits f shown shows means accepts wants fits =
        let q : Program = record { lets = []; body = plain_query table.tree tests shown [] } in elim (unmet_so (Update at q) means refl refl) [
          | inl w ↦ w
          | inr more ↦ elim more [
            | inl big ↦
                let r = update_oversized schema at table listed bare calm refers params old.now has big.1 q big.2 in
                absurd (none_long (edit r.0) (all r.0 (met shown r.0 r.1)) r.2 r.3 r.4)
            | inr d ↦
                let r = update_refused schema at table listed bare calm refers params old.now has d.0 q (plainly schema old.now.trees table.tree tests shown params accepts) e d.1 in
                absurd (no_rule (edit r.0) (all r.0 (met shown r.0 r.1)) r.2 (wants r.0 (met shown r.0 r.1) r.2 r.3) r.3)
          ]
        ]
      where
        edit : List Row → Edit
        edit given = edit_of old.now.trees table (ids_of given) Given 1 given

        show : Row → Row
        show r = eval_all shown (params ∷ r ∷ [])

        column_of : Row → Row
        column_of r = cast_row table (drop 1 r)

        Stands : Row → Type 0
        Stands r = CanStandIn schema table (column_of r)

        anew : (r : Row) → r ≡ Int (id_of r) ∷ put (take r) → column_of (show r) ≡ rowid r ∷ put (f (take r))
        anew r e =
            ap column_of (ap show e ∙ shows (Int (id_of r)) (take r)) ∙ ap₂ ◌∷◌ (cast_int (id_of r)) (casts (f (take r)))
            ∙ ap (λ v. v ∷ put (f (take r))) (sym (ap rowid e))

        each : AllByRecursion (λ r. Stands (show r)) (old.now.trees table.tree)
        each =
            all_both (λ r. r ≡ Int (id_of r) ∷ put (take r)) (λ r. CanStandIn schema table (rowid r ∷ put (f (take r)))) (λ r. Stands (show r))
            (λ r e can. subst (CanStandIn schema table) (sym (anew r e)) can) (old.now.trees table.tree) it.typed fits

        all : (given : List Row) → IsPermutation (map show (filter (passes tests params) (old.now.trees table.tree))) given → AllByRecursion (CanStandIn schema table) (edit given).news
        all given are =
            let shown_all = all_map Stands show _ (all-filter (λ r. Stands (show r)) (passes tests params) (old.now.trees table.tree) each) in
            let given_all = recursion_from_All Stands given (All-permutation Stands _ given are (All-from_recursion Stands _ shown_all)) in
            subst (AllByRecursion (CanStandIn schema table)) (sym (as_given (left_by old.now.trees (edit given)) (map column_of given))) (all_map (CanStandIn schema table) column_of given given_all)

  pub whole_sane : (f : A → A) (shown : List Term) → ((v : Value) (a : A) → eval_all shown (params ∷ (v ∷ put a) ∷ []) ≡ v ∷ v ∷ put (f a))
      → command_in (understood schema text) (Update at (record { lets = []; body = plain_query table.tree [] shown [] }))
      → accepts_program schema (lets_of (record { lets = []; body = plain_query table.tree [] shown [] })) (plain_query table.tree [] shown []) params ≡ true
      → KeysApart put take back schema table casts rules old.now.trees it (map f (map take (old.now.trees table.tree))) → IsWant (Faulted old new) e
  whole_sane f shown shows means accepts unique =
      let q : Program = record { lets = []; body = plain_query table.tree [] shown [] } in elim (unmet (Update at q) means refl refl) [
        | inl w ↦ w
        | inr d ↦
            let r = update_refused schema at table listed bare calm refers params old.now has d.0 q (plainly schema old.now.trees table.tree [] shown params accepts) e d.1 in
            want_weaker ⊥ (Faulted old new) e (λ none. absurd none) (subst (IsWant ⊥) (sym r.4) (whole_wants put take back schema table casts rules old.now.trees it params f shown shows r.0 (met [] (λ a. true) (λ v a. refl) shown r.0 r.1) unique r.2 r.3))
      ]
