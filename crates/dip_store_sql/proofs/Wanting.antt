-- Edits of records whose keys stay apart are refused for want of numbers alone.
use Rattle.std.proofs.Common.{◌≡◌, inl, inr, ℤ, List, [], ◌∷◌, ◌++◌, map, filter, Bool, false, refl, sym, ap, ap₂, subst, ◌∙◌, true}
use Rattle.std.specs.List.{AllByRecursion}
use Rattle.std.specs.List.Sorted.{IsPermutation}
use Rattle.std.specs.Ordering.{is_eq}
use Rattle.std.proofs.lemmas.Bool.{cases_Bool}
use Rattle.std.proofs.lemmas.List.Sorted.{IsPermutation-map}
use Rattle.sqlite.specs.declared.types.Value.{Value}
use Rattle.sqlite.specs.declared.types.Value.TheVariants.{Null, Int}
use Rattle.sqlite.specs.Order.{Row, value_cmp}
use Rattle.sqlite.specs.Tree.{Trees, rowid, put_row, without_rowid, has_rowid, with_tree}
use Rattle.sqlite.specs.Term.{Term, col, eval_all}
use Rattle.sqlite.specs.Cast.{cast_all, cast_row}
use Rattle.sqlite.specs.Table.{Table}
use Rattle.sqlite.specs.Schema.{Schema}
use Rattle.sqlite.specs.Edit.{are_fresh, edit_of, edited, IsRefused, next_rowid, numbered, put_all}
use Rattle.sqlite_rules.specs.Calls.{ids_of}
use Rattle.sqlite_rules.specs.declared.error.Refusal.{Refusal}
use Rattle.sqlite.specs.Rowids.TheVariants.{Chosen, Given}
use Rattle.sqlite.specs.Effect.{edit_error}
use Rattle.sqlite.proofs.Callers.{one_permutation}
use Rattle.sqlite_schema.specs.declared.schema.Keys.TheVariants.{Enforced}
use Rattle.sqlite_schema.specs.declared.schema.Constraint.TheVariants.{Unique}
use Rattle.sqlite_schema.specs.Rules.{Keeps}
use Rattle.dip_store_rows.specs.Lists.{update_where, delete_where}
use Rattle.dip_store_rows.proofs.ListLemmas.{all_weaker, map-map, filter-map}
use Rattle.dip_store_sql.specs.Recorded.{IsRising, AtMostOne}
use Rattle.dip_store_sql.specs.Queries.{passes}
use Rattle.dip_store_sql.proofs.Changes.{cast_int, each_cast, none_in, nothing_in, one_in}
use Rattle.dip_store_sql.proofs.Edits.{all_grown, grown, shrunk, renewed, not_renewed, unnumbered}
use Rattle.dip_store_sql.proofs.Finding.{passing}
use Rattle.dip_store_sql.proofs.Places.{above_next, id_of, ids_in, of_found}
use Rattle.dip_store_sql.specs.Refusals.{IsWant}
use Rattle.dip_store_sql.proofs.Passing.{AreKept, AreRecords, fresh, no_record, not_taken, one_record, records}
use Rattle.dip_store_sql.proofs.Whole.{whole_fresh, whole_records, whole_rising}

-- what is left after a filter passes it
all_left : (id : ℤ) (rows : List Row) → AllByRecursion (λ r. has_rowid id r ≡ false) (without_rowid id rows)
all_left id [] = tt
all_left id (r ∷ rows) = elim (cases_Bool (has_rowid id r)) [
  | inl e ↦ rw e (all_left id rows)
  | inr e ↦ rw e (e, all_left id rows)
]

module _ {A : Type 0} (put : A → Row) (take : Row → A) (back : (v : Value) (a : A) → take (v ∷ put a) ≡ a) (schema : Schema) (table : Table) (casts : (a : A) → cast_all table.columns (put a) ≡ put a)
    (rules : AreKept put schema table) (db : Trees) (it : IsRising put take (db table.tree)) where
  -- where the records are these after the edit, no two of them agree on their key
  abbrev pub KeysApart : List A → Type 0
  KeysApart xs = (rows : List Row) → IsRising put take rows → map take rows ≡ xs → Keeps Unique schema (with_tree db table.tree rows)

  -- records at numbers of their own
  all_records : (rows : List Row) (xs : List A) → AreRecords put (numbered Chosen rows (unnumbered put xs))
  all_records rows [] = tt
  all_records rows (x ∷ xs) = ((Int (next_rowid rows), x, refl, refl), all_records (put_row (Int (next_rowid rows) ∷ put x) rows) xs)

  -- each of which is above those before it
  all_fresh : (rows : List Row) (xs : List A) → IsRising put take rows → are_fresh rows (numbered Chosen rows (unnumbered put xs)) ≡ true
  all_fresh rows [] it = refl
  all_fresh rows (x ∷ xs) it =
      let row = Int (next_rowid rows) ∷ put x in
      let ids = all_weaker _ (λ r. rowid r ≡ Int (id_of r)) (λ r e. ap rowid e) rows it.typed in
      let above = all_weaker _ (λ r. is_eq (value_cmp (rowid r) (rowid row)) ≡ false) (λ r e. ap is_eq e) rows (above_next rows ids it.rising) in
      let one = grown put take back rows (put_row row rows) x it refl in
      rw (not_taken row rows above) (all_fresh (put_row row rows) xs one.0)

  pub insert_all_wants : (xs : List A) (sources : List Row) → sources ≡ unnumbered put xs → KeysApart (map take (db table.tree) ++ xs)
      → (why : Refusal) → IsRefused schema Enforced db (edit_of db table [] Chosen 0 sources) why → IsWant ⊥ (edit_error why)
  insert_all_wants xs sources are unique why h =
      let rows = db table.tree in
      let edit = edit_of db table [] Chosen 0 sources in
      let news : edit.news ≡ numbered Chosen rows (unnumbered put xs) = ap (numbered Chosen rows) (ap (map (λ s. cast_row table s)) are ∙ each_cast put table casts xs) in
      let same : edited db edit ≡ put_all rows (numbered Chosen rows (unnumbered put xs)) = ap (put_all rows) news in
      let more = all_grown put take back rows xs it in
      records put take back schema table casts rules db edit refl (subst (AreRecords put) (sym news) (all_records rows xs)) (ap (are_fresh rows) news ∙ all_fresh rows xs it)
      (unique (edited db edit) (subst (IsRising put take) (sym same) more.0) (ap (map take) same ∙ more.1)) why h

  pub insert_wants : (a : A) (sources : List Row) → sources ≡ (Null ∷ put a) ∷ [] → KeysApart (map take (db table.tree) ++ a ∷ [])
      → (why : Refusal) → IsRefused schema Enforced db (edit_of db table [] Chosen 0 sources) why → IsWant ⊥ (edit_error why)
  insert_wants a = insert_all_wants (a ∷ [])

  module _ (params : Row) (tests : List Term) (p : A → Bool) (tells : (v : Value) (a : A) → passes tests params (v ∷ put a) ≡ p a) where
    same_rows : filter (passes tests params) (db table.tree) ≡ filter (λ r. p (take r)) (db table.tree)
    same_rows = passing put take tests params p tells (db table.tree) it

    pub delete_wants : (given : List Row) → IsPermutation (map (λ r. eval_all (col 1 0 ∷ []) (params ∷ r ∷ [])) (filter (passes tests params) (db table.tree))) given
        → KeysApart (delete_where p (map take (db table.tree))) → (why : Refusal) → IsRefused schema Enforced db (edit_of db table (ids_of given) Given 0 []) why → ⊥
    delete_wants given are unique why h =
        let rows = db table.tree in
        let edit = edit_of db table (ids_of given) Given 0 [] in
        let found = filter (λ r. p (take r)) rows in
        let ids : IsPermutation (ids_in found) (ids_of given) =
        subst (λ l. IsPermutation l (ids_of given)) (map-map id_of (λ (r : Row). rowid r ∷ []) found)
        (IsPermutation-map id_of (map (λ (r : Row). rowid r ∷ []) found) given (subst (λ l. IsPermutation (map (λ (r : Row). rowid r ∷ []) l) given) same_rows are)) in
        let g = shrunk put take back p rows (edited db edit) (ids_of given) it ids refl in
        no_record put take back schema table casts rules db edit refl refl (unique (edited db edit) g.0 g.1) why h

    pub update_wants : (f : A → A) (shown : List Term) → ((v : Value) (a : A) → eval_all shown (params ∷ (v ∷ put a) ∷ []) ≡ v ∷ v ∷ put (f a)) → AtMostOne p (map take (db table.tree))
        → (given : List Row) → IsPermutation (map (λ r. eval_all shown (params ∷ r ∷ [])) (filter (passes tests params) (db table.tree))) given
        → KeysApart (update_where p f (map take (db table.tree))) → (why : Refusal) → IsRefused schema Enforced db (edit_of db table (ids_of given) Given 1 given) why → IsWant ⊥ (edit_error why)
    update_wants f shown shows lone given are unique why h = elim lone [
      | inl none ↦ absurd (none_there none)
      | inr one ↦ one_there one.0 one.1
    ]
      where
        rows : List Row
        rows = db table.tree

        show : Row → Row
        show r = eval_all shown (params ∷ r ∷ [])

        found : List Row
        found = filter (λ r. p (take r)) rows

        met : IsPermutation (map show found) given
        met = subst (λ l. IsPermutation (map show l) given) same_rows are

        none_there : filter p (map take rows) ≡ [] → ⊥
        none_there none =
            let gone : found ≡ [] = none_in take found (sym (filter-map p take rows) ∙ none) in
            let empty : given ≡ [] = nothing_in given (subst (λ l. IsPermutation (map show l) given) gone met) in
            let g = not_renewed put take back p f rows rows it gone refl in
            no_record put take back schema table casts rules db (edit_of db table [] Given 1 []) refl refl (unique rows g.0 g.1) why (subst (λ all. IsRefused schema Enforced db (edit_of db table (ids_of all) Given 1 all) why) empty h)

        one_there : (x : A) → filter p (map take rows) ≡ x ∷ [] → IsWant ⊥ (edit_error why)
        one_there x one =
            let only = one_in take x found (sym (filter-map p take rows) ∙ one) in
            let r = only.0 in
            let alone : given ≡ show r ∷ [] = one_permutation (show r) given (subst (λ l. IsPermutation (map show l) given) only.1 met) in
            let typed : r ≡ Int (id_of r) ∷ put (take r) = of_found (λ (y : Row). y ≡ Int (id_of y) ∷ put (take y)) (λ (y : Row). p (take y)) rows r it.typed only.1 in
            let showing : show r ≡ Int (id_of r) ∷ Int (id_of r) ∷ put (f (take r)) = ap show typed ∙ shows (Int (id_of r)) (take r) in
            let row : cast_row table (Int (id_of r) ∷ put (f (take r))) ≡ Int (id_of r) ∷ put (f (take r)) = ap₂ ◌∷◌ (cast_int (id_of r)) (casts (f (take r))) in
            let id : rowid r ≡ Int (id_of r) = ap rowid typed in
            let whole : given ≡ (Int (id_of r) ∷ Int (id_of r) ∷ put (f (take r))) ∷ [] = alone ∙ ap (λ y. y ∷ []) showing in
            let edit = edit_of db table (id_of r ∷ []) Given 1 ((Int (id_of r) ∷ Int (id_of r) ∷ put (f (take r))) ∷ []) in
            let news : edit.news ≡ (Int (id_of r) ∷ put (f (take r))) ∷ [] = ap (λ y. y ∷ []) row in
            let new = Int (id_of r) ∷ put (f (take r)) in
            let rest = without_rowid (id_of r) rows in
            let same : edited db edit ≡ put_row (rowid r ∷ put (f (take r))) rest = ap (put_all rest) news ∙ ap (λ v. put_row (v ∷ put (f (take r))) rest) (sym id) in
            let g = renewed put take back p f rows (edited db edit) r it only.1 same in
            one_record put take back schema table casts rules db edit (Int (id_of r)) (f (take r)) refl news (fresh new rest (not_taken new rest (all_left (id_of r) rows))) refl (unique (edited db edit) g.0 g.1) why
            (subst (λ all. IsRefused schema Enforced db (edit_of db table (ids_of all) Given 1 all) why) whole h)

  -- an UPDATE of all rows
  pub whole_wants : (params : Row) (f : A → A) (shown : List Term) (shows : (v : Value) (a : A) → eval_all shown (params ∷ (v ∷ put a) ∷ []) ≡ v ∷ v ∷ put (f a))
      → (given : List Row) → IsPermutation (map (λ r. eval_all shown (params ∷ r ∷ [])) (filter (passes [] params) (db table.tree))) given
      → KeysApart (map f (map take (db table.tree))) → (why : Refusal) → IsRefused schema Enforced db (edit_of db table (ids_of given) Given 1 given) why → IsWant ⊥ (edit_error why)
  whole_wants params f shown shows given are unique why h =
      let edit = edit_of db table (ids_of given) Given 1 given in
      let g = whole_rising put take back table casts db it params f shown shows given are (edited db edit) refl in
      records put take back schema table casts rules db edit refl (whole_records put take back table casts db it params f shown shows given are) (whole_fresh put take back table casts db it params f shown shows given are)
      (unique (edited db edit) g.0 g.1) why h
