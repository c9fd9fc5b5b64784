-- What the edits of one table make of the records that its rows say.
use Rattle.std.proofs.Common.{◌≡◌, ℤ, List, [], ◌∷◌, ◌++◌, map, filter, Bool, not, refl, sym, ap, ap₂, subst, ◌∙◌, inl, inr, append_assoc, append-nil}
use Rattle.std.specs.List.Sorted.{IsPermutation}
use Rattle.std.proofs.lemmas.Bool.{cases_Bool}
use Rattle.std.proofs.lemmas.List.{map-append}
use Rattle.sqlite.specs.declared.types.Value.{Value}
use Rattle.sqlite.specs.declared.types.Value.TheVariants.{Null, Int}
use Rattle.sqlite.specs.Order.{Row}
use Rattle.sqlite.specs.Tree.{rowid, put_row, without_rowid, has_rowid}
use Rattle.sqlite_trees.proofs.TreeLemmas.{IsTable-put_row, all-put_row}
use Rattle.sqlite.specs.Edit.{id_in, next_rowid, numbered, put_all, without_all}
use Rattle.sqlite.specs.Rowids.TheVariants.{Chosen}
use Rattle.dip_store_rows.specs.Lists.{update_where, delete_where}
use Rattle.dip_store_rows.proofs.ListLemmas.{all_weaker, all-filter, ascending-filter, filter-map}
use Rattle.dip_store_sql.specs.Recorded.{IsRising}
use Rattle.dip_store_sql.proofs.Places.{HaveIds, id_of, ids_in, added_last, all_taken_out, none_change, of_found, put_back}

-- records as an INSERT is given them, before they have numbers
abbrev pub unnumbered : {A : Type 0} → (A → Row) → List A → List Row
unnumbered put xs = map (λ a. Null ∷ put a) xs

module _ {A : Type 0} (put : A → Row) (take : Row → A) (back : (v : Value) (a : A) → take (v ∷ put a) ≡ a) where
  have_ids : (rows : List Row) → IsRising put take rows → HaveIds rows
  have_ids rows it = all_weaker _ (λ r. rowid r ≡ Int (id_of r)) (λ r h. ap rowid h) rows it.typed

  -- a row more, after the others
  pub grown : (rows new : List Row) (a : A) → IsRising put take rows → new ≡ put_row (Int (next_rowid rows) ∷ put a) rows → IsRising put take new × (map take new ≡ map take rows ++ a ∷ [])
  grown rows new a it is =
      let row : Row = Int (next_rowid rows) ∷ put a in
      let typed : row ≡ Int (id_in (rowid row)) ∷ put (take row) = ap (λ b. Int (next_rowid rows) ∷ put b) (sym (back (Int (next_rowid rows)) a)) in (
        subst (IsRising put take) (sym is) (record { typed = all-put_row _ row rows typed it.typed; rising = IsTable-put_row row rows it.rising }),
        ap (map take) (is ∙ added_last rows (put a) (have_ids rows it) it.rising) ∙ map-append take rows (row ∷ []) ∙ ap (λ b. map take rows ++ b ∷ []) (back (Int (next_rowid rows)) a),
      )

  -- rows more, each after those before it
  pub all_grown : (rows : List Row) (xs : List A) → IsRising put take rows → IsRising put take (put_all rows (numbered Chosen rows (unnumbered put xs))) × (map take (put_all rows (numbered Chosen rows (unnumbered put xs))) ≡ map take rows ++ xs)
  all_grown rows [] it = (it, sym (append-nil (map take rows)))
  all_grown rows (x ∷ xs) it =
      let one = grown rows (put_row (Int (next_rowid rows) ∷ put x) rows) x it refl in
      let more = all_grown (put_row (Int (next_rowid rows) ∷ put x) rows) xs one.0 in
      (more.0, more.1 ∙ ap (λ (ys : List A). ys ++ xs) one.1 ∙ append_assoc (map take rows) (x ∷ []) xs)

  -- without the rows that pass a test
  pub shrunk : (p : A → Bool) (rows new : List Row) (ids : List ℤ) → IsRising put take rows → IsPermutation (ids_in (filter (λ r. p (take r)) rows)) ids → new ≡ without_all rows ids
      → IsRising put take new × (map take new ≡ delete_where p (map take rows))
  shrunk p rows new ids it same is =
      let left = is ∙ all_taken_out (λ r. p (take r)) rows ids (have_ids rows it) it.rising same in (
        subst (IsRising put take) (sym left) (record { typed = all-filter _ (λ r. not (p (take r))) rows it.typed; rising = ascending-filter _ (λ r. not (p (take r))) rows it.rising }),
        ap (map take) left ∙ sym (filter-map (λ a. not (p a)) take rows),
      )

  abbrev changed_row : (A → A) → Row → Row
  changed_row f r = rowid r ∷ put (f (take r))

  -- a row's change is its record's
  map_update : (p : A → Bool) (f : A → A) (rows : List Row) → map take (update_where (λ r. p (take r)) (changed_row f) rows) ≡ update_where p f (map take rows)
  map_update p f [] = refl
  map_update p f (r ∷ rows) = elim (cases_Bool (p (take r))) [
    | inl e ↦ rw e (ap₂ ◌∷◌ (back (rowid r) (f (take r))) (map_update p f rows))
    | inr e ↦ rw e (ap (λ rs. take r ∷ rs) (map_update p f rows))
  ]

  -- the one row that passes a test is changed
  pub renewed : (p : A → Bool) (f : A → A) (rows new : List Row) (r : Row) → IsRising put take rows → filter (λ x. p (take x)) rows ≡ r ∷ [] → new ≡ put_row (changed_row f r) (without_rowid (id_of r) rows)
      → IsRising put take new × (map take new ≡ update_where p f (map take rows))
  renewed p f rows new r it one is =
      let ids = have_ids rows it in
      let has : rowid r ≡ Int (id_of r) = of_found (λ x. rowid x ≡ Int (id_of x)) (λ x. p (take x)) rows r ids one in
      let typed : changed_row f r ≡ Int (id_in (rowid r)) ∷ put (take (changed_row f r)) = ap₂ (λ v a. v ∷ put a) has (sym (back (rowid r) (f (take r)))) in
      let left = λ (x : Row). not (has_rowid (id_of r) x) in (
        subst (IsRising put take) (sym is) (record { typed = all-put_row _ (changed_row f r) (filter left rows) typed (all-filter _ left rows it.typed); rising = IsTable-put_row (changed_row f r) (filter left rows) (ascending-filter _ left rows it.rising) }),
        ap (map take) (is ∙ put_back (λ x. p (take x)) (changed_row f) rows r ids it.rising one refl) ∙ map_update p f rows,
      )

  -- none passes
  pub not_renewed : (p : A → Bool) (f : A → A) (rows new : List Row) → IsRising put take rows → filter (λ x. p (take x)) rows ≡ [] → new ≡ rows
      → IsRising put take new × (map take new ≡ update_where p f (map take rows))
  not_renewed p f rows new it none is = (subst (IsRising put take) (sym is) it, ap (map take) is ∙ sym (none_change p f (map take rows) (filter-map p take rows ∙ ap (map take) none)))
