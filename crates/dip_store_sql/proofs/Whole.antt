-- What an UPDATE of all rows puts into a table: each row anew, where it stands.
use Rattle.std.proofs.Common.{◌≡◌, ◌+◌, List, [], ◌∷◌, ◌++◌, map, filter, drop, Bool, true, false, not, refl, sym, ap, ap₂, subst, ◌∙◌, arith, append-nil, get_or, Ordering, Less, Equal, Greater, is_eq, is_lt, IsSorted}
use Rattle.std.specs.List.{AllByRecursion, IsDistinct}
use Rattle.std.specs.List.Sorted.{IsPermutation, IsStrictlySortedBy}
use Rattle.std.specs.Cmp.{IsTotalOrder}
use Rattle.std.specs.Ordering.{match_ordering, ordering_reverse}
use Rattle.std.proofs.lemmas.Bool.{and_parts, or_parts}
use Rattle.std.proofs.lemmas.List.Elements.{All-from_recursion, recursion_from_All}
use Rattle.std.proofs.lemmas.List.Sorted.{All-permutation, IsPermutation-append_right, IsPermutation-cons, IsPermutation-map, IsPermutation-middle, IsPermutation-refl, IsPermutation-sym, IsPermutation-trans, list_any-IsPermutation}
use Rattle.std.proofs.lemmas.Map.Keys.{IsDistinct-head, IsDistinct-tail, IsDistinct-IsPermutation, Less-from_sorted}
use Rattle.sqlite.specs.declared.types.Value.{Value}
use Rattle.sqlite.specs.declared.types.Value.TheVariants.{Int}
use Rattle.sqlite.specs.Order.{Row, value_cmp}
use Rattle.sqlite_value.proofs.OrderLemmas.{value_cmp_total}
use Rattle.sqlite.specs.Tree.{Trees, rowid, put_row, IsTable}
use Rattle.sqlite_trees.proofs.TreeLemmas.{IsTable-put_row}
use Rattle.sqlite.specs.Edit.{Edit, edit_of, edited, id_in, is_taken, are_fresh, left_by, numbered, put_all}
use Rattle.sqlite_rules.specs.Calls.{ids_of}
use Rattle.sqlite.specs.Rowids.TheVariants.{Given}
use Rattle.sqlite.specs.Term.{Term, eval_all}
use Rattle.sqlite.specs.Cast.{cast_all, cast_row}
use Rattle.sqlite.specs.Table.{Table}
use Rattle.sqlite.specs.View.{is_int}
use Rattle.dip_store_rows.proofs.ListLemmas.{all_both, all_map, all_of, all_weaker, ascending-map, filter_all, filter_none}
use Rattle.dip_store_rows.proofs.SortLemmas.{sorted_unique}
use Rattle.dip_store_sql.specs.Queries.{passes}
use Rattle.dip_store_sql.specs.Recorded.{IsRising}
use Rattle.dip_store_sql.proofs.Changes.{cast_int}
use Rattle.dip_store_sql.proofs.Passing.{AreRecords, IsRecord}
use Rattle.dip_store_sql.proofs.Places.{HaveIds, all_taken_out, id_of, ids_in}

-- ---- rows put in one by one

-- the order of rows by their rowids
abbrev row_cmp : Row → Row → Ordering
row_cmp a b = value_cmp (rowid a) (rowid b)

abbrev is_at : Row → Row → Bool
is_at a b = is_eq (row_cmp a b)

row_total : IsTotalOrder row_cmp
row_total = record {
  antisymm = λ x y. value_cmp_total.antisymm (rowid x) (rowid y);
  trans = λ x y z. value_cmp_total.trans (rowid x) (rowid y) (rowid z);
  congr = λ x y z. value_cmp_total.congr (rowid x) (rowid y) (rowid z);
}

turned : (o : Ordering) → is_eq (ordering_reverse o) ≡ is_eq o
turned Less = refl
turned Equal = refl
turned Greater = refl

is_at_turned : (x y : Row) → is_at x y ≡ is_at y x
is_at_turned x y = ap is_eq (row_total.antisymm x y) ∙ turned (row_cmp y x)

strictly : (rows : List Row) → IsTable rows → IsStrictlySortedBy row_cmp rows
unfolding IsStrictlySortedBy
strictly [] up = tt
strictly (r ∷ rows) up = (up.0, strictly rows up.1)

sorted : (rows : List Row) → IsTable rows → IsSorted row_cmp rows
sorted rows up k d low less = ap is_lt (row_total.antisymm (get_or rows (k + 1) d) (get_or rows k d) ∙ ap ordering_reverse (Less-from_sorted row_cmp rows k (k + 1) d (strictly rows up) (omega arith) less))

apart : (rows : List Row) → IsTable rows → IsDistinct is_at rows
unfolding IsDistinct
apart [] up = tt
apart (r ∷ rows) up = (all_weaker _ (λ s. is_at r s ≡ false) (λ s e. ap is_eq e) rows up.0, apart rows up.1)

not_true : (b : Bool) → not b ≡ true → b ≡ false
not_true true h = sym h
not_true false h = refl

-- a row at a rowid that is free comes among the others
put_free : (new : Row) (rows : List Row) → is_taken rows new ≡ false → IsPermutation (new ∷ rows) (put_row new rows)
put_free new [] free = IsPermutation-refl (new ∷ [])
put_free new (r ∷ rows) free = go (value_cmp (rowid r) (rowid new)) refl (put_free new rows (or_parts _ _ free).1)
  where
    go : (o : Ordering) → value_cmp (rowid r) (rowid new) ≡ o → IsPermutation (new ∷ rows) (put_row new rows) → IsPermutation (new ∷ r ∷ rows) (match_ordering o (r ∷ put_row new rows) (new ∷ rows) (new ∷ r ∷ rows))
    go Less e more = IsPermutation-trans _ _ _ (IsPermutation-middle (new ∷ []) r rows) (IsPermutation-cons r _ _ more)
    go Equal e more = absurd (let x = sym (ap is_eq e) ∙ (or_parts _ _ free).0 in cc)
    go Greater e more = IsPermutation-refl (new ∷ r ∷ rows)

-- another rowid stays free
still_free : (r : Row) (rows : List Row) (s : Row) → is_taken rows r ≡ false → is_at r s ≡ false → is_taken rows s ≡ false → is_taken (put_row r rows) s ≡ false
still_free r rows s free other there = sym (list_any-IsPermutation (λ x. is_at x s) (r ∷ rows) (put_row r rows) (put_free r rows free)) ∙ rw (other, there) refl

-- rows at rowids of their own are put in at free ones
all_free : (rows news : List Row) → IsDistinct is_at news → AllByRecursion (λ s. is_taken rows s ≡ false) news → are_fresh rows news ≡ true
all_free rows [] own free = refl
all_free rows (r ∷ news) own free =
    rw free.0 (all_free (put_row r rows) news (IsDistinct-tail is_at r news own)
    (all_both (λ s. is_at r s ≡ false) (λ s. is_taken rows s ≡ false) (λ s. is_taken (put_row r rows) s ≡ false) (λ s e f. still_free r rows s free.0 e f) news (IsDistinct-head is_at r news own) free.1))

-- and all of them are then there
all_put : (rows news : List Row) → are_fresh rows news ≡ true → IsPermutation (news ++ rows) (put_all rows news)
all_put rows [] fresh = IsPermutation-refl rows
all_put rows (r ∷ news) fresh =
    let parts = and_parts (not (is_taken rows r)) _ fresh in
    IsPermutation-trans _ _ _ (IsPermutation-sym _ _ (IsPermutation-middle news r rows))
    (IsPermutation-trans _ _ _ (IsPermutation-append_right news _ _ (put_free r rows (not_true _ parts.0))) (all_put (put_row r rows) news parts.1))

table_put : (rows news : List Row) → IsTable rows → IsTable (put_all rows news)
table_put rows [] up = up
table_put rows (r ∷ news) up = table_put (put_row r rows) news (IsTable-put_row r rows up)

-- rows that rise, put one by one in any order into a table without a row
put_anew : (rows news : List Row) → IsTable rows → IsPermutation rows news → (are_fresh [] news ≡ true) × (put_all [] news ≡ rows)
put_anew rows news up same =
    let fresh = all_free [] news (IsDistinct-IsPermutation is_at is_at_turned rows news same (apart rows up)) (all_of (λ s. is_taken [] s ≡ false) (λ s. refl) news) in
    let all = IsPermutation-trans _ _ _ same (subst (λ l. IsPermutation l (put_all [] news)) (append-nil news) (all_put [] news fresh)) in
    (fresh, sorted_unique row_cmp row_total rows (put_all [] news) up all (sorted (put_all [] news) (table_put [] news tt)))

-- rowids that are given stay
pub as_given : (rows news : List Row) → numbered Given rows news ≡ news
as_given rows [] = refl
as_given rows (r ∷ news) = ap (λ rs. r ∷ rs) (as_given (put_row r rows) news)

-- ---- records written anew

module _ {A : Type 0} (put : A → Row) (take : Row → A) (back : (v : Value) (a : A) → take (v ∷ put a) ≡ a) (table : Table) (casts : (a : A) → cast_all table.columns (put a) ≡ put a) (db : Trees) (it : IsRising put take (db table.tree))
    (params : Row) (f : A → A) (shown : List Term) (shows : (v : Value) (a : A) → eval_all shown (params ∷ (v ∷ put a) ∷ []) ≡ v ∷ v ∷ put (f a))
    (given : List Row) (are : IsPermutation (map (λ r. eval_all shown (params ∷ r ∷ [])) (filter (passes [] params) (db table.tree))) given) where
  abbrev pub whole_edit : Edit
  whole_edit = edit_of db table (ids_of given) Given 1 given

  abbrev rows : List Row
  rows = db table.tree

  abbrev show : Row → Row
  show r = eval_all shown (params ∷ r ∷ [])

  -- the row after the UPDATE; and what is shown, in columns
  abbrev anew : Row → Row
  anew r = rowid r ∷ put (f (take r))

  abbrev column_of : Row → Row
  column_of r = cast_row table (drop 1 r)

  showing : (r : Row) → r ≡ Int (id_of r) ∷ put (take r) → show r ≡ Int (id_of r) ∷ Int (id_of r) ∷ put (f (take r))
  showing r e = ap show e ∙ shows (Int (id_of r)) (take r)

  each_anew : (rs : List Row) → AllByRecursion (λ r. r ≡ Int (id_of r) ∷ put (take r)) rs → map column_of (map show rs) ≡ map anew rs
  each_anew [] all = refl
  each_anew (r ∷ rs) all =
      let row : cast_row table (Int (id_of r) ∷ put (f (take r))) ≡ Int (id_of r) ∷ put (f (take r)) = ap₂ ◌∷◌ (cast_int (id_of r)) (casts (f (take r))) in
      ap₂ ◌∷◌ (ap column_of (showing r all.0) ∙ row ∙ ap (λ v. v ∷ put (f (take r))) (sym (ap rowid all.0))) (each_anew rs all.1)

  each_id : (rs : List Row) → AllByRecursion (λ r. r ≡ Int (id_of r) ∷ put (take r)) rs → map id_of (map show rs) ≡ ids_in rs
  each_id [] all = refl
  each_id (r ∷ rs) all = ap₂ ◌∷◌ (ap id_of (showing r all.0)) (each_id rs all.1)

  -- all rows are met
  met : IsPermutation (map show rows) given
  met = subst (λ l. IsPermutation (map show l) given) (filter_all (passes [] params) rows (all_of (λ r. passes [] params r ≡ true) (λ r. refl) rows)) are

  -- so all are taken out, and put in anew
  gone : left_by db whole_edit ≡ []
  gone =
      let has : HaveIds rows = all_weaker _ (λ r. rowid r ≡ Int (id_of r)) (λ r e. ap rowid e) rows it.typed in
      let ids : IsPermutation (ids_in rows) (ids_of given) = subst (λ l. IsPermutation l (ids_of given)) (each_id rows it.typed) (IsPermutation-map id_of (map show rows) given met) in
      let all : filter (λ r. true) rows ≡ rows = filter_all (λ r. true) rows (all_of (λ r. true ≡ true) (λ r. refl) rows) in
      all_taken_out (λ r. true) rows (ids_of given) has it.rising (subst (λ l. IsPermutation (ids_in l) (ids_of given)) (sym all) ids)
      ∙ filter_none (λ r. not true) rows (all_of (λ r. not true ≡ false) (λ r. refl) rows)

  news_are : whole_edit.news ≡ map column_of given
  news_are = as_given (left_by db whole_edit) (map column_of given)

  shuffled : IsPermutation (map anew rows) (map column_of given)
  shuffled = subst (λ l. IsPermutation l (map column_of given)) (each_anew rows it.typed) (IsPermutation-map column_of (map show rows) given met)

  rises : IsTable (map anew rows)
  rises = ascending-map (λ a b. value_cmp (rowid a) (rowid b) ≡ Less) anew rows it.rising

  pub whole_fresh : are_fresh (left_by db whole_edit) whole_edit.news ≡ true
  whole_fresh = ap₂ are_fresh gone news_are ∙ (put_anew (map anew rows) (map column_of given) rises shuffled).0

  pub whole_rows : edited db whole_edit ≡ map anew rows
  whole_rows = ap₂ put_all gone news_are ∙ (put_anew (map anew rows) (map column_of given) rises shuffled).1

  pub whole_records : AreRecords put whole_edit.news
  whole_records =
      let one : (r : Row) → r ≡ Int (id_of r) ∷ put (take r) → IsRecord put (anew r) = λ r e. (rowid r, f (take r), ap is_int (ap rowid e), refl) in
      let all = all_map (IsRecord put) anew rows (all_weaker _ (λ r. IsRecord put (anew r)) one rows it.typed) in
      subst (AreRecords put) (sym news_are) (recursion_from_All (IsRecord put) _ (All-permutation (IsRecord put) _ _ shuffled (All-from_recursion (IsRecord put) _ all)))

  map_anew : (rs : List Row) → map take (map anew rs) ≡ map f (map take rs)
  map_anew [] = refl
  map_anew (r ∷ rs) = ap₂ ◌∷◌ (back (rowid r) (f (take r))) (map_anew rs)

  -- they are the records, each changed
  pub whole_rising : (new : List Row) → new ≡ edited db whole_edit → IsRising put take new × (map take new ≡ map f (map take rows))
  whole_rising new is =
      let same = is ∙ whole_rows in
      let typed = λ (r : Row) (e : r ≡ Int (id_of r) ∷ put (take r)). ap₂ (λ v a. v ∷ put a) (ap rowid e) (sym (back (rowid r) (f (take r)))) in (
        subst (IsRising put take) (sym same) (record { typed = all_map (λ r. r ≡ Int (id_in (rowid r)) ∷ put (take r)) anew rows (all_weaker _ _ typed rows it.typed); rising = rises }),
        ap (map take) same ∙ map_anew rows,
      )
