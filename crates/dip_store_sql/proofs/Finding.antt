-- The records that a query of one table shows.
use Rattle.std.proofs.Common.{◌≡◌, inl, inr, ℕ, List, [], ◌∷◌, map, filter, Bool, false, refl, sym, ap, ap₂, subst, ◌∙◌, Less, arith}
use Rattle.std.specs.List.{AllByRecursion}
use Rattle.std.specs.List.Sorted.{IsPermutation}
use Rattle.std.proofs.lemmas.List.Sorted.{length_permutation}
use Rattle.sqlite.specs.declared.types.Value.{Value}
use Rattle.sqlite.specs.declared.types.Value.TheVariants.{Null, Int}
use Rattle.sqlite.specs.Order.{Row}
use Rattle.sqlite.specs.Tree.{Trees, rowid, IsTable, IsAscending}
use Rattle.sqlite.specs.Term.{Term, col, eval_all}
use Rattle.sqlite.specs.Edit.{id_in}
use Rattle.sqlite.proofs.Callers.{one_permutation}
use Rattle.dip_store_rows.proofs.ListLemmas.{map-map, all_weaker, all-filter, filter-map, ascending-map, ascending_weaker, ascending-filter}
use Rattle.dip_store_rows.proofs.SortLemmas.{sorted_unique}
use Rattle.sqlite_sql.proofs.QueryLemmas.{output_cmp_total}
use Rattle.sqlite.specs.Query.{Query, IsAnswerAs, output, Output, output_cmp}
use Rattle.sqlite.specs.Program.{overlay}
use Rattle.sqlite.specs.Collation.TheVariants.{Binary}
use Rattle.dip_store_sql.specs.Recorded.{IsRising, AtMostOne}
use Rattle.dip_store_sql.specs.Queries.{passes, plain_query}
use Rattle.dip_store_sql.proofs.Places.{same_filter}
use Rattle.dip_store_sql.proofs.Answered.{matched, selected}

module _ {A : Type 0} (put : A → Row) (take : Row → A) (tests : List Term) (params : Row) (p : A → Bool) (tells : (v : Value) (a : A) → passes tests params (v ∷ put a) ≡ p a) where
  told : (r : Row) → r ≡ Int (id_in (rowid r)) ∷ put (take r) → passes tests params r ≡ p (take r)
  told r e = ap (passes tests params) e ∙ tells (Int (id_in (rowid r))) (take r)

  -- the rows that pass are those whose records do
  pub passing : (rows : List Row) → IsRising put take rows → filter (passes tests params) rows ≡ filter (λ r. p (take r)) rows
  passing rows it = same_filter _ _ rows (all_weaker _ (λ r. passes tests params r ≡ p (take r)) told rows it.typed)

-- with ORDER BY rowid the rows come as they stand
module _ (t : ℕ) (tests shown : List Term) (db : Trees) (seen : overlay db [] t ≡ db t) (params : Row) (up : IsTable (db t)) where
  abbrev pub in_order : Query
  in_order = plain_query t tests shown ((col 1 0, record { collation = Binary; descending = false }) ∷ [])

  pub in_turn : (rows : List Row) → IsAnswerAs Null in_order (overlay db []) params rows → rows ≡ map (λ r. eval_all shown (params ∷ r ∷ [])) (filter (passes tests params) (db t))
  in_turn rows a =
      let L = filter (passes tests params) (db t) in
      let q = in_order in
      let out = λ (r : Row). output q (params ∷ r ∷ []) in
      let staged : a.staged ≡ map (λ r. params ∷ r ∷ []) L = a.grouped ∙ matched Null tests params (overlay db [] t) ∙ ap (λ rs. map (λ r. params ∷ r ∷ []) (filter (passes tests params) rs)) seen in
      let kept : a.kept ≡ map out L = a.distinct ∙ ap (map (output q)) staged ∙ map-map (output q) (λ (r : Row). params ∷ r ∷ []) L in
      let rises : IsAscending (λ a b. output_cmp q a b ≡ Less) (map out L) =
      ascending-map (λ a b. output_cmp q a b ≡ Less) out L (ascending_weaker _ _ (λ x y h. rw h refl) L (ascending-filter _ (passes tests params) (db t) up)) in
      let ordered : a.ordered ≡ map out L = sorted_unique (output_cmp q) (output_cmp_total q) (map out L) a.ordered rises (subst (λ l. IsPermutation l a.ordered) kept a.same) a.sorted in
      a.shown ∙ ap (map (λ (o : Output). o.1)) ordered ∙ map-map (λ (o : Output). o.1) out L

module _ {A : Type 0} (put : A → Row) (take : Row → A) (t : ℕ) (tests shown : List Term) (params : Row) (p : A → Bool) (show : A → Row) (tells : (v : Value) (a : A) → passes tests params (v ∷ put a) ≡ p a)
    (shows : (v : Value) (a : A) → eval_all shown (params ∷ (v ∷ put a) ∷ []) ≡ show a) (db : Trees) (seen : overlay db [] t ≡ db t) (it : IsRising put take (db t)) where
  -- each row shows what its record does
  all_shown : (rows : List Row) → AllByRecursion (λ r. r ≡ Int (id_in (rowid r)) ∷ put (take r)) rows → map (λ r. eval_all shown (params ∷ r ∷ [])) rows ≡ map show (map take rows)
  all_shown [] all = refl
  all_shown (r ∷ rows) all = ap₂ ◌∷◌ (ap (λ x. eval_all shown (params ∷ x ∷ [])) all.0 ∙ shows (Int (id_in (rowid r))) (take r)) (all_shown rows all.1)

  as_records : map (λ r. eval_all shown (params ∷ r ∷ [])) (filter (passes tests params) (db t)) ≡ map show (filter p (map take (db t)))
  as_records =
      ap (map (λ r. eval_all shown (params ∷ r ∷ []))) (passing put take tests params p tells (db t) it)
      ∙ all_shown (filter (λ r. p (take r)) (db t)) (all-filter _ (λ r. p (take r)) (db t) it.typed) ∙ ap (map show) (sym (filter-map p take (db t)))

  -- in any order
  pub shown_rows : (rows : List Row) → IsAnswerAs Null (plain_query t tests shown []) (overlay db []) params rows → IsPermutation (map show (filter p (map take (db t)))) rows
  shown_rows rows a = subst (λ l. IsPermutation l rows) as_records (subst (λ l. IsPermutation (map (λ r. eval_all shown (params ∷ r ∷ [])) (filter (passes tests params) l)) rows) seen (selected Null t tests shown (overlay db []) params rows a))

  -- in the order of the rowids
  pub rows_in_turn : (rows : List Row) → IsAnswerAs Null (in_order t tests shown db seen params it.rising) (overlay db []) params rows → rows ≡ map show (filter p (map take (db t)))
  rows_in_turn rows a = in_turn t tests shown db seen params it.rising rows a ∙ as_records

  -- there is one
  pub first_row : AtMostOne p (map take (db t)) → (row : Row) (tail : List Row) → IsPermutation (map show (filter p (map take (db t)))) (row ∷ tail) → (a : A) × (filter p (map take (db t)) ≡ a ∷ []) × (row ≡ show a)
  first_row (inl none) row tail same = absurd (let e = length_permutation _ _ (subst (λ l. IsPermutation (map show l) (row ∷ tail)) none same) in omega (arith, e))
  first_row (inr one) row tail same = let is = one_permutation (show one.0) (row ∷ tail) (subst (λ l. IsPermutation (map show l) (row ∷ tail)) one.1 same) in (one.0, one.1, (let h : row ≡ show one.0 = cc in h))

  -- there is none
  pub no_row : AtMostOne p (map take (db t)) → IsPermutation (map show (filter p (map take (db t)))) [] → filter p (map take (db t)) ≡ []
  no_row (inl none) same = none
  no_row (inr one) same = absurd (let e = length_permutation _ _ (subst (λ l. IsPermutation (map show l) []) one.1 same) in omega (arith, e))
