-- What an INSERT, an UPDATE and a DELETE do to the records of a table.
use Rattle.std.proofs.Common.{◌≡◌, inl, inr, ℤ, List, [], ◌∷◌, ◌++◌, map, filter, Bool, true, false, cond, refl, sym, ap, ap₂, subst, ◌∙◌, arith}
use Rattle.std.specs.List.Sorted.{IsPermutation}
use Rattle.std.proofs.lemmas.List.Sorted.{IsPermutation-map, length_permutation}
use Rattle.sqlite.specs.declared.types.Value.{Value}
use Rattle.sqlite.specs.declared.types.Value.TheVariants.{Null, Int}
use Rattle.sqlite.specs.Order.{Row}
use Rattle.sqlite.specs.Tree.{rowid, put_row, without_rowid}
use Rattle.sqlite.specs.Term.{Term, col, eval_all}
use Rattle.sqlite.specs.Ops.{unary}
use Rattle.sqlite.specs.Kind.TheVariants.{Integer}
use Rattle.sqlite.specs.Cast.{cast, cast_all, cast_row}
use Rattle.sqlite.specs.Table.{Table}
use Rattle.sqlite.specs.Schema.{Schema}
use Rattle.sqlite.specs.Edit.{edit_of, edited, next_rowid, numbered, put_all, with_rowid}
use Rattle.sqlite_rules.specs.Calls.{ids_of}
use Rattle.sqlite.specs.Rowids.TheVariants.{Chosen, Given}
use Rattle.sqlite.specs.Effect.{Database}
use Rattle.sqlite.proofs.Callers.{one_permutation}
use Rattle.dip_store_rows.specs.Lists.{update_where, delete_where}
use Rattle.dip_store_rows.proofs.ListLemmas.{all_weaker, map-map, filter-map}
use Rattle.dip_store_sql.specs.Recorded.{IsRising, AtMostOne}
use Rattle.dip_store_sql.specs.Queries.{passes}
use Rattle.dip_store_sql.specs.Writes.{Edits}
use Rattle.dip_store_sql.proofs.Places.{added_last, id_of, ids_in, of_found}
use Rattle.dip_store_sql.proofs.Edits.{all_grown, shrunk, renewed, not_renewed, unnumbered}
use Rattle.dip_store_sql.proofs.Finding.{passing}

either : (b : Bool) (x : Value) → cond b x x ≡ x
either true x = refl
either false x = refl

-- a rowid that is to be chosen stays so
pub cast_null : cast Integer Null ≡ Null
unfolding unary
cast_null = either _ Null

-- a whole number in a column of numbers
pub cast_int : (n : ℤ) → cast Integer (Int n) ≡ Int n
unfolding unary
cast_int n = either _ (Int n)

pub none_in : {A B : Type 0} (f : A → B) (xs : List A) → map f xs ≡ [] → xs ≡ []
none_in f [] h = refl
none_in f (x ∷ xs) h = absurd (cc)

pub nothing_in : {A : Type 0} (xs : List A) → IsPermutation [] xs → xs ≡ []
nothing_in [] h = refl
nothing_in (x ∷ xs) h = absurd (let e = length_permutation [] (x ∷ xs) h in omega (arith, e))

pub one_in : {A B : Type 0} (f : A → B) (y : B) (xs : List A) → map f xs ≡ y ∷ [] → (x : A) × (xs ≡ x ∷ [])
one_in f y [] h = absurd (cc)
one_in f y (x ∷ []) h = (x, refl)
one_in f y (x ∷ z ∷ xs) h = absurd (cc)

-- records as they are given are cast to themselves
pub each_cast : {A : Type 0} (put : A → Row) (table : Table) → ((a : A) → cast_all table.columns (put a) ≡ put a) → (xs : List A) → map (λ s. cast_row table s) (unnumbered put xs) ≡ unnumbered put xs
each_cast put table casts [] = refl
each_cast put table casts (x ∷ xs) = ap₂ ◌∷◌ (ap₂ ◌∷◌ cast_null (casts x)) (each_cast put table casts xs)

module _ {A : Type 0} (put : A → Row) (take : Row → A) (back : (v : Value) (a : A) → take (v ∷ put a) ≡ a) (table : Table) (casts : (a : A) → cast_all table.columns (put a) ≡ put a) where
  module _ (schema : Schema) (old new : Database) (it : IsRising put take (old.trees table.tree)) where
    -- an INSERT puts records after the others
    pub insert_all_is : (xs : List A) (sources : List Row) → sources ≡ unnumbered put xs → Edits schema (edit_of old.trees table [] Chosen 0 sources) old new
        → IsRising put take (new.trees table.tree) × (map take (new.trees table.tree) ≡ map take (old.trees table.tree) ++ xs)
    insert_all_is xs sources are e =
        let rows = old.trees table.tree in
        let is : new.trees table.tree ≡ put_all rows (numbered Chosen rows (unnumbered put xs)) =
        e.applies.rows ∙ ap (λ all. put_all rows (numbered Chosen rows all)) (ap (map (λ s. cast_row table s)) are ∙ each_cast put table casts xs) in
        let more = all_grown put take back rows xs it in
        (subst (IsRising put take) (sym is) more.0, ap (map take) is ∙ more.1)

    -- or one record
    pub insert_is : (a : A) (sources : List Row) → sources ≡ (Null ∷ put a) ∷ [] → Edits schema (edit_of old.trees table [] Chosen 0 sources) old new
        → IsRising put take (new.trees table.tree) × (map take (new.trees table.tree) ≡ map take (old.trees table.tree) ++ a ∷ [])
    insert_is a = insert_all_is (a ∷ [])

    -- its row stands after theirs
    pub insert_behind : (a : A) (sources : List Row) → sources ≡ (Null ∷ put a) ∷ [] → Edits schema (edit_of old.trees table [] Chosen 0 sources) old new
        → new.trees table.tree ≡ old.trees table.tree ++ (Int (next_rowid (old.trees table.tree)) ∷ put a) ∷ []
    insert_behind a sources are e =
        let rows = old.trees table.tree in
        let row : cast_row table (Null ∷ put a) ≡ Null ∷ put a = ap₂ ◌∷◌ cast_null (casts a) in
        let is : new.trees table.tree ≡ put_row (Int (next_rowid rows) ∷ put a) rows =
        e.applies.rows ∙ ap (λ all. edited old.trees (edit_of old.trees table [] Chosen 0 all)) are ∙ ap (λ r. put_row (with_rowid Chosen rows r) rows) row in
        is ∙ added_last rows (put a) (all_weaker _ (λ r. rowid r ≡ Int (id_of r)) (λ r h. ap rowid h) rows it.typed) it.rising

    module _ (params : Row) (tests : List Term) (p : A → Bool) (tells : (v : Value) (a : A) → passes tests params (v ∷ put a) ≡ p a) where
      same_rows : filter (passes tests params) (old.trees table.tree) ≡ filter (λ r. p (take r)) (old.trees table.tree)
      same_rows = passing put take tests params p tells (old.trees table.tree) it

      -- a DELETE leaves the records that don't pass
      pub delete_is : (given : List Row) → IsPermutation (map (λ r. eval_all (col 1 0 ∷ []) (params ∷ r ∷ [])) (filter (passes tests params) (old.trees table.tree))) given
          → Edits schema (edit_of old.trees table (ids_of given) Given 0 []) old new
          → IsRising put take (new.trees table.tree) × (map take (new.trees table.tree) ≡ delete_where p (map take (old.trees table.tree)))
      delete_is given are e =
          let rows = old.trees table.tree in
          let found = filter (λ r. p (take r)) rows in
          let ids : IsPermutation (ids_in found) (ids_of given) =
          subst (λ l. IsPermutation l (ids_of given)) (map-map id_of (λ (r : Row). rowid r ∷ []) found)
          (IsPermutation-map id_of (map (λ (r : Row). rowid r ∷ []) found) given (subst (λ l. IsPermutation (map (λ (r : Row). rowid r ∷ []) l) given) same_rows are)) in
          shrunk put take back p rows (new.trees table.tree) (ids_of given) it ids e.applies.rows

      -- an UPDATE that meets one record at most changes it where it stands
      pub update_is : (f : A → A) (shown : List Term) → ((v : Value) (a : A) → eval_all shown (params ∷ (v ∷ put a) ∷ []) ≡ v ∷ v ∷ put (f a)) → AtMostOne p (map take (old.trees table.tree))
          → (given : List Row) → IsPermutation (map (λ r. eval_all shown (params ∷ r ∷ [])) (filter (passes tests params) (old.trees table.tree))) given
          → Edits schema (edit_of old.trees table (ids_of given) Given 1 given) old new
          → IsRising put take (new.trees table.tree) × (map take (new.trees table.tree) ≡ update_where p f (map take (old.trees table.tree)))
      update_is f shown shows lone given are e = elim lone [
        | inl none ↦ none_there none
        | inr one ↦ one_there one.0 one.1
      ]
        where
          rows : List Row
          rows = old.trees table.tree

          show : Row → Row
          show r = eval_all shown (params ∷ r ∷ [])

          found : List Row
          found = filter (λ r. p (take r)) rows

          met : IsPermutation (map show found) given
          met = subst (λ l. IsPermutation (map show l) given) same_rows are

          none_there : filter p (map take rows) ≡ [] → IsRising put take (new.trees table.tree) × (map take (new.trees table.tree) ≡ update_where p f (map take rows))
          none_there none =
              let gone : found ≡ [] = none_in take found (sym (filter-map p take rows) ∙ none) in
              let empty : given ≡ [] = nothing_in given (subst (λ l. IsPermutation (map show l) given) gone met) in
              not_renewed put take back p f rows (new.trees table.tree) it gone (e.applies.rows ∙ ap (λ all. edited old.trees (edit_of old.trees table (ids_of all) Given 1 all)) empty)

          one_there : (x : A) → filter p (map take rows) ≡ x ∷ [] → IsRising put take (new.trees table.tree) × (map take (new.trees table.tree) ≡ update_where p f (map take rows))
          one_there x one =
              let only = one_in take x found (sym (filter-map p take rows) ∙ one) in
              let r = only.0 in
              let alone : given ≡ show r ∷ [] = one_permutation (show r) given (subst (λ l. IsPermutation (map show l) given) only.1 met) in
              let typed : r ≡ Int (id_of r) ∷ put (take r) = of_found (λ (y : Row). y ≡ Int (id_of y) ∷ put (take y)) (λ (y : Row). p (take y)) rows r it.typed only.1 in
              let showing : show r ≡ Int (id_of r) ∷ Int (id_of r) ∷ put (f (take r)) = ap show typed ∙ shows (Int (id_of r)) (take r) in
              let row : cast_row table (Int (id_of r) ∷ put (f (take r))) ≡ Int (id_of r) ∷ put (f (take r)) = ap₂ ◌∷◌ (cast_int (id_of r)) (casts (f (take r))) in
              let id : rowid r ≡ Int (id_of r) = ap rowid typed in
              renewed put take back p f rows (new.trees table.tree) r it only.1
              (e.applies.rows ∙ ap (λ all. edited old.trees (edit_of old.trees table (ids_of all) Given 1 all)) (alone ∙ ap (λ y. y ∷ []) showing)
              ∙ ap (λ y. put_row y (without_rowid (id_of r) rows)) (row ∙ ap (λ v. v ∷ put (f (take r))) (sym id)))
