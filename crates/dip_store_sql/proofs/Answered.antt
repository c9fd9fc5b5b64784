-- What a SELECT from one table answers.
use Rattle.std.proofs.Common.{◌≡◌, inl, inr, ℕ, List, [], ◌∷◌, map, filter, flat_map, refl, sym, ap, subst, ◌∙◌}
use Rattle.std.specs.List.Sorted.{IsPermutation}
use Rattle.std.proofs.lemmas.List.Sorted.{IsPermutation-map}
use Rattle.std.proofs.lemmas.Bool.{cases_Bool}
use Rattle.sqlite_trees.proofs.ListLemmas.{map-map}
use Rattle.sqlite.specs.declared.types.Value.{Value}
use Rattle.sqlite.specs.Order.{Row}
use Rattle.sqlite.specs.Tree.{Trees}
use Rattle.sqlite.specs.Term.{Term, Env, eval_all}
use Rattle.sqlite.specs.Query.{end, IsAnswerAs, matches_as, output, Output}
use Rattle.dip_store_sql.specs.Queries.{plain_query, passes}

abbrev env_of : Row → Row → Env
env_of params r = params ∷ r ∷ []

-- the rows that pass, each below the parameters
pub matched : (lost : Value) (tests : List Term) (params : Row) (rows : List Row) →
    flat_map (λ r. matches_as lost (λ _. []) tests end (params ∷ r ∷ [])) rows ≡ map (env_of params) (filter (passes tests params) rows)
matched lost tests params [] = refl
matched lost tests params (r ∷ rows) = elim (cases_Bool (passes tests params r)) [
  | inl e ↦ rw e (ap (λ es. (params ∷ r ∷ []) ∷ es) (matched lost tests params rows))
  | inr e ↦ rw e (matched lost tests params rows)
]

-- with no ORDER BY the rows come in any order
pub selected : (lost : Value) (t : ℕ) (tests shown : List Term) (db : Trees) (params : Row) (rows : List Row) → IsAnswerAs lost (plain_query t tests shown []) db params rows →
    IsPermutation (map (λ r. eval_all shown (params ∷ r ∷ [])) (filter (passes tests params) (db t))) rows
selected lost t tests shown db params rows a =
    let q = plain_query t tests shown [] in
    let staged : a.staged ≡ map (env_of params) (filter (passes tests params) (db t)) = a.grouped ∙ matched lost tests params (db t) in
    let kept : a.kept ≡ map (output q) (map (env_of params) (filter (passes tests params) (db t))) = a.distinct ∙ ap (map (output q)) staged in
    let all = IsPermutation-map (λ (o : Output). o.1) a.kept a.ordered a.same in
    let first : map (λ (o : Output). o.1) a.kept ≡ map (λ r. eval_all shown (params ∷ r ∷ [])) (filter (passes tests params) (db t)) =
    ap (map (λ (o : Output). o.1)) kept ∙ ap (map (λ (o : Output). o.1)) (map-map (output q) (env_of params) _) ∙ map-map (λ (o : Output). o.1) _ _ in
    subst (λ ys. IsPermutation (map (λ r. eval_all shown (params ∷ r ∷ [])) (filter (passes tests params) (db t))) ys) (sym a.shown) (subst (λ xs. IsPermutation xs (map (λ (o : Output). o.1) a.ordered)) first all)
