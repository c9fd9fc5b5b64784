-- No two records of a table agree on its key.
use Rattle.std.proofs.Common.{◌≡◌, ◌⊎◌, inl, inr, ℕ, ℤ, List, [], ◌∷◌, map, filter, Bool, true, false, ◌&&◌, Some, slice_get, get_or, refl, sym, ap, ap₂, subst, ◌∙◌, Less}
use Rattle.std.specs.List.{AllByRecursion}
use Rattle.std.proofs.lemmas.Bool.{cases_Bool, or_parts}
use Rattle.sqlite.specs.declared.types.Value.{Value}
use Rattle.sqlite.specs.declared.types.Value.TheVariants.{Int}
use Rattle.sqlite.specs.Order.{Row, value_cmp}
use Rattle.sqlite.specs.Tree.{Trees, rowid, IsAscending}
use Rattle.sqlite.specs.Ops.{binary}
use Rattle.sqlite.specs.Table.{Table}
use Rattle.sqlite.specs.Schema.{Schema}
use Rattle.sqlite_value.specs.declared.keys.Order.{Order}
use Rattle.sqlite_schema.specs.Rules.{agree, clashes, differ}
use Rattle.dip_store_rows.proofs.ListLemmas.{all_weaker}
use Rattle.sqlite_value.specs.Keys.{plain}
use Rattle.sqlite_rules.specs.Lists.{Has}
use Rattle.sqlite_catalog.specs.Listing.{IsSound}
use Rattle.sqlite_catalog.proofs.AlterLemmas.{keys_are_unique}
use Rattle.dip_store_sql.specs.Recorded.{IsRising, AtMostOne}
use Rattle.dip_store_sql.proofs.Places.{id_of}

module _ {A : Type 0} (same : A → A → Bool) (p : A → Bool) (tied : (a b : A) → p a ≡ true → p b ≡ true → same a b ≡ true) where
  -- after one that passes no other does
  others : (x : A) (xs : List A) → p x ≡ true → AllByRecursion (λ y. same x y ≡ false) xs → filter p xs ≡ []
  others x [] e all = refl
  others x (y ∷ xs) e all = elim (cases_Bool (p y)) [
    | inl f ↦ absurd (let h = sym (tied x y e f) ∙ all.0 in cc)
    | inr f ↦ rw f (others x xs e all.1)
  ]

  -- where records that pass agree on the key, at most one passes
  pub at_most_one : (xs : List A) → IsAscending (λ a b. same a b ≡ false) xs → AtMostOne p xs
  at_most_one [] up = inl refl
  at_most_one (x ∷ xs) up = elim (cases_Bool (p x)) [
    | inl e ↦ inr (x, rw e (ap (λ ys. x ∷ ys) (others x xs e up.0)))
    | inr e ↦ subst (λ ys. (ys ≡ []) ⊎ ((y : A) × (ys ≡ y ∷ []))) (sym (rw e refl)) (at_most_one xs up.1)
  ]

-- rowids that rise differ
differs : (a b : Value) (m n : ℤ) → a ≡ Int m → b ≡ Int n → value_cmp a b ≡ Less → differ a b ≡ true
unfolding binary
differs a b m n p q h = let less : value_cmp (Int m) (Int n) ≡ Less = subst (λ v. value_cmp v (Int n) ≡ Less) p (subst (λ v. value_cmp a v ≡ Less) q h) in ap₂ differ p q ∙ rw less refl

-- what is told of two rows is told of their keys, where their rowids differ
alone : (a b : Bool) → b ≡ true → (a && b) ≡ false → a ≡ false
alone true b e h = absurd (let f = sym e ∙ h in cc)
alone false b e h = refl

module _ {A : Type 0} (put : A → Row) (take : Row → A) (o : Order) (key : List ℕ) (same : A → A → Bool) (tells : (v w : Value) (a b : A) → agree o key (v ∷ put a) key (w ∷ put b) ≡ same a b) where
  -- a row and those above it
  pair : (x : Row) (rows : List Row) → x ≡ Int (id_of x) ∷ put (take x) → AllByRecursion (λ r. r ≡ Int (id_of r) ∷ put (take r)) rows → AllByRecursion (λ r. value_cmp (rowid x) (rowid r) ≡ Less) rows
      → AllByRecursion (λ r. clashes o key (x ∷ rows) r ≡ false) rows → AllByRecursion (λ b. same (take x) b ≡ false) (map take rows)
  pair x rows e es up all = go rows es up (all_weaker _ (λ r. (agree o key x key r && differ (rowid x) (rowid r)) ≡ false) (λ r h. (or_parts _ _ h).0) rows all)
    where
      go : (rs : List Row) → AllByRecursion (λ r. r ≡ Int (id_of r) ∷ put (take r)) rs → AllByRecursion (λ r. value_cmp (rowid x) (rowid r) ≡ Less) rs
          → AllByRecursion (λ r. (agree o key x key r && differ (rowid x) (rowid r)) ≡ false) rs → AllByRecursion (λ b. same (take x) b ≡ false) (map take rs)
      go [] es up all = tt
      go (r ∷ rs) es up all =
          let far : differ (rowid x) (rowid r) ≡ true = differs (rowid x) (rowid r) (id_of x) (id_of r) (ap rowid e) (ap rowid es.0) up.0 in
          let is : agree o key x key r ≡ same (take x) (take r) = ap₂ (λ a b. agree o key a key b) e es.0 ∙ tells (Int (id_of x)) (Int (id_of r)) (take x) (take r) in
          (sym is ∙ alone _ _ far all.0, go rs es.1 up.1 all.1)

  apart : (rows : List Row) → IsRising put take rows → AllByRecursion (λ r. clashes o key rows r ≡ false) rows → IsAscending (λ a b. same a b ≡ false) (map take rows)
  apart [] it all = tt
  apart (x ∷ rows) it all = (
    pair x rows it.typed.0 it.typed.1 it.rising.0 all.1,
    apart rows (record { typed = it.typed.1; rising = it.rising.1 }) (all_weaker _ (λ r. clashes o key rows r ≡ false) (λ r h. (or_parts _ _ h).1) rows all.1),
  )

all_from_has : {X : Type 0} (P : X → Type 0) (xs : List X) → ((x : X) → Has xs x → P x) → AllByRecursion P xs
all_from_has P [] h = tt
all_from_has P (x ∷ xs) h = (h x (inl refl), all_from_has P xs (λ y there. h y (inr there)))

-- no two records of a sound database agree on the first UNIQUE of their table
pub apart_in : {A : Type 0} (put : A → Row) (take : Row → A) (key : List ℕ) (same : A → A → Bool) (schema : Schema) (table : Table)
    → ((v w : Value) (a b : A) → agree (get_or table.orders 0 plain) key (v ∷ put a) key (w ∷ put b) ≡ same a b) → Has schema.tables table → slice_get table.uniques 0 ≡ Some key
    → (db : Trees) → IsSound schema db → IsRising put take (db table.tree) → IsAscending (λ a b. same a b ≡ false) (map take (db table.tree))
apart_in put take key same schema table tells listed unique db sound it =
    apart put take (get_or table.orders 0 plain) key same tells (db table.tree) it
    (all_from_has _ (db table.tree) (λ r there. keys_are_unique schema db table 0 key r sound listed unique there))
