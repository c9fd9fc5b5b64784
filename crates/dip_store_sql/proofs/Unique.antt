-- Where no two records of a table agree on its key, no row clashes with another.
use Rattle.std.proofs.Common.{◌≡◌, ℕ, ℤ, List, [], ◌∷◌, map, Bool, true, false, ◌&&◌, ◌||◌, refl, ap, ap₂, ◌∙◌}
use Rattle.std.specs.List.{AllByRecursion}
use Rattle.std.proofs.lemmas.Cmp.{tied_itself}
use Rattle.sqlite.specs.declared.types.Value.{Value}
use Rattle.sqlite.specs.declared.types.Value.TheVariants.{Int}
use Rattle.sqlite.specs.Order.{Row}
use Rattle.sqlite.specs.Tree.{rowid, IsAscending}
use Rattle.sqlite.specs.Ops.{binary}
use Rattle.sqlite_value.proofs.OrderLemmas.{value_cmp_total}
use Rattle.sqlite_value.specs.declared.keys.Order.{Order}
use Rattle.sqlite_schema.specs.Rules.{agree, clashes, differ}
use Rattle.dip_store_sql.proofs.Places.{id_of}

-- a rowid doesn't differ from itself
differs_not : (v : Value) (n : ℤ) → v ≡ Int n → differ v v ≡ false
unfolding binary
differs_not v n is = ap₂ differ is is ∙ rw (tied_itself value_cmp_total (Int n)) refl

first_false : (a b : Bool) → a ≡ false → (a && b) ≡ false
first_false a b e = rw e refl

second_false : (a b : Bool) → b ≡ false → (a && b) ≡ false
second_false true b e = e
second_false false b e = refl

neither : (a b : Bool) → a ≡ false → b ≡ false → (a || b) ≡ false
neither a b e f = rw (e, f) refl

module _ {A : Type 0} (put : A → Row) (take : Row → A) (o : Order) (key : List ℕ) (same : A → A → Bool) (tells : (v w : Value) (a b : A) → agree o key (v ∷ put a) key (w ∷ put b) ≡ same a b)
    (turned : (a b : A) → same a b ≡ same b a) where
  agreed : (x y : Row) → x ≡ Int (id_of x) ∷ put (take x) → y ≡ Int (id_of y) ∷ put (take y) → agree o key x key y ≡ same (take x) (take y)
  agreed x y e f = ap₂ (λ a b. agree o key a key b) e f ∙ tells (Int (id_of x)) (Int (id_of y)) (take x) (take y)

  -- none after a row clashes with it
  behind : (x : Row) (rows : List Row) → x ≡ Int (id_of x) ∷ put (take x) → AllByRecursion (λ r. r ≡ Int (id_of r) ∷ put (take r)) rows → AllByRecursion (λ b. same (take x) b ≡ false) (map take rows)
      → clashes o key rows x ≡ false
  behind x [] e es apart = refl
  behind x (r ∷ rows) e es apart =
      neither _ _ (first_false _ _ (agreed r x es.0 e ∙ turned (take r) (take x) ∙ apart.0)) (behind x rows e es.1 apart.1)

  -- nor does it with one of them
  before : (x : Row) (all rows : List Row) → x ≡ Int (id_of x) ∷ put (take x) → AllByRecursion (λ r. r ≡ Int (id_of r) ∷ put (take r)) rows → AllByRecursion (λ b. same (take x) b ≡ false) (map take rows)
      → AllByRecursion (λ r. clashes o key all r ≡ false) rows → AllByRecursion (λ r. clashes o key (x ∷ all) r ≡ false) rows
  before x all [] e es apart alone = tt
  before x all (r ∷ rows) e es apart alone =
      (neither _ _ (first_false _ _ (agreed x r e es.0 ∙ apart.0)) alone.0, before x all rows e es.1 apart.1 alone.1)

  pub no_clashes : (rows : List Row) → AllByRecursion (λ r. r ≡ Int (id_of r) ∷ put (take r)) rows → IsAscending (λ a b. same a b ≡ false) (map take rows) → AllByRecursion (λ r. clashes o key rows r ≡ false) rows
  no_clashes [] es apart = tt
  no_clashes (x ∷ rows) es apart = (
    neither _ _ (second_false _ _ (differs_not (rowid x) (id_of x) (ap rowid es.0))) (behind x rows es.0 es.1 apart.0),
    before x rows rows es.0 es.1 apart.0 (no_clashes rows es.1 apart.1),
  )
