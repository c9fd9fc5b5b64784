-- Rows of a table that are records of one kind.
use Rattle.std.specs.Prelude.{◌≡◌, ◌⊎◌, Bool, List, [], ◌∷◌, filter}
use Rattle.std.specs.List.{AllByRecursion}
use Rattle.sqlite.specs.declared.types.Value.TheVariants.{Int}
use Rattle.sqlite.specs.Order.{Row}
use Rattle.sqlite.specs.Tree.{rowid, IsTable}
use Rattle.sqlite.specs.Edit.{id_in}

-- each row is a rowid and a record as it is put into columns, and the rowids rise
pub record IsRising {A : Type 0} (put : A → Row) (take : Row → A) (rows : List Row) : Type 0 where
  pub typed : AllByRecursion (λ r. r ≡ Int (id_in (rowid r)) ∷ put (take r)) rows
  pub rising : IsTable rows

-- none passes the test, or one does
abbrev pub AtMostOne : {A : Type 0} → (A → Bool) → List A → Type 0
AtMostOne {A} p xs = (filter p xs ≡ []) ⊎ ((x : A) × (filter p xs ≡ x ∷ []))
