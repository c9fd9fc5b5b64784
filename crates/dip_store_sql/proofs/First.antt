-- The master's row of a new desk isn't too long to be stored.
use Rattle.std.proofs.Common.{◌≡◌, inl, inr, ℕ, pos, suc, List, [], ◌∷◌, drop, length, sym, subst, arith}
use Rattle.std.specs.List.{AllByRecursion}
use Rattle.std.specs.Float.{NotNan}
use Rattle.std.proofs.lemmas.List.Elements.{All-from_recursion}
use Rattle.std.proofs.lemmas.Nat.Bits.{bit_at-zero}
use Rattle.sqlite.specs.declared.types.Value.{Value}
use Rattle.sqlite.specs.declared.types.Value.TheVariants.{Int, Text as Words, Blob as Bytes}
use Rattle.sqlite.specs.Order.{Row, number}
use Rattle.sqlite.specs.Edit.{IsOversized}
use Rattle.sqlite_rules.specs.Lists.{Has}
use Rattle.sqlite_schema.specs.declared.schema.Index.{Index}
use Rattle.sqlite_schema.specs.Rules.{index_reals, table_reals}
use Rattle.sqlite_sql.specs.Catalog.{entry_of}
use Rattle.sqlite_trees.specs.View.{IsStorable}
use Rattle.dip_store_sql.specs.Schema.{our_schema, desk_table}
use Rattle.dip_store_sql.proofs.Founding.{each_has}

abbrev first_row : List ℕ → List ℕ → Row
first_row map digest = Int (pos 1) ∷ Int (pos 1) ∷ Int (pos 2) ∷ Bytes map ∷ Bytes digest ∷ Int (pos 0) ∷ Bytes [] ∷ Words [] ∷ []

-- only its first index is one of the master's table
others : AllByRecursion (λ (i : Index). i.table ≡ 0 → ⊥) (drop 1 our_schema.indexes)
others =
    let off : (n : ℕ) → suc n ≡ 0 → ⊥ = λ n h. omega (arith, h) in
    (off 1, (off 3, (off 5, (off 7, (off 9, (off 11, (off 13, (off 15, (off 17, tt)))))))))

module _ (map digest : List ℕ) (one : length map ≡ 32) (other : length digest ≡ 32) where
  row_fits : IsStorable (table_reals desk_table) (first_row map digest)
  unfolding lib.Ieee.is_nan
  row_fits = record {
    typed = λ c h. absurd (omega (arith, h, bit_at-zero c));
    columns = (omega arith, omega arith);
    numbers = All-from_recursion (λ (v : Value). NotNan (number v)) (first_row map digest) (tt, (tt, (tt, (tt, (tt, (tt, (tt, (tt, tt))))))));
    short = omega (arith, one, other);
  }

  entry_fits : IsStorable (index_reals (table_reals desk_table) (1 ∷ [])) (entry_of (1 ∷ []) (first_row map digest))
  unfolding lib.Ieee.is_nan
  entry_fits = record {
    typed = λ c h. absurd (omega (arith, h, bit_at-zero c));
    columns = (omega arith, omega arith);
    numbers = All-from_recursion (λ (v : Value). NotNan (number v)) (entry_of (1 ∷ []) (first_row map digest)) (tt, (tt, tt));
    short = omega arith;
  }

  entry_of_index : (i : Index) → Has our_schema.indexes i → i.table ≡ 0 → IsStorable (index_reals (table_reals desk_table) i.columns) (entry_of i.columns (first_row map digest))
  entry_of_index i (inl same) here = subst (λ (j : Index). IsStorable (index_reals (table_reals desk_table) j.columns) (entry_of j.columns (first_row map digest))) (sym same) entry_fits
  entry_of_index i (inr more) here = absurd (each_has (λ (j : Index). j.table ≡ 0 → ⊥) (drop 1 our_schema.indexes) i others more here)

  pub desk_fits : IsOversized our_schema desk_table (first_row map digest) → ⊥
  desk_fits (inl long) = long (row_fits, omega arith)
  desk_fits (inr i) = i.3 (entry_of_index i.0 i.1 i.2)
