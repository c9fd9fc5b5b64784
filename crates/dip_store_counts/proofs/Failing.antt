-- Why what is read before a change fails.
use Rattle.std.proofs.Common.{◌≡◌, ◌<◌, ◌^◌, ℕ, pos, Bool, true, List, [], ◌∷◌, filter, find, map, length, Some, option_map, inl, inr, refl, sym, ap, subst, ◌∙◌, arith}
use Rattle.std.specs.List.{AllByRecursion}
use Rattle.std.specs.Str.{IsUtf8}
use Rattle.std.proofs.lemmas.Bool.{cases_Bool}
use Rattle.sqlite.specs.Order.{Row, column}
use Rattle.sqlite.specs.Reading.{IsReadError}
use Rattle.sqlite.specs.declared.types.Value.{Value}
use Rattle.sqlite.specs.declared.types.Value.TheVariants.{Int, Text as Words, Blob as Bytes}
use Rattle.sqlite.specs.declared.error.Error.{Error}
use Rattle.sqlite.specs.declared.error.Error.TheVariants.{SqliteFailure}
use Rattle.sqlite.specs.declared.error.ErrorCode.TheVariants.{OutOfMemory}
use Rattle.dip_map.specs.Charts.{Chart, IsMap}
use Rattle.dip_store_tables.specs.Coding.{IsSeatOf}
use Rattle.dip_store_tables.specs.Tables.{SeatRow}
use Rattle.dip_store_tables.specs.Legible.{IsSeatLegible}
use Rattle.dip_store_tables.proofs.MapTexts.{power_text}
use Rattle.dip_store_sql.specs.Showing.{show_listed}
use Rattle.dip_store_sql.specs.Refusals.{IsWant}
use Rattle.dip_store_counts.specs.Failing.{IsListed, IsSeatShown}

-- a column that can be read fails for want of memory alone
pub column_wants : (at size : ℕ) (v : Value) (Readable : Type 0) (e : Error) → IsReadError at v e → ((e ≡ SqliteFailure OutOfMemory → ⊥) → at < size → Readable → ⊥) → at < size → Readable → IsWant ⊥ e
column_wants at size v Readable e named kind low reads = elim named [
  | inl a ↦ absurd (kind (λ same. let bad = sym a ∙ same in cc) low reads)
  | inr b ↦ elim b [
    | inl a ↦ absurd (kind (λ same. let bad = sym a ∙ same in cc) low reads)
    | inr c ↦ elim c [
      | inl a ↦ absurd (kind (λ same. let bad = sym a ∙ same in cc) low reads)
      | inr d ↦ elim d [
        | inl a ↦ absurd (kind (λ same. let bad = sym a ∙ same in cc) low reads)
        | inr a ↦ inl (inl a)
      ]
    ]
  ]
]

-- the row of the one that is found, which passes
pub record IsFound {A B : Type 0} (P : A → Type 0) (p : A → Bool) (show : A → B) (row : B) : Type 0 where
  pub one : A
  pub shown : row ≡ show one
  pub holds : P one
  pub passes : p one ≡ true

pub shown_found : {A B : Type 0} (P : A → Type 0) (p : A → Bool) (show : A → B) (xs : List A) (row : B) → Some row ≡ option_map show (find p xs) → AllByRecursion P xs → IsFound P p show row
shown_found P p show [] row is all = absurd (cc)
shown_found P p show (y ∷ ys) row is all = elim (cases_Bool (p y)) [
  | inl e ↦ let both = rw e at is in let same : row ≡ show y = cc in record { one = y; shown = same; holds = all.0; passes = e }
  | inr e ↦ shown_found P p show ys row (rw e at is) all.1
]

-- a count in a column of a row
pub count_reads : (at : ℕ) (row : Row) (n : ℕ) (e : Error) → IsReadError at (column row at) e → ((e ≡ SqliteFailure OutOfMemory → ⊥) → at < length row → ((k : ℕ) × (column row at ≡ Int (pos k)) × (k < 2 ^ 32)) → ⊥)
    → at < length row → column row at ≡ Int (pos n) → n < 2 ^ 32 → IsWant ⊥ e
count_reads at row n e named kind low is small = column_wants at (length row) (column row at) _ e named kind low (n, is, small)

-- the digest of a seat's secret, in a row as it is found
pub digest_reads : (row : Row) → IsSeatShown row → (e : Error) → IsReadError 0 (column row 0) e → ((e ≡ SqliteFailure OutOfMemory → ⊥) → 0 < length row → ((all : List ℕ) × (column row 0 ≡ Bytes all)) → ⊥) → IsWant ⊥ e
digest_reads row it e named kind =
    column_wants 0 (length row) (column row 0) _ e named kind (subst (λ (r : Row). 0 < length r) (sym it.shown) (omega arith)) (it.seat.digest, ap (λ (r : Row). column r 0) it.shown)

-- the name of a power of the map, in a listed row
pub power_reads : (m : Chart) → IsMap m → (row : Row) → IsListed m row → (e : Error) → IsReadError 0 (column row 0) e
    → ((e ≡ SqliteFailure OutOfMemory → ⊥) → 0 < length row → ((t : List ℕ) × (column row 0 ≡ Words t) × IsUtf8 t) → ⊥) → IsWant ⊥ e
power_reads m ok row listed e named kind =
    let it = listed.of_map in
    column_wants 0 (length row) (column row 0) _ e named kind (subst (λ (r : Row). 0 < length r) (sym listed.shown) (omega arith))
    (listed.seat.power, ap (λ (r : Row). column r 0) listed.shown, subst IsUtf8 (sym it.2) (power_text m ok it.0 it.1).utf8)

-- the seats of a game, as they are listed
pub rows_listed : (m : Chart) (p : SeatRow → Bool) (ss : List SeatRow) → AllByRecursion (IsSeatOf m) ss → AllByRecursion IsSeatLegible ss → AllByRecursion (IsListed m) (map show_listed (filter p ss))
rows_listed m p [] of_map legible = tt
rows_listed m p (s ∷ ss) of_map legible = elim (cases_Bool (p s)) [
  | inl e ↦ rw e (record { seat = s; shown = refl; of_map = of_map.0; items = legible.0.2 }, rows_listed m p ss of_map.1 legible.1)
  | inr e ↦ rw e (rows_listed m p ss of_map.1 legible.1)
]
