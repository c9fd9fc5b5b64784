-- Which rules of a schema may refuse an edit: those that none of its rows passes.
use Rattle.std.proofs.Common.{◌≡◌, inr, List, [], ◌∷◌, Bool, true, false, refl, sym, ap, subst, ◌∙◌, nat_lt, length}
use Rattle.std.specs.List.{AllByRecursion, list_all}
use Rattle.std.specs.Ordering.{is_eq}
use Rattle.sqlite.specs.declared.types.Value.{Value}
use Rattle.sqlite.specs.Order.{Row, value_cmp}
use Rattle.sqlite.specs.Tree.{Trees, rowid, with_tree}
use Rattle.sqlite.specs.Cast.{cast_all}
use Rattle.sqlite.specs.Table.{Table}
use Rattle.sqlite.specs.Schema.{Schema}
use Rattle.sqlite.specs.Edit.{edited, Edit, IsRefused, left_by, are_fresh, is_taken}
use Rattle.sqlite.specs.View.{is_int}
use Rattle.sqlite_rules.specs.declared.error.Refusal.{Refusal}
use Rattle.sqlite_rules.specs.declared.error.Refusal.TheVariants.{Violates, Mismatch, NoRowid, BadReference, TooDeep}
use Rattle.sqlite.specs.Effect.{edit_error}
use Rattle.sqlite_schema.specs.declared.schema.Keys.TheVariants.{Enforced}
use Rattle.sqlite_schema.specs.declared.schema.Constraint.TheVariants.{Datatype, NotNull, Check, PrimaryKey, Unique, ForeignKey}
use Rattle.sqlite_schema.specs.Rules.{Keeps, passes, references_fit}
use Rattle.dip_store_sql.specs.Refusals.{IsWant}

-- no row there has the rowid of a row above them all
pub not_taken : (new : Row) (rows : List Row) → AllByRecursion (λ r. is_eq (value_cmp (rowid r) (rowid new)) ≡ false) rows → is_taken rows new ≡ false
not_taken new [] all = refl
not_taken new (r ∷ rows) all = rw all.0 (not_taken new rows all.1)

pub fresh : (new : Row) (rows : List Row) → is_taken rows new ≡ false → are_fresh rows (new ∷ []) ≡ true
fresh new rows free = rw free refl

-- rows that are records, each at a rowid
abbrev pub IsRecord : {A : Type 0} → (A → Row) → Row → Type 0
IsRecord {A} put r = (v : Value) × (a : A) × (is_int v ≡ true) × (r ≡ v ∷ put a)

abbrev pub AreRecords : {A : Type 0} → (A → Row) → List Row → Type 0
AreRecords put = AllByRecursion (IsRecord put)

-- the rules of a table without references and checks, but for its key
pub record AreKept {A : Type 0} (put : A → Row) (schema : Schema) (table : Table) : Type 0 where
  pub typed : (db : Trees) (v : Value) (a : A) → passes Datatype schema db table (v ∷ put a) ≡ true
  pub present : (db : Trees) (v : Value) (a : A) → passes NotNull schema db table (v ∷ put a) ≡ true
  pub checked : (db : Trees) (v : Value) (a : A) → passes Check schema db table (v ∷ put a) ≡ true
  pub referred : (adds removes : Bool) → references_fit schema table adds removes ≡ true

module _ {A : Type 0} (put : A → Row) (take : Row → A) (back : (v : Value) (a : A) → take (v ∷ put a) ≡ a) (schema : Schema) (table : Table) (casts : (a : A) → cast_all table.columns (put a) ≡ put a)
    (rules : AreKept put schema table) where
  each_passes : (test : Row → Bool) → ((v : Value) (a : A) → is_int v ≡ true → test (v ∷ put a) ≡ true) → (rows : List Row) → AreRecords put rows → list_all test rows ≡ true
  each_passes test holds [] all = refl
  each_passes test holds (r ∷ rows) all = rw (ap test all.0.3 ∙ holds all.0.0 all.0.1 all.0.2) (each_passes test holds rows all.1)

  -- an edit that puts in records, at rowids that are free, is refused by their keys alone
  pub records : (db : Trees) (edit : Edit) → edit.table ≡ table → AreRecords put edit.news → are_fresh (left_by db edit) edit.news ≡ true
      → Keeps Unique schema (with_tree db edit.table.tree (edited db edit)) → (why : Refusal) → IsRefused schema Enforced db edit why → IsWant ⊥ (edit_error why)
  records db edit same all free unique (Violates Datatype) h = absurd (let x = sym (each_passes (passes Datatype schema db table) (λ v a e. rules.typed db v a) edit.news all) ∙ subst (λ (t : Table). list_all (passes Datatype schema db t) edit.news ≡ false) same h in cc)
  records db edit same all free unique (Violates NotNull) h = absurd (let x = sym (each_passes (passes NotNull schema db table) (λ v a e. rules.present db v a) edit.news all) ∙ subst (λ (t : Table). list_all (passes NotNull schema db t) edit.news ≡ false) same h in cc)
  records db edit same all free unique (Violates Check) h = absurd (let x = sym (each_passes (passes Check schema db table) (λ v a e. rules.checked db v a) edit.news all) ∙ subst (λ (t : Table). list_all (passes Check schema db t) edit.news ≡ false) same h in cc)
  records db edit same all free unique (Violates PrimaryKey) h = absurd (let x = sym free ∙ h in cc)
  records db edit same all free unique (Violates Unique) h = absurd (h unique)
  records db edit same all free unique (Violates ForeignKey) h = absurd h
  records db edit same all free unique Mismatch h = absurd (let x = sym (each_passes (λ r. is_int (rowid r)) (λ v a e. e) edit.news all) ∙ h in cc)
  records db edit same all free unique NoRowid h = inr (inr refl)
  records db edit same all free unique BadReference h = absurd (let x = sym (subst (λ (t : Table). references_fit schema t (nat_lt 0 (length edit.news)) (nat_lt 0 (length edit.gone)) ≡ true) (sym same) (rules.referred _ _)) ∙ h in cc)
  records db edit same all free unique TooDeep h = absurd h

  -- and so is one that puts in one
  pub one_record : (db : Trees) (edit : Edit) (v : Value) (a : A) → edit.table ≡ table → edit.news ≡ (v ∷ put a) ∷ [] → are_fresh (left_by db edit) ((v ∷ put a) ∷ []) ≡ true → is_int v ≡ true
      → Keeps Unique schema (with_tree db edit.table.tree (edited db edit)) → (why : Refusal) → IsRefused schema Enforced db edit why → IsWant ⊥ (edit_error why)
  one_record db edit v a same news free number unique why h =
      records db edit same (subst (AreRecords put) (sym news) ((v, a, number, refl), tt)) (ap (are_fresh (left_by db edit)) news ∙ free) unique why h

  -- and so is one that puts in none
  pub no_record : (db : Trees) (edit : Edit) → edit.table ≡ table → edit.news ≡ [] → Keeps Unique schema (with_tree db edit.table.tree (edited db edit)) → (why : Refusal) → IsRefused schema Enforced db edit why → ⊥
  no_record db edit same news unique (Violates Datatype) h = let x = rw news at h in cc
  no_record db edit same news unique (Violates NotNull) h = let x = rw news at h in cc
  no_record db edit same news unique (Violates Check) h = let x = rw news at h in cc
  no_record db edit same news unique (Violates PrimaryKey) h = let x = rw news at h in cc
  no_record db edit same news unique (Violates Unique) h = h unique
  no_record db edit same news unique (Violates ForeignKey) h = h
  no_record db edit same news unique Mismatch h = let x = rw news at h in cc
  no_record db edit same news unique NoRowid h = let x = rw news at h in cc
  no_record db edit same news unique BadReference h = let x = sym (subst (λ (t : Table). references_fit schema t (nat_lt 0 (length edit.news)) (nat_lt 0 (length edit.gone)) ≡ true) (sym same) (rules.referred _ _)) ∙ h in cc
  no_record db edit same news unique TooDeep h = h
