-- Where rows stand in a table whose rowids rise.
use Rattle.std.proofs.Common.{◌≡◌, inl, inr, ℤ, ◌<ℤ◌, ◌||◌, List, [], ◌∷◌, ◌++◌, map, filter, Bool, true, false, not, refl, sym, ap, subst, ◌∙◌, Less, Greater, is_eq}
use Rattle.std.specs.Ordering.{ordering_reverse}
use Rattle.std.specs.List.{AllByRecursion, list_any}
use Rattle.std.specs.List.Sorted.{IsPermutation}
use Rattle.std.proofs.lemmas.List.Sorted.{list_any-IsPermutation}
use Rattle.std.proofs.lemmas.Bool.{cases_Bool}
use Rattle.std.proofs.lemmas.Cmp.{tied_itself}
use Rattle.sqlite.specs.declared.types.Value.{Value}
use Rattle.sqlite.specs.declared.types.Value.TheVariants.{Int}
use Rattle.sqlite.specs.Order.{Row, value_cmp}
use Rattle.sqlite_value.proofs.OrderLemmas.{value_cmp_total, value_cmp-Int}
use Rattle.sqlite.specs.Tree.{rowid, put_row, without_rowid, has_rowid, IsTable}
use Rattle.sqlite.specs.Edit.{id_in, next_rowid, without_all}
use Rattle.dip_store_rows.specs.Keyed.{IsKeyedBy}
use Rattle.dip_store_rows.specs.Lists.{update_where, delete_where}
use Rattle.dip_store_rows.proofs.KeyedLemmas.{above_all, Less-from_lt, lt_from_Less}
use Rattle.dip_store_rows.proofs.ListLemmas.{all_of, all-filter, filter_all, filter_same}

-- each rowid is a whole number
abbrev pub HaveIds : List Row → Type 0
HaveIds = AllByRecursion (λ r. rowid r ≡ Int (id_in (rowid r)))

-- the rowid as a number
abbrev pub id_of : Row → ℤ
id_of r = id_in (rowid r)

below : (a b : Row) → rowid a ≡ Int (id_of a) → rowid b ≡ Int (id_of b) → value_cmp (rowid a) (rowid b) ≡ Less → id_of a <ℤ id_of b
below a b x y h = lt_from_Less (id_of a) (id_of b) (sym (value_cmp-Int (id_of a) (id_of b)) ∙ subst (λ v. value_cmp v (Int (id_of b)) ≡ Less) x (subst (λ v. value_cmp (rowid a) v ≡ Less) y h))

below_all : (x : Row) (rows : List Row) → rowid x ≡ Int (id_of x) → HaveIds rows → AllByRecursion (λ r. value_cmp (rowid x) (rowid r) ≡ Less) rows → AllByRecursion (λ r. id_of x <ℤ id_of r) rows
below_all x [] has ids up = tt
below_all x (r ∷ rows) has ids up = (below x r has ids.0 up.0, below_all x rows has ids.1 up.1)

-- the rowids rise as numbers
keyed : (rows : List Row) → HaveIds rows → IsTable rows → IsKeyedBy id_of rows
keyed [] ids up = tt
keyed (x ∷ rows) ids up = (below_all x rows ids.0 ids.1 up.0, keyed rows ids.1 up.1)

-- above each row there, a new row stands last
put_last : (new : Row) (rows : List Row) → AllByRecursion (λ r. value_cmp (rowid r) (rowid new) ≡ Less) rows → put_row new rows ≡ rows ++ new ∷ []
put_last new [] all = refl
put_last new (r ∷ rows) all = rw all.0 (ap (λ rs. r ∷ rs) (put_last new rows all.1))

above_id : (id : ℤ) (rows : List Row) → HaveIds rows → AllByRecursion (λ r. id_of r <ℤ id) rows → AllByRecursion (λ r. value_cmp (rowid r) (Int id) ≡ Less) rows
above_id id [] ids all = tt
above_id id (r ∷ rows) ids all = (ap (λ v. value_cmp v (Int id)) ids.0 ∙ value_cmp-Int (id_of r) id ∙ Less-from_lt (id_of r) id all.0, above_id id rows ids.1 all.1)

pub above_next : (rows : List Row) → HaveIds rows → IsTable rows → AllByRecursion (λ r. value_cmp (rowid r) (Int (next_rowid rows)) ≡ Less) rows
above_next [] ids up = tt
above_next (x ∷ rows) ids up = above_id (next_rowid (x ∷ rows)) (x ∷ rows) ids (above_all id_of rows x (keyed (x ∷ rows) ids up))

-- the row that an INSERT adds stands last
pub added_last : (rows : List Row) (values : Row) → HaveIds rows → IsTable rows → put_row (Int (next_rowid rows) ∷ values) rows ≡ rows ++ (Int (next_rowid rows) ∷ values) ∷ []
added_last rows values ids up = put_last (Int (next_rowid rows) ∷ values) rows (above_next rows ids up)

abbrev pub ids_in : List Row → List ℤ
ids_in = map id_of

-- the row has one of these rowids
abbrev pub has_any : List ℤ → Row → Bool
has_any ids r = list_any (λ id. has_rowid id r) ids

-- what fails one test and then another fails either
dropped_two : {X : Type 0} (p q : X → Bool) (rows : List X) → filter (λ r. not (q r)) (filter (λ r. not (p r)) rows) ≡ filter (λ r. not (p r || q r)) rows
dropped_two p q [] = refl
dropped_two p q (r ∷ rows) = elim (cases_Bool (p r)) [
  | inl e ↦ rw e (dropped_two p q rows)
  | inr e ↦ elim (cases_Bool (q r)) [ inl f ↦ rw (e, f) (dropped_two p q rows) | inr f ↦ rw (e, f) (ap (λ rs. r ∷ rs) (dropped_two p q rows)) ]
]

-- without these rowids
without_ids : (ids : List ℤ) (rows : List Row) → without_all rows ids ≡ filter (λ r. not (has_any ids r)) rows
without_ids [] rows = sym (filter_all (λ r. not false) rows (all_of (λ r. not false ≡ true) (λ r. refl) rows))
without_ids (id ∷ ids) rows = without_ids ids (without_rowid id rows) ∙ dropped_two (has_rowid id) (has_any ids) rows

-- tests that agree on each row find the same rows
pub same_filter : {X : Type 0} (p q : X → Bool) (rows : List X) → AllByRecursion (λ r. p r ≡ q r) rows → filter p rows ≡ filter q rows
same_filter p q [] all = refl
same_filter p q (r ∷ rows) all = elim (cases_Bool (q r)) [
  | inl e ↦ rw (all.0, e) (ap (λ rs. r ∷ rs) (same_filter p q rows all.1))
  | inr e ↦ rw (all.0, e) (same_filter p q rows all.1)
]

-- turned round
flip : (a b : Value) → value_cmp a b ≡ Less → value_cmp b a ≡ Greater
flip a b h = value_cmp_total.antisymm b a ∙ ap ordering_reverse h

-- a row has its own rowid
itself : (r : Row) → rowid r ≡ Int (id_of r) → has_rowid (id_of r) r ≡ true
itself r has = ap (λ v. is_eq (value_cmp v (Int (id_of r)))) has ∙ ap is_eq (tied_itself value_cmp_total (Int (id_of r)))

-- a row above another hasn't its rowid, nor the other the row's
lower : (x r : Row) → rowid r ≡ Int (id_of r) → value_cmp (rowid x) (rowid r) ≡ Less → has_rowid (id_of r) x ≡ false
lower x r has up = ap is_eq (subst (λ v. value_cmp (rowid x) v ≡ Less) has up)

higher : (x r : Row) → rowid x ≡ Int (id_of x) → value_cmp (rowid x) (rowid r) ≡ Less → has_rowid (id_of x) r ≡ false
higher x r has up = ap is_eq (subst (λ v. value_cmp (rowid r) v ≡ Greater) has (flip (rowid x) (rowid r) up))

-- a row below all others has none of their rowids
none_lower : (x : Row) (p : Row → Bool) (rows : List Row) → HaveIds rows → AllByRecursion (λ r. value_cmp (rowid x) (rowid r) ≡ Less) rows → has_any (ids_in (filter p rows)) x ≡ false
none_lower x p [] ids up = refl
none_lower x p (r ∷ rows) ids up = elim (cases_Bool (p r)) [
  | inl e ↦ rw (e, lower x r ids.0 up.0) (none_lower x p rows ids.1 up.1)
  | inr e ↦ rw e (none_lower x p rows ids.1 up.1)
]

-- the rowid of a row below all others may be left out
one_less : (x : Row) (ids : List ℤ) (p : Row → Bool) (rows : List Row) → rowid x ≡ Int (id_of x) → AllByRecursion (λ r. value_cmp (rowid x) (rowid r) ≡ Less) rows
    → filter (λ r. not (has_any (id_of x ∷ ids) r)) rows ≡ filter (λ r. not (has_any ids r)) rows
one_less x ids p [] has up = refl
one_less x ids p (r ∷ rows) has up = elim (cases_Bool (has_any ids r)) [
  | inl e ↦ rw (higher x r has up.0, e) (one_less x ids p rows has up.1)
  | inr e ↦ rw (higher x r has up.0, e) (ap (λ rs. r ∷ rs) (one_less x ids p rows has up.1))
]

first_kept : {X : Type 0} (p : X → Bool) (x : X) (rows : List X) → p x ≡ true → filter p (x ∷ rows) ≡ x ∷ filter p rows
first_kept p x rows e = rw e refl

first_left : {X : Type 0} (p : X → Bool) (x : X) (rows : List X) → p x ≡ false → filter p (x ∷ rows) ≡ filter p rows
first_left p x rows e = rw e refl

-- without the rowids of the rows that pass, the others are left
taken_out : (p : Row → Bool) (rows : List Row) → HaveIds rows → IsTable rows → filter (λ r. not (has_any (ids_in (filter p rows)) r)) rows ≡ delete_where p rows
taken_out p [] ids up = refl
taken_out p (x ∷ rows) ids up =
    let F = λ (found : List Row). filter (λ r. not (has_any (ids_in found) r)) (x ∷ rows) in
    elim (cases_Bool (p x)) [
      | inl e ↦ ap F (first_kept p x rows e) ∙ first_left (λ r. not (has_any (ids_in (x ∷ filter p rows)) r)) x rows (rw (itself x ids.0) refl)
          ∙ one_less x (ids_in (filter p rows)) p rows ids.0 up.0 ∙ taken_out p rows ids.1 up.1 ∙ sym (first_left (λ r. not (p r)) x rows (ap not e))
      | inr e ↦ ap F (first_left p x rows e) ∙ first_kept (λ r. not (has_any (ids_in (filter p rows)) r)) x rows (ap not (none_lower x p rows ids.1 up.0))
          ∙ ap (λ rs. x ∷ rs) (taken_out p rows ids.1 up.1) ∙ sym (first_kept (λ r. not (p r)) x rows (ap not e))
    ]

-- the rows with these rowids, in whatever order they are named
pub all_taken_out : (p : Row → Bool) (rows : List Row) (ids : List ℤ) → HaveIds rows → IsTable rows → IsPermutation (ids_in (filter p rows)) ids → without_all rows ids ≡ delete_where p rows
all_taken_out p rows ids has up same =
    without_ids ids rows
    ∙ filter_same (λ r. not (has_any ids r)) (λ r. not (has_any (ids_in (filter p rows)) r)) (λ r. ap not (sym (list_any-IsPermutation (λ id. has_rowid id r) _ ids same))) rows
    ∙ taken_out p rows has up

-- without a rowid that none has
above_stay : (id : ℤ) (rows : List Row) → AllByRecursion (λ r. has_rowid id r ≡ false) rows → without_rowid id rows ≡ rows
above_stay id [] all = refl
above_stay id (r ∷ rows) all = rw all.0 (ap (λ rs. r ∷ rs) (above_stay id rows all.1))

-- below each row there, a row is put first
put_first : (new : Row) (rows : List Row) → AllByRecursion (λ r. value_cmp (rowid new) (rowid r) ≡ Less) rows → put_row new rows ≡ new ∷ rows
put_first new [] all = refl
put_first new (r ∷ rows) all = rw (flip (rowid new) (rowid r) all.0) refl

all_higher : (x : Row) (rows : List Row) → rowid x ≡ Int (id_of x) → AllByRecursion (λ r. value_cmp (rowid x) (rowid r) ≡ Less) rows → AllByRecursion (λ r. has_rowid (id_of x) r ≡ false) rows
all_higher x [] has up = tt
all_higher x (r ∷ rows) has up = (higher x r has up.0, all_higher x rows has up.1)

-- where none passes, none is changed
pub none_change : {X : Type 0} (p : X → Bool) (f : X → X) (rows : List X) → filter p rows ≡ [] → update_where p f rows ≡ rows
none_change p f [] h = refl
none_change p f (r ∷ rows) h = elim (cases_Bool (p r)) [
  | inl e ↦ absurd (let h2 = sym (first_kept p r rows e) ∙ h in cc)
  | inr e ↦ rw e (ap (λ rs. r ∷ rs) (none_change p f rows (sym (first_left p r rows e) ∙ h)))
]

-- what holds of each row holds of the one that is found
pub of_found : (P : Row → Type 0) (p : Row → Bool) (rows : List Row) (r : Row) → AllByRecursion P rows → filter p rows ≡ r ∷ [] → P r
of_found P p rows r all one = (subst (AllByRecursion P) one (all-filter P p rows all)).0

-- the one row that passes is put in its place
pub put_back : (p : Row → Bool) (f : Row → Row) (rows : List Row) (r : Row) → HaveIds rows → IsTable rows → filter p rows ≡ r ∷ [] → rowid (f r) ≡ rowid r
    → put_row (f r) (without_rowid (id_of r) rows) ≡ update_where p f rows
put_back p f [] r ids up one keeps = absurd (cc)
put_back p f (x ∷ rows) r ids up one keeps = elim (cases_Bool (p x)) [
  | inl e ↦
      let both = sym (first_kept p x rows e) ∙ one in
      let same : x ≡ r = cc in
      let rest : filter p rows ≡ [] = cc in
      let keeps2 : rowid (f x) ≡ rowid x = subst (λ y. rowid (f y) ≡ rowid y) (sym same) keeps in
      subst (λ y. put_row (f y) (without_rowid (id_of y) (x ∷ rows)) ≡ update_where p f (x ∷ rows)) same
      (ap (put_row (f x)) (first_left (λ y. not (has_rowid (id_of x) y)) x rows (ap not (itself x ids.0)) ∙ above_stay (id_of x) rows (all_higher x rows ids.0 up.0))
      ∙ put_first (f x) rows (subst (λ v. AllByRecursion (λ y. value_cmp v (rowid y) ≡ Less) rows) (sym keeps2) up.0)
      ∙ sym (rw e (ap (λ rs. f x ∷ rs) (none_change p f rows rest))))
  | inr e ↦
      let one2 = sym (first_left p x rows e) ∙ one in
      let low : value_cmp (rowid x) (rowid r) ≡ Less = of_found (λ y. value_cmp (rowid x) (rowid y) ≡ Less) p rows r up.0 one2 in
      let has : rowid r ≡ Int (id_of r) = of_found (λ y. rowid y ≡ Int (id_of y)) p rows r ids.1 one2 in
      let low2 : value_cmp (rowid x) (rowid (f r)) ≡ Less = subst (λ v. value_cmp (rowid x) v ≡ Less) (sym keeps) low in
      ap (put_row (f r)) (first_kept (λ y. not (has_rowid (id_of r) y)) x (rows) (ap not (lower x r has low)))
      ∙ rw low2 refl
      ∙ ap (λ rs. x ∷ rs) (put_back p f rows r ids.1 up.1 one2 keeps)
      ∙ sym (rw e refl)
]
