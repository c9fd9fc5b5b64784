-- What a query answers, and for which causes it fails.
use Rattle.std.proofs.Common.{◌≡◌, ◌↔◌, ◌<◌, ◌≤◌, inl, inr, ℕ, nat_le, List, [], ◌∷◌, ◌++◌, map, filter, length, option_map, option_to_list, Option, Some, None, IsSome, IsTrue, Bool, true, Result, Ok, Err, refl, sym, ap, subst, ◌∙◌, arith}
use Rattle.std.specs.List.{find}
use Rattle.std.specs.List.Sorted.{IsPermutation}
use Rattle.std.proofs.lemmas.List.Sorted.{length_permutation}
use Rattle.std.proofs.lemmas.Bool.{cases_Bool}
use Rattle.std.proofs.lemmas.Bool.Decides.{nat_tests}
use Rattle.sqlite.specs.declared.types.Value.{Value}
use Rattle.sqlite.specs.declared.types.Value.TheVariants.{Null}
use Rattle.sqlite.specs.declared.error.Error.{Error}
use Rattle.sqlite.specs.Order.{Row}
use Rattle.sqlite.specs.Schema.{Schema}
use Rattle.sqlite.specs.Term.{Term, eval_all}
use Rattle.sqlite_value.specs.declared.keys.Key.{Key}
use Rattle.sqlite.specs.Command.TheVariants.{Select}
use Rattle.sqlite.specs.Program.{overlay}
use Rattle.sqlite.specs.Listing.{understood, reads_listing}
use Rattle.sqlite.specs.State.{State, Shown, FailsToQuery}
use Rattle.sqlite.proofs.Callers.{IsPlain, reads_as, one_permutation}
use Rattle.sqlite_resolve.specs.declared.compiled.Compiled.{Compiled}
use Rattle.sqlite_resolve.specs.declared.error.CompileError.{CompileError}
use Rattle.sqlite_typing.specs.Types.{accepts_program}
use Rattle.dip_store_sql.specs.Recorded.{IsRising, AtMostOne}
use Rattle.dip_store_sql.specs.Queries.{passes, plain_query}
use Rattle.dip_store_sql.specs.Faults.{IsOutside}
use Rattle.dip_store_sql.proofs.Finding.{shown_rows, rows_in_turn}
use Rattle.dip_store_sql.proofs.Faults.{blames, query_sane}
use Rattle.dip_store_sql.specs.Asking.{AsksIn, AcceptsIn, IsAsked, command_in, in_turn}
use Rattle.dip_store_sql.proofs.Meaning.{commanded}
use Rattle.dip_store_sql.specs.Causes.{Faulted, IsCaused}

-- the first record that passes is the one that does
first_of : {A : Type 0} (p : A → Bool) (xs : List A) → filter p xs ≡ [] → find p xs ≡ None
first_of p [] none = refl
first_of p (x ∷ xs) none = elim (cases_Bool (p x)) [
  | inl e ↦ absurd (let h = rw e at none in cc)
  | inr e ↦ rw e (first_of p xs (rw e at none))
]

only_of : {A : Type 0} (p : A → Bool) (xs : List A) (a : A) → filter p xs ≡ a ∷ [] → find p xs ≡ Some a
only_of p [] a one = absurd (cc)
only_of p (x ∷ xs) a one = elim (cases_Bool (p x)) [
  | inl e ↦ rw e (let h = rw e at one in let same : x ≡ a = cc in ap (λ y. Some y) same)
  | inr e ↦ rw e (only_of p xs a (rw e at one))
]

empty : {A : Type 0} (xs : List A) → IsPermutation [] xs → xs ≡ []
empty [] h = refl
empty (x ∷ xs) h = absurd (let e = length_permutation [] (x ∷ xs) h in omega (arith, e))

module _ {A : Type 0} (p : A → Bool) (show : A → Row) (xs : List A) (rows : List Row) where
  -- where at most one passes, the order of what is shown says nothing
  pub alone : AtMostOne p xs → IsPermutation (map show (filter p xs)) rows → rows ≡ option_to_list (option_map show (find p xs))
  alone (inl none) same = empty rows (subst (λ l. IsPermutation (map show l) rows) none same) ∙ sym (ap (λ o. option_to_list (option_map show o)) (first_of p xs none))
  alone (inr one) same =
      one_permutation (show one.0) rows (subst (λ l. IsPermutation (map show l) rows) one.1 same)
      ∙ sym (ap (λ o. option_to_list (option_map show o)) (only_of p xs one.0 one.1))

-- the last of at most one row
pub popped : {X : Type 0} (rows rest : List X) (o q : Option X) → rows ≡ rest ++ option_to_list o → IsSome o ↔ (0 < length rows) → rows ≡ option_to_list q → o ≡ q
popped {X} rows rest o None split some is = ends o some
  where
    ends : (o : Option X) → IsSome o ↔ (0 < length rows) → o ≡ None
    ends None some = refl
    ends (Some x) some = absurd (let low = some.0 refl in omega (arith, low, ap length is))
popped {X} rows rest o (Some y) split some is = ends rest o split some
  where
    ends : (front : List X) (o : Option X) → rows ≡ front ++ option_to_list o → IsSome o ↔ (0 < length rows) → o ≡ Some y
    ends front None split some = absurd (let h = some.1 (omega (arith, ap length is)) in cc)
    ends [] (Some x) split some = let h = sym split ∙ is in let same : x ≡ y = cc in ap (λ z. Some z) same
    ends (w ∷ []) (Some x) split some = absurd (let h = sym split ∙ is in let e = ap length h in omega (arith, e))
    ends (w ∷ v ∷ ws) (Some x) split some = absurd (let h = sym split ∙ is in cc)

module _ {schema : Schema} {A : Type 0} (put : A → Row) (take : Row → A) (t : ℕ) (tests shown : List Term) (params : Row) (p : A → Bool) (show : A → Row) (tells : (v : Value) (a : A) → passes tests params (v ∷ put a) ≡ p a)
    (shows : (v : Value) (a : A) → eval_all shown (params ∷ (v ∷ put a) ∷ []) ≡ show a) (text : List ℕ) (count : ℕ) (names : List (List ℕ)) (old new : State) (has : old.now.schema ≡ schema)
    (seen : overlay old.now.trees [] t ≡ old.now.trees t) (it : IsRising put take (old.now.trees t)) where
  -- of at most one that passes, its row
  pub one_found : AsksIn schema text count (plain_query t tests shown []) names → AtMostOne p (map take (old.now.trees t)) → (rows : List Row) → Shown text params old new rows
      → rows ≡ option_to_list (option_map show (find p (map take (old.now.trees t))))
  one_found asks lone rows h =
      let got = reads_as text params old new schema has _ (commanded _ _ asks.means.0) asks.means.1 asks.unlisted rows h in
      alone p show (map take (old.now.trees t)) rows lone (shown_rows put take t tests shown params p show tells shows old.now.trees seen it rows (got.answer Null))

  -- all that pass, in the order in which they stand
  pub all_found : AsksIn schema text count (plain_query t tests shown in_turn) names → (rows : List Row) → Shown text params old new rows → rows ≡ map show (filter p (map take (old.now.trees t)))
  all_found asks rows h =
      let got = reads_as text params old new schema has _ (commanded _ _ asks.means.0) asks.means.1 asks.unlisted rows h in
      rows_in_turn put take t tests shown params p show tells shows old.now.trees seen it rows (got.answer Null)

pub within : (a b : ℕ) → nat_le a b ≡ true → a ≤ b
within a b h = grind (arith, nat_tests)

module _ {schema : Schema} (text : List ℕ) (params : Row) (count t : ℕ) (tests shown : List Term) (order : List (Term × Key)) (names : List (List ℕ)) (asks : AsksIn schema text count (plain_query t tests shown order) names)
    (accepts : AcceptsIn schema (plain_query t tests shown order) params) (given : length params ≡ count) (old new : State) (has : old.now.schema ≡ schema) (unlimited : old.step_limit ≡ None) (up : IsTrue old.is_open) where
  -- a query fails for want of memory, or by the disk
  fails_outside : (e : Error) → FailsToQuery text params old new e → IsOutside e
  fails_outside e h = go (understood schema text) (ap (λ s. understood s text) has) asks.means.0 asks.means.1 asks.asked
    where
      go : (r : Result Compiled CompileError) → understood old.now.schema text ≡ r → command_in r (Select (record { lets = []; body = plain_query t tests shown order }) names) → IsPlain r → IsAsked (length text) count r → IsOutside e
      go (Ok c) is means plain asked =
          query_sane text params old new c is (within _ _ asked.0) (given ∙ sym asked.1) plain.1 plain.0 t tests shown order names means
          (ap (λ s. reads_listing s text) has ∙ asks.unlisted) (subst (λ s. accepts_program s [] (plain_query t tests shown order) params ≡ true) (sym has) accepts) unlimited up e h
      go (Err e) is means plain asked = absurd means

  -- and by the disk only where the store told of it
  pub fails_caused : (e : Error) → FailsToQuery text params old new e → IsCaused (Faulted old new) e
  fails_caused e h = elim (fails_outside e h) [
    | inl memory ↦ inl memory
    | inr disk ↦ inr (disk, blames text params old new (subst (λ s. IsPlain (understood s text)) (sym has) asks.means.1) e h disk)
  ]
