-- Parts of a transaction, one after another.
use Rattle.std.proofs.Common.{false, ap, ◌≡◌, inl, inr, IsTrue, ℕ, List, [], Ok, Err, Result, OnOk, sym, subst, refl, ◌∙◌, arith, map, take, length, get_or, ◌++◌, ◌∷◌, ◌+◌, ◌<◌, zero, suc}
use Rattle.std.proofs.lemmas.List.{map-append}
use Rattle.std.proofs.lemmas.Bool.{cases_Bool}
use Rattle.sqlite.specs.declared.error.Error.{Error}
use Rattle.sqlite.specs.declared.error.Error.TheVariants.{SqliteFailure}
use Rattle.sqlite.specs.declared.error.ErrorCode.TheVariants.{TransactionState}
use Rattle.sqlite.specs.Order.{Row}
use Rattle.sqlite.specs.Store.{Ghosts}
use Rattle.sqlite.specs.Held.{Held, state}
use Rattle.sqlite.specs.State.{State, HasCleanDisk, Survives, Executes, ExecutesInside, KeepsCommit, IsRolledBack}
use Rattle.sqlite.specs.Steps.{FailsToCommit}
use Rattle.sqlite.proofs.StateLemmas.{survives_then}
use Rattle.dip_store_rows.specs.Tables.{Tables}
use Rattle.dip_store_sql.specs.Rows.{tables_of}
use Rattle.dip_store_sql.specs.Good.{IsGood}
use Rattle.dip_store_sql.specs.Calls.{Turns, Writes}

pub inside_keeps : (sql : List ℕ) (params : Row) (old new : State) (r : Result ℕ Error) → ExecutesInside 0 sql params old new r → KeepsCommit old new
inside_keeps sql params old new (Ok n) h = record { was_open = λ _. h.1.was_open; committed = λ _. h.1.committed_is }
inside_keeps sql params old new (Err e) (inl h) = elim h.1 [
  | inl u ↦ record { was_open = λ _. u.0.was_open; committed = λ _. u.0.committed_is }
  | inr r ↦ record { was_open = r.was_open; committed = λ o. (r.undone o).1 }
]
inside_keeps sql params old new (Err e) (inr h) = record { was_open = λ _. h.2.0.was_open; committed = λ _. h.2.0.committed_is }

pub keeps_itself : (a : State) → KeepsCommit a a
keeps_itself a = record { was_open = λ up. up; committed = λ up. refl }

pub keeps_then : (a b c : State) → KeepsCommit a b → KeepsCommit b c → KeepsCommit a c
keeps_then a b c h k = record { was_open = λ up. h.was_open (k.was_open up); committed = λ up. k.committed up ∙ h.committed (k.was_open up) }

module _ {S : Type 0} (g : Ghosts S) (sql : List ℕ) (params : Row) (f : Tables → Tables) (old new : Held S) where
  -- one statement
  pub one : (r : Result ℕ Error) → Survives (state g old) (state g new) (λ _. ⊥)
      → ((state g old).in_transaction ≡ false → (r ≡ Err (SqliteFailure TransactionState)) × (new ≡ old))
      → (HasCleanDisk (state g new) → IsTrue (state g old).in_transaction → ExecutesInside 0 sql params (state g old) (state g new) r)
      → ((count : ℕ) → IsGood (state g old).now → Executes sql params (state g old) (state g new) (Ok count) → IsGood (state g new).now × (tables_of (state g new).now.trees ≡ f (tables_of (state g old).now.trees)))
      → Writes f (state g old) (state g new) r
  one r survives ended runs does = elim (cases_Bool (state g old).in_transaction) [
    | inl e ↦ inside e
    | inr e ↦ outside e
  ]
    where
      does_so : (q : Result ℕ Error) → (HasCleanDisk (state g new) → ExecutesInside 0 sql params (state g old) (state g new) q) → HasCleanDisk (state g new) → OnOk q (Turns f (state g old) (state g new))
      does_so (Ok count) h clean = let it = h clean in record { inside = λ was. it.1.mode; good = λ good. does count good it.0 }
      does_so (Err e) h clean = tt

      inside : IsTrue (state g old).in_transaction → Writes f (state g old) (state g new) r
      inside e = record { survives = survives; keeps = λ clean. inside_keeps sql params (state g old) (state g new) r (runs clean e); runs = does_so r (λ clean. runs clean e) }

      outside : (state g old).in_transaction ≡ false → Writes f (state g old) (state g new) r
      outside e =
          let it = ended e in
          record { survives = survives; keeps = λ clean. subst (λ (h : Held S). KeepsCommit (state g old) (state g h)) (sym it.1) (keeps_itself (state g old)); runs = λ clean. subst (λ q. OnOk q (Turns f (state g old) (state g new))) (sym it.0) tt }

pub turns_then : (f h : Tables → Tables) (a b c : State) → Turns f a b → Turns h b c → Turns (λ t. h (f t)) a c
turns_then f h a b c p q = record { inside = λ was. q.inside (p.inside was); good = λ good. let one = p.good good in let two = q.good one.0 in (two.0, two.1 ∙ ap h one.1) }

pub turns_as : (f h : Tables → Tables) (a b : State) → ((t : Tables) → f t ≡ h t) → Turns f a b → Turns h a b
turns_as f h a b same p = record { inside = p.inside; good = λ good. let one = p.good good in (one.0, one.1 ∙ same _) }

-- a call that went well, and one that failed
abbrev pub went : (X E : Type 0) → X → Result X E
went X E x = Ok x

abbrev pub fails : (X E : Type 0) → E → Result X E
fails X E e = Err e

module _ {X Y E : Type 0} (f h k : Tables → Tables) (a b c : State) (same : (t : Tables) → h (f t) ≡ k t) (x : X) where
  -- two parts
  pub writes_then : (r : Result Y E) → Writes f a b (went X E x) → Writes h b c r → Writes k a c r
  writes_then r p q = record {
    survives = survives_then a b c _ _ (λ _. ⊥) (λ _ db none. none) (λ _ db none. none) p.survives q.survives;
    keeps = λ clean. keeps_then a b c (p.keeps (omega (arith, clean, q.survives.clean))) (q.keeps clean);
    runs = λ clean. joined r (q.runs clean) (p.runs (omega (arith, clean, q.survives.clean)));
  }
    where
      joined : (r : Result Y E) → OnOk r (Turns h b c) → Turns f a b → OnOk r (Turns k a c)
      joined (Ok y) q p = turns_as (λ t. h (f t)) k a c same (turns_then f h a b c p q)
      joined (Err e) q p = tt

-- no part
pub writes_none : (f : Tables → Tables) (a : State) (X E : Type 0) (x : X) → ((t : Tables) → f t ≡ t) → Writes f a a (went X E x)
writes_none f a X E x same = record {
  survives = record { clean = omega arith; shield = λ it. it; counts = omega arith; limit = refl; closes = λ clean up. inl up; crash = λ clean db may. inl may };
  keeps = λ clean. keeps_itself a;
  runs = λ clean. record { inside = λ was. was; good = λ good. (good, sym (same _)) };
}

-- a part that does one function of the tables does each function that equals it
pub writes_as : (X E : Type 0) (f h : Tables → Tables) (a b : State) (r : Result X E) → ((t : Tables) → f t ≡ h t) → Writes f a b r → Writes h a b r
writes_as X E f h a b (Ok x) same p = record { survives = p.survives; keeps = p.keeps; runs = λ clean. turns_as f h a b same (p.runs clean) }
writes_as X E f h a b (Err e) same p = record { survives = p.survives; keeps = p.keeps; runs = λ clean. tt }

-- one more turn of a loop
pub writes_more : (X Y Z : Type 0) (f h k : Tables → Tables) (a b c : State) (x : X) (y : Y) (z : Z) → ((t : Tables) → h (f t) ≡ k t) → Writes f a b (went X Error x) → Writes h b c (went Y Error y) → Writes k a c (went Z Error z)
writes_more X Y Z f h k a b c x y z same p q = let both = writes_then {X = X} {Y = Y} {E = Error} f h k a b c same x (went Y Error y) p q in record { survives = both.survives; keeps = both.keeps; runs = both.runs }

pub take_more : {A : Type 0} (xs : List A) (i : ℕ) (d : A) → i < length xs → take (i + 1) xs ≡ take i xs ++ get_or xs i d ∷ []
take_more [] i d low = absurd (omega (arith, low))
take_more (x ∷ xs) zero d low = refl
take_more (x ∷ xs) (suc i) d low = let e : suc i + 1 ≡ suc (i + 1) = omega arith in rw e (ap (λ ys. x ∷ ys) (take_more xs i d (omega (arith, low))))

pub taken_more : {A B : Type 0} (f : A → B) (xs : List A) (i : ℕ) (d : A) → i < length xs → map f (take (i + 1) xs) ≡ map f (take i xs) ++ f (get_or xs i d) ∷ []
taken_more f xs i d low = ap (map f) (take_more xs i d low) ∙ map-append f (take i xs) (get_or xs i d ∷ [])

pub taken_both : {A B C : Type 0} (h : B → C) (f : A → B) (xs : List A) (i : ℕ) (d : A) → i < length xs → map h (map f (take (i + 1) xs)) ≡ map h (map f (take i xs)) ++ h (f (get_or xs i d)) ∷ []
taken_both h f xs i d low = ap (map h) (taken_more f xs i d low) ∙ map-append h (map f (take i xs)) (f (get_or xs i d) ∷ [])

pub writes_and : (X Y : Type 0) (f h : Tables → Tables) (a b c : State) (x : X) (r : Result Y Error) → Writes f a b (went X Error x) → Writes h b c r → Writes (λ t. h (f t)) a c r
writes_and X Y f h a b c x r p q = writes_then {X = X} {Y = Y} {E = Error} f h (λ t. h (f t)) a b c (λ t. refl) x r p q

pub undone_all : (a b c : State) → KeepsCommit a b → IsRolledBack b c → IsTrue c.is_open → c.now ≡ a.committed
undone_all a b c keeps back up = (back.undone up).0 ∙ keeps.committed (back.was_open up)

pub undone_base : (a b c : State) → KeepsCommit a b → IsRolledBack b c → IsTrue c.is_open → c.committed ≡ a.committed
undone_base a b c keeps back up = (back.undone up).1 ∙ keeps.committed (back.was_open up)

-- a commit that fails leaves what was committed
pub failed_commit : (a b c : State) (e : Error) → IsTrue b.in_transaction → KeepsCommit a b → FailsToCommit b c e → IsTrue c.is_open → c.now ≡ a.committed
failed_commit a b c e inside keeps (inl f) up = undone_all a b c keeps f.3 up
failed_commit a b c e inside keeps (inr u) up = absurd (let x = sym inside ∙ u.1 in cc)
