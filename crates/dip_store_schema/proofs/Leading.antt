-- Parts of a transaction that make tables, one after another.
use Rattle.std.proofs.Common.{◌≡◌, inl, inr, IsTrue, false, ℕ, List, [], Ok, Err, Result, OnOk, sym, subst, ap, ◌∙◌, arith}
use Rattle.std.proofs.lemmas.Bool.{cases_Bool}
use Rattle.sqlite.specs.declared.error.Error.{Error}
use Rattle.sqlite.specs.declared.error.Error.TheVariants.{SqliteFailure}
use Rattle.sqlite.specs.declared.error.ErrorCode.TheVariants.{TransactionState}
use Rattle.sqlite.specs.Store.{Ghosts}
use Rattle.sqlite.specs.Held.{Held, state}
use Rattle.sqlite.specs.Effect.{Database}
use Rattle.sqlite.specs.State.{State, HasCleanDisk, Survives, Executes, ExecutesInside, KeepsCommit}
use Rattle.sqlite.proofs.StateLemmas.{survives_then}
use Rattle.dip_store_tables.specs.Tables.{Tables}
use Rattle.dip_store_sql.specs.Calls.{Writes, Turns}
use Rattle.dip_store_sql.proofs.Parts.{inside_keeps, keeps_itself, keeps_then, fails, went}
use Rattle.dip_store_schema.specs.Making.{Becomes, HasTables, Leads}

module _ {S : Type 0} (g : Ghosts S) (sql : List ℕ) (Such So : Database → Type 0) (old new : Held S) where
  -- one statement
  pub leads_one : (r : Result ℕ Error) → Survives (state g old) (state g new) (λ _. ⊥)
      → ((state g old).in_transaction ≡ false → (r ≡ Err (SqliteFailure TransactionState)) × (new ≡ old))
      → (HasCleanDisk (state g new) → IsTrue (state g old).in_transaction → ExecutesInside 0 sql [] (state g old) (state g new) r)
      → ((count : ℕ) → Such (state g old).now → Executes sql [] (state g old) (state g new) (Ok count) → So (state g new).now)
      → Leads Such So (state g old) (state g new) r
  leads_one r survives ended runs does = elim (cases_Bool (state g old).in_transaction) [
    | inl e ↦ inside e
    | inr e ↦ outside e
  ]
    where
      does_so : (q : Result ℕ Error) → (HasCleanDisk (state g new) → ExecutesInside 0 sql [] (state g old) (state g new) q) → HasCleanDisk (state g new) → OnOk q (Becomes Such So (state g old) (state g new))
      does_so (Ok count) h clean = let it = h clean in record { inside = λ was. it.1.mode; now = λ such. does count such it.0 }
      does_so (Err e) h clean = tt

      inside : IsTrue (state g old).in_transaction → Leads Such So (state g old) (state g new) r
      inside e = record { survives = survives; keeps = λ clean. inside_keeps sql [] (state g old) (state g new) r (runs clean e); runs = does_so r (λ clean. runs clean e) }

      outside : (state g old).in_transaction ≡ false → Leads Such So (state g old) (state g new) r
      outside e =
          let it = ended e in
          record { survives = survives; keeps = λ clean. subst (λ (h : Held S). KeepsCommit (state g old) (state g h)) (sym it.1) (keeps_itself (state g old)); runs = λ clean. subst (λ q. OnOk q (Becomes Such So (state g old) (state g new))) (sym it.0) tt }

becomes_then : (P Q R : Database → Type 0) (a b c : State) → Becomes P Q a b → Becomes Q R b c → Becomes P R a c
becomes_then P Q R a b c p q = record { inside = λ was. q.inside (p.inside was); now = λ such. q.now (p.now such) }

-- two parts
pub leads_then : {X Y E : Type 0} (P Q R : Database → Type 0) (a b c : State) (x : X) (r : Result Y E) → Leads P Q a b (went X E x) → Leads Q R b c r → Leads P R a c r
leads_then {X} {Y} {E} P Q R a b c x r p q = record {
  survives = survives_then a b c _ _ (λ _. ⊥) (λ _ db none. none) (λ _ db none. none) p.survives q.survives;
  keeps = λ clean. keeps_then a b c (p.keeps (omega (arith, clean, q.survives.clean))) (q.keeps clean);
  runs = λ clean. joined r (q.runs clean) (p.runs (omega (arith, clean, q.survives.clean)));
}
  where
    joined : (r : Result Y E) → OnOk r (Becomes Q R b c) → Becomes P Q a b → OnOk r (Becomes P R a c)
    joined (Ok y) q p = becomes_then P Q R a b c p q
    joined (Err e) q p = tt

-- whatever a part answers that went well
pub leads_ok : {X Y E : Type 0} (P Q : Database → Type 0) (a b : State) (x : X) (y : Y) → Leads P Q a b (went X E x) → Leads P Q a b (went Y E y)
leads_ok P Q a b x y p = record { survives = p.survives; keeps = p.keeps; runs = p.runs }

-- a part that fails keeps the commit, whatever it was to do
pub leads_fails : {X Y E F : Type 0} (P Q R T : Database → Type 0) (a b : State) (e : E) (f : F) → Leads P Q a b (fails X E e) → Leads R T a b (fails Y F f)
leads_fails P Q R T a b e f p = record { survives = p.survives; keeps = p.keeps; runs = λ clean. tt }

-- statements on our tables
pub writes_leads : {X E : Type 0} (f : Tables → Tables) (t : Tables) (a b : State) (r : Result X E) → Writes f a b r → Leads (HasTables t) (HasTables (f t)) a b r
writes_leads {X} {E} f t a b r p = record { survives = p.survives; keeps = p.keeps; runs = λ clean. turned r (p.runs clean) }
  where
    turned : (r : Result X E) → OnOk r (Turns f a b) → OnOk r (Becomes (HasTables t) (HasTables (f t)) a b)
    turned (Ok x) it = record { inside = it.inside; now = λ has. let now = it.good has.0 in (now.0, now.1 ∙ ap f has.1) }
    turned (Err e) it = tt
