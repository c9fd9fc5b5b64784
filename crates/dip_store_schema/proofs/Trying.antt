-- Parts of a transaction that make tables, and why they fail.
use Rattle.std.proofs.Common.{◌≡◌, inl, inr, ℕ, List, [], true, IsTrue, Ok, Err, Result, IfErr, refl, sym, ap, ◌∙◌, arith}
use Rattle.dip_store_sql.specs.StoreError.{StoreError}
use Rattle.dip_store_sql.specs.StoreError.TheVariants.{OutOfMemory, Io, Corrupt, Full, Broken, Unstorable}
use Rattle.sqlite.specs.declared.error.Error.{Error}
use Rattle.sqlite.specs.Store.{Ghosts}
use Rattle.sqlite.specs.Held.{Held, state}
use Rattle.sqlite.specs.Effect.{Database}
use Rattle.sqlite.specs.Tree.{Trees}
use Rattle.sqlite.specs.State.{State, HasCause, HasCleanDisk, Survives, Executes, ExecutesInside, is_disk_error, store_error}
use Rattle.sqlite.specs.Steps.{FailsToCommit}
use Rattle.dip_store_sql.specs.Calls.{does_show, is_honest}
use Rattle.dip_store_sql.specs.Causes.{Faulted, IsCaused, has_faulted}
use Rattle.dip_store_sql.proofs.Caused.{caused_weaker, faulted_late}
use Rattle.dip_store_sql.proofs.Parts.{fails, went}
use Rattle.dip_store_schema.specs.Founding.{IsNewStore}
use Rattle.dip_store_schema.specs.Making.{HasFirst, IsSet, Tries}

module _ (sql : List ℕ) (Such So : Database → Type 0) (old new : State) where
  -- one statement
  pub tries_one : (r : Result ℕ Error) → Survives old new (λ _. ⊥) → (HasCleanDisk new → IsTrue old.in_transaction → ExecutesInside 0 sql [] old new r)
      → ((count : ℕ) → Such old.now → Executes sql [] old new (Ok count) → So new.now)
      → ((e : Error) → IsSet Such old → ExecutesInside 0 sql [] old new (Err e) → IsCaused (Faulted old new) e)
      → Tries Such So old new r
  tries_one (Ok count) survives runs makes cause = record {
    clean = λ clean. omega (arith, clean, survives.clean);
    counts = survives.counts;
    ready = λ clean set. let it = runs clean set.inside in record { inside = it.1.mode; up = it.1.is_open; unlimited = survives.limit ∙ set.unlimited; now = makes count set.now it.0 };
    fails = λ clean set. tt;
  }
  tries_one (Err e) survives runs makes cause = record {
    clean = λ clean. omega (arith, clean, survives.clean);
    counts = survives.counts;
    ready = λ clean set. tt;
    fails = λ clean set. cause e set (runs clean set.inside);
  }

caused_of : {X : Type 0} (one two : Type 0) (r : Result X Error) → (one → two) → IfErr r (IsCaused one) → IfErr r (IsCaused two)
caused_of one two (Ok x) turn cause = tt
caused_of one two (Err e) turn cause = caused_weaker one two e turn cause

module _ {X Y : Type 0} (P Q R : Database → Type 0) (a b c : State) (x : X) (first : Tries P Q a b (went X Error x)) where
  -- two parts
  pub tries_then : (r : Result Y Error) → Tries Q R b c r → Tries P R a c r
  tries_then r next = record {
    clean = λ clean. first.clean (next.clean clean);
    counts = omega (arith, first.counts, next.counts);
    ready = λ clean set. next.ready clean (first.ready (next.clean clean) set);
    fails = λ clean set. caused_of (Faulted b c) (Faulted a c) r (faulted_late a b c first.counts) (next.fails clean (first.ready (next.clean clean) set));
  }

-- whatever a part answers that went well
pub tries_ok : {X Y : Type 0} (P Q : Database → Type 0) (a b : State) (x : X) (y : Y) → Tries P Q a b (went X Error x) → Tries P Q a b (went Y Error y)
tries_ok P Q a b x y p = record { clean = p.clean; counts = p.counts; ready = p.ready; fails = λ clean set. tt }

-- a part that fails, whatever it was to make
pub tries_fails : {X Y : Type 0} (P Q R : Database → Type 0) (a b : State) (e : Error) → Tries P Q a b (fails X Error e) → Tries P R a b (fails Y Error e)
tries_fails P Q R a b e p = record { clean = p.clean; counts = p.counts; ready = λ clean set. tt; fails = p.fails }

module _ {S : Type 0} (g : Ghosts S) (Such So : Database → Type 0) (old last end : Held S) where
  abbrev begun : Held S
  begun = record old { in_transaction = true }

  module _ (set : IsSet Such (state g begun)) where
    -- a part failed
    pub parts_caused : (X : Type 0) (e : Error) → Tries Such So (state g begun) (state g last) (fails X Error e) → is_honest g last → IsCaused (has_faulted g old last) e
    parts_caused X e tries clean = tries.fails clean set

    store_caused : (e : Error) (cause : StoreError) → e ≡ store_error cause → HasCause (state g last) (state g end) ⊥ cause → IsTrue (state g last).is_open → IsCaused (has_faulted g last end) e
    store_caused e OutOfMemory is why up = inl is
    store_caused e Io is why up = inr (ap is_disk_error is, why)
    store_caused e Corrupt is why up = inr (ap is_disk_error is, why)
    store_caused e Full is why up = inr (ap is_disk_error is, why)
    store_caused e Broken is why up = absurd (let x = sym up ∙ why in cc)
    store_caused e Unstorable is why up = absurd why

    -- the parts went well
    pub commit_caused : (X Y : Type 0) (x : X) (r : Result Y Error) (Commits : Trees → Type 0) → Tries Such So (state g begun) (state g last) (went X Error x) → Survives (state g last) (state g end) Commits
        → (HasCleanDisk (state g end) → IfErr r (FailsToCommit (state g last) (state g end))) → is_honest g end → IfErr r (IsCaused (has_faulted g old end))
    commit_caused X Y x (Ok y) Commits tries survives err clean = tt
    commit_caused X Y x (Err e) Commits tries survives err clean =
        let late = tries.ready (omega (arith, clean, survives.clean)) set in
        elim (err clean) [
          | inl f ↦ caused_weaker _ _ e (faulted_late (state g old) (state g last) (state g end) tries.counts) (store_caused e f.0 f.1 f.2 late.up)
          | inr out ↦ absurd (let x = sym late.inside ∙ out.1 in cc)
        ]

-- a transaction in a new store has none of our tables
pub begun_set : {S : Type 0} (g : Ghosts S) (old : Held S) → IsNewStore g old → does_show g old → IsSet (HasFirst 0) (state g (record old { in_transaction = true }))
begun_set g old new shows = record { inside = refl; up = shows.1; unlimited = new.unlimited; now = record { schema_is = new.empty; empty = tt } }
