-- What the queries leave, one after another.
use Rattle.std.proofs.Common.{false, IsTrue, ◌≡◌, ◌⊎◌, inl, inr, ℕ, List, [], ◌∷◌, Ok, Err, Result, refl, sym, subst, ◌∙◌, arith, OnOk}
use Rattle.sqlite.specs.declared.error.Error.{Error}
use Rattle.sqlite.specs.declared.error.Error.TheVariants.{QueryReturnedNoRows}
use Rattle.sqlite.specs.Order.{Row}
use Rattle.sqlite.specs.Tree.{Trees}
use Rattle.sqlite.specs.Store.{Ghosts}
use Rattle.sqlite.specs.Listing.{understood}
use Rattle.sqlite.specs.Held.{Held, state}
use Rattle.sqlite.specs.State.{HasCleanDisk, IsUnchanged, IsRolledBack, Survives, CommitsShowing, QueriesRow, Shown, FailsToQuery}
use Rattle.sqlite.proofs.Callers.{IsPlain, never_commits}
use Rattle.dip_store_sql.proofs.Reading.{row_same, none_same, err_undone, row_open}
use Rattle.sqlite.specs.Effect.{Database}
use Rattle.sqlite.specs.Schema.{Schema}
use Rattle.dip_store_sql.specs.Schema.{our_schema}
use Rattle.dip_store_rows.specs.Counted.{AreCounted}
use Rattle.dip_store_sql.specs.Rows.{tables_of}
use Rattle.dip_store_sql.specs.Good.{IsGood}
use Rattle.dip_store_sql.specs.Calls.{IsKept, SelectsFrom, WasKept, is_honest, does_show}
use Rattle.dip_store_sql.specs.Old.{WasGood, old_schema}
use Rattle.dip_store_sql.specs.Causes.{has_faulted}
use Rattle.dip_store_sql.proofs.Caused.{faulted_early, faulted_late}
use Rattle.dip_store_sql.proofs.Parts.{went, fails}

any_ok : {Y F : Type 0} (r : Result Y F) (P : Type 0) → P → OnOk r P
any_ok (Ok y) P p = p
any_ok (Err f) P p = tt

module _ {S : Type 0} {Kept : Held S → Type 0} (g : Ghosts S) where
  pub selects_then : {X E Y F : Type 0} (a b c : Held S) (x : X) (r : Result Y F) → SelectsFrom Kept g a b (went X E x) → SelectsFrom Kept g b c r → SelectsFrom Kept g a c r
  selects_then a b c x r p q = record {
    fair = λ clean. p.fair (q.fair clean);
    shown = λ shows. p.shown (q.shown shows);
    mode = λ idle. q.mode (p.mode idle);
    counts = omega (arith, p.counts, q.counts);
    kept = λ kept shows. q.kept (p.kept kept (q.shown shows)) shows;
    same = λ kept shows. let mid = q.shown shows in q.same (p.kept kept mid) shows ∙ p.same kept mid;
    ok = λ kept clean. q.ok (p.kept kept (p.ok kept (q.fair clean))) clean;
    closes = λ clean shows. closes_then (p.closes (q.fair clean) shows) clean;
    left = λ kept clean db may. p.left kept (q.fair clean) db (q.left (p.kept kept (p.ok kept (q.fair clean))) clean db may);
  }
    where
      closes_then : does_show g b ⊎ has_faulted g a b → is_honest g c → does_show g c ⊎ has_faulted g a c
      closes_then (inl shows) clean = elim (q.closes clean shows) [
        | inl up ↦ inl up
        | inr more ↦ inr (faulted_late (state g a) (state g b) (state g c) p.counts more)
      ]
      closes_then (inr more) clean = inr (faulted_early (state g a) (state g b) (state g c) q.counts more)

  -- what went well may yet be answered otherwise
  pub selects_as : {X E Y F : Type 0} (a b : Held S) (x : X) (r : Result Y F) → SelectsFrom Kept g a b (went X E x) → SelectsFrom Kept g a b r
  selects_as a b x r p = record { fair = p.fair; shown = p.shown; mode = p.mode; counts = p.counts; kept = p.kept; same = p.same; ok = λ kept clean. any_ok r (does_show g b) (p.ok kept clean); closes = p.closes; left = p.left }

  pub selects_fails : {X E Y F : Type 0} (a b : Held S) (e : E) (f : F) → SelectsFrom Kept g a b (fails X E e) → SelectsFrom Kept g a b (fails Y F f)
  selects_fails a b e f p = record { fair = p.fair; shown = p.shown; mode = p.mode; counts = p.counts; kept = p.kept; same = p.same; ok = λ kept clean. tt; closes = p.closes; left = p.left }

-- rows of one schema, all of them committed, that are kept while the database and the limit of steps are the same
pub record IsLasting {S : Type 0} (schema : Schema) (Kept : Held S → Type 0) (g : Ghosts S) : Type 0 where
  pub has : (h : Held S) → Kept h → (state g h).now.schema ≡ schema
  pub settled : (h : Held S) → Kept h → (state g h).now ≡ (state g h).committed
  pub lasts : (old new : Held S) → Kept old → (state g new).now ≡ (state g old).now → (state g new).committed ≡ (state g old).committed
      → (old.in_transaction ≡ false → new.in_transaction ≡ false) → new.step_limit ≡ old.step_limit → Kept new

-- what a keeper has written, of our schema, and of that of version 1
pub kept_lasts : {S : Type 0} (g : Ghosts S) → IsLasting our_schema (IsKept g) g
kept_lasts g = record {
  has = λ h kept. kept.good.schema;
  settled = λ h kept. kept.settled;
  lasts = λ old new kept now committed mode limit. record {
    good = subst IsGood (sym now) kept.good;
    counted = subst (λ (d : Database). AreCounted (tables_of d.trees)) (sym now) kept.counted;
    idle = mode kept.idle;
    settled = now ∙ kept.settled ∙ sym committed;
    unlimited = limit ∙ kept.unlimited;
  };
}

pub old_lasts : {S : Type 0} (g : Ghosts S) → IsLasting old_schema (WasKept g) g
old_lasts g = record {
  has = λ h kept. kept.good.schema;
  settled = λ h kept. kept.settled;
  lasts = λ old new kept now committed mode limit. record {
    good = subst WasGood (sym now) kept.good;
    idle = mode kept.idle;
    settled = now ∙ kept.settled ∙ sym committed;
    unlimited = limit ∙ kept.unlimited;
  };
}

module _ {S : Type 0} {schema : Schema} {Kept : Held S → Type 0} (g : Ghosts S) (lasting : IsLasting schema Kept g) (text : List ℕ) (params : Row) (old new : Held S) (plain : IsPlain (understood schema text)) (survives : Survives (state g old) (state g new) (CommitsShowing text params (state g old)))
    (mode : old.in_transaction ≡ false → new.in_transaction ≡ false) where
  plain_in : Kept old → IsPlain (understood (state g old).now.schema text)
  plain_in kept = subst (λ s. IsPlain (understood s text)) (sym (lasting.has old kept)) plain

  left_by : Kept old → is_honest g new → (db : Trees) → (state g new).may_leave db → (state g old).may_leave db
  left_by kept clean db may = elim (survives.crash clean db may) [
    | inl before ↦ before
    | inr done ↦ absurd (never_commits text params (state g old) db (plain_in kept) done)
  ]

  closes_by : is_honest g new → does_show g old → does_show g new ⊎ has_faulted g old new
  closes_by clean shows = elim (survives.closes clean shows.1) [ inl up ↦ inl (clean, up) | inr more ↦ inr more ]

  kept_as : Kept old → (state g new).now ≡ (state g old).now → (state g new).committed ≡ (state g old).committed → Kept new
  kept_as kept now committed = lasting.lasts old new kept now committed mode survives.limit

  module _ (up : HasCleanDisk (state g new) → IsTrue (state g new).is_open → IsTrue (state g old).is_open) where
    selects_on : {X E : Type 0} (r : Result X E) → (Kept old → is_honest g new → IsUnchanged (state g old) (state g new)) → SelectsFrom Kept g old new r
    selects_on {X} {E} r same = record {
      fair = λ clean. omega (arith, clean, survives.clean);
      shown = λ shows. (omega (arith, shows.0, survives.clean), up shows.0 shows.1);
      mode = mode;
      counts = survives.counts;
      kept = λ kept shows. let u = same kept shows.0 in kept_as kept u.0.now_is u.0.committed_is;
      same = λ kept shows. (same kept shows.0).0.now_is;
      ok = ok_in r;
      closes = closes_by;
      left = left_by;
    }
      where
        ok_in : (q : Result X E) → Kept old → is_honest g new → OnOk q (does_show g new)
        ok_in (Ok x) kept clean = (clean, (same kept clean).0.is_open)
        ok_in (Err e) kept clean = tt

    selects_back : (X E : Type 0) (e : E) → (Kept old → is_honest g new → IsUnchanged (state g old) (state g new) ⊎ IsRolledBack (state g old) (state g new)) → SelectsFrom Kept g old new (fails X E e)
    selects_back X E e how = record {
      fair = λ clean. omega (arith, clean, survives.clean);
      shown = λ shows. (omega (arith, shows.0, survives.clean), up shows.0 shows.1);
      mode = mode;
      counts = survives.counts;
      kept = λ kept shows. elim (how kept shows.0) [ inl u ↦ kept_as kept u.0.now_is u.0.committed_is | inr b ↦ kept_as kept ((b.undone shows.1).0 ∙ sym (lasting.settled old kept)) (b.undone shows.1).1 ];
      same = λ kept shows. elim (how kept shows.0) [ inl u ↦ u.0.now_is | inr b ↦ (b.undone shows.1).0 ∙ sym (lasting.settled old kept) ];
      ok = λ kept clean. tt;
      closes = closes_by;
      left = left_by;
    }

  pub selects_row : (X : Type 0) (row : Row) (x : X) → (HasCleanDisk (state g new) → QueriesRow text params (state g old) (state g new) (Ok row)) → SelectsFrom Kept g old new (went X Error x)
  selects_row X row x h = selects_on (λ clean. row_open text params (state g old) (state g new) (Ok row) (h clean)) (went X Error x)
      (λ kept clean. row_same text params (state g old) (state g new) (plain_in kept) row (h clean))

  pub selects_none : (X : Type 0) (x : X) → (HasCleanDisk (state g new) → QueriesRow text params (state g old) (state g new) (Err QueryReturnedNoRows)) → SelectsFrom Kept g old new (went X Error x)
  selects_none X x h = selects_on (λ clean. row_open text params (state g old) (state g new) (Err QueryReturnedNoRows) (h clean)) (went X Error x)
      (λ kept clean. none_same text params (state g old) (state g new) (plain_in kept) (h clean))

  pub selects_err : (X : Type 0) (e : Error) → (HasCleanDisk (state g new) → QueriesRow text params (state g old) (state g new) (Err e)) → SelectsFrom Kept g old new (fails X Error e)
  selects_err X e h = selects_back (λ clean. row_open text params (state g old) (state g new) (Err e) (h clean)) X Error e
      (λ kept clean. err_undone text params (state g old) (state g new) (plain_in kept) e (h clean))

  -- all rows are a first row and more, or none
  pub selects_all : (X : Type 0) (rows : List Row) (x : X) → (HasCleanDisk (state g new) → Shown text params (state g old) (state g new) rows) → SelectsFrom Kept g old new (went X Error x)
  unfolding QueriesRow
  selects_all X [] x h = selects_none X x as_none
    where
      as_none : HasCleanDisk (state g new) → QueriesRow text params (state g old) (state g new) (Err QueryReturnedNoRows)
      as_none clean = inr (refl, h clean)
  selects_all X (row ∷ rows) x h = selects_row X row x as_first
    where
      as_first : HasCleanDisk (state g new) → QueriesRow text params (state g old) (state g new) (Ok row)
      as_first clean = inr (row ∷ rows, h clean, refl)

  pub selects_all_err : (X : Type 0) (e : Error) → (HasCleanDisk (state g new) → FailsToQuery text params (state g old) (state g new) e) → SelectsFrom Kept g old new (fails X Error e)
  unfolding QueriesRow
  selects_all_err X e h = selects_err X e as_row
    where
      as_row : HasCleanDisk (state g new) → QueriesRow text params (state g old) (state g new) (Err e)
      as_row clean = inl (h clean)
