-- Parts of a transaction one after another: what they do, and that they fail for want alone.
use Rattle.std.proofs.Common.{◌≡◌, false, true, inl, Result, refl, sym, ap, subst, ◌∙◌, arith}
use Rattle.sqlite.specs.declared.error.Error.{Error}
use Rattle.sqlite.specs.declared.error.Error.TheVariants.{SqliteFailure}
use Rattle.sqlite.specs.declared.error.ErrorCode.TheVariants.{OutOfMemory}
use Rattle.sqlite.specs.State.{State, HasCleanDisk}
use Rattle.dip_store_rows.specs.Tables.{Tables}
use Rattle.dip_store_sql.specs.Causes.{Faulted}
use Rattle.dip_store_sql.specs.Refusals.{is_outage}
use Rattle.dip_store_sql.specs.Rows.{tables_of}
use Rattle.dip_store_sql.specs.Transactions.{Does}
use Rattle.dip_store_sql.proofs.Blamed.{blamed_of}
use Rattle.dip_store_sql.proofs.Caused.{faulted_late}
use Rattle.dip_store_sql.proofs.Parts.{fails, went, writes_as, writes_none, writes_then}
use Rattle.dip_store_sql.proofs.Told.{want_of}

-- a part that went well, whatever it answers and whatever the tables are to be
pub does_ok : {X Y : Type 0} {f : Tables → Tables} {K : Tables → Type 0} {a b : State} {x : X} (L : Tables → Type 0) (y : Y) → Does f K a b (went X Error x) → Does f L a b (went Y Error y)
does_ok L y p = record {
  writes = record { survives = p.writes.survives; keeps = p.writes.keeps; runs = p.writes.runs };
  ready = p.ready;
  fails = λ clean ready keep. tt;
  blames = λ clean ready. tt;
}

-- a part that failed, whatever it was to do, where its tables were to be such as the new ones are
pub does_fail : {X : Type 0} {f : Tables → Tables} {K : Tables → Type 0} {a b : State} {e : Error} (Y : Type 0) (h : Tables → Tables) (L : Tables → Type 0)
    → Does f K a b (fails X Error e) → ((t : Tables) → L (h t) → K (f t)) → Does h L a b (fails Y Error e)
does_fail {a} Y h L p asks = record {
  writes = record { survives = p.writes.survives; keeps = p.writes.keeps; runs = λ clean. tt };
  ready = λ clean ready. tt;
  fails = λ clean ready keep. p.fails clean ready (asks (tables_of a.now.trees) keep);
  blames = p.blames;
}

-- a part of a transaction that does one function of the tables does each function that equals it
pub does_as : {X : Type 0} {f h : Tables → Tables} {K : Tables → Type 0} {a b : State} {r : Result X Error} → Does f K a b r → ((t : Tables) → f t ≡ h t) → Does h K a b r
does_as {X} {f} {h} {K} {a} {b} {r} p same = record {
  writes = writes_as X Error f h a b r same p.writes;
  ready = p.ready;
  fails = λ clean ready keep. p.fails clean ready (subst K (sym (same (tables_of a.now.trees))) keep);
  blames = p.blames;
}

-- a part that fails before its first statement, for want of memory
pub does_not : (X : Type 0) (f : Tables → Tables) (K : Tables → Type 0) (a : State) (e : Error) → e ≡ SqliteFailure OutOfMemory → Does f K a a (fails X Error e)
does_not X f K a e is =
    let none = writes_none (λ t. t) a (Unit {0}) Error tt (λ t. refl) in
    record {
      writes = record { survives = none.survives; keeps = none.keeps; runs = λ clean. tt };
      ready = λ clean ready. tt;
      fails = λ clean ready keep. inl (inl is);
      blames = λ clean ready out. absurd (let x : false ≡ true = ap is_outage (sym is) ∙ out in cc);
    }

-- two parts: they fail for want where the second does
pub does_and : {X Y : Type 0} {f h : Tables → Tables} {K L : Tables → Type 0} {a b c : State} {x : X} {r : Result Y Error} → Does f K a b (went X Error x) → Does h L b c r → Does (λ t. h (f t)) L a c r
does_and {X} {Y} {f} {h} {K} {L} {a} {b} {c} {x} {r} p q = record {
  writes = writes_then {X = X} {Y = Y} {E = Error} f h (λ t. h (f t)) a b c (λ t. refl) x r p.writes q.writes;
  ready = λ clean ready. q.ready clean (p.ready (fair clean) ready);
  fails = λ clean ready keep.
      want_of (Faulted b c) (Faulted a c) r (faulted_late a b c p.writes.survives.counts)
      (q.fails clean (p.ready (fair clean) ready) (subst (λ t. L (h t)) (sym ((p.writes.runs (fair clean)).good ready.good).1) keep));
  blames = λ clean ready. blamed_of (Faulted b c) (Faulted a c) r (faulted_late a b c p.writes.survives.counts) (q.blames clean (p.ready (fair clean) ready));
}
  where
    fair : HasCleanDisk c → HasCleanDisk b
    fair clean = omega (arith, clean, q.writes.survives.clean)

-- one more turn of a loop
pub does_more : {X Y Z : Type 0} {f h k : Tables → Tables} {K L : Tables → Type 0} {a b c : State} {x : X} {y : Y} (M : Tables → Type 0) (z : Z)
    → Does f K a b (went X Error x) → Does h L b c (went Y Error y) → ((t : Tables) → h (f t) ≡ k t) → Does k M a c (went Z Error z)
does_more M z p q same = does_ok M z (does_as (does_and p q) same)
