-- What a transaction of parts leaves of a connection.
use Rattle.std.proofs.Common.{true, false, [], ◌≡◌, ◌⊎◌, inl, inr, IsTrue, Ok, Err, Result, OnOk, OnErr, IfErr, refl, sym, subst, ap, ◌∙◌, arith}
use Rattle.sqlite.specs.declared.error.Error.{Error}
use Rattle.sqlite.specs.Tree.{Trees}
use Rattle.sqlite.specs.Effect.{Database}
use Rattle.sqlite.specs.Store.{Ghosts}
use Rattle.sqlite.specs.Held.{Held, state}
use Rattle.sqlite.specs.State.{HasCleanDisk, Survives, KeepsCounts, Shows, IsRolledBack}
use Rattle.sqlite.specs.Steps.{FailsToCommit}
use Rattle.dip_store_tables.specs.Tables.{Tables}
use Rattle.dip_store_tables.specs.Counting.{AreCounted}
use Rattle.dip_store_sql.specs.Rows.{tables_of}
use Rattle.dip_store_sql.specs.Good.{IsGood}
use Rattle.dip_store_sql.specs.Calls.{IsKept, IsLaid, Selects, Writes, does_show, is_honest, tables_in}
use Rattle.dip_store_sql.specs.Causes.{has_faulted}
use Rattle.dip_store_sql.proofs.Caused.{faulted_early, faulted_late}
use Rattle.dip_store_sql.proofs.Parts.{failed_commit, fails, undone_all, undone_base, went}
use Rattle.dip_store_counts.specs.Counts.{Peeks}
use Rattle.dip_store.specs.Making.{Makes, MakesFrom}

-- both went well, or neither
abbrev pub AreAlike : {X E F : Type 0} → Result X E → Result X F → Type 0
AreAlike (Ok x) (Ok y) = Unit {0}
AreAlike (Ok x) (Err e) = ⊥
AreAlike (Err e) (Ok x) = ⊥
AreAlike (Err e) (Err f) = Unit {0}

module _ {S : Type 0} (g : Ghosts S) (f : Tables → Tables) (old last end : Held S) where
  abbrev begun : Held S
  begun = record old { in_transaction = true }

  -- a connection that shows what it showed before
  back_kept : IsKept g old → (state g end).now ≡ (state g old).committed → (state g end).committed ≡ (state g old).committed → end.in_transaction ≡ false → end.step_limit ≡ old.step_limit → IsKept g end
  back_kept kept now committed idle limit =
      let same = now ∙ sym kept.settled in
      record {
        good = subst IsGood (sym same) kept.good;
        counted = subst (λ (d : Database). AreCounted (tables_of d.trees)) (sym same) kept.counted;
        idle = idle;
        settled = now ∙ sym committed;
        unlimited = limit ∙ kept.unlimited;
      }

  -- the parts and what ends them leave the connection open, but for a fault of the disk
  closes_both : (Commits : Trees → Type 0) → Survives (state g begun) (state g last) (λ _. ⊥) → Survives (state g last) (state g end) Commits → is_honest g end → does_show g old → does_show g end ⊎ has_faulted g old end
  closes_both Commits parts ends clean up = elim (parts.closes (omega (arith, clean, ends.clean)) up.1) [
    | inl up_mid ↦ elim (ends.closes clean up_mid) [
      | inl still ↦ inl (clean, still)
      | inr more ↦ inr (faulted_late (state g begun) (state g last) (state g end) parts.counts more)
    ]
    | inr more ↦ inr (faulted_early (state g begun) (state g last) (state g end) ends.counts more)
  ]

  -- the parts went well, and were committed
  pub makes_done : (X Y : Type 0) (x : X) (y : Y)
      → ((s : S) (db : Trees) → IsTrue (g.view s).is_open → g.recovers s db → db ≡ (g.view s).committed)
      → Writes f (state g begun) (state g last) (went X Error x)
      → Survives (state g last) (state g end) (λ db. db ≡ (state g last).now.trees)
      → end.in_transaction ≡ false
      → (HasCleanDisk (state g end) → Shows (state g last) (state g end) (state g last).now (state g last).now false)
      → Makes g f old end (went Y Error y)
  makes_done X Y x y settled parts survives ended shows = record {
    fair = λ clean. omega (arith, clean, survives.clean, parts.survives.clean);
    shown = λ up. let mid : HasCleanDisk (state g last) = omega (arith, up.0, survives.clean) in
        (omega (arith, up.0, survives.clean, parts.survives.clean), (parts.keeps mid).was_open (shows up.0).was_open);
    mode = λ _. ended;
    counts = omega (arith, survives.counts, parts.survives.counts);
    done = λ kept up.
        let mid : HasCleanDisk (state g last) = omega (arith, up.0, survives.clean) in
        let s = shows up.0 in
        let turned = (parts.runs mid).good kept.good in (
          record {
            good = subst IsGood (sym s.now_is) turned.0;
            idle = ended;
            settled = s.now_is ∙ sym s.committed_is;
            unlimited = survives.limit ∙ parts.survives.limit ∙ kept.unlimited;
          },
          ap (λ (d : Database). tables_of d.trees) s.now_is ∙ turned.1,
        );
    undone = λ kept up. tt;
    ok = λ kept clean. (clean, (shows clean).is_open);
    closes = λ clean up. inl (clean, (shows clean).is_open);
    kept = λ kept clean db may. let s = shows clean in settled end.store db s.is_open may ∙ ap (λ (d : Database). d.trees) (s.committed_is ∙ sym s.now_is);
    left = λ kept clean. tt;
  }

  -- the parts went well, and their commit failed
  pub makes_uncommitted : (X Y : Type 0) (x : X) (e : Error)
      → Writes f (state g begun) (state g last) (went X Error x)
      → Survives (state g last) (state g end) (λ db. db ≡ (state g last).now.trees)
      → end.in_transaction ≡ false
      → (HasCleanDisk (state g end) → FailsToCommit (state g last) (state g end) e)
      → Makes g f old end (fails Y Error e)
  makes_uncommitted X Y x e parts survives ended how = record {
    fair = λ clean. omega (arith, clean, survives.clean, parts.survives.clean);
    shown = λ up. (omega (arith, up.0, survives.clean, parts.survives.clean), was_open up.0 up.1);
    mode = λ _. ended;
    counts = omega (arith, survives.counts, parts.survives.counts);
    done = λ kept up. tt;
    undone = λ kept up.
        let mid : HasCleanDisk (state g last) = omega (arith, up.0, survives.clean) in
        let now = failed_commit (state g begun) (state g last) (state g end) e ((parts.runs mid).inside refl) (parts.keeps mid) (how up.0) up.1 in
        (back_kept kept now (base up.0 up.1) ended (survives.limit ∙ parts.survives.limit), now ∙ sym kept.settled);
    ok = λ kept clean. tt;
    closes = λ clean up. closes_both (λ db. db ≡ (state g last).now.trees) parts.survives survives clean up;
    kept = λ kept clean. tt;
    left = λ kept clean db may.
        let mid : HasCleanDisk (state g last) = omega (arith, clean, survives.clean) in
        elim (survives.crash clean db may) [
          | inl before ↦ elim (parts.survives.crash mid db before) [ inl first ↦ inl first | inr none ↦ absurd none ]
          | inr is ↦ inr ((state g last).now, (parts.runs mid).good, is)
        ];
  }
    where
      rolled : HasCleanDisk (state g end) → IsRolledBack (state g last) (state g end)
      rolled clean =
          let mid : HasCleanDisk (state g last) = omega (arith, clean, survives.clean) in
          elim (how clean) [
            | inl f ↦ f.3
            | inr u ↦ absurd (let x = sym ((parts.runs mid).inside refl) ∙ u.1 in cc)
          ]

      was_open : HasCleanDisk (state g end) → IsTrue (state g end).is_open → IsTrue (state g old).is_open
      was_open clean up = (parts.keeps (omega (arith, clean, survives.clean))).was_open ((rolled clean).was_open up)

      base : HasCleanDisk (state g end) → IsTrue (state g end).is_open → (state g end).committed ≡ (state g old).committed
      base clean up = undone_base (state g begun) (state g last) (state g end) (parts.keeps (omega (arith, clean, survives.clean))) (rolled clean) up

  -- a part failed, and all were undone
  pub makes_undone : (X Y : Type 0) (e : Error)
      → Writes f (state g begun) (state g last) (fails X Error e)
      → Survives (state g last) (state g end) (λ _. ⊥)
      → end.in_transaction ≡ false
      → (HasCleanDisk (state g end) → IsRolledBack (state g last) (state g end))
      → Makes g f old end (fails Y Error e)
  makes_undone X Y e parts survives ended back = record {
    fair = λ clean. omega (arith, clean, survives.clean, parts.survives.clean);
    shown = λ up. let mid : HasCleanDisk (state g last) = omega (arith, up.0, survives.clean) in
        (omega (arith, up.0, survives.clean, parts.survives.clean), (parts.keeps mid).was_open ((back up.0).was_open up.1));
    mode = λ _. ended;
    counts = omega (arith, survives.counts, parts.survives.counts);
    done = λ kept up. tt;
    undone = λ kept up.
        let mid : HasCleanDisk (state g last) = omega (arith, up.0, survives.clean) in
        let now = undone_all (state g begun) (state g last) (state g end) (parts.keeps mid) (back up.0) up.1 in
        let base = undone_base (state g begun) (state g last) (state g end) (parts.keeps mid) (back up.0) up.1 in
        (back_kept kept now base ended (survives.limit ∙ parts.survives.limit), now ∙ sym kept.settled);
    ok = λ kept clean. tt;
    closes = λ clean up. closes_both (λ _. ⊥) parts.survives survives clean up;
    kept = λ kept clean. tt;
    left = λ kept clean db may.
        let mid : HasCleanDisk (state g last) = omega (arith, clean, survives.clean) in
        elim (survives.crash clean db may) [
          | inl before ↦ elim (parts.survives.crash mid db before) [ inl first ↦ inl first | inr none ↦ absurd none ]
          | inr none ↦ absurd none
        ];
  }

  -- the parts went well, whatever their commit answered
  pub makes_committed : (X Y : Type 0) (x : X) (r : Result Y Error)
      → ((s : S) (db : Trees) → IsTrue (g.view s).is_open → g.recovers s db → db ≡ (g.view s).committed)
      → Writes f (state g begun) (state g last) (went X Error x)
      → Survives (state g last) (state g end) (λ db. db ≡ (state g last).now.trees)
      → end.in_transaction ≡ false
      → (HasCleanDisk (state g end) → OnOk r (IsTrue (state g last).in_transaction × Shows (state g last) (state g end) (state g last).now (state g last).now false × KeepsCounts (state g last) (state g end) × ((state g end).marks ≡ [])))
      → (HasCleanDisk (state g end) → IfErr r (FailsToCommit (state g last) (state g end)))
      → Makes g f old end r
  makes_committed X Y x (Ok y) settled parts survives ended ok err = makes_done X Y x y settled parts survives ended (λ clean. (ok clean).1)
  makes_committed X Y x (Err e) settled parts survives ended ok err = makes_uncommitted X Y x e parts survives ended err

module _ {S : Type 0} (g : Ghosts S) where
  -- nothing was changed
  pub makes_unmade : (K X E Y F : Type 0) (f : Tables → Tables) (old new : Held S) (e : E) (d : F) → Peeks g old new (fails X E e) → MakesFrom (IsKept g old × K) g f old new (fails Y F d)
  makes_unmade K X E Y F f old new e d (inl s) = record {
    fair = s.fair;
    shown = s.shown;
    mode = s.mode;
    counts = s.counts;
    done = λ kept up. tt;
    undone = λ kept up. (s.kept kept.0 up, s.same kept.0 up);
    ok = λ kept clean. tt;
    closes = s.closes;
    kept = λ kept clean. tt;
    left = λ kept clean db may. inl (s.left kept.0 clean db may);
  }
  makes_unmade K X E Y F f old new e d (inr same) = subst (λ h. MakesFrom (IsKept g old × K) g f old h (fails Y F d)) (sym same) (record {
    fair = λ clean. clean;
    shown = λ up. up;
    mode = λ idle. idle;
    counts = omega arith;
    done = λ kept up. tt;
    undone = λ kept up. (kept.0, refl);
    ok = λ kept clean. tt;
    closes = λ clean up. inl up;
    kept = λ kept clean. tt;
    left = λ kept clean db may. inl may;
  })

  on_ok : {Y F G P Q : Type 0} (r : Result Y F) (q : Result Y G) → AreAlike r q → (P → Q) → OnOk r P → OnOk q Q
  on_ok (Ok y) (Ok z) alike f p = f p
  on_ok (Ok y) (Err e) alike f p = absurd alike
  on_ok (Err e) (Ok z) alike f p = absurd alike
  on_ok (Err e) (Err d) alike f p = tt

  on_err : {Y F G P Q : Type 0} (r : Result Y F) (q : Result Y G) → AreAlike r q → (P → Q) → OnErr r P → OnErr q Q
  on_err (Ok y) (Ok z) alike f p = tt
  on_err (Ok y) (Err e) alike f p = absurd alike
  on_err (Err e) (Ok z) alike f p = absurd alike
  on_err (Err e) (Err d) alike f p = f p

  alike_itself : {Y F : Type 0} (r : Result Y F) → AreAlike r r
  alike_itself (Ok y) = tt
  alike_itself (Err e) = tt

  -- a call's whole effect under another name for its function, where what is known at its start makes the two functions equal; the answer may be in
  -- other words
  pub makes_named : (K Y F G : Type 0) (h f : Tables → Tables) (old new : Held S) (r : Result Y F) (q : Result Y G) → AreAlike r q
      → (IsKept g old × K → is_honest g new → h (tables_in g old) ≡ f (tables_in g old)) → Makes g h old new r → MakesFrom (IsKept g old × K) g f old new q
  makes_named K Y F G h f old new r q alike same k = record {
    fair = k.fair;
    shown = k.shown;
    mode = k.mode;
    counts = k.counts;
    done = λ kept up. on_ok r q alike (λ it. (it.0, it.1 ∙ same kept up.0)) (k.done kept.0 up);
    undone = λ kept up. on_err r q alike (λ it. it) (k.undone kept.0 up);
    ok = λ kept clean. on_ok r q alike (λ it. it) (k.ok kept.0 clean);
    closes = k.closes;
    kept = λ kept clean. on_ok r q alike (λ it. it) (k.kept kept.0 clean);
    left = λ kept clean. on_err r q alike (λ it db may. elim (it db may) [
      | inl before ↦ inl before
      | inr lands ↦ inr (lands.0, (λ good. let made = lands.1 good in (made.0, made.1 ∙ same kept clean)), lands.2)
    ]) (k.left kept.0 clean);
  }

  -- what is made where this holds is made where that holds of which it follows
  pub makes_when : (One Two Y F : Type 0) (f : Tables → Tables) (old new : Held S) (r : Result Y F) → (Two → One) → MakesFrom One g f old new r → MakesFrom Two g f old new r
  makes_when One Two Y F f old new r turn k = record {
    fair = k.fair;
    shown = k.shown;
    mode = k.mode;
    counts = k.counts;
    done = λ kept up. k.done (turn kept) up;
    undone = λ kept up. k.undone (turn kept) up;
    ok = λ kept clean. k.ok (turn kept) clean;
    closes = k.closes;
    kept = λ kept clean. k.kept (turn kept) clean;
    left = λ kept clean. k.left (turn kept) clean;
  }

  -- after what was read
  makes_after : (X E Y F : Type 0) (f : Tables → Tables) (old mid new : Held S) (x : X) (r : Result Y F) → Selects g old mid (went X E x) → Makes g f mid new r → Makes g f old new r
  makes_after X E Y F f old mid new x r s k = record {
    fair = λ clean. s.fair (k.fair clean);
    shown = λ up. s.shown (k.shown up);
    mode = λ idle. k.mode (s.mode idle);
    counts = omega (arith, s.counts, k.counts);
    done = λ kept up. let at = k.shown up in on_ok r r (alike_itself r) (λ it. (it.0, it.1 ∙ renamed kept at)) (k.done (s.kept kept at) up);
    undone = λ kept up. let at = k.shown up in on_err r r (alike_itself r) (λ it. (it.0, it.1 ∙ s.same kept at)) (k.undone (s.kept kept at) up);
    ok = λ kept clean. k.ok (mid_kept kept clean) clean;
    closes = λ clean up. closes_after (s.closes (k.fair clean) up) clean;
    kept = λ kept clean. k.kept (mid_kept kept clean) clean;
    left = λ kept clean. on_err r r (alike_itself r) (λ it db may. elim (it db may) [
      | inl before ↦ inl (s.left kept (k.fair clean) db before)
      | inr lands ↦ inr (lands.0, (λ good. let made = lands.1 (mid_kept kept clean).good in (made.0, made.1 ∙ renamed kept (s.ok kept (k.fair clean)))), lands.2)
    ]) (k.left (mid_kept kept clean) clean);
  }
    where
      closes_after : does_show g mid ⊎ has_faulted g old mid → is_honest g new → does_show g new ⊎ has_faulted g old new
      closes_after (inl up) clean = elim (k.closes clean up) [
        | inl still ↦ inl still
        | inr more ↦ inr (faulted_late (state g old) (state g mid) (state g new) s.counts more)
      ]
      closes_after (inr more) clean = inr (faulted_early (state g old) (state g mid) (state g new) k.counts more)

      mid_kept : IsKept g old → is_honest g new → IsKept g mid
      mid_kept kept clean = s.kept kept (s.ok kept (k.fair clean))

      renamed : IsKept g old → does_show g mid → f (tables_in g mid) ≡ f (tables_in g old)
      renamed kept at = ap (λ (d : Database). f (tables_of d.trees)) (s.same kept at)

  pub makes_peeked : (X E Y F : Type 0) (f : Tables → Tables) (old mid new : Held S) (x : X) (r : Result Y F) → Peeks g old mid (went X E x) → Makes g f mid new r → Makes g f old new r
  makes_peeked X E Y F f old mid new x r (inl s) k = makes_after X E Y F f old mid new x r s k
  makes_peeked X E Y F f old mid new x r (inr same) k = subst (λ h. Makes g f h new r) same k

  -- tables that are laid, and counted too, are a keeper's
  pub laid_kept : (new : Held S) → IsLaid g new → AreCounted (tables_in g new) → IsKept g new
  laid_kept new laid counted = record { good = laid.good; counted = counted; idle = laid.idle; settled = laid.settled; unlimited = laid.unlimited }
