-- A look at the rows is a look of their keeper.
use Rattle.std.proofs.Common.{◌≡◌, ◌+◌, ℕ, Result, arith, inl, refl, sym, ap, subst}
use Rattle.sqlite.specs.Effect.{Database}
use Rattle.sqlite.specs.Store.{Ghosts}
use Rattle.sqlite.specs.Held.{Held, state}
use Rattle.dip_map.specs.Charts.{Chart}
use Rattle.dip_desk_keeper.specs.Keeping.{Looks}
use Rattle.dip_store_sql.specs.RowFaults.{IsFromOutside}
use Rattle.dip_store_sql.specs.declared.row_faults.RowFault.{RowFault}
use Rattle.dip_store_tables.specs.Legible.{AreOurs}
use Rattle.dip_desk_state.specs.Faults.{faults_with, next_count}
use Rattle.dip_desk_state.specs.State.{State}
use Rattle.dip_desk_state.specs.declared.faults.KeepFault.{KeepFault}
use Rattle.dip_desk_state.specs.declared.faults.KeepFault.TheVariants.{Memory, Disk, Damaged}
use Rattle.dip_store_sql.specs.Calls.{IsKept, Selects, is_honest, does_show, tables_in}
use Rattle.dip_store_sql.specs.Causes.{has_faulted}
use Rattle.dip_store_sql.specs.Rows.{tables_of}
use Rattle.dip_store_sql.proofs.Parts.{fails, went}
use Rattle.dip_store.specs.Faults.{row_fault}
use Rattle.dip_store_memory.specs.Idle.{Idle, RecallsIdle}
use Rattle.dip_store_memory.specs.Owns.{Owns, RecallsOwns}
use Rattle.dip_store_memory.specs.Seen.{Parts, Recalls}
use Rattle.dip_store.specs.Stored.{SaysMap, book, said_by, telling}
use Rattle.dip_store.specs.declared.keeper.SqlKeeper.{SqlKeeper}
use Rattle.dip_store.proofs.Outside.{look_blamed, look_outside}

module _ {S : Type 0} (g : Ghosts S) (m : Chart) (k : SqlKeeper S) (c : Held S) where
  -- what is remembered is what the rows say
  abbrev Remembers : Parts → Owns → Idle → Type 0
  Remembers seen owns idle = Recalls (said_by m (state g k.conn).now.trees) seen × RecallsOwns (said_by m (state g k.conn).now.trees) owns × RecallsIdle (said_by m (state g k.conn).now.trees) idle

  abbrev Kept : Type 0
  Kept = IsKept g k.conn × AreOurs m (tables_in g k.conn) × Recalls (said_by m (state g k.conn).now.trees) k.seen × RecallsOwns (said_by m (state g k.conn).now.trees) k.owns × RecallsIdle (said_by m (state g k.conn).now.trees) k.idle
      × SaysMap k.map_sum (state g k.conn).now.trees

  module _ {X E : Type 0} (r : Result X E) (p : Selects g k.conn c r) (kept : Kept) where
    sound_on : (seen : Parts) (owns : Owns) (idle : Idle) → Remembers seen owns idle → does_show g c
        → IsKept g c × AreOurs m (tables_in g c) × Recalls (said_by m (state g c).now.trees) seen × RecallsOwns (said_by m (state g c).now.trees) owns × RecallsIdle (said_by m (state g c).now.trees) idle × SaysMap k.map_sum (state g c).now.trees
    sound_on seen owns idle recalls shows =
        let same = sym (p.same kept.0 shows) in (
          p.kept kept.0 shows,
          subst (λ (d : Database). AreOurs m (tables_of d.trees)) same kept.1,
          subst (λ (d : Database). Recalls (said_by m d.trees) seen) same recalls.0,
          subst (λ (d : Database). RecallsOwns (said_by m d.trees) owns) same recalls.1,
          subst (λ (d : Database). RecallsIdle (said_by m d.trees) idle) same recalls.2,
          subst (λ (d : Database). SaysMap k.map_sum d.trees) same kept.5,
        )

    same_on : does_show g c → said_by m (state g c).now.trees ≡ said_by m (state g k.conn).now.trees
    same_on shows = ap (λ (d : Database). said_by m d.trees) (p.same kept.0 shows)

    left_on : is_honest g c → (s : State) → (book g).may_leave m (record k { conn = c }) s → (book g).may_leave m k s
    left_on clean s may = (may.0, p.left kept.0 clean may.0 may.1, may.2)

  -- what went well, and of which something is remembered
  pub looks_learned : (X E : Type 0) (x : X) (Value : X → Type 0) (seen : Parts) (owns : Owns) (idle : Idle) → Selects g k.conn c (went X E x) → (Kept → is_honest g c → Value x)
      → (Remembers k.seen k.owns k.idle → Value x → Remembers seen owns idle)
      → Looks m (book g) k (record k { conn = c; seen = seen; owns = owns; idle = idle }) Value ⊥ (went X KeepFault x)
  looks_learned X E x Value seen owns idle p value learns = record {
    keeps = record {
      count = refl;
      told = p.counts;
      fair = p.fair;
      same_map = refl;
      shown = p.shown;
      sound = λ kept shows. sound_on (went X E x) p kept seen owns idle (learns (kept.2, kept.3, kept.4) (value kept shows.0)) shows;
      firm = λ kept clean. sound_on (went X E x) p kept seen owns idle (learns (kept.2, kept.3, kept.4) (value kept clean)) (p.ok kept.0 clean);
      stays_open = λ kept clean shows. p.ok kept.0 clean;
      shuts = p.closes;
      again = λ kept clean shows takes db may. takes db (p.left kept.0 clean db may);
    };
    value = λ kept shows. value kept shows.0;
    damaged = λ kept clean shows is. absurd (cc);
    failed = λ kept clean shows is. absurd (cc);
    same = same_on (went X E x) p;
    left = λ kept. left_on (went X E x) p kept;
  }

  -- what went well
  pub looks_well : (X E : Type 0) (x : X) (Value : X → Type 0) → Selects g k.conn c (went X E x) → (IsKept g k.conn → AreOurs m (tables_in g k.conn) → is_honest g c → Value x)
      → Looks m (book g) k (record k { conn = c }) Value ⊥ (went X KeepFault x)
  looks_well X E x Value p value = looks_learned X E x Value k.seen k.owns k.idle p (λ kept. value kept.0 kept.1) (λ recalls is. recalls)

  -- what failed, by the fault that is told of it
  looks_told : (X Y E : Type 0) (e : E) (f : KeepFault) (n : ℕ) (Value : X → Type 0) → Selects g k.conn c (fails Y E e) → n ≡ faults_with f k.failures → (Kept → is_honest g c → does_show g k.conn → f ≡ Damaged → ⊥) → (Kept → is_honest g c → does_show g k.conn → f ≡ Disk → has_faulted g k.conn c)
      → Looks m (book g) k (record k { conn = c; failures = n }) Value ⊥ (fails X KeepFault f)
  looks_told X Y E e f n Value p count never blamed = record {
    keeps = record {
      count = count;
      told = p.counts;
      fair = p.fair;
      same_map = refl;
      shown = p.shown;
      sound = λ kept. sound_on (fails Y E e) p kept k.seen k.owns k.idle (kept.2, kept.3, kept.4);
      firm = λ kept clean. tt;
      stays_open = λ kept clean shows. tt;
      shuts = p.closes;
      again = λ kept clean shows takes db may. takes db (p.left kept.0 clean db may);
    };
    value = λ kept shows. tt;
    damaged = λ kept clean shows is. let same : f ≡ Damaged = cc in never kept clean shows same;
    failed = λ kept clean shows is. let same : f ≡ Disk = cc in blamed kept clean shows same;
    same = same_on (fails Y E e) p;
    left = λ kept. left_on (fails Y E e) p kept;
  }

  looks_counted : (X Y E : Type 0) (e : E) (f : KeepFault) (Value : X → Type 0) → Selects g k.conn c (fails Y E e) → (Kept → is_honest g c → does_show g k.conn → f ≡ Damaged → ⊥) → (Kept → is_honest g c → does_show g k.conn → f ≡ Disk → has_faulted g k.conn c)
      → Looks m (book g) k (telling f (record k { conn = c })) Value ⊥ (fails X KeepFault f)
  looks_counted X Y E e Memory Value p never blamed = looks_told X Y E e Memory k.failures Value p refl never blamed
  looks_counted X Y E e Disk Value p never blamed = looks_told X Y E e Disk (next_count k.failures) Value p refl never blamed
  looks_counted X Y E e Damaged Value p never blamed = looks_told X Y E e Damaged k.failures Value p refl never blamed

  -- a look at rows that a keeper wrote fails for want alone
  pub looks_ill : (X Y : Type 0) (e : RowFault) (Value : X → Type 0) → Selects g k.conn c (fails Y RowFault e)
      → (IsKept g k.conn → does_show g k.conn → is_honest g c → AreOurs m (tables_in g k.conn) → IsFromOutside (has_faulted g k.conn c) e)
      → Looks m (book g) k (telling (row_fault e) (record k { conn = c })) Value ⊥ (fails X KeepFault (row_fault e))
  looks_ill X Y e Value p own = looks_counted X Y RowFault e (row_fault e) Value p
      (λ kept clean shows. look_outside (has_faulted g k.conn c) e (own kept.0 shows clean kept.1))
      (λ kept clean shows. look_blamed (has_faulted g k.conn c) e (own kept.0 shows clean kept.1))

-- what is remembered is what the rows say, and they aren't asked
module _ {S : Type 0} (g : Ghosts S) (m : Chart) (k : SqlKeeper S) where
  pub looks_recalled : (X : Type 0) (x : X) (Value : X → Type 0) → (Recalls (said_by m (state g k.conn).now.trees) k.seen × RecallsOwns (said_by m (state g k.conn).now.trees) k.owns × RecallsIdle (said_by m (state g k.conn).now.trees) k.idle → Value x)
      → Looks m (book g) k k Value ⊥ (went X KeepFault x)
  looks_recalled X x Value value = record {
    keeps = record {
      count = refl;
      told = omega arith;
      fair = λ clean. clean;
      same_map = refl;
      shown = λ shows. shows;
      sound = λ kept shows. kept;
      firm = λ kept clean. kept;
      stays_open = λ kept clean shows. shows;
      shuts = λ clean shows. inl shows;
      again = λ kept clean shows takes. takes;
    };
    value = λ kept shows. value (kept.2, kept.3, kept.4);
    damaged = λ kept clean shows is. absurd (cc);
    failed = λ kept clean shows is. absurd (cc);
    same = λ kept shows. refl;
    left = λ kept clean s may. may;
  }

  -- nor where memory is wanting for a copy
  pub looks_wanting : (X : Type 0) (Value : X → Type 0) → Looks m (book g) k k Value ⊥ (fails X KeepFault Memory)
  looks_wanting X Value = record {
    keeps = record {
      count = refl;
      told = omega arith;
      fair = λ clean. clean;
      same_map = refl;
      shown = λ shows. shows;
      sound = λ kept shows. kept;
      firm = λ kept clean. tt;
      stays_open = λ kept clean shows. tt;
      shuts = λ clean shows. inl shows;
      again = λ kept clean shows takes. takes;
    };
    value = λ kept shows. tt;
    damaged = λ kept clean shows is. absurd (cc);
    failed = λ kept clean shows is. absurd (cc);
    same = λ kept shows. refl;
    left = λ kept clean s may. may;
  }
