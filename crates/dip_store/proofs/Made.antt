-- A change of the rows is the change of their keeper.
use Rattle.std.proofs.Common.{◌≡◌, bytes_eq, ◌≤◌, ◌⊎◌, false, IsTrue, arith, inl, inr, ℕ, Option, refl, sym, ap, subst, ◌∙◌}
use Rattle.sqlite.specs.Effect.{Database}
use Rattle.sqlite.specs.Tree.{Trees}
use Rattle.sqlite.specs.Store.{Ghosts}
use Rattle.sqlite.specs.Held.{Held, state}
use Rattle.dip_map.specs.Charts.{Chart}
use Rattle.dip_desk_keeper.specs.Fitting.{Fits}
use Rattle.dip_desk_keeper.specs.Keeping.{Changes}
use Rattle.dip_store.specs.Laws.{FindsPlaceInTables, FitsIsWritable, WhatFitsFindsPlace}
use Rattle.dip_store_tables.specs.LegibleLaws.{TablesStayLegible}
use Rattle.dip_store_tables.specs.Legible.{AreLegible, AreOurs}
use Rattle.dip_store_tables.specs.Laws.{TablesStayCounted}
use Rattle.dip_store_tables.specs.Counting.{AreCounted}
use Rattle.dip_store_tables.specs.Coding.{AreApart}
use Rattle.dip_store_tables.specs.ChangeTexts.{HasTexts}
use Rattle.dip_desk_state.specs.Faults.{faults_with, next_count}
use Rattle.dip_desk_state.specs.State.{Change, State, name_of, state_after}
use Rattle.dip_desk_state.specs.declared.faults.KeepFault.{KeepFault}
use Rattle.dip_desk_state.specs.declared.faults.KeepFault.TheVariants.{Memory, Disk, Damaged}
use Rattle.dip_store_tables.specs.Changing.{changing}
use Rattle.dip_store_tables.specs.Reading.{game_of}
use Rattle.dip_store_tables.proofs.ListLemmas.{ascending-map}
use Rattle.dip_store_tables.specs.ChangeColumns.{HasWidths, IsWritable}
use Rattle.dip_store_sql.proofs.Keyed.{are_apart, are_keyed}
use Rattle.dip_store_schema.specs.Desk.{DeskSays}
use Rattle.dip_store_sql.specs.Calls.{IsKept, Lands, does_show, is_honest, tables_in}
use Rattle.dip_store_sql.specs.Causes.{has_faulted}
use Rattle.dip_store_sql.specs.Good.{IsGood}
use Rattle.dip_store_sql.specs.Rows.{tables_of}
use Rattle.dip_store_sql.proofs.Parts.{fails, went}
use Rattle.dip_store_counts.specs.Failing.{HasPlace}
use Rattle.dip_store_sql.specs.RowFaults.{BlamesFor, FailsFor}
use Rattle.dip_store.specs.Laws.{ChangesAreMade, IsMade}
use Rattle.dip_store.specs.Making.{MakesFrom, MayMake}
use Rattle.dip_store_sql.specs.declared.row_faults.RowFault.{RowFault}
use Rattle.dip_store.specs.Faults.{row_fault}
use Rattle.dip_desk_state.specs.Writable.{IsAuthorOf}
use Rattle.dip_store_tables.specs.Looking.{OwnIsFound}
use Rattle.dip_store_counts.specs.Knowing.{IsKeptFor, IsKnown, IsUnordered, is_unordered, row_known}
use Rattle.dip_store_counts.specs.declared.known.KnownAuthor.{KnownAuthor}
use Rattle.dip_store_memory.specs.Idle.{Idle, RecallsIdle}
use Rattle.dip_store_memory.specs.Owns.{Owns, RecallsOwns, owns_of}
use Rattle.dip_store_memory.specs.Seen.{DifferByName, Parts, Recalls, replaced_papers}
use Rattle.dip_store.proofs.Marked.{changed_says}
use Rattle.dip_store.specs.Stored.{AreStored, SaysMap, book, said_by, telling}
use Rattle.dip_store.specs.declared.keeper.SqlKeeper.{SqlKeeper}
use Rattle.dip_store.proofs.Outside.{make_caused, make_outside}
use Rattle.dip_store_memory.proofs.Seeing.{Heeds}
use Rattle.dip_store.specs.Authors.{known_among}
use Rattle.dip_store.proofs.Authoring.{known_of}
use Rattle.dip_store.proofs.Recalled.{papers_known}

-- in what tables say no two games have one name
differ_by_name : (m : Chart) (db : Database) → IsGood db → DifferByName (said_by m db.trees).games
differ_by_name m db good = ascending-map (λ a b. bytes_eq (name_of a) (name_of b) ≡ false) (game_of m (tables_of db.trees)) (tables_of db.trees).games (are_apart db good).games

module _ {S : Type 0} (g : Ghosts S) (m : Chart) (k : SqlKeeper S) (c : Change) where
  -- while a store is open, a crash leaves its last commit
  abbrev Settled : Type 0
  Settled = (s : S) (db : Trees) → IsTrue (g.view s).is_open → g.recovers s db → db ≡ (g.view s).committed

  abbrev Keeps : Type 0
  Keeps = IsKept g k.conn × AreOurs m (tables_in g k.conn) × Recalls (said_by m (state g k.conn).now.trees) k.seen × RecallsOwns (said_by m (state g k.conn).now.trees) k.owns × RecallsIdle (said_by m (state g k.conn).now.trees) k.idle
      × SaysMap k.map_sum (state g k.conn).now.trees

  -- what is known of the author and of the game's papers is what the tables have of them
  pub knows : OwnIsFound m → IsAuthorOf m c.author → (who : Option KnownAuthor) (papers : Option ℕ) → who ≡ known_among c.author (owns_of c.game k.owns) → papers ≡ replaced_papers c k.seen → Keeps
      → IsKeptFor g (record { author = who; papers = papers }) m c k.conn
  knows law author who papers is count keeps =
      let t = tables_in g k.conn in
      let both = subst (λ (x : Option KnownAuthor). IsKnown (row_known x) m c.author c.game t.seats × IsUnordered (is_unordered x) m c.author c.game t.pending) (sym is) (known_of m c.author c.game t k.owns law keeps.1.coded author keeps.3) in
      (keeps.0, (both.0, both.1, papers_known m t c papers k.seen count keeps.2))

  module _ (new : Held S) (law : ChangesAreMade m) (fits : IsWritable m c) (wide : HasWidths c) (seen : Parts) (heeds : Heeds c k.seen seen) (owns : Owns) (idle : Idle) where
    is_made : (kept : Keeps) → IsGood (state g new).now → tables_in g new ≡ changing m c (tables_in g k.conn) → IsMade m c (tables_in g k.conn) (tables_in g new)
    is_made kept good is = law c (state g k.conn).now (state g new).now fits kept.0.good good is

    -- where its texts are of characters and it finds place, the rows are still such as a keeper wrote
    ours_of : (kept : Keeps) → HasTexts c → TablesStayLegible m → HasPlace m c (tables_in g k.conn) → (db : Database) → IsGood db → tables_of db.trees ≡ changing m c (tables_in g k.conn) → AreOurs m (tables_of db.trees)
    ours_of kept texts stay place db good is =
        let made = law c (state g k.conn).now db fits kept.0.good good is in
        record {
          map = kept.1.map;
          coded = made.coded kept.1.coded;
          written = made.written wide kept.1.written;
          legible = subst AreLegible (sym is) (stay c (tables_in g k.conn) kept.1.map fits.0.author texts place.room kept.1.legible);
        }

    ours : (kept : Keeps) → HasTexts c → TablesStayLegible m → HasPlace m c (tables_in g k.conn) → IsGood (state g new).now → tables_in g new ≡ changing m c (tables_in g k.conn) → AreOurs m (tables_in g new)
    ours kept texts stay place = ours_of kept texts stay place (state g new).now

    said : (kept : Keeps) → IsGood (state g new).now → tables_in g new ≡ changing m c (tables_in g k.conn) → said_by m (state g new).now.trees ≡ state_after c (said_by m (state g k.conn).now.trees)
    said kept good is = (is_made kept good is).says kept.1.coded

    -- what a crash may leave of the change is the state after it
    landed : (kept : Keeps) (db : Trees) → Lands (changing m c) (state g k.conn) db → said_by m db ≡ state_after c (said_by m (state g k.conn).now.trees)
    landed kept db lands =
        let is = lands.1 kept.0.good in
        ap (said_by m) lands.2 ∙ (law c (state g k.conn).now lands.0 fits kept.0.good is.0 is.1).says kept.1.coded

    pub changes_well : (X E : Type 0) (x : X) → HasTexts c → TablesStayLegible m → MakesFrom Keeps g (changing m c) k.conn new (went X E x) → (Keeps → does_show g new → IsKept g new)
        → (Keeps → does_show g new → HasPlace m c (tables_in g k.conn))
        → ((s : State) → RecallsOwns s k.owns → RecallsOwns (state_after c s) owns)
        → ((s : State) → RecallsIdle s k.idle → DifferByName (state_after c s).games → RecallsIdle (state_after c s) idle)
        → (later : Parts) → ((s : State) → Recalls s k.seen → Recalls (state_after c s) seen → DifferByName (state_after c s).games → Recalls (state_after c s) later)
        → Changes m (book g) k (record k { conn = new; seen = later; owns = owns; idle = idle }) (state_after c) (Fits m c) (went X KeepFault x)
    changes_well X E x texts stay p stays place follows stills later notes = record {
      keeps = record {
        count = refl;
        told = p.counts;
        fair = p.fair;
        same_map = refl;
        shown = p.shown;
        sound = sound;
        firm = λ kept clean. sound kept (p.ok kept clean);
        stays_open = λ kept clean shows. p.ok kept clean;
        shuts = p.closes;
        again = λ kept clean shows takes db may.
            let still = sound kept (p.ok kept clean) in
            let there = sym (p.kept kept clean db may) in
            (((state g new).now, there, record { good = still.0.good; counted = still.0.counted; ours = still.1 }), subst (SaysMap k.map_sum) there still.5);
      };
      done = λ kept shows. let is = p.done kept shows in said kept is.0.good is.1;
      undone = λ kept shows. tt;
      fitting = λ kept clean shows fit is. absurd (cc);
      failed = λ kept clean shows is. absurd (cc);
      settles = λ kept clean shows alone s may. may.2 ∙ ap (said_by m) (p.kept kept clean may.0 may.1);
      kept = λ kept clean s may. may.2 ∙ ap (said_by m) (p.kept kept clean may.0 may.1);
      left = λ kept clean. tt;
    }
      where
        sound : Keeps → does_show g new
            → IsKept g new × AreOurs m (tables_in g new) × Recalls (said_by m (state g new).now.trees) later × RecallsOwns (said_by m (state g new).now.trees) owns × RecallsIdle (said_by m (state g new).now.trees) idle
            × SaysMap k.map_sum (state g new).now.trees
        sound kept shows =
            let is = p.done kept shows in
            let before = said_by m (state g k.conn).now.trees in
            let said_after : said_by m (state g new).now.trees ≡ state_after c before = said kept is.0.good is.1 in
            let apart : DifferByName (state_after c before).games = subst (λ (s : State). DifferByName s.games) said_after (differ_by_name m (state g new).now is.0.good) in (
              stays kept shows,
              ours kept texts stay (place kept shows) is.0.good is.1,
              subst (λ (s : State). Recalls s later) (sym said_after) (notes before kept.2 (heeds before kept.2).1 apart),
              subst (λ (s : State). RecallsOwns s owns) (sym said_after) (follows before kept.3),
              subst (λ (s : State). RecallsIdle s idle) (sym said_after) (stills before kept.4 apart),
              subst (DeskSays 2 k.map_sum) (sym is.1) (changed_says m c k.map_sum (tables_in g k.conn) kept.5),
            )

    -- what a crash may leave of a change that isn't made can be opened again
    abbrev LandsWell : Type 0
    LandsWell = Keeps → is_honest g new → (db : Trees) → (state g new).may_leave db → (state g k.conn).may_leave db ⊎ HasPlace m c (tables_in g k.conn)

    stored : HasTexts c → TablesStayLegible m → TablesStayCounted m → (kept : Keeps) → HasPlace m c (tables_in g k.conn) → (db : Trees) → Lands (changing m c) (state g k.conn) db
        → AreStored m db × SaysMap k.map_sum db
    stored texts legible counted kept place db lands =
        let is = lands.1 kept.0.good in (
          (
            lands.0,
            sym lands.2,
            record {
              good = is.0;
              counted = subst AreCounted (sym is.1) (counted c (tables_in g k.conn) place.paper kept.0.counted (are_apart (state g k.conn).now kept.0.good) (subst AreApart is.1 (are_apart lands.0 is.0)));
              ours = ours_of kept texts legible place lands.0 is.0 is.1;
            },
          ),
          subst (SaysMap k.map_sum) (sym lands.2) (subst (DeskSays 2 k.map_sum) (sym is.1) (changed_says m c k.map_sum (tables_in g k.conn) kept.5)),
        )

    -- what is remembered where a change isn't made
    abbrev StaysRemembered : Type 0
    StaysRemembered = (s : State) → (RecallsOwns s k.owns → RecallsOwns s owns) × (RecallsIdle s k.idle → RecallsIdle s idle)

    changes_told : (X Y E : Type 0) (e : E) (f : KeepFault) (n : ℕ) → StaysRemembered → HasTexts c → TablesStayLegible m → TablesStayCounted m → LandsWell → Settled → MakesFrom Keeps g (changing m c) k.conn new (fails Y E e) → n ≡ faults_with f k.failures
        → (Keeps → is_honest g new → does_show g k.conn → Fits m c (said_by m (state g k.conn).now.trees) → f ≡ Damaged → ⊥)
        → (Keeps → is_honest g new → does_show g k.conn → f ≡ Disk → has_faulted g k.conn new)
        → Changes m (book g) k (record k { conn = new; failures = n; seen = seen; owns = owns; idle = idle }) (state_after c) (Fits m c) (fails X KeepFault f)
    changes_told X Y E e f n remembered texts legible counted lands_well settled p count never caused = record {
      keeps = record {
        count = count;
        told = p.counts;
        fair = p.fair;
        same_map = refl;
        shown = p.shown;
        sound = λ kept shows.
            let is = p.undone kept shows in (
              is.0,
              subst (λ (d : Database). AreOurs m (tables_of d.trees)) (sym is.1) kept.1,
              subst (λ (d : Database). Recalls (said_by m d.trees) seen) (sym is.1) (heeds (said_by m (state g k.conn).now.trees) kept.2).0,
              subst (λ (d : Database). RecallsOwns (said_by m d.trees) owns) (sym is.1) ((remembered (said_by m (state g k.conn).now.trees)).0 kept.3),
              subst (λ (d : Database). RecallsIdle (said_by m d.trees) idle) (sym is.1) ((remembered (said_by m (state g k.conn).now.trees)).1 kept.4),
              subst (λ (d : Database). SaysMap k.map_sum d.trees) (sym is.1) kept.5,
            );
        firm = λ kept clean. tt;
        stays_open = λ kept clean shows. tt;
        shuts = p.closes;
        again = λ kept clean shows takes db may. elim (p.left kept clean db may) [
          | inl before ↦ takes db before
          | inr lands ↦ elim (lands_well kept clean db may) [
            | inl before ↦ takes db before
            | inr place ↦ stored texts legible counted kept place db lands
          ]
        ];
      };
      done = λ kept shows. tt;
      undone = λ kept shows. ap (λ (d : Database). said_by m d.trees) (p.undone kept shows).1;
      fitting = λ kept clean shows fit is. let same : f ≡ Damaged = cc in never kept clean shows fit same;
      failed = λ kept clean shows is. let same : f ≡ Disk = cc in caused kept clean shows same;
      settles = λ kept clean shows alone s may. may.2 ∙ ap (said_by m) (settled new.store may.0 shows.1 may.1 ∙ ap (λ (d : Database). d.trees) (sym (p.undone kept shows).0.settled));
      kept = λ kept clean. tt;
      left = λ kept clean s may. elim (p.left kept clean may.0 may.1) [
        | inl before ↦ inl (may.0, before, may.2)
        | inr after ↦ inr (may.2 ∙ landed kept may.0 after)
      ];
    }

    changes_counted : (X Y E : Type 0) (e : E) (f : KeepFault) → StaysRemembered → HasTexts c → TablesStayLegible m → TablesStayCounted m → LandsWell → Settled → MakesFrom Keeps g (changing m c) k.conn new (fails Y E e)
        → (Keeps → is_honest g new → does_show g k.conn → Fits m c (said_by m (state g k.conn).now.trees) → f ≡ Damaged → ⊥)
        → (Keeps → is_honest g new → does_show g k.conn → f ≡ Disk → has_faulted g k.conn new)
        → Changes m (book g) k (telling f (record k { conn = new; seen = seen; owns = owns; idle = idle })) (state_after c) (Fits m c) (fails X KeepFault f)
    changes_counted X Y E e Memory remembered texts legible counted lands settled p never caused = changes_told X Y E e Memory k.failures remembered texts legible counted lands settled p refl never caused
    changes_counted X Y E e Disk remembered texts legible counted lands settled p never caused = changes_told X Y E e Disk (next_count k.failures) remembered texts legible counted lands settled p refl never caused
    changes_counted X Y E e Damaged remembered texts legible counted lands settled p never caused = changes_told X Y E e Damaged k.failures remembered texts legible counted lands settled p refl never caused

    -- a change that fits isn't made for want alone, and of any change the disk is told of only where the store told of a fault
    pub changes_ill : (X Y : Type 0) (e : RowFault) → StaysRemembered → HasTexts c → TablesStayLegible m → TablesStayCounted m → LandsWell → Settled → WhatFitsFindsPlace m → MakesFrom Keeps g (changing m c) k.conn new (fails Y RowFault e)
        → (Keeps → does_show g k.conn → is_honest g new → MayMake m c (tables_in g k.conn) → FailsFor (has_faulted g k.conn new) (HasPlace m c (tables_in g k.conn) → ⊥) e)
        → (Keeps → does_show g k.conn → is_honest g new → AreOurs m (tables_in g k.conn) → BlamesFor (has_faulted g k.conn new) e)
        → Changes m (book g) k (telling (row_fault e) (record k { conn = new; seen = seen; owns = owns; idle = idle })) (state_after c) (Fits m c) (fails X KeepFault (row_fault e))
    changes_ill X Y e remembered texts legible counted lands settled finds p why blames = changes_counted X Y RowFault e (row_fault e) remembered texts legible counted lands settled p (λ kept clean shows fit.
        let place = placed kept fit in
        make_outside (has_faulted g k.conn new) (HasPlace m c (tables_in g k.conn) → ⊥) e (why kept shows clean (record { ours = kept.1; keyed = place.keyed })) (λ none. none (record { paper = place.paper; room = place.room })))
        (λ kept clean shows. make_caused (has_faulted g k.conn new) e (blames kept shows clean kept.1))
      where
        placed : (kept : Keeps) → Fits m c (said_by m (state g k.conn).now.trees) → FindsPlaceInTables m c (tables_in g k.conn)
        placed kept fit = finds c (tables_in g k.conn) kept.1.map kept.1.coded kept.0.counted (are_keyed (state g k.conn).now kept.0.good) fit

  -- a change that isn't tried doesn't fit
  pub changes_none : (X : Type 0) → FitsIsWritable m → (IsWritable m c → ⊥) → Changes m (book g) k (telling Damaged k) (state_after c) (Fits m c) (fails X KeepFault Damaged)
  changes_none X writable off = record {
    keeps = record {
      count = refl;
      told = omega arith;
      fair = λ clean. clean;
      same_map = refl;
      shown = λ shows. shows;
      sound = λ kept shows. kept;
      firm = λ kept clean. tt;
      stays_open = λ kept clean shows. tt;
      shuts = λ clean shows. inl shows;
      again = λ kept clean shows takes. takes;
    };
    done = λ kept shows. tt;
    undone = λ kept shows. refl;
    fitting = λ kept clean shows fit is. off (writable c _ fit);
    failed = λ kept clean shows is. absurd (cc);
    settles = λ kept clean shows alone. alone;
    kept = λ kept clean. tt;
    left = λ kept clean s may. inl may;
  }
