-- A keeper that was made or opened.
use Rattle.std.proofs.Common.{◌≡◌, ◌≤◌, ◌⊎◌, inl, inr, ℕ, List, [], Bool, true, false, codes, length, None, Ok, Err, Result, IfErr, IsTrue, refl, sym, ap, subst, ◌∙◌, arith}
use Rattle.std.proofs.lemmas.Bool.{false≢true}
use Rattle.std.specs.declared.alloc.Global.{Global}
use Rattle.sha2.specs.Sha256.{sha256}
use Rattle.sqlite.specs.Effect.{Database}
use Rattle.sqlite.specs.Tree.{Trees}
use Rattle.sqlite.specs.Store.{Ghosts}
use Rattle.sqlite.specs.Held.{Held, state}
use Rattle.sqlite.specs.State as sql
use Rattle.dip_map.specs.Charts.{Chart, IsMap}
use Rattle.dip_store_tables.specs.LegibleLaws.{NewTablesAreLegible}
use Rattle.dip_store_tables.specs.Legible.{AreOurs}
use Rattle.dip_desk_state.specs.State.{State}
use Rattle.dip_store_tables.specs.Laws.{NewTablesAreNew}
use Rattle.dip_store_tables.specs.Reading.{state_of}
use Rattle.dip_store_tables.specs.Counting.{AreCounted}
use Rattle.dip_store_tables.specs.Writing.{new_tables}
use Rattle.dip_store_sql.specs.Calls.{IsKept, Selects, WasKept, is_honest, does_show, tables_in}
use Rattle.dip_store_sql.specs.Causes.{has_faulted}
use Rattle.dip_store_sql.specs.Creating.{no_schema}
use Rattle.dip_store_sql.specs.Rows.{tables_of}
use Rattle.dip_store_sql.proofs.Parts.{went}
use Rattle.dip_store_schema.specs.Desk.{DeskSays}
use Rattle.dip_store_schema.specs.Founding.{Founds, Keeps}
use Rattle.dip_store_schema.specs.Known.{has_table}
use Rattle.dip_store_schema.specs.Renewing.{IsOldStore, old_said_by}
use Rattle.dip_store_schema.specs.declared.faults.StoreFault.{StoreFault}
use Rattle.dip_store_schema.proofs.Ours.{old_has_none, ours_has_ballots}
use Rattle.dip_store_memory.proofs.Idling.{recalls_no_idle}
use Rattle.dip_store_memory.proofs.Owning.{recalls_no_owns}
use Rattle.dip_store_memory.proofs.Seeing.{recalls_none}
use Rattle.dip_store.specs.Opening.{AreOf, HasOnly, Holds, IsDesk, IsMadeForText, IsNowOf, IsRenewedFrom, IsSettled, IsSameOrRenewed, LeavesText, Opens, OpensStore, SayText, Says, StaysShut, StoreEnds, new_desk}
use Rattle.dip_desk_keeper.specs.Keeping.{Ends, IsOpen}
use Rattle.dip_store.specs.Stored.{AreStored, IsStore, IsStoreOf, SaysMap, book, fresh_keeper, said_by}
use Rattle.dip_store.specs.declared.keeper.SqlKeeper.{SqlKeeper}

-- the master's row of new tables is of this version, and says their map
pub new_desk_says : (map_sum digest : List ℕ) → DeskSays 2 map_sum (new_tables map_sum digest)
new_desk_says map_sum digest = record {
  desk = record { id = 1; version = 2; map = map_sum; digest = digest; last = 0; kept = []; reply = [] };
  found = refl;
  version_is = refl;
  map_is = refl;
}

-- a store that is ready is kept, if keepers wrote it
module _ {S : Type 0} (g : Ghosts S) (m : Chart) (store : Held S) (ready : IsSettled g store) where
  pub kept_by : IsStore m (state g store).now → does_show g store → IsKept g store
  kept_by own shows = record {
    good = own.good;
    counted = own.counted;
    idle = ready.idle;
    settled = ready.settled shows.1;
    unlimited = ready.unlimited;
  }

  pub was_kept_by : IsOldStore m (state g store).now → does_show g store → WasKept g store
  was_kept_by own shows = record {
    good = own.good;
    idle = ready.idle;
    settled = ready.settled shows.1;
    unlimited = ready.unlimited;
  }

-- one of this version has ballots, and one of version 1 has none
module _ (m : Chart) (db : Database) where
  abbrev ballots : Bool
  ballots = has_table (codes "ballot") db.schema

  pub none_new : ballots ≡ false → IsStore m db → ⊥
  none_new none own = false≢true (sym none ∙ ours_has_ballots db.schema own.good.schema)

  pub none_old : ballots ≡ true → IsOldStore m db → ⊥
  none_old some own = false≢true (sym (old_has_none db.schema own.good.schema) ∙ some)

  pub says_new : (s : State) → ballots ≡ true → Says m s db → IsStoreOf m s db
  says_new s some (inl own) = own
  says_new s some (inr own) = absurd (none_old some own.0)

  pub says_old : (s : State) → ballots ≡ false → Says m s db → IsOldStore m db × (old_said_by m db.trees ≡ s)
  says_old s none (inl own) = absurd (none_new none own.0)
  says_old s none (inr own) = own

-- in an empty store a crash leaves the new tables whole, as a store that says the new desk
pub founded : (m : Chart) → IsMap m → NewTablesAreNew m → NewTablesAreLegible → (map_sum digest : List ℕ) → length digest ≡ 32 → (old : sql.State) (db : Trees) → old.now.schema ≡ no_schema
    → Founds (new_tables map_sum digest) old db → AreOf (IsStoreOf m (new_desk digest)) db × SaysMap map_sum db
founded m map law legible map_sum digest long old db empty founds =
    let has = founds.1 empty in
    let new = law map_sum digest in (
      (
        founds.0,
        sym founds.2,
        (
          record {
            good = has.0;
            counted = subst AreCounted (sym has.1) (record { papers = tt; items = tt });
            ours = subst (AreOurs m) (sym has.1) (record { map = map; coded = new.coded; written = new.written long; legible = legible map_sum digest });
          },
          ap (state_of m) has.1 ∙ new.says,
        ),
      ),
      subst (SaysMap map_sum) (sym founds.2) (subst (DeskSays 2 map_sum) (sym has.1) (new_desk_says map_sum digest)),
    )

-- what holds of each fault by another name
pub err_turned : {X E : Type 0} (P Q : E → Type 0) (r : Result X E) → ((e : E) → P e → Q e) → IfErr r P → IfErr r Q
err_turned P Q (Ok x) turn holds = tt
err_turned P Q (Err e) turn holds = turn e holds

module _ {S : Type 0} (g : Ghosts S) (m : Chart) (alloc : Global) (conn : Held S)
    (last : IsTrue (state g conn).is_open → (db : Trees) → (state g conn).may_leave db → db ≡ (state g conn).committed.trees) where
  -- a keeper of kept rows
  pub opens_kept : (s : State) (map_sum : List ℕ) → IsKept g conn → AreOurs m (tables_in g conn) → said_by m (state g conn).now.trees ≡ s → does_show g conn → DeskSays 2 map_sum (tables_in g conn)
      → Opens g m s (fresh_keeper alloc conn map_sum)
  opens_kept s map_sum kept ours says shows made = record {
    none = refl;
    shows = shows;
    sound = (kept, ours, recalls_none (said_by m (state g conn).now.trees), recalls_no_owns (said_by m (state g conn).now.trees), recalls_no_idle (said_by m (state g conn).now.trees), made);
    says = says;
    only = λ left may. may.2 ∙ ap (said_by m) (there_now kept shows may.0 may.1) ∙ says;
    again = λ db may.
        let there = sym (there_now kept shows db may) in
        (((state g conn).now, there, record { good = kept.good; counted = kept.counted; ours = ours }), subst (SaysMap map_sum) there made);
  }
    where
      there_now : IsKept g conn → does_show g conn → (db : Trees) → (state g conn).may_leave db → db ≡ (state g conn).now.trees
      there_now kept shows db may = last shows.1 db may ∙ ap (λ (d : Database). d.trees) (sym kept.settled)

  pub opens_new : (map_sum digest : List ℕ) → IsMap m → NewTablesAreNew m → NewTablesAreLegible → length digest ≡ 32 → Keeps g conn (new_tables map_sum digest) → does_show g conn
      → Opens g m (new_desk digest) (fresh_keeper alloc conn map_sum)
  opens_new map_sum digest map law legible long it shows =
      let new = law map_sum digest in
      let ours : AreOurs m (new_tables map_sum digest) = record { map = map; coded = new.coded; written = new.written long; legible = legible map_sum digest } in
      opens_kept _ map_sum it.kept (subst (AreOurs m) (sym it.tables) ours) (ap (state_of m) it.tables ∙ new.says) shows
      (subst (DeskSays 2 map_sum) (sym it.tables) (new_desk_says map_sum digest))

  -- and so of a store that keepers wrote, of which nothing but its master's row was read
  pub opens_same : {X E : Type 0} (x : X) (store : Held S) (map_sum : List ℕ) → IsSettled g store → (s : State) → IsStoreOf m s (state g store).now → does_show g store → Selects g store conn (went X E x) → is_honest g conn
      → DeskSays 2 map_sum (tables_in g store) → Opens g m s (fresh_keeper alloc conn map_sum)
  opens_same x store map_sum ready s own shows p clean made =
      let kept = kept_by g m store ready own.0 shows in
      let up = p.ok kept clean in
      let same = p.same kept up in
      opens_kept s map_sum (p.kept kept up) (subst (λ (d : Database). AreOurs m (tables_of d.trees)) (sym same) own.0.ours) (ap (λ (d : Database). said_by m d.trees) same ∙ own.1) up
      (subst (λ (d : Database). SaysMap map_sum d.trees) (sym same) made)

-- a store that isn't opened, and of which a crash leaves what it might have left before, or a database of this version that says the same
module _ {S : Type 0} (g : Ghosts S) (m : Chart) (s : State) (store new : Held S) (ready : IsSettled g store) (shows : does_show g store)
    (last : IsTrue (state g store).is_open → (db : Trees) → (state g store).may_leave db → db ≡ (state g store).committed.trees) where
  pub stays_shut : (Fault : Type 0) → new.in_transaction ≡ false → (does_show g new → (state g new).now ≡ (state g store).now) → does_show g new ⊎ Fault
      → ((db : Trees) → (state g new).may_leave db → (state g store).may_leave db ⊎ AreOf (IsRenewedFrom m s (state g store).now) db) → StaysShut g m Fault new s (IsNowOf g store)
  stays_shut Fault idle still closes left = record {
    left = λ db may. inl (such db may);
    shown = holds;
    goes = elim closes [ inl up ↦ inl (holds up) | inr fault ↦ inr fault ];
  }
    where
      such : (db : Trees) → (state g new).may_leave db → AreOf (IsSameOrRenewed m s (IsNowOf g store)) db
      such db may = elim (left db may) [
        | inl before ↦ ((state g store).now, sym (last shows.1 db before ∙ ap (λ (d : Database). d.trees) (sym (ready.settled shows.1))), inl refl)
        | inr renewed ↦ (renewed.0, renewed.1, inr ((state g store).now, refl, renewed.2))
      ]

      holds : does_show g new → HasOnly g (IsSameOrRenewed m s (IsNowOf g store)) new
      holds up = record { shows = up; idle = idle; now = inl (still up); left = such }

-- keepers of this version wrote the database, which says this map
pub made_for : (m : Chart) (text : List ℕ) (db : Database) → IsStore m db → SayText text db.trees → IsMadeForText m text db
made_for m text db own says = record {
  new = λ _. says;
  old = λ old. absurd (none_old m db (ours_has_ballots db.schema own.good.schema) old);
}

-- what was renewed is of the map that it was of before
pub renewed_for : (m : Chart) (text : List ℕ) (s : State) (before db : Database) → IsRenewedFrom m s before db → IsMadeForText m text before → IsMadeForText m text db
renewed_for m text s before db it made = made_for m text db it.says.0 (it.map_is (sha256 text) (made.old it.was))

-- what a crash leaves of a keeper's store says the map that it was opened by
pub leaves_text : {S : Type 0} (g : Ghosts S) (m : Chart) (text : List ℕ) (k kept : SqlKeeper S) → k.map_sum ≡ sha256 text → kept.map_sum ≡ k.map_sum → (book g).again m kept
    → LeavesText g text kept.conn
leaves_text g m text k kept is same again trees may = subst (λ (x : List ℕ). SaysMap x trees) (same ∙ is) (again trees may).1

-- what an open keeper has, its store holds
module _ {S : Type 0} (g : Ghosts S) (m : Chart) where
  of_state : (s : State) (db : Trees) → AreStored m db → said_by m db ≡ s → AreOf (IsStoreOf m s) db
  of_state s db stored says = (stored.0, stored.1, (stored.2, ap (said_by m) stored.1 ∙ says))

  pub held_by : (k : SqlKeeper S) → IsOpen m (book g) k → Holds g m ((book g).content m k) k.conn
  held_by k it = record {
    shows = it.shows;
    idle = it.sound.0.idle;
    now = (record { good = it.sound.0.good; counted = it.sound.0.counted; ours = it.sound.1 }, refl);
    left = λ db may. of_state _ db (it.again db may).0 (it.alone (said_by m db) (db, may, refl));
  }

  -- and how a keeper ends, its store does, from where it was opened on
  pub ends_held : (store : Held S) (old new : SqlKeeper S) (s : State) (More : State → Type 0) → (state g store).faults ≤ (state g old.conn).faults
      → Ends m (book g) old new s More → StoreEnds g m (has_faulted g store new.conn) new.conn s More
  ends_held store old new s More counted it = record {
    left = λ db may. elim (it.left (said_by m db) (db, may, refl)) [
      | inl says ↦ inl (of_state s db (it.again db may).0 says)
      | inr more ↦ inr ((it.again db may).0, more)
    ];
    shown = λ shows. let still = it.shown shows in subst (λ (t : State). Holds g m t new.conn) still.1 (held_by new still.0);
    goes = elim it.goes [
      | inl goes ↦ inl (subst (λ (t : State). Holds g m t new.conn) goes.1 (held_by new goes.0))
      | inr more ↦ inr (omega (arith, counted, more))
    ];
  }

-- a store without its limit of steps is opened so
module _ {S : Type 0} (g : Ghosts S) (m : Chart) (text : List ℕ) (store : Held S) (result : Result (SqlKeeper S) (StoreFault × Held S)) where
  limited : OpensStore g m text (record store { step_limit = None }) result → OpensStore g m text store result
  limited it = record {
    opened = it.opened;
    of_map = it.of_map;
    told = it.told;
    made = it.made;
    known = it.known;
    refused = it.refused;
    own = it.own;
    caused = it.caused;
    same = it.same;
    ends = err_turned _ _ result (λ e ends clean s desk. ends clean s (record { shows = desk.shows; idle = desk.idle; says = desk.says })) it.ends;
    fair = it.fair;
    counted = it.counted;
  }

  pub opens_limited : (h : Held S) → h ≡ record store { step_limit = None } → OpensStore g m text h result → OpensStore g m text store result
  opens_limited h is it = limited (subst (λ (h : Held S). OpensStore g m text h result) is it)
