-- What a keeper has that was made or opened.
use Rattle.std.specs.Prelude.{◌≡◌, ◌≤◌, ◌⊎◌, ℕ, [], false, Err, IfErr, IfOk, IsTrue, List, None, Ok, Result}
use Rattle.std.specs.List.{find}
use Rattle.sha2.specs.Sha256.{sha256}
use Rattle.sqlite.specs.Effect.{Database}
use Rattle.sqlite.specs.Store.{Ghosts}
use Rattle.sqlite.specs.Held.{Held, state}
use Rattle.sqlite.specs.Tree.{Trees}
use Rattle.dip_map.specs.Charts.{Chart}
use Rattle.dip_desk_state.specs.State.{State}
use Rattle.dip_store_schema.specs.Desk.{DeskSays}
use Rattle.dip_store_schema.specs.Known.{HasOldTables, HasOurTables}
use Rattle.dip_store_schema.specs.Refusing.{IsOutage, IsRefused, IsRefusedAs}
use Rattle.dip_store_schema.specs.Renewing.{IsLeftOld, IsOldStore, old_said_by}
use Rattle.dip_store_schema.specs.declared.faults.StoreFault.{StoreFault}
use Rattle.dip_store_schema.specs.declared.faults.StoreFault.TheVariants as faults
use Rattle.dip_store_sql.specs.Calls.{does_show, is_honest}
use Rattle.dip_store_sql.specs.Causes.{has_faulted}
use Rattle.dip_store_sql.specs.Creating.{no_schema}
use Rattle.dip_store_sql.specs.Old.{old_tables_of}
use Rattle.dip_store_sql.specs.Rows.{tables_of}
use Rattle.dip_store_sql.specs.TablesAfter.{is_first}
use Rattle.dip_store.specs.Stored.{AreStored, IsStore, IsStoreOf, SaysMap, book, said_by}
use Rattle.dip_store.specs.declared.keeper.SqlKeeper.{SqlKeeper}

-- keepers of this version, or of version 1 alone, wrote the database by the map, and its rows say
-- this state
abbrev pub Says : Chart → State → Database → Type 0
Says m s db = IsStoreOf m s db ⊎ (IsOldStore m db × (old_said_by m db.trees ≡ s))

-- a database of version 1 was made this one of version 2, which says the state, and the same map
pub record IsRenewedFrom (m : Chart) (s : State) (before db : Database) : Type 0 where
  pub was : IsOldStore m before
  pub says : IsStoreOf m s db
  pub map_is : (map_sum : List ℕ) → DeskSays 1 map_sum (old_tables_of before.trees)
      → SaysMap map_sum db.trees

-- it was so before, or it was renewed from one that was so
abbrev pub IsSameOrRenewed : Chart → State → (Database → Type 0) → Database → Type 0
IsSameOrRenewed m s Was db =
    Was db ⊎ ((before : Database) × Was before × IsRenewedFrom m s before db)

-- the trees are those of such a database
abbrev pub AreOf : (Database → Type 0) → Trees → Type 0
AreOf Such trees = (db : Database) × (db.trees ≡ trees) × Such db

-- the store is open, no change of it is under way, and its rows say this state: so it can be
-- opened
pub record IsDesk {S : Type 0} (g : Ghosts S) (m : Chart) (s : State) (store : Held S) : Type 0 where
  pub shows : does_show g store
  pub idle : store.in_transaction ≡ false
  pub says : Says m s (state g store).now

-- the store is open, no change of it is under way, it has such a database, and a crash leaves only
-- such ones
pub record HasOnly {S : Type 0} (g : Ghosts S) (Such : Database → Type 0) (store : Held S)
    : Type 0 where
  pub shows : does_show g store
  pub idle : store.in_transaction ≡ false
  pub now : Such (state g store).now
  pub left : (trees : Trees) → (state g store).may_leave trees → AreOf Such trees

-- it holds this state, in tables of this version
abbrev pub Holds : {S : Type 0} → Ghosts S → Chart → State → Held S → Type 0
Holds g m s store = HasOnly g (IsStoreOf m s) store

-- how what is done over a store ends: a crash leaves such a database, or one that says more; where
-- the store shows what it keeps still, it has such a one; and it does, or there was this fault of
-- the disk
pub record EndsSo {S : Type 0} (g : Ghosts S) (m : Chart) (Fault : Type 0) (new : Held S)
    (Such : Database → Type 0) (More : State → Type 0) : Type 0 where
  pub left : (trees : Trees) → (state g new).may_leave trees
      → AreOf Such trees ⊎ (AreStored m trees × More (said_by m trees))
  pub shown : does_show g new → HasOnly g Such new
  pub goes : HasOnly g Such new ⊎ Fault

-- it ends in a state
abbrev pub StoreEnds : {S : Type 0} → Ghosts S → Chart → Type 0 → Held S → State → (State → Type 0)
    → Type 0
StoreEnds g m Fault new s More = EndsSo g m Fault new (IsStoreOf m s) More

-- it isn't opened: it has what it had, or, renewed, a database of this version that says the same
abbrev pub StaysShut : {S : Type 0} → Ghosts S → Chart → Type 0 → Held S → State
    → (Database → Type 0) → Type 0
StaysShut g m Fault new s Was = EndsSo g m Fault new (IsSameOrRenewed m s Was) (λ _. ⊥)

-- the database is the one that the store has
abbrev pub IsNowOf : {S : Type 0} → Ghosts S → Held S → Database → Type 0
IsNowOf g store db = db ≡ (state g store).now

-- the keeper has told of no fault, says this state, and a crash leaves this state alone, to be opened again
pub record Opens {S : Type 0} (g : Ghosts S) (m : Chart) (s : State) (k : SqlKeeper S) : Type 0 where
  pub none : (book g).faults k ≡ 0
  pub shows : (book g).shows k
  pub sound : (book g).sound m k
  pub says : (book g).content m k ≡ s
  pub only : (left : State) → (book g).may_leave m k left → left ≡ s
  pub again : (book g).again m k

-- the master's row of trees says the map of this text
abbrev pub SayText : List ℕ → Trees → Type 0
SayText text trees = SaysMap (sha256 text) trees

-- that of a store does
abbrev pub SaysText : {S : Type 0} → Ghosts S → List ℕ → Held S → Type 0
SaysText g text store = SayText text (state g store).now.trees

-- and that of whatever a crash leaves of it
abbrev pub LeavesText : {S : Type 0} → Ghosts S → List ℕ → Held S → Type 0
LeavesText g text store =
    (trees : Trees) → (state g store).may_leave trees → SayText text trees

-- what an open after a crash may find of a store in which a desk is made: what it might have found before, or, of an empty one, a
-- store that says the new desk and its map
abbrev pub MayFound : {S : Type 0} → Ghosts S → Chart → List ℕ → State → Held S → Held S → Type 0
MayFound g m text s old new = is_honest g new → (db : Trees) → (state g new).may_leave db
    → (state g old).may_leave db
    ⊎ (((state g old).now.schema ≡ no_schema) × AreOf (IsStoreOf m s) db × SayText text db)

-- a desk without a game, whose master's secret has this digest
abbrev pub new_desk : List ℕ → State
new_desk digest = record { desk = record { digest = digest; kept = None }; games = [] }

-- a store that can be read from: no change of it is under way, so all of it is committed, and
-- statements have no limit
pub record IsSettled {S : Type 0} (g : Ghosts S) (store : Held S) : Type 0 where
  pub idle : store.in_transaction ≡ false
  pub settled : IsTrue (state g store).is_open → (state g store).now ≡ (state g store).committed
  pub unlimited : store.step_limit ≡ None

-- the master's row of a database that keepers wrote is of the version of its tables, and says this
-- map
pub record IsMadeFor (m : Chart) (map_sum : List ℕ) (db : Database) : Type 0 where
  pub new : IsStore m db → DeskSays 2 map_sum (tables_of db.trees)
  pub old : IsOldStore m db → DeskSays 1 map_sum (old_tables_of db.trees)

-- the fault is none of another map, nor of another version, but where that row says so
pub record IsRefusedBy (m : Chart) (map_sum : List ℕ) (db : Database) (fault : StoreFault)
    : Type 0 where
  pub new : IsStore m db → IsRefused map_sum (find is_first (tables_of db.trees).desk) fault
  pub old : IsOldStore m db
      → IsRefusedAs 1 map_sum (find is_first (old_tables_of db.trees).desk) fault

-- the store as it is handed back
abbrev pub store_in : {S : Type 0} → Result (SqlKeeper S) (StoreFault × Held S) → Held S
store_in (Ok k) = k.conn
store_in (Err e) = e.1

-- the answer tells of the store's map: it is opened, or has another one
abbrev pub TellsOfMap : {S : Type 0} → Result (SqlKeeper S) (StoreFault × Held S) → Type 0
TellsOfMap (Ok k) = Unit {0}
TellsOfMap (Err e) = e.0 ≡ faults.OtherMap

-- how a store is opened, of whatever version
pub record OpensStore {S : Type 0} (g : Ghosts S) (m : Chart) (text : List ℕ) (store : Held S)
    (result : Result (SqlKeeper S) (StoreFault × Held S)) : Type 0 where
  pub opened : IfOk result (λ k. is_honest g k.conn → (s : State)
      → Says m s (state g store).now → Opens g m s k)
  pub of_map : IfOk result (λ k. (book g).map_sum k ≡ sha256 text)
  pub told : IfOk result (λ k. (book g).faults k ≡ 0)
  pub made : IfOk result (λ k. is_honest g k.conn
      → IsMadeFor m (sha256 text) (state g store).now)
  pub known : is_honest g (store_in result) → TellsOfMap result
      → HasOurTables (state g store).now.schema ⊎ HasOldTables (state g store).now.schema
  pub refused : IfErr result (λ e. is_honest g e.1
      → IsRefusedBy m (sha256 text) (state g store).now e.0)
  pub own : IfErr result (λ e. is_honest g e.1 → (s : State) → Says m s (state g store).now
      → IsMadeFor m (sha256 text) (state g store).now → IsOutage e.0)
  -- whatever a store has, the disk is told of only where a transaction was under way, or the store
  -- told of a fault of it, or it has tables of version 1 that no keeper of that version wrote, or
  -- that can't be made anew
  pub caused : IfErr result (λ e. is_honest g e.1 → does_show g store → e.0 ≡ faults.Disk
      → IsTrue store.in_transaction ⊎ (has_faulted g store e.1
      ⊎ IsLeftOld m (sha256 text) (state g store).now))
  pub same : IfErr result (λ e. does_show g e.1 → (s : State) → Says m s (state g store).now
      → (state g e.1).committed ≡ (state g store).committed)
  pub ends : IfErr result (λ e. is_honest g e.1 → (s : State) → IsDesk g m s store
      → StaysShut g m (has_faulted g store e.1) e.1 s (IsNowOf g store))
  pub fair : is_honest g (store_in result) → is_honest g store
  pub counted : (state g store).faults ≤ (state g (store_in result)).faults

-- the database was made for the map of this text
abbrev pub IsMadeForText : Chart → List ℕ → Database → Type 0
IsMadeForText m text db = IsMadeFor m (sha256 text) db

-- why a database isn't opened by the map of this text. It is of another version or map only where
-- its master's row says so, and where keepers wrote it for this map only memory or the disk is
-- told of. The disk is told of only where there was a fault of it, or tables of version 1 can't be
-- made anew
pub record IsShutFor (m : Chart) (text : List ℕ) (db : Database) (Fault : Type 0)
    (fault : StoreFault) : Type 0 where
  pub refused : IsRefusedBy m (sha256 text) db fault
  pub own : (s : State) → Says m s db → IsMadeForText m text db → IsOutage fault
  pub known : fault ≡ faults.OtherMap → HasOurTables db.schema ⊎ HasOldTables db.schema
  pub caused : fault ≡ faults.Disk → Fault ⊎ IsLeftOld m (sha256 text) db

-- why an open store isn't opened as a desk's: a fault of the disk is one that the store told of, or
-- a transaction under way
abbrev pub IsShutBy : {S : Type 0} → Ghosts S → Chart → List ℕ → Held S → Held S → StoreFault
    → Type 0
IsShutBy g m text store new fault = is_honest g new → does_show g store
    → IsShutFor m text (state g store).now (IsTrue store.in_transaction ⊎ has_faulted g store new)
    fault

-- why no desk is made in a store. It has a table, or memory ran out, or the disk failed, which is
-- told of only where a transaction was under way, or the store told of a fault of it
pub record IsUnmadeBy {S : Type 0} (g : Ghosts S) (store new : Held S) (fault : StoreFault)
    : Type 0 where
  pub taken : fault ≡ faults.OtherSchema → (state g store).now.schema ≡ no_schema → ⊥
  pub refused : fault ≡ faults.OtherMap → ⊥
  pub caused : is_honest g new → does_show g store → fault ≡ faults.Disk
      → IsTrue store.in_transaction ⊎ has_faulted g store new

-- how a desk's tables are made in a store, whose text is this map's and whose master's digest is this one
pub record MakesStore {S : Type 0} (g : Ghosts S) (m : Chart) (text digest : List ℕ) (store : Held S)
    (result : Result (SqlKeeper S) (StoreFault × Held S)) : Type 0 where
  pub opened : IfOk result (λ k. is_honest g k.conn → Opens g m (new_desk digest) k)
  pub of_map : IfOk result (λ k. (book g).map_sum k ≡ sha256 text)
  pub told : IfOk result (λ k. (book g).faults k ≡ 0)
  pub made : IfOk result (λ k. is_honest g k.conn → SaysText g text k.conn)
  pub empty : IfOk result (λ _. (state g store).now.schema ≡ no_schema)
  pub taken : IfErr result (λ e. e.0 ≡ faults.OtherSchema → (state g store).now.schema ≡ no_schema → ⊥)
  pub refused : IfErr result (λ e. e.0 ≡ faults.OtherMap → ⊥)
  -- the disk is told of only where a transaction was under way, or the store told of a fault of it
  pub caused : IfErr result (λ e. is_honest g e.1 → does_show g store → e.0 ≡ faults.Disk → IsTrue store.in_transaction ⊎ has_faulted g store e.1)
  pub same : IfErr result (λ e. does_show g e.1 → (state g e.1).committed ≡ (state g store).committed)
  pub fair : is_honest g (store_in result) → is_honest g store
  pub crash : MayFound g m text (new_desk digest) store (store_in result)
