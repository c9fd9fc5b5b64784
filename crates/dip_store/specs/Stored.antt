-- What contracts see of a keeper over a store.
use Rattle.std.specs.Prelude.{◌≡◌, ℕ, List, []}
use Rattle.std.specs.declared.alloc.Global.{Global}
use Rattle.sqlite.specs.Effect.{Database}
use Rattle.sqlite.specs.Tree.{Trees}
use Rattle.sqlite.specs.Store.{Ghosts}
use Rattle.sqlite.specs.Held.{Held, state}
use Rattle.dip_map.specs.Charts.{Chart}
use Rattle.dip_desk_keeper.specs.Keeping.{Book}
use Rattle.dip_store_tables.specs.Counting.{AreCounted}
use Rattle.dip_store_tables.specs.Legible.{AreOurs}
use Rattle.dip_desk_state.specs.Faults.{next_count}
use Rattle.dip_desk_state.specs.State.{State}
use Rattle.dip_desk_state.specs.declared.faults.KeepFault.{KeepFault}
use Rattle.dip_desk_state.specs.declared.faults.KeepFault.TheVariants.{Memory, Disk, Damaged}
use Rattle.dip_store_tables.specs.Reading.{state_of}
use Rattle.dip_store_schema.specs.Desk.{DeskSays}
use Rattle.dip_store_sql.specs.Calls.{IsKept, is_honest, does_show, tables_in}
use Rattle.dip_store_sql.specs.Good.{IsGood}
use Rattle.dip_store_sql.specs.Rows.{tables_of}
use Rattle.dip_store_memory.specs.Idle.{RecallsIdle}
use Rattle.dip_store_memory.specs.Owns.{RecallsOwns}
use Rattle.dip_store_memory.specs.Seen.{Recalls}
use Rattle.dip_store.specs.declared.keeper.SqlKeeper.{SqlKeeper}

-- the state that the rows of a database say by a map
abbrev pub said_by : Chart → Trees → State
said_by m db = state_of m (tables_of db)

-- a keeper of a connection's rows that has told of no fault and remembers nothing
abbrev pub fresh_keeper : {S : Type 0} → Global → Held S → List ℕ → SqlKeeper S
fresh_keeper alloc conn map_sum = record {
  alloc = alloc;
  conn = conn;
  map_sum = map_sum;
  failures = 0;
  seen = [];
  owns = [];
  idle = [];
}

-- a keeper that has told a fault
abbrev pub telling : {S : Type 0} → KeepFault → SqlKeeper S → SqlKeeper S
telling Memory k = k
telling Disk k = record k { failures = next_count k.failures }
telling Damaged k = k

-- a database that keepers alone have written, by this map
pub record IsStore (m : Chart) (db : Database) : Type 0 where
  pub good : IsGood db
  pub counted : AreCounted (tables_of db.trees)
  pub ours : AreOurs m (tables_of db.trees)

-- such a database, whose rows say this state
abbrev pub IsStoreOf : Chart → State → Database → Type 0
IsStoreOf m s db = IsStore m db × (said_by m db.trees ≡ s)

-- the trees are those of such a database
abbrev pub AreStored : Chart → Trees → Type 0
AreStored m trees = (db : Database) × (db.trees ≡ trees) × IsStore m db

-- the master's row is of this version, and says the map whose text has this sum
abbrev pub SaysMap : List ℕ → Trees → Type 0
SaysMap map_sum trees = DeskSays 2 map_sum (tables_of trees)

-- it keeps what its connection's rows say; what it remembers of them, they say still
abbrev pub book : {S : Type 0} → Ghosts S → Book (SqlKeeper S)
book g = record {
  content = λ m k. said_by m (state g k.conn).now.trees;
  may_leave = λ m k s. (db : Trees) × (state g k.conn).may_leave db × (s ≡ said_by m db);
  again = λ m k. (db : Trees) → (state g k.conn).may_leave db
      → AreStored m db × SaysMap k.map_sum db;
  map_sum = λ k. k.map_sum;
  faults = λ k. k.failures;
  told = λ k. (state g k.conn).faults;
  honest = λ k. is_honest g k.conn;
  shows = λ k. does_show g k.conn;
  sound = λ m k. IsKept g k.conn × AreOurs m (tables_in g k.conn) × Recalls (said_by m (state g k.conn).now.trees) k.seen × RecallsOwns (said_by m (state g k.conn).now.trees) k.owns
      × RecallsIdle (said_by m (state g k.conn).now.trees) k.idle × SaysMap k.map_sum (state g k.conn).now.trees;
}
