-- Which rows can be stored, and what a statement says of those that it puts into a table.
use Rattle.std.specs.Prelude.{◌≡◌, ◌≤◌, ◌^◌, true, List, [], ◌∷◌, ◌++◌, length, Result, OnOk, IfErr}
use Rattle.std.specs.List.{AllByRecursion}
use Rattle.sqlite.specs.declared.error.Error.{Error}
use Rattle.sqlite.specs.declared.types.Value.TheVariants.{Int}
use Rattle.sqlite.specs.Order.{Row}
use Rattle.sqlite.specs.Edit.{IsOversized, id_in, next_rowid}
use Rattle.sqlite.specs.Ops.{fits_i64}
use Rattle.sqlite.specs.Schema.{Schema}
use Rattle.sqlite.specs.State.{State, HasCleanDisk}
use Rattle.sqlite.specs.Table.{Table}
use Rattle.sqlite.specs.Tree.{Trees, rowid}
use Rattle.dip_store_rows.specs.Made.{second, voteless}
use Rattle.dip_store_rows.specs.Tables.{BallotRow, DeskRow, SeatRow, Tables}
use Rattle.dip_store_sql.specs.Causes.{Faulted, IsCaused}
use Rattle.dip_store_sql.specs.Rows.{put_desk, put_seat, tables_of, take_desk, take_seat}
use Rattle.dip_store_sql.specs.Schema.{our_schema}
use Rattle.dip_store_sql.specs.Transactions.{IsReady}

-- a row can be stored in its table, with its entries in the indexes, and its number has 64 bits
abbrev pub CanStandIn : Schema → Table → Row → Type 0
CanStandIn schema table row = (IsOversized schema table row → ⊥) × (fits_i64 (id_in (rowid row)) ≡ true)

abbrev pub CanStand : Table → Row → Type 0
CanStand = CanStandIn our_schema

-- a record's row that is to stand after these
abbrev pub next_row : {A : Type 0} → (A → Row) → A → List Row → Row
next_row put x rows = Int (next_rowid rows) ∷ put x

-- a seat's row without a vote, and a master's row of version 2, each with its number
abbrev pub voteless_row : Row → Row
voteless_row r = rowid r ∷ put_seat (voteless (take_seat r))

abbrev pub second_row : Row → Row
second_row r = rowid r ∷ put_desk (second (take_desk r))

-- the texts of a record have at most a hundred million bytes each
pub record IsShortBallot (b : BallotRow) : Type 0 where
  pub game : length b.game ≤ 10 ^ 8
  pub power : length b.power ≤ 10 ^ 8
  pub names : length b.names ≤ 10 ^ 8

pub record IsShortSeat (s : SeatRow) : Type 0 where
  pub game : length s.game ≤ 10 ^ 8
  pub power : length s.power ≤ 10 ^ 8
  pub digest : length s.digest ≤ 10 ^ 8
  pub kept : length s.kept ≤ 10 ^ 8
  pub reply : length s.reply ≤ 10 ^ 8

pub record IsShortDesk (d : DeskRow) : Type 0 where
  pub map : length d.map ≤ 10 ^ 8
  pub digest : length d.digest ≤ 10 ^ 8
  pub kept : length d.kept ≤ 10 ^ 8
  pub reply : length d.reply ≤ 10 ^ 8

-- each table but this has the rows that it had
abbrev pub AreSpared : Table → Trees → Trees → Type 0
AreSpared table old new = AllByRecursion (λ t. (t.tree ≡ table.tree → ⊥) → new t.tree ≡ old t.tree) our_schema.tables

-- a statement puts such rows into a table: where the tables are such, and each of the rows can stand, it fails for want of memory, or by the
-- disk where the store told of a fault, and for nothing else; where it goes well, the other tables have the rows that they had
pub record Stores {X : Type 0} (table : Table) (Such : Tables → Type 0) (rows : Trees → List Row) (old new : State)
    (r : Result X Error) : Type 0 where
  pub fails : HasCleanDisk new → IsReady old → Such (tables_of old.now.trees) → AllByRecursion (CanStand table) (rows old.now.trees)
      → IfErr r (IsCaused (Faulted old new))
  pub others : HasCleanDisk new → IsReady old → OnOk r (AreSpared table old.now.trees new.now.trees)

-- one row, which stands after the others of its table
pub record StoresBehind {X : Type 0} (table : Table) (Such : Tables → Type 0) (row : List Row → Row) (old new : State)
    (r : Result X Error) : Type 0 where
  pub stores : Stores table Such (λ db. row (db table.tree) ∷ []) old new r
  pub behind : HasCleanDisk new → IsReady old
      → OnOk r (new.now.trees table.tree ≡ old.now.trees table.tree ++ row (old.now.trees table.tree) ∷ [])
