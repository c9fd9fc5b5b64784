-- A call that makes a change whole or not at all.
use Rattle.std.specs.Prelude.{◌≡◌, ◌≤◌, ◌⊎◌, false, Result, OnOk, OnErr}
use Rattle.sqlite.specs.Tree.{Trees}
use Rattle.sqlite.specs.Store.{Ghosts}
use Rattle.sqlite.specs.Held.{Held, state}
use Rattle.dip_map.specs.Charts.{Chart}
use Rattle.dip_desk_state.specs.State.{Change}
use Rattle.dip_store_tables.specs.Changing.{changing}
use Rattle.dip_store_tables.specs.Tables.{Tables}
use Rattle.dip_store_sql.specs.Calls.{IsKept, IsLaid, Lands, does_show, is_honest, tables_in}
use Rattle.dip_store_sql.specs.Causes.{has_faulted}
use Rattle.dip_store_sql.specs.Keys.{AreKeyed}
use Rattle.dip_store_tables.specs.Legible.{AreOurs}

-- a call that changes the tables so, where this holds of them, whole or not at all; after an error a crash may leave them changed or not
pub record MakesFrom {S X E : Type 0} (Kept : Type 0) (g : Ghosts S) (f : Tables → Tables) (old new : Held S) (r : Result X E) : Type 0 where
  pub fair : is_honest g new → is_honest g old
  pub shown : does_show g new → does_show g old
  pub mode : old.in_transaction ≡ false → new.in_transaction ≡ false
  pub counts : (state g old).faults ≤ (state g new).faults
  pub done : Kept → does_show g new → OnOk r (IsLaid g new × (tables_in g new ≡ f (tables_in g old)))
  pub undone : Kept → does_show g new → OnErr r (IsKept g new × ((state g new).now ≡ (state g old).now))
  pub ok : Kept → is_honest g new → OnOk r (does_show g new)
  -- only a fault of the disk shuts the connection
  pub closes : is_honest g new → does_show g old → does_show g new ⊎ has_faulted g old new
  pub kept : Kept → is_honest g new
      → OnOk r ((db : Trees) → (state g new).may_leave db → db ≡ (state g new).now.trees)
  pub left : Kept → is_honest g new
      → OnErr r ((db : Trees) → (state g new).may_leave db → (state g old).may_leave db ⊎ Lands f (state g old) db)

-- what a keeper has written
abbrev pub Makes : {S X E : Type 0} → Ghosts S → (Tables → Tables) → Held S → Held S → Result X E → Type 0
Makes {S} {X} {E} g f old new r = MakesFrom {S = S} {X = X} {E = E} (IsKept g old) g f old new r

-- tables of a desk by the map, of which no key comes twice after the change
pub record MayMake (m : Chart) (c : Change) (t : Tables) : Type 0 where
  pub ours : AreOurs m t
  pub keyed : AreKeyed (changing m c t)
