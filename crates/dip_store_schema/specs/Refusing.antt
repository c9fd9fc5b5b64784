-- Why a store isn't opened.
use Rattle.std.specs.Prelude.{◌≡◌, ℕ, List, Option, Some}
use Rattle.dip_store_tables.specs.Tables.{DeskRow}
use Rattle.dip_store_schema.specs.Desk.{IsMarked}
use Rattle.dip_store_schema.specs.declared.desk_row.DeskColumns.{DeskColumns}
use Rattle.dip_store_schema.specs.declared.faults.StoreFault.{StoreFault}
use Rattle.dip_store_schema.specs.declared.faults.StoreFault.TheVariants.{Memory, Disk, OtherMap, OtherSchema}

-- for want of memory, or by the disk
abbrev pub IsOutage : StoreFault → Type 0
IsOutage Memory = Unit {0}
IsOutage Disk = Unit {0}
IsOutage _ = ⊥

-- by what the master's row says: another version, or else another map than this
abbrev pub Differs : ℕ → DeskColumns → List ℕ → StoreFault → Type 0
Differs version c map_sum OtherSchema = c.version ≡ version → ⊥
Differs version c map_sum OtherMap = (c.version ≡ version) × (c.map_sum ≡ map_sum → ⊥)
Differs version c map_sum _ = ⊥

-- where the tables are there, by their master's row, if they have one: there is none of this version; or there is, and it says
-- another map than this
abbrev pub IsRefusedAs : ℕ → List ℕ → Option DeskRow → StoreFault → Type 0
IsRefusedAs version map_sum row OtherSchema =
    (d : DeskRow) → row ≡ Some d → IsMarked d → d.version ≡ version → ⊥
IsRefusedAs version map_sum row OtherMap =
    (d : DeskRow) × (row ≡ Some d) × (d.version ≡ version) × (d.map ≡ map_sum → ⊥)
IsRefusedAs version map_sum row _ = Unit {0}

abbrev pub IsRefused : List ℕ → Option DeskRow → StoreFault → Type 0
IsRefused map_sum row f = IsRefusedAs 2 map_sum row f
