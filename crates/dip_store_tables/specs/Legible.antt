-- Rows that are legible: each text that is read back is one of characters, and each count has 32 bits.
use Rattle.std.specs.Prelude.{ℕ, ◌<◌, ◌^◌, List}
use Rattle.std.specs.List.{AllByRecursion}
use Rattle.dip_map.specs.Charts.{Chart, IsMap}
use Rattle.dip_store_tables.specs.Coding.{AreCoded}
use Rattle.dip_store_rows.specs.Tables.{DeskRow, SeatRow, PendingRow, BoxRow, PaperRow, Tables}
use Rattle.dip_store_tables.specs.Written.{AreWritten}
pub use Rattle.dip_store_rows.specs.Texts.{IsText}

abbrev pub IsDeskLegible : DeskRow → Type 0
IsDeskLegible d = IsText d.reply

abbrev pub IsSeatLegible : SeatRow → Type 0
IsSeatLegible s = IsText s.reply × (s.sent < 2 ^ 32) × (s.items < 2 ^ 32)

abbrev pub IsOrderLegible : PendingRow → Type 0
IsOrderLegible p = IsText p.line

abbrev pub IsItemLegible : BoxRow → Type 0
IsItemLegible b = IsText b.writer × IsText b.addressees × IsText b.body

abbrev pub IsPaperLegible : PaperRow → Type 0
IsPaperLegible p = IsText p.body

pub record AreLegible (t : Tables) : Type 0 where
  pub desk : AllByRecursion IsDeskLegible t.desk
  pub seats : AllByRecursion IsSeatLegible t.seats
  pub pending : AllByRecursion IsOrderLegible t.pending
  pub boxes : AllByRecursion IsItemLegible t.boxes
  pub papers : AllByRecursion IsPaperLegible t.papers

-- tables that a keeper wrote by the map, all of which can be read back
pub record AreOurs (m : Chart) (t : Tables) : Type 0 where
  pub map : IsMap m
  pub coded : AreCoded m t
  pub written : AreWritten m t
  pub legible : AreLegible t
