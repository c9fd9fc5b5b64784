-- Tables that are legible stay so.
use Rattle.std.specs.Prelude.{ℕ, List}
use Rattle.dip_map.specs.Charts.{Chart, IsMap}
use Rattle.dip_desk_state.specs.State.{Change}
use Rattle.dip_desk_state.specs.Writable.{IsAuthorOf}
use Rattle.dip_store_tables.specs.Changing.{changing}
use Rattle.dip_store_rows.specs.Tables.{Tables}
use Rattle.dip_store_tables.specs.Writing.{new_tables}
use Rattle.dip_store_tables.specs.Legible.{AreLegible}
use Rattle.dip_store_tables.specs.Room.{HasRoom}
use Rattle.dip_store_tables.specs.ChangeTexts.{HasTexts}

-- after the statements of a change whose texts are of characters and for whose counts there is room, legible tables are legible
abbrev pub TablesStayLegible : Chart → Type 0
TablesStayLegible m = (c : Change) (t : Tables) → IsMap m → IsAuthorOf m c.author → HasTexts c → HasRoom m c.author c.game c.effect t
    → AreLegible t → AreLegible (changing m c t)

abbrev pub NewTablesAreLegible : Type 0
NewTablesAreLegible = (map_sum digest : List ℕ) → AreLegible (new_tables map_sum digest)
