-- What the statements of a change are to come to.
use Rattle.std.specs.Prelude.{◌≡◌, ℕ, List, [], None, filter, length}
use Rattle.dip_map.specs.Charts.{Chart}
use Rattle.dip_desk_state.specs.State.{Change, state_after}
use Rattle.dip_store_tables.specs.Changing.{changing, delivering, delivering_each, is_reader}
use Rattle.dip_store_tables.specs.Coding.{AreApart, AreCoded, IsChangeOf}
use Rattle.dip_store_tables.specs.ChangeColumns.{HasWidths, IsWritable}
use Rattle.dip_store_tables.specs.Counting.{AreCounted, CountsOn}
use Rattle.dip_store_tables.specs.Reading.{state_of}
use Rattle.dip_store_rows.specs.Tables.{Tables}
use Rattle.dip_store_tables.specs.Writing.{new_tables}
use Rattle.dip_store_tables.specs.Written.{AreWritten}
use Rattle.dip_desk_state.specs.Records.{Item}

-- after the statements of a change the tables say the state after it, where keys are apart before them and after them
abbrev pub StateIsChanged : Chart → Type 0
StateIsChanged m = (c : Change) (t : Tables) → IsChangeOf m c → AreCoded m t → AreApart t → AreApart (changing m c t)
    → state_of m (changing m c t) ≡ state_after c (state_of m t)

-- after the statements of a change tables are still such as a keeper wrote
abbrev pub TablesStayCoded : Chart → Type 0
TablesStayCoded m = (c : Change) (t : Tables) → IsChangeOf m c → AreCoded m t → AreCoded m (changing m c t)

-- after the statements of a change papers and items are still numbered from 1, where the change's paper has the next number
abbrev pub TablesStayCounted : Chart → Type 0
TablesStayCounted m = (c : Change) (t : Tables) → CountsOn c.game c.effect t.games → AreCounted t → AreApart t → AreApart (changing m c t)
    → AreCounted (changing m c t)

-- after the statements of a change each row is still that of a record of the map
abbrev pub TablesStayWritten : Chart → Type 0
TablesStayWritten m = (c : Change) (t : Tables) → IsWritable m c → HasWidths c → AreApart (changing m c t) → AreWritten m t
    → AreWritten m (changing m c t)

-- press may be delivered to one reader after the other
abbrev pub IsDeliveredOneByOne : Chart → Type 0
IsDeliveredOneByOne m = (name readers : List ℕ) (item : Item) (t : Tables) → AreApart t
    → delivering_each item (filter (is_reader m name readers) t.seats) t ≡ delivering m name readers item t

-- the tables of a new desk say that it has no game, and are coded, counted, apart and written
pub record IsNew (m : Chart) (digest : List ℕ) (t : Tables) : Type 0 where
  pub says : state_of m t ≡ record { desk = record { digest = digest; kept = None }; games = [] }
  pub coded : AreCoded m t
  pub counted : AreCounted t
  pub apart : AreApart t
  pub written : length digest ≡ 32 → AreWritten m t

abbrev pub NewTablesAreNew : Chart → Type 0
NewTablesAreNew m = (map_sum digest : List ℕ) → IsNew m digest (new_tables map_sum digest)
