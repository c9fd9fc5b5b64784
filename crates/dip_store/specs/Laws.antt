-- What follows for the tables where a change fits, and once it is made.
use Rattle.std.specs.Prelude.{◌≡◌}
use Rattle.sqlite.specs.Effect.{Database}
use Rattle.dip_map.specs.Charts.{Chart, IsMap}
use Rattle.dip_desk_keeper.specs.Fitting.{Fits}
use Rattle.dip_store_tables.specs.Room.{HasRoom}
use Rattle.dip_desk_state.specs.State.{Change, State, state_after}
use Rattle.dip_store_tables.specs.Changing.{changing}
use Rattle.dip_store_tables.specs.Coding.{AreCoded}
use Rattle.dip_store_tables.specs.ChangeColumns.{HasWidths, IsWritable}
use Rattle.dip_store_tables.specs.Counting.{AreCounted, CountsOn}
use Rattle.dip_store_tables.specs.Reading.{state_of}
use Rattle.dip_store_tables.specs.Tables.{Tables}
use Rattle.dip_store_tables.specs.Written.{AreWritten}
use Rattle.dip_store_sql.specs.Good.{IsGood}
use Rattle.dip_store_sql.specs.Keys.{AreKeyed}
use Rattle.dip_store_sql.specs.Rows.{tables_of}

-- it can be written, whatever the desk has
abbrev pub FitsIsWritable : Chart → Type 0
FitsIsWritable m = (c : Change) (s : State) → Fits m c s → IsWritable m c

-- after it no key comes twice, its paper has the next number of its game, and there is room in the counts that it raises
pub record FindsPlaceInTables (m : Chart) (c : Change) (t : Tables) : Type 0 where
  pub keyed : AreKeyed (changing m c t)
  pub paper : CountsOn c.game c.effect t.games
  pub room : HasRoom m c.author c.game c.effect t

-- a change that fits what the tables of a desk say finds place in them
abbrev pub WhatFitsFindsPlace : Chart → Type 0
WhatFitsFindsPlace m = (c : Change) (t : Tables) → IsMap m → AreCoded m t → AreCounted t → AreKeyed t
    → Fits m c (state_of m t) → FindsPlaceInTables m c t

-- the tables then say the state after it, and are still such as a keeper wrote
pub record IsMade (m : Chart) (c : Change) (old new : Tables) : Type 0 where
  pub says : AreCoded m old → state_of m new ≡ state_after c (state_of m old)
  pub coded : AreCoded m old → AreCoded m new
  pub written : HasWidths c → AreWritten m old → AreWritten m new
  pub counted : CountsOn c.game c.effect old.games → AreCounted old → AreCounted new

-- where the tables of a good database became those of the change
abbrev pub ChangesAreMade : Chart → Type 0
ChangesAreMade m = (c : Change) (old new : Database) → IsWritable m c → IsGood old → IsGood new
    → tables_of new.trees ≡ changing m c (tables_of old.trees) → IsMade m c (tables_of old.trees) (tables_of new.trees)
