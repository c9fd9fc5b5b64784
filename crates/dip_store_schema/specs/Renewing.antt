-- Tables of version 1 made into those of version 2.
use Rattle.std.specs.Prelude.{◌≡◌, ◌≤◌, ◌<◌, ◌^◌, ◌⊎◌, ◌==◌, ◌++◌, ℕ, suc, pos, true, length, List, [], ◌∷◌, map, codes, if◌then◌else◌}
use Rattle.std.specs.List.{AllByRecursion}
use Rattle.sqlite.specs.declared.types.Value.TheVariants.{Int}
use Rattle.sqlite.specs.Order.{Row, bytes, column}
use Rattle.sqlite.specs.Edit.{id_in}
use Rattle.sqlite.specs.Effect.{Database}
use Rattle.sqlite.specs.Ops.{fits_i64}
use Rattle.sqlite.specs.State.{State}
use Rattle.sqlite.specs.Tree.{Trees, rowid}
use Rattle.dip_map.specs.Charts.{Chart}
use Rattle.dip_desk_state.specs.State.{State as Content}
use Rattle.dip_store_tables.specs.Counting.{AreCounted}
use Rattle.dip_store_tables.specs.Tables.{BallotRow, ChoiceRow, Tables}
use Rattle.dip_store_sql.specs.Values.{HasText}
use Rattle.dip_store_sql.specs.TablesAfter.{more_ballots, on_desk, on_seats}
use Rattle.dip_store_sql.specs.Rows.{number_in, put_ballot, put_choice}
use Rattle.dip_store_sql.specs.Schema.{ballot_table, choice_table, desk_table, seat_table}
use Rattle.dip_store_sql.specs.Storing.{CanStand, IsShortDesk, IsShortSeat, second_row, voteless_row}
use Rattle.dip_store_schema.specs.Desk.{DeskSays}
use Rattle.dip_store_schema.specs.Known.{IsOfVersion1}
use Rattle.dip_store_schema.specs.Making.{HasTables}
use Rattle.dip_store_sql.specs.Old.{WasGood, old_tables_of}
use Rattle.dip_store_tables.specs.Renewing.{WereOurs, old_ballot, old_choice, old_state_of, renewed, second, voteless}

-- a database that keepers of version 1 alone have written, by this map
pub record IsOldStore (m : Chart) (db : Database) : Type 0 where
  pub good : WasGood db
  pub counted : AreCounted (old_tables_of db.trees)
  pub ours : WereOurs m (old_tables_of db.trees)

-- the trees are those of such a database
abbrev pub WereStored : Chart → Trees → Type 0
WereStored m trees = (db : Database) × (db.trees ≡ trees) × IsOldStore m db

-- the state that its rows say
abbrev pub old_said_by : Chart → Trees → Content
old_said_by m db = old_state_of m (old_tables_of db)

-- choices after the others
abbrev pub more_choices : List ChoiceRow → Tables → Tables
more_choices cs t = record t { choices = t.choices ++ cs }

-- tables with these ballots and a choice for each of these games, without votes in the seats' rows, and of version 2
abbrev pub filled : List (List ℕ) → List BallotRow → Tables → Tables
filled names ballots t = on_desk second (on_seats voteless (more_choices (map old_choice names) (more_ballots ballots t)))

-- a game's name, and a seat's ballot, as the queries show them
abbrev pub shown_name : Row → List ℕ
shown_name r = bytes (column r 0)

abbrev pub shown_ballot : Row → BallotRow
shown_ballot r = record {
  game = bytes (column r 0);
  power = bytes (column r 1);
  names = if number_in (column r 2) == 0 then codes "NO" else codes "YES";
}

-- such a row can be read: names are texts, and a vote is 0 or 1
pub record IsVoteReadable (r : Row) : Type 0 where
  pub game : HasText r 0
  pub power : HasText r 1
  pub vote : (column r 2 ≡ Int (pos 0)) ⊎ (column r 2 ≡ Int (pos 1))

-- the trees of tables of version 1 that were filled so, whole
abbrev pub Fills : List (List ℕ) → List BallotRow → State → Trees → Type 0
Fills names ballots old trees =
    (db : Database) × (WasGood old.now → HasTables (filled names ballots (old_tables_of old.now.trees)) db) × (trees ≡ db.trees)

-- the trees of tables of version 2 that these of version 1 became, whole
abbrev pub Renews : Tables → Trees → Type 0
Renews t db = (d : Database) × HasTables (renewed t) d × (db ≡ d.trees)

-- the rows of records, numbered from here on
abbrev pub rows_from : {A : Type 0} → ℕ → (A → Row) → List A → List Row
rows_from n put [] = []
rows_from n put (x ∷ xs) = (Int (pos n) ∷ put x) ∷ rows_from (suc n) put xs

-- each row that is written where these tables of version 1 are made anew can be stored in its table, and has a number
pub record HasRoomAnew (db : Trees) : Type 0 where
  pub ballots : AllByRecursion (CanStand ballot_table) (rows_from 1 put_ballot (renewed (old_tables_of db)).ballots)
  pub choices : AllByRecursion (CanStand choice_table) (rows_from 1 put_choice (renewed (old_tables_of db)).choices)
  pub seats : AllByRecursion (CanStand seat_table) (map voteless_row (db 4))
  pub desk : AllByRecursion (CanStand desk_table) (map second_row (db 0))

-- not each can: one is longer than a store takes, or there is no number left for it
abbrev pub Outgrows : Trees → Type 0
Outgrows db = HasRoomAnew db → ⊥

-- each text of theirs that is written anew has at most a hundred million bytes, and the rows' numbers have 64 bits, as do those of seats and games
pub record AreShort (db : Trees) : Type 0 where
  pub games : AllByRecursion (λ g. length g.name ≤ 10 ^ 8) (old_tables_of db).games
  pub seats : AllByRecursion IsShortSeat (old_tables_of db).seats
  pub desk : AllByRecursion IsShortDesk (old_tables_of db).desk
  pub seat_numbers : AllByRecursion (λ r. fits_i64 (id_in (rowid r)) ≡ true) (db 4)
  pub desk_numbers : AllByRecursion (λ r. fits_i64 (id_in (rowid r)) ≡ true) (db 0)
  pub few_games : length (old_tables_of db).games < 2 ^ 63
  pub few_seats : length (old_tables_of db).seats < 2 ^ 63

-- the master's row is of version 1 and says this map, and they can't be made anew; so they aren't short
pub record IsTooFullFor (map_sum : List ℕ) (db : Trees) : Type 0 where
  pub says : DeskSays 1 map_sum (old_tables_of db)
  pub outgrows : Outgrows db
  pub long : AreShort db → ⊥

-- tables of version 1 that aren't made anew for a reason of their own: no keeper of that version wrote them, or they can't be
abbrev pub IsLeftOld : Chart → List ℕ → Database → Type 0
IsLeftOld m map_sum db = IsOfVersion1 db.schema × (IsOldStore m db → IsTooFullFor map_sum db.trees)

-- the names of the games, and the ballots of the seats, as they are read
pub record AreRead (names : List (List ℕ)) (ballots : List BallotRow) (t : Tables) : Type 0 where
  pub named : names ≡ map (λ g. g.name) t.games
  pub voted : ballots ≡ map old_ballot t.seats
