-- The texts that make the tables.
use Rattle.std.specs.Prelude.{ℕ, List, [], ◌∷◌, codes}
use Rattle.sqlite.specs.Table.{Table}
use Rattle.sqlite.specs.Schema.{Schema}
use Rattle.sqlite.specs.Change.{created}

abbrev pub create_desk : List ℕ
create_desk =
    codes "CREATE TABLE desk (id INTEGER NOT NULL UNIQUE, version INTEGER NOT NULL, map BLOB NOT NULL, digest BLOB NOT NULL, last INTEGER NOT NULL, kept BLOB NOT NULL, reply TEXT NOT NULL) STRICT"

abbrev pub create_game : List ℕ
create_game =
    codes "CREATE TABLE game (name TEXT NOT NULL PRIMARY KEY, year INTEGER NOT NULL, phase INTEGER NOT NULL, status TEXT NOT NULL, due INTEGER NOT NULL, period INTEGER NOT NULL, grey INTEGER NOT NULL, papers INTEGER NOT NULL, standoff TEXT NOT NULL) STRICT"

abbrev pub create_seat : List ℕ
create_seat =
    codes "CREATE TABLE seat (game TEXT NOT NULL, power TEXT NOT NULL, digest BLOB NOT NULL, vote INTEGER NOT NULL, last INTEGER NOT NULL, kept BLOB NOT NULL, reply TEXT NOT NULL, sent INTEGER NOT NULL, items INTEGER NOT NULL, PRIMARY KEY (game, power)) STRICT"

abbrev pub create_unit : List ℕ
create_unit =
    codes "CREATE TABLE unit (game TEXT NOT NULL, province TEXT NOT NULL, dislodged INTEGER NOT NULL, power TEXT NOT NULL, kind INTEGER NOT NULL, coast TEXT NOT NULL, origin TEXT NOT NULL, PRIMARY KEY (game, province, dislodged)) STRICT"

abbrev pub create_centre : List ℕ
create_centre =
    codes "CREATE TABLE centre (game TEXT NOT NULL, province TEXT NOT NULL, power TEXT NOT NULL, PRIMARY KEY (game, province)) STRICT"

abbrev pub create_pending : List ℕ
create_pending =
    codes "CREATE TABLE pending (game TEXT NOT NULL, power TEXT NOT NULL, province TEXT NOT NULL, line TEXT NOT NULL, PRIMARY KEY (game, power, province)) STRICT"

abbrev pub create_box : List ℕ
create_box =
    codes "CREATE TABLE box (game TEXT NOT NULL, power TEXT NOT NULL, number INTEGER NOT NULL, grey INTEGER NOT NULL, writer TEXT NOT NULL, addressees TEXT NOT NULL, body TEXT NOT NULL, PRIMARY KEY (game, power, number)) STRICT"

abbrev pub create_paper : List ℕ
create_paper =
    codes "CREATE TABLE paper (game TEXT NOT NULL, number INTEGER NOT NULL, body TEXT NOT NULL, PRIMARY KEY (game, number)) STRICT"

abbrev pub create_ballot : List ℕ
create_ballot =
    codes "CREATE TABLE ballot (game TEXT NOT NULL, power TEXT NOT NULL, names TEXT NOT NULL, PRIMARY KEY (game, power)) STRICT"

abbrev pub create_choice : List ℕ
create_choice =
    codes "CREATE TABLE choice (game TEXT NOT NULL PRIMARY KEY, intent INTEGER NOT NULL) STRICT"

-- a schema without a table, and one with tables made in turn
abbrev pub no_schema : Schema
no_schema = record { tables = []; indexes = []; views = [] }

abbrev pub schema_with : List Table → Schema → Schema
schema_with [] s = s
schema_with (t ∷ ts) s = schema_with ts (created s t)
