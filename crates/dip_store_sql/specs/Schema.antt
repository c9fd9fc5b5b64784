-- The ten tables: their columns and their keys.
use Rattle.std.specs.Prelude.{true, false, [], ◌∷◌, None, codes, List, ℕ, ◌+◌}
use Rattle.sqlite.specs.Collation.TheVariants.{Binary}
use Rattle.sqlite.specs.declared.types.Value.TheVariants.{Null}
use Rattle.sqlite.specs.Table.{Table}
use Rattle.sqlite.specs.Schema.{Schema}
use Rattle.sqlite_schema.specs.declared.schema.Column.{Column}
use Rattle.sqlite_schema.specs.declared.schema.Index.{Index}
use Rattle.sqlite.specs.Kind.{Kind}
use Rattle.sqlite.specs.Kind.TheVariants.{Integer, Text, Blob}

-- a column of one kind, never NULL
abbrev pub given : List ℕ → Kind → Column
given name kind =
    record { name = name; kind = kind; is_strict = true; not_null = true; default = Null; collation = Binary }

-- a table at this place, and the columns that no two rows agree on
abbrev pub keyed : List ℕ → ℕ → List Column → List ℕ → List ℕ → Table
keyed name tree columns primary unique = record {
  name = name;
  tree = tree;
  columns = columns;
  key = None;
  primary = primary;
  uniques = unique ∷ [];
  orders = (record { digits = 0 }) ∷ [];
  checks = [];
  references = [];
  computed = [];
  stamps = record { places = []; terms = []; formats = [] };
  is_counted = false;
}

abbrev pub desk_table : Table
desk_table = keyed (codes "desk") 0
    (
    given (codes "id") Integer ∷
    given (codes "version") Integer ∷
    given (codes "map") Blob ∷
    given (codes "digest") Blob ∷
    given (codes "last") Integer ∷
    given (codes "kept") Blob ∷
    given (codes "reply") Text ∷
    []
    )
    [] (1 ∷ [])

abbrev pub game_table : Table
game_table = keyed (codes "game") 2
    (
    given (codes "name") Text ∷
    given (codes "year") Integer ∷
    given (codes "phase") Integer ∷
    given (codes "status") Text ∷
    given (codes "due") Integer ∷
    given (codes "period") Integer ∷
    given (codes "grey") Integer ∷
    given (codes "papers") Integer ∷
    given (codes "standoff") Text ∷
    []
    )
    (1 ∷ []) (1 ∷ [])

abbrev pub seat_table : Table
seat_table = keyed (codes "seat") 4
    (
    given (codes "game") Text ∷
    given (codes "power") Text ∷
    given (codes "digest") Blob ∷
    given (codes "vote") Integer ∷
    given (codes "last") Integer ∷
    given (codes "kept") Blob ∷
    given (codes "reply") Text ∷
    given (codes "sent") Integer ∷
    given (codes "items") Integer ∷
    []
    )
    (1 ∷ 2 ∷ []) (1 ∷ 2 ∷ [])

abbrev pub unit_table : Table
unit_table = keyed (codes "unit") 6
    (
    given (codes "game") Text ∷
    given (codes "province") Text ∷
    given (codes "dislodged") Integer ∷
    given (codes "power") Text ∷
    given (codes "kind") Integer ∷
    given (codes "coast") Text ∷
    given (codes "origin") Text ∷
    []
    )
    (1 ∷ 2 ∷ 3 ∷ []) (1 ∷ 2 ∷ 3 ∷ [])

abbrev pub centre_table : Table
centre_table = keyed (codes "centre") 8
    (
    given (codes "game") Text ∷
    given (codes "province") Text ∷
    given (codes "power") Text ∷
    []
    )
    (1 ∷ 2 ∷ []) (1 ∷ 2 ∷ [])

abbrev pub pending_table : Table
pending_table = keyed (codes "pending") 10
    (
    given (codes "game") Text ∷
    given (codes "power") Text ∷
    given (codes "province") Text ∷
    given (codes "line") Text ∷
    []
    )
    (1 ∷ 2 ∷ 3 ∷ []) (1 ∷ 2 ∷ 3 ∷ [])

abbrev pub box_table : Table
box_table = keyed (codes "box") 12
    (
    given (codes "game") Text ∷
    given (codes "power") Text ∷
    given (codes "number") Integer ∷
    given (codes "grey") Integer ∷
    given (codes "writer") Text ∷
    given (codes "addressees") Text ∷
    given (codes "body") Text ∷
    []
    )
    (1 ∷ 2 ∷ 3 ∷ []) (1 ∷ 2 ∷ 3 ∷ [])

abbrev pub paper_table : Table
paper_table = keyed (codes "paper") 14
    (
    given (codes "game") Text ∷
    given (codes "number") Integer ∷
    given (codes "body") Text ∷
    []
    )
    (1 ∷ 2 ∷ []) (1 ∷ 2 ∷ [])

abbrev pub ballot_table : Table
ballot_table = keyed (codes "ballot") 16
    (
    given (codes "game") Text ∷
    given (codes "power") Text ∷
    given (codes "names") Text ∷
    []
    )
    (1 ∷ 2 ∷ []) (1 ∷ 2 ∷ [])

abbrev pub choice_table : Table
choice_table = keyed (codes "choice") 18
    (
    given (codes "game") Text ∷
    given (codes "intent") Integer ∷
    []
    )
    (1 ∷ []) (1 ∷ [])

-- what SQL makes of a key: an index after its table
abbrev pub index_of : List ℕ → ℕ → List ℕ → Index
index_of name table columns = record {
  name = name;
  tree = table + 1;
  table = table;
  columns = columns;
  order = record { digits = 0 };
  is_unique = true;
}

abbrev pub our_schema : Schema
our_schema = record {
  tables =
      desk_table ∷
      game_table ∷
      seat_table ∷
      unit_table ∷
      centre_table ∷
      pending_table ∷
      box_table ∷
      paper_table ∷
      ballot_table ∷
      choice_table ∷
      [];
  indexes =
      index_of (codes "sqlite_autoindex_desk_1") 0 (1 ∷ []) ∷
      index_of (codes "sqlite_autoindex_game_1") 2 (1 ∷ []) ∷
      index_of (codes "sqlite_autoindex_seat_1") 4 (1 ∷ 2 ∷ []) ∷
      index_of (codes "sqlite_autoindex_unit_1") 6 (1 ∷ 2 ∷ 3 ∷ []) ∷
      index_of (codes "sqlite_autoindex_centre_1") 8 (1 ∷ 2 ∷ []) ∷
      index_of (codes "sqlite_autoindex_pending_1") 10 (1 ∷ 2 ∷ 3 ∷ []) ∷
      index_of (codes "sqlite_autoindex_box_1") 12 (1 ∷ 2 ∷ 3 ∷ []) ∷
      index_of (codes "sqlite_autoindex_paper_1") 14 (1 ∷ 2 ∷ []) ∷
      index_of (codes "sqlite_autoindex_ballot_1") 16 (1 ∷ 2 ∷ []) ∷
      index_of (codes "sqlite_autoindex_choice_1") 18 (1 ∷ []) ∷
      [];
  views = [];
}
