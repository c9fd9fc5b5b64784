-- What a schema knows of the tables that a text names.
use Rattle.std.specs.Prelude.{◌≡◌, ℕ, Bool, true, false, bytes_eq, codes, List, [], ◌∷◌, Ok}
use Rattle.sqlite.specs.declared.error.Error.{Error}
use Rattle.sqlite.specs.declared.error.Error.TheVariants.{SqlInputError}
use Rattle.std.specs.List.{AllByRecursion, list_any}
use Rattle.sqlite.specs.Schema.{Schema}
use Rattle.sqlite.specs.Listing.{understood}
use Rattle.dip_store_sql.specs.Compiled.{Compiled}
use Rattle.dip_store_sql.specs.Statements.{find_desk_text, find_game_text, list_seats_text, list_units_text, list_centres_text, list_orders_text, find_item_text, find_paper_text, find_ballot_text, find_choice_text}

-- the schema has a table of this name
abbrev pub has_table : List ℕ → Schema → Bool
has_table name schema = list_any (λ t. bytes_eq t.name name) schema.tables

-- the schema has what the text names
abbrev pub IsKnown : Schema → List ℕ → Type 0
IsKnown schema text = (c : Compiled) × (understood schema text ≡ Ok c)

-- the error says that a text is wrong, or names what the schema hasn't
abbrev pub is_of_text : Error → Bool
is_of_text (SqlInputError fault) = true
is_of_text _ = false

-- for each table of version 1 a text that reads it, and for each of our tables
abbrev pub old_texts : List (List ℕ)
old_texts =
    find_desk_text ∷
    find_game_text ∷
    list_seats_text ∷
    list_units_text ∷
    list_centres_text ∷
    list_orders_text ∷
    find_item_text ∷
    find_paper_text ∷
    []

abbrev pub table_texts : List (List ℕ)
table_texts =
    find_desk_text ∷
    find_game_text ∷
    list_seats_text ∷
    list_units_text ∷
    list_centres_text ∷
    list_orders_text ∷
    find_item_text ∷
    find_paper_text ∷
    find_ballot_text ∷
    find_choice_text ∷
    []

-- our tables are there, with the columns that are read of them
abbrev pub HasOurTables : Schema → Type 0
HasOurTables schema = AllByRecursion (IsKnown schema) table_texts

-- those of version 1 are
abbrev pub HasOldTables : Schema → Type 0
HasOldTables schema = AllByRecursion (IsKnown schema) old_texts

-- they are, and no table of ballots, which those of version 2 have
abbrev pub IsOfVersion1 : Schema → Type 0
IsOfVersion1 schema = (has_table (codes "ballot") schema ≡ false) × HasOldTables schema
