-- Press items, by the texts of their columns.
use Rattle.std.specs.Prelude.{ℕ, List, Bool, codes, if◌then◌else◌, string_bytes}
use Rattle.dip_store_tables.specs.Tables.{BoxRow}
use Rattle.dip_store_tables.specs.Writing.{number_of}
use Rattle.dip_store_changes.specs.declared.items.ItemTexts.{ItemTexts}

-- an item of an inbox, by the texts of its columns
abbrev pub boxed : List ℕ → List ℕ → ℕ → ItemTexts → BoxRow
boxed game power number x = record {
  game = game;
  power = power;
  number = number;
  grey = number_of x.grey;
  writer = string_bytes x.writer;
  addressees = string_bytes x.addressees;
  body = string_bytes x.body;
}

-- whom grey press is for
abbrev pub readers_word : Bool → List ℕ
readers_word to_all = if to_all then codes "all" else codes "you"
