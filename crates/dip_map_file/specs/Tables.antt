-- What a file's tables say, in words of TOML.
use Rattle.std.specs.Prelude.{◌≡◌, ◌++◌, ℕ, List, [], ◌∷◌, codes, Some}
pub use Rattle.toml.specs.Data.{Data, string, boolean, array, table, Items, Members, get_item, get_member}
pub use Rattle.toml.specs.Parse.{parse_document}
use Rattle.dip_names.specs.declared.names.Terrain.{Terrain}
use Rattle.dip_names.specs.declared.names.Terrain.TheVariants.{Inland, Coast, Sea}

-- a list in a table names a text
abbrev pub Names : Members → List ℕ → List ℕ → Type 0
Names t key text =
    (items : Items) × (get_member key t ≡ Some (array items))
    × ((n : ℕ) × (get_item n items ≡ Some (string text)))

-- a field of a table is a text
abbrev pub Says : Members → List ℕ → List ℕ → Type 0
Says t key text = get_member key t ≡ Some (string text)

-- the table of a key in one of the file's tables
abbrev pub HasTable : Members → List ℕ → List ℕ → Members → Type 0
HasTable file group key t =
    (all : Members) × (get_member group file ≡ Some (table all)) × (get_member key all ≡ Some (table t))

-- what a file writes of a province's kind
abbrev pub terrain_word : Terrain → List ℕ
terrain_word Inland = codes "inland"
terrain_word Coast = codes "coast"
terrain_word Sea = codes "sea"

-- a place as it is written: a code, and after a slash the name of a coast, if it has one
abbrev pub behind_slash : List ℕ → List ℕ
behind_slash [] = []
behind_slash (b ∷ bs) = 47 ∷ b ∷ bs

abbrev pub site_text : List ℕ → List ℕ → List ℕ
site_text code coast = code ++ behind_slash coast

-- where a fleet goes from a coast of a province: the only coast has no name and the list `fleet`, another one a list in `coasts`
abbrev pub FleetNames : Members → List ℕ → List ℕ → Type 0
FleetNames t [] text = Names t (codes "fleet") text
FleetNames t (b ∷ name) text =
    (coasts : Members) × (get_member (codes "coasts") t ≡ Some (table coasts)) × Names coasts (b ∷ name) text
