-- How fields of a table are read: what a field says, or the fault of a field that is missing or of another type.
use Rattle.std.specs.Prelude.{ℕ, Bool, true, false, List, [], ◌∷◌, Option, Some, None, Result, Ok, Err, ◌&&◌}
use Rattle.std.specs.Str.{bytes_eq}
use Rattle.std.specs.List.{list_any}
use Rattle.toml.specs.Data.{Data, Items, no_items, item, Members, no_members, member, get_member, as_str, as_table, as_bool}
use Rattle.dip_names.specs.declared.faults.MapFault.{MapFault}
use Rattle.dip_names.specs.declared.faults.MapFault.TheVariants.{WrongField}
use Rattle.dip_names.specs.Results.{◌>>=◌}

-- what is there and of the type that is wanted
abbrev pub or_wrong : {A : Type 0} → Option A → Result A MapFault
or_wrong (Some x) = Ok x
or_wrong None = Err WrongField

-- each item of an array, read the same way
abbrev pub each_item : {A : Type 0} → (Data → Result A MapFault) → Items → Result (List A) MapFault
each_item f no_items = Ok []
each_item f (item d ds) = do
  x ← f d
  more ← each_item f ds
  Ok (x ∷ more)

-- each member of a table, with its key, read the same way
abbrev pub each_member : {A : Type 0} → (List ℕ → Data → Result A MapFault) → Members → Result (List A) MapFault
each_member f no_members = Ok []
each_member f (member key d ds) = do
  x ← f key d
  more ← each_member f ds
  Ok (x ∷ more)

-- the field of a key
unfoldable pub field_at : List ℕ → Members → Result Data MapFault
field_at key fields = or_wrong (get_member key fields)

-- the field of a key, which has to be a text
unfoldable pub text_at : List ℕ → Members → Result (List ℕ) MapFault
text_at key fields = do
  value ← field_at key fields
  or_wrong (as_str value)

-- the field of a key, which has to be a table
unfoldable pub table_at : List ℕ → Members → Result Members MapFault
table_at key fields = do
  value ← field_at key fields
  or_wrong (as_table value)

-- whether an option that may be there is set
abbrev pub flag_of : Option Data → Result Bool MapFault
flag_of None = Ok false
flag_of (Some value) = or_wrong (as_bool value)

-- each key is one of these
abbrev pub keys_are_among : List (List ℕ) → Members → Bool
keys_are_among keys no_members = true
keys_are_among keys (member key value more) = list_any (λ k. bytes_eq k key) keys && keys_are_among keys more
