-- What a statement that went well did to the trees.
use Rattle.std.specs.Prelude.{◌≡◌}
use Rattle.sqlite.specs.Schema.{Schema}
use Rattle.sqlite_schema.specs.declared.schema.Keys.TheVariants.{Enforced}
use Rattle.sqlite.specs.Edit.{Edit, Applies}
use Rattle.sqlite.specs.Effect.{Database, IsDatabase}

-- an edit of one table, and nothing else
pub record Edits (schema : Schema) (edit : Edit) (old new : Database) : Type 0 where
  pub schema_is : new.schema ≡ schema
  pub sound : IsDatabase new
  pub applies : Applies schema Enforced old.trees edit new.trees
