-- Queries of one table.
use Rattle.std.specs.Prelude.{ℕ, pos, negsuc, Bool, false, List, [], ◌∷◌, None}
use Rattle.std.specs.List.{list_all}
use Rattle.sqlite.specs.declared.types.Value.TheVariants.{Int}
use Rattle.sqlite.specs.Order.{Row}
use Rattle.sqlite.specs.Term.{Term, lit, holds}
use Rattle.sqlite_value.specs.declared.keys.Key.{Key}
use Rattle.sqlite.specs.Query.{Query, inner, end}

-- what is shown of each row of the table that passes the tests; no row is left out of it, and none is joined to another
abbrev pub plain_query : ℕ → List Term → List Term → List (Term × Key) → Query
plain_query tree tests shown order = record {
  from = inner tree end;
  filter = tests;
  group = None;
  project = shown;
  distinct = false;
  collations = [];
  order = order;
  limit = lit (Int (negsuc 0));
  offset = lit (Int (pos 0));
}

-- whether a row passes the tests, with these parameters
abbrev pub passes : List Term → Row → Row → Bool
passes tests params r = list_all (holds (params ∷ r ∷ [])) tests
