-- What is said of the text of a statement, and of a query.
use Rattle.std.specs.Prelude.{◌≡◌, ◌≤◌, ℕ, pos, true, false, List, [], ◌∷◌, length, Result, Ok, Err, nat_le}
use Rattle.sqlite.specs.declared.types.Value.TheVariants.{Int}
use Rattle.sqlite.specs.Order.{Row}
use Rattle.sqlite.specs.Term.{Term, lit, col, op2}
use Rattle.sqlite_value.specs.declared.keys.Key.{Key}
use Rattle.sqlite_sql.specs.declared.ops.BinaryOp.TheVariants.{Compare}
use Rattle.sqlite_sql.specs.declared.ops.CompareOp.TheVariants.{Eq}
use Rattle.sqlite.specs.Collation.TheVariants.{Binary}
use Rattle.sqlite.specs.Command.{Command}
use Rattle.sqlite.specs.Command.TheVariants.{Select}
use Rattle.sqlite.specs.Query.{Query}
use Rattle.sqlite.specs.Schema.{Schema}
use Rattle.sqlite.specs.Given.{IsPlain}
use Rattle.sqlite.specs.Listing.{understood, reads_listing}
use Rattle.sqlite_resolve.specs.declared.compiled.Compiled.{Compiled}
use Rattle.sqlite_resolve.specs.declared.error.CompileError.{CompileError}
use Rattle.sqlite_typing.specs.Types.{accepts_program}
use Rattle.dip_store_sql.specs.Schema.{our_schema}

-- the first columns are the first parameters: one, two, or three of them; or the first is 1
abbrev pub is_equal : Term → Term → Term
is_equal a b = op2 (Compare Eq Binary) a b

abbrev pub by_one : List Term
by_one = is_equal (col 1 1) (col 0 0) ∷ []

abbrev pub by_two : List Term
by_two = is_equal (col 1 1) (col 0 0) ∷ is_equal (col 1 2) (col 0 1) ∷ []

abbrev pub by_three : List Term
by_three =
    is_equal (col 1 1) (col 0 0) ∷ is_equal (col 1 2) (col 0 1) ∷ is_equal (col 1 3) (col 0 2) ∷ []

abbrev pub by_first : List Term
by_first = is_equal (col 1 1) (lit (Int (pos 1))) ∷ []

-- in the order in which the rows were put in
abbrev pub in_turn : List (Term × Key)
in_turn = (col 1 0, record { collation = Binary; descending = false }) ∷ []

abbrev pub command_in : Result Compiled CompileError → Command → Type 0
command_in (Ok c) command = c.command ≡ command
command_in (Err e) command = ⊥

-- the text is one statement, with so many parameters, and asks for no time
abbrev pub IsAsked : ℕ → ℕ → Result Compiled CompileError → Type 0
IsAsked size count (Ok c) = (nat_le size c.tail ≡ true) × (length c.names ≡ count)
IsAsked size count (Err e) = ⊥

-- whatever a schema has: where the text is understood, it is one statement, writes nothing that it shows, and asks for no time
pub record IsWhole (text : List ℕ) : Type 0 where
  pub reads : (schema : Schema) (c : Compiled) → understood schema text ≡ Ok c
      → (length text ≤ c.tail) × IsPlain (Ok c)

-- against this schema the text is this command
abbrev pub MeansIn : Schema → List ℕ → Command → Type 0
MeansIn schema text command = command_in (understood schema text) command × IsPlain (understood schema text)

-- against this schema the text is this query, of so many parameters
pub record AsksIn (schema : Schema) (text : List ℕ) (count : ℕ) (q : Query) (names : List (List ℕ))
    : Type 0 where
  pub means : MeansIn schema text (Select (record { lets = []; body = q }) names)
  pub unlisted : reads_listing schema text ≡ false
  pub asked : IsAsked (length text) count (understood schema text)

-- parameters of these kinds may be compared with the columns
abbrev pub AcceptsIn : Schema → Query → Row → Type 0
AcceptsIn schema q params = accepts_program schema [] q params ≡ true

-- against our schema the text is this command
abbrev pub Means : List ℕ → Command → Type 0
Means = MeansIn our_schema

abbrev pub Asks : List ℕ → ℕ → Query → List (List ℕ) → Type 0
Asks = AsksIn our_schema

abbrev pub Accepts : Query → Row → Type 0
Accepts = AcceptsIn our_schema
