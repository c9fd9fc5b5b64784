-- The texts of the tables, one after another, make our schema.
use Rattle.std.proofs.Common.{◌≡◌, ℕ, List, [], ◌∷◌, Ok, refl}
use Rattle.std.specs.Fmt.{digits}
use Rattle.sqlite.specs.Schema.{Schema}
use Rattle.sqlite.specs.Table.{Table}
use Rattle.sqlite.specs.Command.TheVariants.{CreateTable}
use Rattle.sqlite.specs.Effect.{IsDatabase}
use Rattle.sqlite.specs.State.{State, Executes}
use Rattle.sqlite.specs.Listing.{understood}
use Rattle.sqlite.proofs.Callers.{IsPlain, command_of, statement_of}
use Rattle.sqlite_tied.specs.Compute.{everything}
use Rattle.dip_store_sql.specs.NewTables.{IsBare}
use Rattle.dip_store_sql.proofs.Creating.{bare_more}
use Rattle.dip_store_sql.specs.Schema.{our_schema, desk_table, game_table, seat_table, unit_table, centre_table, pending_table, box_table, paper_table, ballot_table, choice_table}
use Rattle.dip_store_sql.specs.Creating.{no_schema, schema_with, create_desk, create_game, create_seat, create_unit, create_centre, create_pending, create_box, create_paper, create_ballot, create_choice}
use Rattle.dip_store_sql.proofs.Defined.{desk_defined, game_defined, seat_defined, unit_defined, centre_defined, pending_defined, box_defined, paper_defined, ballot_defined, choice_defined}

-- the tables so far
abbrev pub made : List Table → Schema
made ts = schema_with ts no_schema

pub all_made : made our_schema.tables ≡ our_schema
unfolding digits
all_made = refl

abbrev pub Makes : Schema → List ℕ → Type 0
Makes schema sql = (command_of (understood schema sql) ≡ CreateTable) × IsPlain (understood schema sql) × (statement_of sql (understood schema sql) ≡ sql)

desk_makes : Makes (no_schema) create_desk
unfolding understood everything
desk_makes = (refl, (refl, refl), refl)

pub desk_made : (old new : State) (count : ℕ) → IsBare (no_schema) old.now → Executes create_desk [] old new (Ok count) → IsBare (made (desk_table ∷ [])) new.now × IsDatabase new.now
desk_made old new count bare h = bare_more (no_schema) create_desk (record desk_table { tree = 0 }) desk_makes.0 desk_makes.1 desk_makes.2 desk_defined refl old new count bare h

game_makes : Makes (made (desk_table ∷ [])) create_game
unfolding understood everything
game_makes = (refl, (refl, refl), refl)

pub game_made : (old new : State) (count : ℕ) → IsBare (made (desk_table ∷ [])) old.now → Executes create_game [] old new (Ok count) → IsBare (made (desk_table ∷ game_table ∷ [])) new.now × IsDatabase new.now
game_made old new count bare h = bare_more (made (desk_table ∷ [])) create_game (record game_table { tree = 0 }) game_makes.0 game_makes.1 game_makes.2 game_defined refl old new count bare h

seat_makes : Makes (made (desk_table ∷ game_table ∷ [])) create_seat
unfolding understood everything
seat_makes = (refl, (refl, refl), refl)

pub seat_made : (old new : State) (count : ℕ) → IsBare (made (desk_table ∷ game_table ∷ [])) old.now → Executes create_seat [] old new (Ok count) → IsBare (made (desk_table ∷ game_table ∷ seat_table ∷ [])) new.now × IsDatabase new.now
seat_made old new count bare h = bare_more (made (desk_table ∷ game_table ∷ [])) create_seat (record seat_table { tree = 0 }) seat_makes.0 seat_makes.1 seat_makes.2 seat_defined refl old new count bare h

unit_makes : Makes (made (desk_table ∷ game_table ∷ seat_table ∷ [])) create_unit
unfolding understood everything
unit_makes = (refl, (refl, refl), refl)

pub unit_made : (old new : State) (count : ℕ) → IsBare (made (desk_table ∷ game_table ∷ seat_table ∷ [])) old.now → Executes create_unit [] old new (Ok count) → IsBare (made (desk_table ∷ game_table ∷ seat_table ∷ unit_table ∷ [])) new.now × IsDatabase new.now
unit_made old new count bare h = bare_more (made (desk_table ∷ game_table ∷ seat_table ∷ [])) create_unit (record unit_table { tree = 0 }) unit_makes.0 unit_makes.1 unit_makes.2 unit_defined refl old new count bare h

centre_makes : Makes (made (desk_table ∷ game_table ∷ seat_table ∷ unit_table ∷ [])) create_centre
unfolding understood everything
centre_makes = (refl, (refl, refl), refl)

pub centre_made : (old new : State) (count : ℕ) → IsBare (made (desk_table ∷ game_table ∷ seat_table ∷ unit_table ∷ [])) old.now → Executes create_centre [] old new (Ok count) → IsBare (made (desk_table ∷ game_table ∷ seat_table ∷ unit_table ∷ centre_table ∷ [])) new.now × IsDatabase new.now
centre_made old new count bare h = bare_more (made (desk_table ∷ game_table ∷ seat_table ∷ unit_table ∷ [])) create_centre (record centre_table { tree = 0 }) centre_makes.0 centre_makes.1 centre_makes.2 centre_defined refl old new count bare h

pending_makes : Makes (made (desk_table ∷ game_table ∷ seat_table ∷ unit_table ∷ centre_table ∷ [])) create_pending
unfolding understood everything
pending_makes = (refl, (refl, refl), refl)

pub pending_made : (old new : State) (count : ℕ) → IsBare (made (desk_table ∷ game_table ∷ seat_table ∷ unit_table ∷ centre_table ∷ [])) old.now → Executes create_pending [] old new (Ok count) → IsBare (made (desk_table ∷ game_table ∷ seat_table ∷ unit_table ∷ centre_table ∷ pending_table ∷ [])) new.now × IsDatabase new.now
pending_made old new count bare h = bare_more (made (desk_table ∷ game_table ∷ seat_table ∷ unit_table ∷ centre_table ∷ [])) create_pending (record pending_table { tree = 0 }) pending_makes.0 pending_makes.1 pending_makes.2 pending_defined refl old new count bare h

box_makes : Makes (made (desk_table ∷ game_table ∷ seat_table ∷ unit_table ∷ centre_table ∷ pending_table ∷ [])) create_box
unfolding understood everything
box_makes = (refl, (refl, refl), refl)

pub box_made : (old new : State) (count : ℕ) → IsBare (made (desk_table ∷ game_table ∷ seat_table ∷ unit_table ∷ centre_table ∷ pending_table ∷ [])) old.now → Executes create_box [] old new (Ok count) → IsBare (made (desk_table ∷ game_table ∷ seat_table ∷ unit_table ∷ centre_table ∷ pending_table ∷ box_table ∷ [])) new.now × IsDatabase new.now
box_made old new count bare h = bare_more (made (desk_table ∷ game_table ∷ seat_table ∷ unit_table ∷ centre_table ∷ pending_table ∷ [])) create_box (record box_table { tree = 0 }) box_makes.0 box_makes.1 box_makes.2 box_defined refl old new count bare h

paper_makes : Makes (made (desk_table ∷ game_table ∷ seat_table ∷ unit_table ∷ centre_table ∷ pending_table ∷ box_table ∷ [])) create_paper
unfolding understood everything
paper_makes = (refl, (refl, refl), refl)

pub paper_made : (old new : State) (count : ℕ) → IsBare (made (desk_table ∷ game_table ∷ seat_table ∷ unit_table ∷ centre_table ∷ pending_table ∷ box_table ∷ [])) old.now → Executes create_paper [] old new (Ok count) → IsBare (made (desk_table ∷ game_table ∷ seat_table ∷ unit_table ∷ centre_table ∷ pending_table ∷ box_table ∷ paper_table ∷ [])) new.now × IsDatabase new.now
paper_made old new count bare h = bare_more (made (desk_table ∷ game_table ∷ seat_table ∷ unit_table ∷ centre_table ∷ pending_table ∷ box_table ∷ [])) create_paper (record paper_table { tree = 0 }) paper_makes.0 paper_makes.1 paper_makes.2 paper_defined refl old new count bare h

pub ballot_makes : Makes (made (desk_table ∷ game_table ∷ seat_table ∷ unit_table ∷ centre_table ∷ pending_table ∷ box_table ∷ paper_table ∷ [])) create_ballot
unfolding understood everything
ballot_makes = (refl, (refl, refl), refl)

pub ballot_made : (old new : State) (count : ℕ) → IsBare (made (desk_table ∷ game_table ∷ seat_table ∷ unit_table ∷ centre_table ∷ pending_table ∷ box_table ∷ paper_table ∷ [])) old.now → Executes create_ballot [] old new (Ok count) → IsBare (made (desk_table ∷ game_table ∷ seat_table ∷ unit_table ∷ centre_table ∷ pending_table ∷ box_table ∷ paper_table ∷ ballot_table ∷ [])) new.now × IsDatabase new.now
ballot_made old new count bare h = bare_more (made (desk_table ∷ game_table ∷ seat_table ∷ unit_table ∷ centre_table ∷ pending_table ∷ box_table ∷ paper_table ∷ [])) create_ballot (record ballot_table { tree = 0 }) ballot_makes.0 ballot_makes.1 ballot_makes.2 ballot_defined refl old new count bare h

pub choice_makes : Makes (made (desk_table ∷ game_table ∷ seat_table ∷ unit_table ∷ centre_table ∷ pending_table ∷ box_table ∷ paper_table ∷ ballot_table ∷ [])) create_choice
unfolding understood everything
choice_makes = (refl, (refl, refl), refl)

pub choice_made : (old new : State) (count : ℕ) → IsBare (made (desk_table ∷ game_table ∷ seat_table ∷ unit_table ∷ centre_table ∷ pending_table ∷ box_table ∷ paper_table ∷ ballot_table ∷ [])) old.now → Executes create_choice [] old new (Ok count) → IsBare (made (desk_table ∷ game_table ∷ seat_table ∷ unit_table ∷ centre_table ∷ pending_table ∷ box_table ∷ paper_table ∷ ballot_table ∷ choice_table ∷ [])) new.now × IsDatabase new.now
choice_made old new count bare h = bare_more (made (desk_table ∷ game_table ∷ seat_table ∷ unit_table ∷ centre_table ∷ pending_table ∷ box_table ∷ paper_table ∷ ballot_table ∷ [])) create_choice (record choice_table { tree = 0 }) choice_makes.0 choice_makes.1 choice_makes.2 choice_defined refl old new count bare h
