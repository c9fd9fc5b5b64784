-- The texts that make the tables.
use Rattle.std.proofs.Common.{◌≡◌, Ok, refl}
use Rattle.sqlite_tied.specs.Compute.{everything}
use Rattle.sqlite.specs.Listing.{understood}
use Rattle.sqlite.specs.Compile.{table_defined_by}
use Rattle.dip_store_sql.specs.Creating.{create_desk, create_game, create_seat, create_unit, create_centre, create_pending, create_box, create_paper, create_ballot, create_choice}
use Rattle.dip_store_sql.specs.Schema.{desk_table, game_table, seat_table, unit_table, centre_table, pending_table, box_table, paper_table, ballot_table, choice_table}

pub desk_defined : table_defined_by create_desk ≡ Ok (record desk_table { tree = 0 })
unfolding understood everything
desk_defined = refl

pub game_defined : table_defined_by create_game ≡ Ok (record game_table { tree = 0 })
unfolding understood everything
game_defined = refl

pub seat_defined : table_defined_by create_seat ≡ Ok (record seat_table { tree = 0 })
unfolding understood everything
seat_defined = refl

pub unit_defined : table_defined_by create_unit ≡ Ok (record unit_table { tree = 0 })
unfolding understood everything
unit_defined = refl

pub centre_defined : table_defined_by create_centre ≡ Ok (record centre_table { tree = 0 })
unfolding understood everything
centre_defined = refl

pub pending_defined : table_defined_by create_pending ≡ Ok (record pending_table { tree = 0 })
unfolding understood everything
pending_defined = refl

pub box_defined : table_defined_by create_box ≡ Ok (record box_table { tree = 0 })
unfolding understood everything
box_defined = refl

pub paper_defined : table_defined_by create_paper ≡ Ok (record paper_table { tree = 0 })
unfolding understood everything
paper_defined = refl

pub ballot_defined : table_defined_by create_ballot ≡ Ok (record ballot_table { tree = 0 })
unfolding understood everything
ballot_defined = refl

pub choice_defined : table_defined_by create_choice ≡ Ok (record choice_table { tree = 0 })
unfolding understood everything
choice_defined = refl
