-- Each text that writes is one statement with so many parameters.
use Rattle.std.proofs.Common.{length, refl}
use Rattle.sqlite_tied.specs.Compute.{everything}
use Rattle.sqlite.specs.Listing.{understood}
use Rattle.dip_store_sql.specs.Asking.{IsAsked}
use Rattle.dip_store_sql.specs.Schema.{our_schema}
use Rattle.dip_store_sql.specs.Statements as text

pub add_desk : IsAsked (length text.add_desk_text) 2 (understood our_schema text.add_desk_text)
unfolding understood everything
add_desk = (refl, refl)

pub add_game : IsAsked (length text.add_game_text) 9 (understood our_schema text.add_game_text)
unfolding understood everything
add_game = (refl, refl)

pub add_seat : IsAsked (length text.add_seat_text) 3 (understood our_schema text.add_seat_text)
unfolding understood everything
add_seat = (refl, refl)

pub add_unit : IsAsked (length text.add_unit_text) 7 (understood our_schema text.add_unit_text)
unfolding understood everything
add_unit = (refl, refl)

pub add_centre : IsAsked (length text.add_centre_text) 3 (understood our_schema text.add_centre_text)
unfolding understood everything
add_centre = (refl, refl)

pub add_pending : IsAsked (length text.add_pending_text) 4 (understood our_schema text.add_pending_text)
unfolding understood everything
add_pending = (refl, refl)

pub add_three_pending : IsAsked (length text.add_three_pending_text) 8 (understood our_schema text.add_three_pending_text)
unfolding understood everything
add_three_pending = (refl, refl)

pub add_item : IsAsked (length text.add_item_text) 7 (understood our_schema text.add_item_text)
unfolding understood everything
add_item = (refl, refl)

pub add_paper : IsAsked (length text.add_paper_text) 3 (understood our_schema text.add_paper_text)
unfolding understood everything
add_paper = (refl, refl)

pub add_ballot : IsAsked (length text.add_ballot_text) 3 (understood our_schema text.add_ballot_text)
unfolding understood everything
add_ballot = (refl, refl)

pub add_choice : IsAsked (length text.add_choice_text) 2 (understood our_schema text.add_choice_text)
unfolding understood everything
add_choice = (refl, refl)

pub drop_seats : IsAsked (length text.drop_seats_text) 1 (understood our_schema text.drop_seats_text)
unfolding understood everything
drop_seats = (refl, refl)

pub drop_units : IsAsked (length text.drop_units_text) 1 (understood our_schema text.drop_units_text)
unfolding understood everything
drop_units = (refl, refl)

pub drop_centres : IsAsked (length text.drop_centres_text) 1 (understood our_schema text.drop_centres_text)
unfolding understood everything
drop_centres = (refl, refl)

pub drop_pending : IsAsked (length text.drop_pending_text) 1 (understood our_schema text.drop_pending_text)
unfolding understood everything
drop_pending = (refl, refl)

pub drop_orders : IsAsked (length text.drop_orders_text) 2 (understood our_schema text.drop_orders_text)
unfolding understood everything
drop_orders = (refl, refl)

pub drop_items : IsAsked (length text.drop_items_text) 1 (understood our_schema text.drop_items_text)
unfolding understood everything
drop_items = (refl, refl)

pub drop_papers : IsAsked (length text.drop_papers_text) 1 (understood our_schema text.drop_papers_text)
unfolding understood everything
drop_papers = (refl, refl)

pub drop_ballots : IsAsked (length text.drop_ballots_text) 1 (understood our_schema text.drop_ballots_text)
unfolding understood everything
drop_ballots = (refl, refl)

pub drop_choices : IsAsked (length text.drop_choices_text) 1 (understood our_schema text.drop_choices_text)
unfolding understood everything
drop_choices = (refl, refl)

pub note_desk : IsAsked (length text.note_desk_text) 3 (understood our_schema text.note_desk_text)
unfolding understood everything
note_desk = (refl, refl)

pub renew_seat : IsAsked (length text.renew_seat_text) 8 (understood our_schema text.renew_seat_text)
unfolding understood everything
renew_seat = (refl, refl)

pub note_ballot : IsAsked (length text.note_ballot_text) 3 (understood our_schema text.note_ballot_text)
unfolding understood everything
note_ballot = (refl, refl)

pub clear_votes : IsAsked (length text.clear_votes_text) 0 (understood our_schema text.clear_votes_text)
unfolding understood everything
clear_votes = (refl, refl)

pub set_version : IsAsked (length text.set_version_text) 0 (understood our_schema text.set_version_text)
unfolding understood everything
set_version = (refl, refl)

pub count_item : IsAsked (length text.count_item_text) 3 (understood our_schema text.count_item_text)
unfolding understood everything
count_item = (refl, refl)

pub replace_digest : IsAsked (length text.replace_digest_text) 3 (understood our_schema text.replace_digest_text)
unfolding understood everything
replace_digest = (refl, refl)

pub renew_game : IsAsked (length text.renew_game_text) 9 (understood our_schema text.renew_game_text)
unfolding understood everything
renew_game = (refl, refl)
