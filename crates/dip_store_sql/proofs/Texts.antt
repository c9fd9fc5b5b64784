-- What the texts mean.
use Rattle.std.proofs.Common.{[], ◌∷◌, codes, refl}
use Rattle.sqlite.specs.Term.{col}
use Rattle.sqlite.specs.Source.TheVariants.{Values}
use Rattle.sqlite.specs.Command.TheVariants.{Insert, Update, Delete}
use Rattle.sqlite_tied.specs.Compute.{everything}
use Rattle.sqlite.specs.Listing.{understood}
use Rattle.dip_store_sql.specs.Queries.{plain_query}
use Rattle.dip_store_sql.specs.Old.{old_schema}
use Rattle.dip_store_sql.specs.Asking.{Means, Asks, AsksIn, by_one, by_two, by_first}
use Rattle.dip_store_sql.specs.Statements.{add_desk_text, add_game_text, add_seat_text, add_unit_text, add_centre_text, add_pending_text, add_three_pending_text, add_item_text, add_paper_text, add_ballot_text, add_choice_text, drop_seats_text, drop_units_text, drop_centres_text, drop_pending_text, drop_orders_text, drop_items_text, drop_papers_text, drop_ballots_text, drop_choices_text, note_desk_text, renew_seat_text, note_ballot_text, clear_votes_text, set_version_text, count_item_text, replace_digest_text, renew_game_text, find_desk_text, find_game_text, find_seat_text, find_digest_text, find_item_text, find_paper_text, find_ballot_text, find_choice_text, list_seats_text, list_units_text, list_centres_text, list_orders_text, list_games_text, list_votes_text, add_desk_values, add_game_values, add_seat_values, add_unit_values, add_centre_values, add_pending_values, add_three_pending_values, add_item_values, add_paper_values, add_ballot_values, add_choice_values, note_desk_row, renew_seat_row, note_ballot_row, clear_votes_row, set_version_row, count_item_row, replace_digest_row, renew_game_row, find_desk_query, find_game_query, find_seat_query, find_digest_query, find_item_query, find_paper_query, find_ballot_query, find_choice_query, list_seats_query, list_units_query, list_centres_query, list_orders_query, list_games_query, list_votes_query}

pub add_desk : Means add_desk_text (Insert 0 (Values add_desk_values 8))
unfolding understood everything
add_desk = (refl, (refl, refl))

pub add_game : Means add_game_text (Insert 1 (Values add_game_values 10))
unfolding understood everything
add_game = (refl, (refl, refl))

pub add_seat : Means add_seat_text (Insert 2 (Values add_seat_values 10))
unfolding understood everything
add_seat = (refl, (refl, refl))

pub add_unit : Means add_unit_text (Insert 3 (Values add_unit_values 8))
unfolding understood everything
add_unit = (refl, (refl, refl))

pub add_centre : Means add_centre_text (Insert 4 (Values add_centre_values 4))
unfolding understood everything
add_centre = (refl, (refl, refl))

pub add_pending : Means add_pending_text (Insert 5 (Values add_pending_values 5))
unfolding understood everything
add_pending = (refl, (refl, refl))

pub add_three_pending : Means add_three_pending_text (Insert 5 (Values add_three_pending_values 5))
unfolding understood everything
add_three_pending = (refl, (refl, refl))

pub add_item : Means add_item_text (Insert 6 (Values add_item_values 8))
unfolding understood everything
add_item = (refl, (refl, refl))

pub add_paper : Means add_paper_text (Insert 7 (Values add_paper_values 4))
unfolding understood everything
add_paper = (refl, (refl, refl))

pub add_ballot : Means add_ballot_text (Insert 8 (Values add_ballot_values 4))
unfolding understood everything
add_ballot = (refl, (refl, refl))

pub add_choice : Means add_choice_text (Insert 9 (Values add_choice_values 3))
unfolding understood everything
add_choice = (refl, (refl, refl))

pub drop_seats : Means drop_seats_text (Delete 2 (record { lets = []; body = plain_query 4 by_one (col 1 0 ∷ []) [] }))
unfolding understood everything
drop_seats = (refl, (refl, refl))

pub drop_units : Means drop_units_text (Delete 3 (record { lets = []; body = plain_query 6 by_one (col 1 0 ∷ []) [] }))
unfolding understood everything
drop_units = (refl, (refl, refl))

pub drop_centres : Means drop_centres_text (Delete 4 (record { lets = []; body = plain_query 8 by_one (col 1 0 ∷ []) [] }))
unfolding understood everything
drop_centres = (refl, (refl, refl))

pub drop_pending : Means drop_pending_text (Delete 5 (record { lets = []; body = plain_query 10 by_one (col 1 0 ∷ []) [] }))
unfolding understood everything
drop_pending = (refl, (refl, refl))

pub drop_orders : Means drop_orders_text (Delete 5 (record { lets = []; body = plain_query 10 by_two (col 1 0 ∷ []) [] }))
unfolding understood everything
drop_orders = (refl, (refl, refl))

pub drop_items : Means drop_items_text (Delete 6 (record { lets = []; body = plain_query 12 by_one (col 1 0 ∷ []) [] }))
unfolding understood everything
drop_items = (refl, (refl, refl))

pub drop_papers : Means drop_papers_text (Delete 7 (record { lets = []; body = plain_query 14 by_one (col 1 0 ∷ []) [] }))
unfolding understood everything
drop_papers = (refl, (refl, refl))

pub drop_ballots : Means drop_ballots_text (Delete 8 (record { lets = []; body = plain_query 16 by_one (col 1 0 ∷ []) [] }))
unfolding understood everything
drop_ballots = (refl, (refl, refl))

pub drop_choices : Means drop_choices_text (Delete 9 (record { lets = []; body = plain_query 18 by_one (col 1 0 ∷ []) [] }))
unfolding understood everything
drop_choices = (refl, (refl, refl))

pub note_desk : Means note_desk_text (Update 0 (record { lets = []; body = plain_query 0 by_first note_desk_row [] }))
unfolding understood everything
note_desk = (refl, (refl, refl))

pub renew_seat : Means renew_seat_text (Update 2 (record { lets = []; body = plain_query 4 by_two renew_seat_row [] }))
unfolding understood everything
renew_seat = (refl, (refl, refl))

pub note_ballot : Means note_ballot_text (Update 8 (record { lets = []; body = plain_query 16 by_two note_ballot_row [] }))
unfolding understood everything
note_ballot = (refl, (refl, refl))

pub clear_votes : Means clear_votes_text (Update 2 (record { lets = []; body = plain_query 4 [] clear_votes_row [] }))
unfolding understood everything
clear_votes = (refl, (refl, refl))

pub set_version : Means set_version_text (Update 0 (record { lets = []; body = plain_query 0 by_first set_version_row [] }))
unfolding understood everything
set_version = (refl, (refl, refl))

pub count_item : Means count_item_text (Update 2 (record { lets = []; body = plain_query 4 by_two count_item_row [] }))
unfolding understood everything
count_item = (refl, (refl, refl))

pub replace_digest : Means replace_digest_text (Update 2 (record { lets = []; body = plain_query 4 by_two replace_digest_row [] }))
unfolding understood everything
replace_digest = (refl, (refl, refl))

pub renew_game : Means renew_game_text (Update 1 (record { lets = []; body = plain_query 2 by_one renew_game_row [] }))
unfolding understood everything
renew_game = (refl, (refl, refl))

pub find_desk : Asks find_desk_text 0 find_desk_query (codes "version" ∷ codes "map" ∷ codes "digest" ∷ codes "last" ∷ codes "kept" ∷ codes "reply" ∷ [])
unfolding understood everything
find_desk = record { means = (refl, (refl, refl)); unlisted = refl; asked = (refl, refl) }

pub find_game : Asks find_game_text 1 find_game_query (codes "year" ∷ codes "phase" ∷ codes "status" ∷ codes "due" ∷ codes "period" ∷ codes "grey" ∷ codes "papers" ∷ codes "standoff" ∷ [])
unfolding understood everything
find_game = record { means = (refl, (refl, refl)); unlisted = refl; asked = (refl, refl) }

pub find_seat : Asks find_seat_text 2 find_seat_query (codes "digest" ∷ codes "vote" ∷ codes "last" ∷ codes "kept" ∷ codes "reply" ∷ codes "sent" ∷ codes "items" ∷ [])
unfolding understood everything
find_seat = record { means = (refl, (refl, refl)); unlisted = refl; asked = (refl, refl) }

pub find_digest : Asks find_digest_text 2 find_digest_query (codes "digest" ∷ [])
unfolding understood everything
find_digest = record { means = (refl, (refl, refl)); unlisted = refl; asked = (refl, refl) }

pub find_ballot : Asks find_ballot_text 2 find_ballot_query (codes "names" ∷ [])
unfolding understood everything
find_ballot = record { means = (refl, (refl, refl)); unlisted = refl; asked = (refl, refl) }

pub find_choice : Asks find_choice_text 1 find_choice_query (codes "intent" ∷ [])
unfolding understood everything
find_choice = record { means = (refl, (refl, refl)); unlisted = refl; asked = (refl, refl) }

pub find_item : Asks find_item_text 3 find_item_query (codes "grey" ∷ codes "writer" ∷ codes "addressees" ∷ codes "body" ∷ [])
unfolding understood everything
find_item = record { means = (refl, (refl, refl)); unlisted = refl; asked = (refl, refl) }

pub find_paper : Asks find_paper_text 2 find_paper_query (codes "body" ∷ [])
unfolding understood everything
find_paper = record { means = (refl, (refl, refl)); unlisted = refl; asked = (refl, refl) }

pub list_seats : Asks list_seats_text 1 list_seats_query (codes "power" ∷ codes "digest" ∷ codes "vote" ∷ codes "last" ∷ codes "kept" ∷ codes "reply" ∷ codes "sent" ∷ codes "items" ∷ [])
unfolding understood everything
list_seats = record { means = (refl, (refl, refl)); unlisted = refl; asked = (refl, refl) }

pub list_units : Asks list_units_text 1 list_units_query (codes "province" ∷ codes "dislodged" ∷ codes "power" ∷ codes "kind" ∷ codes "coast" ∷ codes "origin" ∷ [])
unfolding understood everything
list_units = record { means = (refl, (refl, refl)); unlisted = refl; asked = (refl, refl) }

pub list_centres : Asks list_centres_text 1 list_centres_query (codes "province" ∷ codes "power" ∷ [])
unfolding understood everything
list_centres = record { means = (refl, (refl, refl)); unlisted = refl; asked = (refl, refl) }

pub list_orders : Asks list_orders_text 2 list_orders_query (codes "province" ∷ codes "line" ∷ [])
unfolding understood everything
list_orders = record { means = (refl, (refl, refl)); unlisted = refl; asked = (refl, refl) }

-- in a store of version 1
pub find_old_desk : AsksIn old_schema find_desk_text 0 find_desk_query (codes "version" ∷ codes "map" ∷ codes "digest" ∷ codes "last" ∷ codes "kept" ∷ codes "reply" ∷ [])
unfolding understood everything
find_old_desk = record { means = (refl, (refl, refl)); unlisted = refl; asked = (refl, refl) }

pub list_games : AsksIn old_schema list_games_text 0 list_games_query (codes "name" ∷ [])
unfolding understood everything
list_games = record { means = (refl, (refl, refl)); unlisted = refl; asked = (refl, refl) }

pub list_votes : AsksIn old_schema list_votes_text 0 list_votes_query (codes "game" ∷ codes "power" ∷ codes "vote" ∷ [])
unfolding understood everything
list_votes = record { means = (refl, (refl, refl)); unlisted = refl; asked = (refl, refl) }
