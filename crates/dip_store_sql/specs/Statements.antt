-- The texts of the statements, and the columns that they show or write.
use Rattle.std.specs.Prelude.{ℕ, pos, List, [], ◌∷◌, codes}
use Rattle.sqlite.specs.declared.types.Value.TheVariants.{Null, Int, Text, Blob}
use Rattle.sqlite.specs.Term.{Term, lit, col}
use Rattle.sqlite.specs.Query.{Query}
use Rattle.dip_store_sql.specs.Queries.{plain_query}
use Rattle.dip_store_sql.specs.Asking.{by_one, by_two, by_three, by_first, in_turn}

abbrev pub add_desk_text : List ℕ
add_desk_text =
    codes "INSERT INTO desk (id, version, map, digest, last, kept, reply) VALUES (1, 2, ?1, ?2, 0, x'', '')"

abbrev pub add_desk_values : List Term
add_desk_values =
    lit Null ∷ lit (Int (pos 1)) ∷ lit (Int (pos 2)) ∷ col 0 0 ∷ col 0 1 ∷ lit (Int (pos 0)) ∷
    lit (Blob []) ∷ lit (Text []) ∷ []

abbrev pub add_game_text : List ℕ
add_game_text =
    codes "INSERT INTO game (name, year, phase, status, due, period, grey, papers, standoff) VALUES (?1, ?2, ?3, ?4, ?5, ?6, ?7, ?8, ?9)"

abbrev pub add_game_values : List Term
add_game_values =
    lit Null ∷ col 0 0 ∷ col 0 1 ∷ col 0 2 ∷ col 0 3 ∷ col 0 4 ∷ col 0 5 ∷ col 0 6 ∷ col 0 7 ∷
    col 0 8 ∷ []

abbrev pub add_seat_text : List ℕ
add_seat_text =
    codes "INSERT INTO seat (game, power, digest, vote, last, kept, reply, sent, items) VALUES (?1, ?2, ?3, 0, 0, x'', '', 0, 0)"

abbrev pub add_seat_values : List Term
add_seat_values =
    lit Null ∷ col 0 0 ∷ col 0 1 ∷ col 0 2 ∷ lit (Int (pos 0)) ∷ lit (Int (pos 0)) ∷ lit (Blob []) ∷
    lit (Text []) ∷ lit (Int (pos 0)) ∷ lit (Int (pos 0)) ∷ []

abbrev pub add_unit_text : List ℕ
add_unit_text =
    codes "INSERT INTO unit (game, province, dislodged, power, kind, coast, origin) VALUES (?1, ?2, ?3, ?4, ?5, ?6, ?7)"

abbrev pub add_unit_values : List Term
add_unit_values =
    lit Null ∷ col 0 0 ∷ col 0 1 ∷ col 0 2 ∷ col 0 3 ∷ col 0 4 ∷ col 0 5 ∷ col 0 6 ∷ []

abbrev pub add_centre_text : List ℕ
add_centre_text =
    codes "INSERT INTO centre (game, province, power) VALUES (?1, ?2, ?3)"

abbrev pub add_centre_values : List Term
add_centre_values = lit Null ∷ col 0 0 ∷ col 0 1 ∷ col 0 2 ∷ []

abbrev pub add_pending_text : List ℕ
add_pending_text =
    codes "INSERT INTO pending (game, power, province, line) VALUES (?1, ?2, ?3, ?4)"

abbrev pub add_pending_values : List Term
add_pending_values = lit Null ∷ col 0 0 ∷ col 0 1 ∷ col 0 2 ∷ col 0 3 ∷ []

-- three standing orders of a seat in one INSERT
abbrev pub add_three_pending_text : List ℕ
add_three_pending_text =
    codes "INSERT INTO pending (game, power, province, line) VALUES (?1, ?2, ?3, ?4), (?1, ?2, ?5, ?6), (?1, ?2, ?7, ?8)"

abbrev pub add_three_pending_values : List Term
add_three_pending_values =
    lit Null ∷ col 0 0 ∷ col 0 1 ∷ col 0 2 ∷ col 0 3 ∷ lit Null ∷ col 0 0 ∷ col 0 1 ∷ col 0 4 ∷
    col 0 5 ∷ lit Null ∷ col 0 0 ∷ col 0 1 ∷ col 0 6 ∷ col 0 7 ∷ []

abbrev pub add_item_text : List ℕ
add_item_text =
    codes "INSERT INTO box (game, power, number, grey, writer, addressees, body) VALUES (?1, ?2, ?3, ?4, ?5, ?6, ?7)"

abbrev pub add_item_values : List Term
add_item_values =
    lit Null ∷ col 0 0 ∷ col 0 1 ∷ col 0 2 ∷ col 0 3 ∷ col 0 4 ∷ col 0 5 ∷ col 0 6 ∷ []

abbrev pub add_paper_text : List ℕ
add_paper_text =
    codes "INSERT INTO paper (game, number, body) VALUES (?1, ?2, ?3)"

abbrev pub add_paper_values : List Term
add_paper_values = lit Null ∷ col 0 0 ∷ col 0 1 ∷ col 0 2 ∷ []

abbrev pub add_ballot_text : List ℕ
add_ballot_text =
    codes "INSERT INTO ballot (game, power, names) VALUES (?1, ?2, ?3)"

abbrev pub add_ballot_values : List Term
add_ballot_values = lit Null ∷ col 0 0 ∷ col 0 1 ∷ col 0 2 ∷ []

abbrev pub add_choice_text : List ℕ
add_choice_text =
    codes "INSERT INTO choice (game, intent) VALUES (?1, ?2)"

abbrev pub add_choice_values : List Term
add_choice_values = lit Null ∷ col 0 0 ∷ col 0 1 ∷ []

abbrev pub drop_seats_text : List ℕ
drop_seats_text =
    codes "DELETE FROM seat WHERE game = ?1"

abbrev pub drop_units_text : List ℕ
drop_units_text =
    codes "DELETE FROM unit WHERE game = ?1"

abbrev pub drop_centres_text : List ℕ
drop_centres_text =
    codes "DELETE FROM centre WHERE game = ?1"

abbrev pub drop_pending_text : List ℕ
drop_pending_text =
    codes "DELETE FROM pending WHERE game = ?1"

abbrev pub drop_orders_text : List ℕ
drop_orders_text =
    codes "DELETE FROM pending WHERE game = ?1 AND power = ?2"

abbrev pub drop_items_text : List ℕ
drop_items_text =
    codes "DELETE FROM box WHERE game = ?1"

abbrev pub drop_papers_text : List ℕ
drop_papers_text =
    codes "DELETE FROM paper WHERE game = ?1"

abbrev pub drop_ballots_text : List ℕ
drop_ballots_text =
    codes "DELETE FROM ballot WHERE game = ?1"

abbrev pub drop_choices_text : List ℕ
drop_choices_text =
    codes "DELETE FROM choice WHERE game = ?1"

abbrev pub note_desk_text : List ℕ
note_desk_text =
    codes "UPDATE desk SET last = ?1, kept = ?2, reply = ?3 WHERE id = 1"

abbrev pub note_desk_row : List Term
note_desk_row =
    col 1 0 ∷ col 1 0 ∷ col 1 1 ∷ col 1 2 ∷ col 1 3 ∷ col 1 4 ∷ col 0 0 ∷ col 0 1 ∷ col 0 2 ∷ []

abbrev pub renew_seat_text : List ℕ
renew_seat_text =
    codes "UPDATE seat SET digest = ?3, last = ?4, kept = ?5, reply = ?6, sent = ?7, items = ?8 WHERE game = ?1 AND power = ?2"

abbrev pub renew_seat_row : List Term
renew_seat_row =
    col 1 0 ∷ col 1 0 ∷ col 1 1 ∷ col 1 2 ∷ col 0 2 ∷ col 1 4 ∷ col 0 3 ∷ col 0 4 ∷ col 0 5 ∷
    col 0 6 ∷ col 0 7 ∷ []

abbrev pub note_ballot_text : List ℕ
note_ballot_text =
    codes "UPDATE ballot SET names = ?3 WHERE game = ?1 AND power = ?2"

abbrev pub note_ballot_row : List Term
note_ballot_row = col 1 0 ∷ col 1 0 ∷ col 1 1 ∷ col 1 2 ∷ col 0 2 ∷ []

abbrev pub clear_votes_text : List ℕ
clear_votes_text =
    codes "UPDATE seat SET vote = 0"

abbrev pub clear_votes_row : List Term
clear_votes_row =
    col 1 0 ∷ col 1 0 ∷ col 1 1 ∷ col 1 2 ∷ col 1 3 ∷ lit (Int (pos 0)) ∷ col 1 5 ∷ col 1 6 ∷ col 1 7 ∷
    col 1 8 ∷ col 1 9 ∷ []

abbrev pub set_version_text : List ℕ
set_version_text =
    codes "UPDATE desk SET version = 2 WHERE id = 1"

abbrev pub set_version_row : List Term
set_version_row =
    col 1 0 ∷ col 1 0 ∷ col 1 1 ∷ lit (Int (pos 2)) ∷ col 1 3 ∷ col 1 4 ∷ col 1 5 ∷ col 1 6 ∷ col 1 7 ∷ []

abbrev pub count_item_text : List ℕ
count_item_text =
    codes "UPDATE seat SET items = ?3 WHERE game = ?1 AND power = ?2"

abbrev pub count_item_row : List Term
count_item_row =
    col 1 0 ∷ col 1 0 ∷ col 1 1 ∷ col 1 2 ∷ col 1 3 ∷ col 1 4 ∷ col 1 5 ∷ col 1 6 ∷ col 1 7 ∷
    col 1 8 ∷ col 0 2 ∷ []

abbrev pub replace_digest_text : List ℕ
replace_digest_text =
    codes "UPDATE seat SET digest = ?3 WHERE game = ?1 AND power = ?2"

abbrev pub replace_digest_row : List Term
replace_digest_row =
    col 1 0 ∷ col 1 0 ∷ col 1 1 ∷ col 1 2 ∷ col 0 2 ∷ col 1 4 ∷ col 1 5 ∷ col 1 6 ∷ col 1 7 ∷
    col 1 8 ∷ col 1 9 ∷ []

abbrev pub renew_game_text : List ℕ
renew_game_text =
    codes "UPDATE game SET year = ?2, phase = ?3, status = ?4, due = ?5, period = ?6, grey = ?7, papers = ?8, standoff = ?9 WHERE name = ?1"

abbrev pub renew_game_row : List Term
renew_game_row =
    col 1 0 ∷ col 1 0 ∷ col 1 1 ∷ col 0 1 ∷ col 0 2 ∷ col 0 3 ∷ col 0 4 ∷ col 0 5 ∷ col 0 6 ∷
    col 0 7 ∷ col 0 8 ∷ []

abbrev pub find_desk_text : List ℕ
find_desk_text =
    codes "SELECT version, map, digest, last, kept, reply FROM desk WHERE id = 1"

abbrev pub find_desk_shown : List Term
find_desk_shown = col 1 2 ∷ col 1 3 ∷ col 1 4 ∷ col 1 5 ∷ col 1 6 ∷ col 1 7 ∷ []

abbrev pub find_desk_query : Query
find_desk_query = plain_query 0 by_first find_desk_shown []

abbrev pub find_game_text : List ℕ
find_game_text =
    codes "SELECT year, phase, status, due, period, grey, papers, standoff FROM game WHERE name = ?1"

abbrev pub find_game_shown : List Term
find_game_shown = col 1 2 ∷ col 1 3 ∷ col 1 4 ∷ col 1 5 ∷ col 1 6 ∷ col 1 7 ∷ col 1 8 ∷ col 1 9 ∷ []

abbrev pub find_game_query : Query
find_game_query = plain_query 2 by_one find_game_shown []

abbrev pub find_seat_text : List ℕ
find_seat_text =
    codes "SELECT digest, vote, last, kept, reply, sent, items FROM seat WHERE game = ?1 AND power = ?2"

abbrev pub find_seat_shown : List Term
find_seat_shown = col 1 3 ∷ col 1 4 ∷ col 1 5 ∷ col 1 6 ∷ col 1 7 ∷ col 1 8 ∷ col 1 9 ∷ []

abbrev pub find_seat_query : Query
find_seat_query = plain_query 4 by_two find_seat_shown []

abbrev pub find_digest_text : List ℕ
find_digest_text =
    codes "SELECT digest FROM seat WHERE game = ?1 AND power = ?2"

abbrev pub find_digest_shown : List Term
find_digest_shown = col 1 3 ∷ []

abbrev pub find_digest_query : Query
find_digest_query = plain_query 4 by_two find_digest_shown []

abbrev pub find_ballot_text : List ℕ
find_ballot_text =
    codes "SELECT names FROM ballot WHERE game = ?1 AND power = ?2"

abbrev pub find_ballot_shown : List Term
find_ballot_shown = col 1 3 ∷ []

abbrev pub find_ballot_query : Query
find_ballot_query = plain_query 16 by_two find_ballot_shown []

abbrev pub find_choice_text : List ℕ
find_choice_text =
    codes "SELECT intent FROM choice WHERE game = ?1"

abbrev pub find_choice_shown : List Term
find_choice_shown = col 1 2 ∷ []

abbrev pub find_choice_query : Query
find_choice_query = plain_query 18 by_one find_choice_shown []

abbrev pub find_item_text : List ℕ
find_item_text =
    codes "SELECT grey, writer, addressees, body FROM box WHERE game = ?1 AND power = ?2 AND number = ?3"

abbrev pub find_item_shown : List Term
find_item_shown = col 1 4 ∷ col 1 5 ∷ col 1 6 ∷ col 1 7 ∷ []

abbrev pub find_item_query : Query
find_item_query = plain_query 12 by_three find_item_shown []

abbrev pub find_paper_text : List ℕ
find_paper_text =
    codes "SELECT body FROM paper WHERE game = ?1 AND number = ?2"

abbrev pub find_paper_shown : List Term
find_paper_shown = col 1 3 ∷ []

abbrev pub find_paper_query : Query
find_paper_query = plain_query 14 by_two find_paper_shown []

abbrev pub list_seats_text : List ℕ
list_seats_text =
    codes "SELECT power, digest, vote, last, kept, reply, sent, items FROM seat WHERE game = ?1 ORDER BY rowid"

abbrev pub list_seats_shown : List Term
list_seats_shown =
    col 1 2 ∷ col 1 3 ∷ col 1 4 ∷ col 1 5 ∷ col 1 6 ∷ col 1 7 ∷ col 1 8 ∷ col 1 9 ∷ []

abbrev pub list_seats_query : Query
list_seats_query = plain_query 4 by_one list_seats_shown in_turn

abbrev pub list_units_text : List ℕ
list_units_text =
    codes "SELECT province, dislodged, power, kind, coast, origin FROM unit WHERE game = ?1 ORDER BY rowid"

abbrev pub list_units_shown : List Term
list_units_shown = col 1 2 ∷ col 1 3 ∷ col 1 4 ∷ col 1 5 ∷ col 1 6 ∷ col 1 7 ∷ []

abbrev pub list_units_query : Query
list_units_query = plain_query 6 by_one list_units_shown in_turn

abbrev pub list_centres_text : List ℕ
list_centres_text =
    codes "SELECT province, power FROM centre WHERE game = ?1 ORDER BY rowid"

abbrev pub list_centres_shown : List Term
list_centres_shown = col 1 2 ∷ col 1 3 ∷ []

abbrev pub list_centres_query : Query
list_centres_query = plain_query 8 by_one list_centres_shown in_turn

abbrev pub list_orders_text : List ℕ
list_orders_text =
    codes "SELECT province, line FROM pending WHERE game = ?1 AND power = ?2 ORDER BY rowid"

abbrev pub list_orders_shown : List Term
list_orders_shown = col 1 3 ∷ col 1 4 ∷ []

abbrev pub list_orders_query : Query
list_orders_query = plain_query 10 by_two list_orders_shown in_turn

abbrev pub list_games_text : List ℕ
list_games_text =
    codes "SELECT name FROM game ORDER BY rowid"

abbrev pub list_games_shown : List Term
list_games_shown = col 1 1 ∷ []

abbrev pub list_games_query : Query
list_games_query = plain_query 2 [] list_games_shown in_turn

abbrev pub list_votes_text : List ℕ
list_votes_text =
    codes "SELECT game, power, vote FROM seat ORDER BY rowid"

abbrev pub list_votes_shown : List Term
list_votes_shown = col 1 1 ∷ col 1 2 ∷ col 1 4 ∷ []

abbrev pub list_votes_query : Query
list_votes_query = plain_query 4 [] list_votes_shown in_turn
