-- What the queries are asked with.
use Rattle.std.proofs.Common.{ℕ, pos, List, [], ◌∷◌, refl}
use Rattle.sqlite.specs.declared.types.Value.TheVariants.{Int, Text}
use Rattle.dip_store_sql.specs.Asking.{Accepts, AcceptsIn}
use Rattle.dip_store_sql.specs.Old.{old_schema}
use Rattle.dip_store_sql.specs.Statements.{find_desk_query, find_game_query, find_seat_query, find_digest_query, find_item_query, find_paper_query, list_seats_query, list_units_query, list_centres_query, list_orders_query, find_ballot_query, find_choice_query, list_games_query, list_votes_query}

pub find_desk : Accepts find_desk_query []
find_desk = refl

pub find_game : (name : List ℕ) → Accepts find_game_query (Text name ∷ [])
find_game name = refl

pub find_seat : (game : List ℕ) (power : List ℕ) → Accepts find_seat_query (Text game ∷ Text power ∷ [])
find_seat game power = refl

pub find_digest : (game : List ℕ) (power : List ℕ) → Accepts find_digest_query (Text game ∷ Text power ∷ [])
find_digest game power = refl

pub find_item : (game : List ℕ) (power : List ℕ) (number : ℕ) → Accepts find_item_query (Text game ∷ Text power ∷ Int (pos number) ∷ [])
find_item game power number = refl

pub find_paper : (game : List ℕ) (number : ℕ) → Accepts find_paper_query (Text game ∷ Int (pos number) ∷ [])
find_paper game number = refl

pub list_seats : (game : List ℕ) → Accepts list_seats_query (Text game ∷ [])
list_seats game = refl

pub list_units : (game : List ℕ) → Accepts list_units_query (Text game ∷ [])
list_units game = refl

pub list_centres : (game : List ℕ) → Accepts list_centres_query (Text game ∷ [])
list_centres game = refl

pub list_orders : (game : List ℕ) (power : List ℕ) → Accepts list_orders_query (Text game ∷ Text power ∷ [])
list_orders game power = refl

pub find_ballot : (game : List ℕ) (power : List ℕ) → Accepts find_ballot_query (Text game ∷ Text power ∷ [])
find_ballot game power = refl

pub find_choice : (game : List ℕ) → Accepts find_choice_query (Text game ∷ [])
find_choice game = refl

-- in a store of version 1
pub find_old_desk : AcceptsIn old_schema find_desk_query []
find_old_desk = refl

pub list_games : AcceptsIn old_schema list_games_query []
list_games = refl

pub list_votes : AcceptsIn old_schema list_votes_query []
list_votes = refl
