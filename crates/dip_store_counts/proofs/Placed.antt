-- The place of a change, from what is counted before it.
use Rattle.std.proofs.Common.{◌<◌, ◌^◌, ℕ, List, [], ◌∷◌, filter, All, subst, sym, ap, arith}
use Rattle.std.specs.List.{AllByRecursion}
use Rattle.std.proofs.lemmas.List.Elements.{recursion_from_All}
use Rattle.dip_store_tables.proofs.ListLemmas.{all_weaker}
use Rattle.dip_store_tables.specs.Boards.{CentreRow, UnitRow}
use Rattle.dip_map.specs.Charts.{Chart}
use Rattle.dip_desk_state.specs.Bounds.{most_items}
use Rattle.dip_desk_state.specs.State.{Author, Effect, Nothing, Pending, Votes, Delivers, Opens, Publishes, Seats}
use Rattle.dip_store_tables.specs.Changing.{is_reader}
use Rattle.dip_store_tables.specs.Tables.{ChoiceRow, GameRow, SeatRow, Tables}
use Rattle.dip_store_tables.specs.Written.{IsGameWritten}
use Rattle.dip_store_tables.specs.Room.{HasRoom}
use Rattle.dip_store_counts.specs.Counts.{AreSeats, AreReaders}
use Rattle.dip_store_counts.specs.declared.readers.Reader.{Reader}
use Rattle.dip_store_counts.specs.Failing.{InboxesHaveRoom, PressHasRoom}

-- the two parts of the room that press takes
pub rooms : (m : Chart) (who : Author) (name : List ℕ) (e : Effect) (t : Tables) → HasRoom m who name e t → PressHasRoom m who name e t.seats × InboxesHaveRoom m name e t.seats
rooms m who name Nothing t room = (tt, tt)
rooms m who name (Pending orders) t room = (tt, tt)
rooms m who name (Votes vote) t room = (tt, tt)
rooms m who name (Delivers powers item) t room = room
rooms m who name (Opens public paper seats) t room = (tt, tt)
rooms m who name (Publishes public paper played) t room = (tt, tt)
rooms m who name (Seats seat) t room = (tt, tt)

pub room_of : (m : Chart) (who : Author) (name : List ℕ) (e : Effect) (t : Tables) → PressHasRoom m who name e t.seats → InboxesHaveRoom m name e t.seats → HasRoom m who name e t
room_of m who name Nothing t one two = tt
room_of m who name (Pending orders) t one two = tt
room_of m who name (Votes vote) t one two = tt
room_of m who name (Delivers powers item) t one two = (one, two)
room_of m who name (Opens public paper seats) t one two = tt
room_of m who name (Publishes public paper played) t one two = tt
room_of m who name (Seats seat) t one two = tt

-- readers with room are seats with room, and the other way round
module _ (m : Chart) (name : List ℕ) where
  seats_room : (ss : List SeatRow) (rs : List Reader) → AreSeats m name ss rs → AllByRecursion (λ r. r.items < most_items) rs → AllByRecursion (λ s. s.items < most_items) ss
  seats_room [] [] are room = tt
  seats_room [] (r ∷ rs) are room = absurd are
  seats_room (s ∷ ss) [] are room = absurd are
  seats_room (s ∷ ss) (r ∷ rs) are room = (omega (arith, are.2, room.0), seats_room ss rs are.3 room.1)

  pub readers_room : (ss : List SeatRow) (rs : List Reader) → AreSeats m name ss rs → AllByRecursion (λ s. s.items < most_items) ss → AllByRecursion (λ r. r.items < most_items) rs
  readers_room [] [] are room = tt
  readers_room [] (r ∷ rs) are room = absurd are
  readers_room (s ∷ ss) [] are room = absurd are
  readers_room (s ∷ ss) (r ∷ rs) are room = (omega (arith, are.2, room.0), readers_room ss rs are.3 room.1)

  pub inboxes_room : (e : Effect) (ss : List SeatRow) (rs : List Reader) → AreReaders m name e ss rs → All (λ r. r.items < most_items) rs → InboxesHaveRoom m name e ss
  inboxes_room Nothing ss rs are room = tt
  inboxes_room (Pending orders) ss rs are room = tt
  inboxes_room (Votes vote) ss rs are room = tt
  inboxes_room (Delivers powers item) ss rs are room = seats_room (filter (is_reader m name powers) ss) rs are (recursion_from_All _ _ room)
  inboxes_room (Opens public paper seats) ss rs are room = tt
  inboxes_room (Publishes public paper played) ss rs are room = tt
  inboxes_room (Seats seat) ss rs are room = tt

-- a written game counts its papers in 32 bits
pub papers_narrow : (m : Chart) (units : List UnitRow) (centres : List CentreRow) (choices : List ChoiceRow) (gs : List GameRow) → AllByRecursion (IsGameWritten m units centres choices) gs → AllByRecursion (λ g. g.papers < 2 ^ 32) gs
papers_narrow m units centres choices gs all = all_weaker (IsGameWritten m units centres choices) (λ g. g.papers < 2 ^ 32) (λ g it. subst (λ n. n < 2 ^ 32) (sym (ap (λ (x : GameRow). x.papers) it.row)) it.narrow.2) gs all
