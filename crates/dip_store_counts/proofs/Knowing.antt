-- What is known or found of the author's row, and what it is after the letter.
use Rattle.std.proofs.Common.{◌≡◌, ◌<◌, ℕ, true, false, List, Option, Some, None, option_map, refl, sym, ap, subst, ◌∙◌}
use Rattle.std.specs.List.{AllByRecursion, find}
use Rattle.sqlite.specs.Order.{Row}
use Rattle.dip_map.specs.Charts.{Chart}
use Rattle.dip_desk_state.specs.Bounds.{most_sent}
use Rattle.dip_desk_state.specs.Records.{Item, Own}
use Rattle.dip_desk_state.specs.State.{Author, Nobody, TheMaster, Seat, Effect, Nothing, Pending, Votes, Delivers, Opens, Publishes, Seats}
use Rattle.dip_store_tables.specs.Boards.{power_name}
use Rattle.dip_store_tables.specs.Reading.{own_of}
use Rattle.dip_store_tables.specs.Room.{SentHasRoom}
use Rattle.dip_store_tables.specs.Tables.{BallotRow, PendingRow, SeatRow, Tables, is_seat}
use Rattle.dip_store_tables.specs.Writing.{seat_effect}
use Rattle.dip_store_sql.specs.Recorded.{AtMostOne}
use Rattle.dip_store_sql.specs.Showing.{show_seat}
use Rattle.dip_store_counts.specs.Counts.{CountsRow}
use Rattle.dip_store_counts.specs.Failing.{PressHasRoom}
use Rattle.dip_store_counts.specs.Knowing.{AuthorHasRoom, IsKnown, RowHasRoom, author_row, own_row, row_after, row_of, shown_row}
use Rattle.dip_store_counts.specs.Noting.{IsNext}
use Rattle.dip_store_counts.specs.declared.known.AuthorRow.{AuthorRow}
use Rattle.dip_store_counts.proofs.Found.{found_alone}
use Rattle.dip_store_counts.proofs.Counting.{next_noted}
use Rattle.dip_store_counts.proofs.Failing.{shown_found}

pub none_found : (o : Option SeatRow) → None ≡ option_map show_seat o → None ≡ option_map row_of o
none_found None none = refl
none_found (Some s) none = absurd (cc)

pub some_found : (row : Row) (found : AuthorRow) (o : Option SeatRow) → Some row ≡ option_map show_seat o → found ≡ shown_row row → Some found ≡ option_map row_of o
some_found row found None is shown = absurd (cc)
some_found row found (Some s) is shown =
    let same : row ≡ show_seat s = cc in
    let found_is : found ≡ row_of s = shown ∙ ap shown_row same in
    ap (λ r. Some r) found_is

after_is : (e : Effect) (s : SeatRow) → row_after e (row_of s) ≡ row_of (seat_effect e s)
after_is Nothing s = refl
after_is (Pending orders) s = refl
after_is (Votes vote) s = refl
after_is (Delivers readers item) s = refl
after_is (Opens public paper seats) s = refl
after_is (Publishes public paper played) s = refl
after_is (Seats seat) s = refl

module _ (m : Chart) (name : List ℕ) (t : Tables) (one : (game power : List ℕ) → AtMostOne (is_seat game power) t.seats) where
  next_seat : (power : ℕ) (e : Effect) (row next : Option AuthorRow) → row ≡ author_row m (Seat power) name t.seats → next ≡ option_map (row_after e) row
      → AllByRecursion (IsNext next e name (power_name m power)) t.seats
  next_seat power e row next found counted =
      found_alone (is_seat name (power_name m power)) (λ s. next ≡ Some (row_of (seat_effect e s))) t.seats (one name (power_name m power))
      (λ s is. counted ∙ ap (option_map (row_after e)) (found ∙ ap (option_map row_of) is) ∙ ap (λ r. Some r) (after_is e s))

  -- the row that is written is the author's row after its letter
  pub counts_next : (who : Author) (e : Effect) (row next : Option AuthorRow) → row ≡ author_row m who name t.seats → next ≡ option_map (row_after e) row → CountsRow next m who name e t
  counts_next Nobody e row next found counted k = refl
  counts_next TheMaster e row next found counted k = refl
  counts_next (Seat power) e row next found counted k = next_noted m next power name k e t (next_seat power e row next found counted)

  -- where it has room to count press, press has room in the tables
  sent_room : (who : Author) (powers : List ℕ) (item : Item) (row : Option AuthorRow) → row ≡ author_row m who name t.seats → AuthorHasRoom (Delivers powers item) row → SentHasRoom m who name t.seats
  sent_room Nobody powers item row found room = tt
  sent_room TheMaster powers item row found room = tt
  sent_room (Seat power) powers item row found room =
      found_alone (is_seat name (power_name m power)) (λ s. s.sent < most_sent) t.seats (one name (power_name m power))
      (λ s is. subst (λ (o : Option AuthorRow). AuthorHasRoom (Delivers powers item) o) (found ∙ ap (option_map row_of) is) room refl)

  pub press_room : (who : Author) (e : Effect) (row : Option AuthorRow) → row ≡ author_row m who name t.seats → AuthorHasRoom e row → PressHasRoom m who name e t.seats
  press_room who Nothing row found room = tt
  press_room who (Pending orders) row found room = tt
  press_room who (Votes vote) row found room = tt
  press_room who (Delivers powers item) row found room = sent_room who powers item row found room
  press_room who (Opens public paper seats) row found room = tt
  press_room who (Publishes public paper played) row found room = tt
  press_room who (Seats seat) row found room = tt

-- and the other way round
module _ (m : Chart) (name : List ℕ) (ss : List SeatRow) (r : AuthorRow) where
  row_sends : (who : Author) → Some r ≡ author_row m who name ss → SentHasRoom m who name ss → r.sent < most_sent
  row_sends Nobody found room = absurd (let bad : Some r ≡ None = found in cc)
  row_sends TheMaster found room = absurd (let bad : Some r ≡ None = found in cc)
  row_sends (Seat power) found room =
      let it = shown_found (λ (s : SeatRow). is_seat name (power_name m power) s ≡ true → s.sent < most_sent) (is_seat name (power_name m power)) row_of ss r found room in
      subst (λ (x : AuthorRow). x.sent < most_sent) (sym it.shown) (it.holds it.passes)

  pub row_room : (who : Author) (e : Effect) → Some r ≡ author_row m who name ss → PressHasRoom m who name e ss → RowHasRoom e r
  row_room who Nothing found room press = absurd (let bad : false ≡ true = press in cc)
  row_room who (Pending orders) found room press = absurd (let bad : false ≡ true = press in cc)
  row_room who (Votes vote) found room press = absurd (let bad : false ≡ true = press in cc)
  row_room who (Delivers powers item) found room press = row_sends who found room
  row_room who (Opens public paper seats) found room press = absurd (let bad : false ≡ true = press in cc)
  row_room who (Publishes public paper played) found room press = absurd (let bad : false ≡ true = press in cc)
  row_room who (Seats seat) found room press = absurd (let bad : false ≡ true = press in cc)

-- a seat's own part tells its row
pub own_known : (m : Chart) (power : ℕ) (name : List ℕ) (pending : List PendingRow) (ballots : List BallotRow) (ss : List SeatRow) (o : Own)
    → Some o ≡ option_map (own_of m pending ballots) (find (is_seat name (power_name m power)) ss) → IsKnown (Some (own_row o)) m (Seat power) name ss
own_known m power name pending ballots ss o is = by (find (is_seat name (power_name m power)) ss) is
  where
    by : (found : Option SeatRow) → Some o ≡ option_map (own_of m pending ballots) found → Some (own_row o) ≡ option_map row_of found
    by None is = absurd (cc)
    by (Some s) is = let same : o ≡ own_of m pending ballots s = cc in ap (λ x. Some (own_row x)) same

-- what is known is known of the same tables after a look, and by the same name
pub known_at : (known : Option AuthorRow) (m : Chart) (who : Author) (name game : List ℕ) (t u : Tables) → game ≡ name → u ≡ t → IsKnown known m who name t.seats → IsKnown known m who game u.seats
known_at known m who name game t u named same is = rw (named, same) is
