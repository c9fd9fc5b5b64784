-- A seat's row with its last letter, where its other columns are those after it.
use Rattle.std.proofs.Common.{◌≡◌, ℕ, List, [], ◌∷◌, Option, Some, None, refl, sym, subst, ap, ap₂, ◌∙◌, inl, inr}
use Rattle.std.specs.List.{AllByRecursion}
use Rattle.std.proofs.lemmas.Bool.{cases_Bool}
use Rattle.dip_store_tables.specs.Lists.{update_where}
use Rattle.dip_map.specs.Charts.{Chart}
use Rattle.dip_store_tables.specs.Boards.{power_name}
use Rattle.dip_desk_state.specs.Records.{Kept}
use Rattle.dip_desk_state.specs.State.{Author, Seat, Effect, Nothing, Pending, Votes, Delivers, Opens, Publishes, Seats}
use Rattle.dip_store_tables.specs.Tables.{SeatRow, Tables, is_seat}
use Rattle.dip_store_tables.specs.Writing.{as_printed, seat_effect, seat_noted}
use Rattle.dip_store_counts.specs.Knowing.{row_of}
use Rattle.dip_store_counts.specs.Noting.{IsNext, NextRowsAreNoted, noting_row, on_row, row_noted}
use Rattle.dip_store_counts.specs.declared.known.AuthorRow.{AuthorRow}

one_noted : (k : Kept) (e : Effect) (s : SeatRow) → row_noted (row_of (seat_effect e s)) k s ≡ seat_noted k e s
one_noted k Nothing s = refl
one_noted k (Pending orders) s = refl
one_noted k (Votes vote) s = refl
one_noted k (Delivers readers item) s = refl
one_noted k (Opens public paper seats) s = refl
one_noted k (Publishes public paper played) s = refl
one_noted k (Seats seat) s = refl

some_noted : (r : AuthorRow) (name power : List ℕ) (k : Kept) (e : Effect) (ss : List SeatRow) → AllByRecursion (IsNext (Some r) e name power) ss
    → update_where (is_seat name power) (row_noted r k) ss ≡ update_where (is_seat name power) (seat_noted k e) ss
some_noted r name power k e [] all = refl
some_noted r name power k e (s ∷ ss) all = elim (cases_Bool (is_seat name power s)) [
  | inl y ↦
      let is = all.0 y in
      let same : r ≡ row_of (seat_effect e s) = cc in
      rw y (ap₂ ◌∷◌ (ap (λ x. row_noted x k s) same ∙ one_noted k e s) (some_noted r name power k e ss all.1))
  | inr y ↦ rw y (ap (λ xs. s ∷ xs) (some_noted r name power k e ss all.1))
]

none_noted : (name power : List ℕ) (k : Kept) (e : Effect) (ss : List SeatRow) → AllByRecursion (IsNext None e name power) ss → ss ≡ update_where (is_seat name power) (seat_noted k e) ss
none_noted name power k e [] all = refl
none_noted name power k e (s ∷ ss) all = elim (cases_Bool (is_seat name power s)) [
  | inl y ↦ absurd (let bad = all.0 y in cc)
  | inr y ↦ rw y (ap (λ xs. s ∷ xs) (none_noted name power k e ss all.1))
]

pub next_noted : (m : Chart) → NextRowsAreNoted m
next_noted m None power name k e t all =
    ap (λ ss. record t { seats = ss }) (none_noted name (power_name m power) (as_printed name (power_name m power) k) e t.seats all)
next_noted m (Some r) power name k e t all =
    ap (λ ss. record t { seats = ss }) (some_noted r name (power_name m power) (as_printed name (power_name m power) k) e t.seats all)

-- what a seat's function notes is noted of an author that is this seat
pub noted_as : (row : Option AuthorRow) (m : Chart) (who : Author) (power : ℕ) (name : List ℕ) (k : Kept) (game seat : List ℕ) → who ≡ Seat power → game ≡ name → seat ≡ power_name m power → (t : Tables)
    → on_row row game seat (as_printed game seat k) t ≡ noting_row row m who name k t
noted_as row m who power name k game seat is a b t =
    subst (λ w. on_row row game seat (as_printed game seat k) t ≡ noting_row row m w name k t) (sym is) (rw (a, b) refl)
