-- A change that is made with the counts before it is the change.
use Rattle.std.proofs.Common.{◌≡◌, ℕ, Bool, true, false, cond, ◌&&◌, List, [], ◌∷◌, ◌++◌, map, filter, Option, bytes_eq, refl, sym, ap, ap₂, subst, ◌∙◌, inl, inr}
use Rattle.std.proofs.lemmas.Bool.{cases_Bool}
use Rattle.dip_store_tables.proofs.ListLemmas.{ascending-map, ascending_weaker}
use Rattle.dip_map.specs.Charts.{Chart}
use Rattle.dip_store_tables.specs.Boards.{power_name}
use Rattle.dip_desk_state.specs.State.{Author, Nobody, TheMaster, Seat, Effect, Nothing, Pending, Votes, Delivers, Opens, Publishes, Seats, Change}
use Rattle.dip_desk_state.specs.Records.{Kept, Standing}
use Rattle.dip_store_tables.specs.Changing.{changing, is_reader, noting, ordering, ordering_by, reaching, with_orders}
use Rattle.dip_store_tables.specs.Coding.{AreApart, same_seat}
use Rattle.dip_store_tables.specs.Lists.{delete_where}
use Rattle.dip_store_tables.specs.Laws.{IsDeliveredOneByOne}
use Rattle.dip_store_tables.specs.Tables.{SeatRow, Tables, is_pending, is_seat}
use Rattle.dip_store_tables.specs.Writing.{as_printed, pending_row, seat_noted}
use Rattle.dip_store_counts.specs.Counts.{AreReaders, AreSeats, Counts}
use Rattle.dip_store_changes.specs.Delivering.{ReadersAreSeats}
use Rattle.dip_store_counts.specs.declared.readers.Reader.{Reader}
use Rattle.dip_store_counts.specs.declared.known.AuthorRow.{AuthorRow}
use Rattle.dip_store_counts.specs.Knowing.{IsUnordered}
use Rattle.dip_store_changes.specs.Parts.{changing_row, ordering_by_over, ordering_over, reaching_all}
use Rattle.dip_store_changes.specs.Orders.{with_orders_over}
use Rattle.dip_store_counts.proofs.Listed.{still_readers}

module _ (m : Chart) (name : List ℕ) (k : Kept) (e : Effect) where
  noted_keys : (k : Kept) (e : Effect) (s : SeatRow) → ((seat_noted k e s).game ≡ s.game) × ((seat_noted k e s).power ≡ s.power) × ((seat_noted k e s).items ≡ s.items)
  noted_keys k Nothing s = (refl, refl, refl)
  noted_keys k (Pending orders) s = (refl, refl, refl)
  noted_keys k (Votes vote) s = (refl, refl, refl)
  noted_keys k (Delivers readers item) s = (refl, refl, refl)
  noted_keys k (Opens public paper seats) s = (refl, refl, refl)
  noted_keys k (Publishes public paper played) s = (refl, refl, refl)
  noted_keys k (Seats seat) s = (refl, refl, refl)

  abbrev noted : ℕ → SeatRow → SeatRow
  noted power s = cond (is_seat name (power_name m power) s) (seat_noted (as_printed name (power_name m power) k) e s) s

  module _ (power : ℕ) (s : SeatRow) where
    stays : ((noted power s).game ≡ s.game) × ((noted power s).power ≡ s.power) × ((noted power s).items ≡ s.items)
    stays = elim (cases_Bool (is_seat name (power_name m power) s)) [
      | inl mine ↦ rw mine (noted_keys (as_printed name (power_name m power) k) e s)
      | inr other ↦ rw other (refl, refl, refl)
    ]

  noted_apart : (who : Author) (t : Tables) → AreApart t → AreApart (noting m who name k e t)
  noted_apart Nobody t apart = apart
  noted_apart TheMaster t apart = record { games = apart.games; seats = apart.seats }
  noted_apart (Seat power) t apart = record {
    games = apart.games;
    seats = ascending-map (λ a b. same_seat a b ≡ false) (noted power) t.seats
        (ascending_weaker (λ a b. same_seat a b ≡ false) (λ a b. same_seat (noted power a) (noted power b) ≡ false)
        (λ a b h. ap₂ ◌&&◌ (ap₂ bytes_eq (stays power a).0 (stays power b).0) (ap₂ bytes_eq (stays power a).1 (stays power b).1) ∙ h) t.seats apart.seats);
  }

  noted_readers : (powers : List ℕ) (rs : List Reader) (who : Author) (t : Tables) → AreSeats m name (filter (is_reader m name powers) t.seats) rs
      → AreSeats m name (filter (is_reader m name powers) (noting m who name k e t).seats) rs
  noted_readers powers rs Nobody t are = are
  noted_readers powers rs TheMaster t are = are
  noted_readers powers rs (Seat power) t are = still_readers m name powers (noted power) (λ s. (stays power s).0) (λ s. (stays power s).1) (λ s. (stays power s).2) t.seats rs are

module _ (m : Chart) (each : ReadersAreSeats m) (one : IsDeliveredOneByOne m) (rs : List Reader) (who : Author) (name : List ℕ) (k : Kept) (t : Tables) (apart : AreApart t) where
  reached : (e : Effect) → AreReaders m name e t.seats rs
      → reaching_all rs m name e (ordering m who name e (noting m who name k e t)) ≡ reaching m name e (ordering m who name e (noting m who name k e t))
  reached Nothing are = refl
  reached (Pending orders) are = refl
  reached (Votes vote) are = refl
  reached (Delivers powers item) are =
      let e = Delivers powers item in
      let u = noting m who name k e t in
      each name item (filter (is_reader m name powers) u.seats) rs u (noted_readers m name k e powers rs who t are) ∙ one name powers item u (noted_apart m name k e who t apart)
  reached (Opens public paper seats) are = refl
  reached (Publishes public paper played) are = refl
  reached (Seats seat) are = refl

-- nothing is taken out of a list of which nothing passes
nothing_taken : {A : Type 0} (p : A → Bool) (xs : List A) → filter p xs ≡ [] → delete_where p xs ≡ xs
nothing_taken p [] none = refl
nothing_taken p (x ∷ xs) none = elim (cases_Bool (p x)) [
  | inl e ↦ absurd (let bad = rw e at none in cc)
  | inr e ↦ rw e (ap (λ ys. x ∷ ys) (nothing_taken p xs (rw e at none)))
]

-- where none of the author's orders stands, none has to be taken out
module _ (m : Chart) (name : List ℕ) where
  given : (none : Bool) (power : ℕ) (orders : List Standing) (t : Tables) → IsUnordered none m (Seat power) name t.pending
      → with_orders_over none m name (power_name m power) orders t ≡ with_orders m name (power_name m power) orders t
  given false power orders t is = refl
  given true power orders t is =
      ap (λ ps. record t { pending = ps ++ map (pending_row m name (power_name m power)) orders })
      (sym (nothing_taken (is_pending name (power_name m power)) t.pending (is refl)))

  given_by : (none : Bool) (who : Author) (orders : List Standing) (t : Tables) → IsUnordered none m who name t.pending
      → ordering_by_over none m who name orders t ≡ ordering_by m who name orders t
  given_by none Nobody orders t is = refl
  given_by none TheMaster orders t is = refl
  given_by none (Seat power) orders t is = given none power orders t is

  pub ordered_over : (none : Bool) (who : Author) (e : Effect) (t : Tables) → IsUnordered none m who name t.pending → ordering_over none m who name e t ≡ ordering m who name e t
  ordered_over none who Nothing t is = refl
  ordered_over none who (Pending orders) t is = given_by none who orders t is
  ordered_over none who (Votes vote) t is = refl
  ordered_over none who (Delivers readers item) t is = refl
  ordered_over none who (Opens public paper seats) t is = refl
  ordered_over none who (Publishes public paper played) t is = refl
  ordered_over none who (Seats seat) t is = refl

  noted_pending : (who : Author) (k : Kept) (e : Effect) (t : Tables) → (noting m who name k e t).pending ≡ t.pending
  noted_pending Nobody k e t = refl
  noted_pending TheMaster k e t = refl
  noted_pending (Seat power) k e t = refl

pub counted_change : (m : Chart) → ReadersAreSeats m → IsDeliveredOneByOne m → (c : Change) (t : Tables) (row : Option AuthorRow) (none : Bool) (rs : List Reader) → AreApart t → IsUnordered none m c.author c.game t.pending → Counts row rs m c t
    → changing_row row none rs m c t ≡ changing m c t
counted_change m each one c t row none rs apart is counts =
    let noted = noting m c.author c.game c.kept c.effect t in
    ap (λ u. reaching_all rs m c.game c.effect (ordering_over none m c.author c.game c.effect u)) (counts.author c.kept)
    ∙ ap (λ u. reaching_all rs m c.game c.effect u) (ordered_over m c.game none c.author c.effect noted (subst (IsUnordered none m c.author c.game) (sym (noted_pending m c.game c.author c.kept c.effect t)) is))
    ∙ reached m each one rs c.author c.game c.kept t apart c.effect counts.readers
