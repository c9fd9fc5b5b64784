-- Press that is delivered to one reader after the other.
use Rattle.std.proofs.Common.{◌≡◌, ℕ, ◌+◌, Bool, cond, ◌&&◌, List, [], ◌∷◌, ◌++◌, map, filter, bytes_eq, refl, sym, ap, ap₂, subst, ◌∙◌, inl, inr, append-nil, append_assoc, map-id}
use Rattle.std.proofs.lemmas.Bool.{cases_Bool}
use Rattle.sqlite_keyed.proofs.ListLemmas.{all_weaker, filter_same, map-map}
use Rattle.dip_map.specs.Charts.{Chart}
use Rattle.dip_desk_state.specs.Records.{Item}
use Rattle.dip_store_rows.specs.Tables.{SeatRow, Tables, is_seat}
use Rattle.dip_store_tables.specs.Writing.{next_row}
use Rattle.dip_store_tables.specs.Changing.{is_reader, one_more, with_items, delivering, delivering_one, delivering_each}
use Rattle.dip_store_tables.specs.Coding.{AreApart}
use Rattle.dip_store_tables.specs.Laws.{IsDeliveredOneByOne}
use Rattle.dip_store_tables.proofs.Lists.{filters_turned, map_on}
use Rattle.dip_store_tables.proofs.Seats.{IsAlone, all_alone, both_same, both_tell, keys_turned}

-- what a seat's row is after the readers
abbrev counted_by : List SeatRow → SeatRow → SeatRow
counted_by [] x = x
counted_by (s ∷ ss) x = counted_by ss (cond (is_seat s.game s.power x) (with_items (s.items + 1) x) x)

rows_after : (ss xs : List SeatRow) (item : Item) (t : Tables) → t.seats ≡ xs → (delivering_each item ss t).seats ≡ map (counted_by ss) xs
rows_after [] xs item t is = is ∙ sym (map-id xs)
rows_after (s ∷ ss) xs item t is =
    rows_after ss (map (λ x. cond (is_seat s.game s.power x) (with_items (s.items + 1) x) x) xs) item (delivering_one item s t)
    (ap (map (λ x. cond (is_seat s.game s.power x) (with_items (s.items + 1) x) x)) is)
    ∙ map-map (counted_by ss) (λ x. cond (is_seat s.game s.power x) (with_items (s.items + 1) x) x) xs

boxes_after : (ss : List SeatRow) (item : Item) (t : Tables) → (delivering_each item ss t).boxes ≡ t.boxes ++ map (next_row item) ss
boxes_after [] item t = sym (append-nil t.boxes)
boxes_after (s ∷ ss) item t = boxes_after ss item (delivering_one item s t) ∙ append_assoc t.boxes (next_row item s ∷ []) (map (next_row item) ss)

-- the other tables stay
others_stay : (ss : List SeatRow) (item : Item) (t : Tables) → delivering_each item ss t ≡ record t { seats = (delivering_each item ss t).seats; boxes = (delivering_each item ss t).boxes }
others_stay [] item t = refl
others_stay (s ∷ ss) item t = others_stay ss item (delivering_one item s t)

-- whoever has a seat's key
abbrev meets : SeatRow → SeatRow → Bool
meets x s = is_seat s.game s.power x

none_meets : (ss : List SeatRow) (x : SeatRow) → filter (meets x) ss ≡ [] → counted_by ss x ≡ x
none_meets [] x none = refl
none_meets (s ∷ ss) x none = elim (cases_Bool (meets x s)) [
  | inl e ↦ absurd (let h = rw e at none in cc)
  | inr e ↦ rw e (none_meets ss x (rw e at none))
]

one_meets : (ss : List SeatRow) (x : SeatRow) → filter (meets x) ss ≡ x ∷ [] → counted_by ss x ≡ one_more x
one_meets [] x one = absurd (cc)
one_meets (s ∷ ss) x one = elim (cases_Bool (meets x s)) [
  | inl e ↦
      let h = rw e at one in
      let same : s ≡ x = cc in
      let rest : filter (meets x) ss ≡ [] = cc in
      rw e (ap (λ y. counted_by ss (with_items (y.items + 1) x)) same ∙ none_meets ss (one_more x) rest)
  | inr e ↦ rw e (one_meets ss x (rw e at one))
]

-- two seats meet either way
meets_turned : (x s : SeatRow) → meets x s ≡ is_seat x.game x.power s
meets_turned x s = elim (cases_Bool (is_seat x.game x.power s)) [
  | inl e ↦
      let same = both_same s.game s.power x.game x.power e in
      subst (λ g. (bytes_eq x.game g && bytes_eq x.power s.power) ≡ is_seat x.game x.power s) (sym same.0)
      (subst (λ p. (bytes_eq x.game x.game && bytes_eq x.power p) ≡ is_seat x.game x.power s) (sym same.1) (both_tell x.game x.power ∙ sym e))
  | inr e ↦ keys_turned s.game s.power x.game x.power e ∙ sym e
]

module _ (m : Chart) (name readers : List ℕ) (item : Item) (t : Tables) (apart : AreApart t) where
  abbrev reads : SeatRow → Bool
  reads s = is_reader m name readers s

  met : (x : SeatRow) → IsAlone t.seats x → filter (meets x) (filter reads t.seats) ≡ filter reads (x ∷ [])
  met x one =
      filter_same (meets x) (is_seat x.game x.power) (meets_turned x) (filter reads t.seats)
      ∙ filters_turned (is_seat x.game x.power) reads t.seats ∙ ap (filter reads) one

  each_row : (x : SeatRow) → IsAlone t.seats x → counted_by (filter reads t.seats) x ≡ cond (reads x) (one_more x) x
  each_row x one = elim (cases_Bool (reads x)) [
    | inl e ↦
        let found : filter reads (x ∷ []) ≡ x ∷ [] = rw e refl in
        one_meets (filter reads t.seats) x (met x one ∙ found) ∙ ap (λ b. cond b (one_more x) x) (sym e)
    | inr e ↦
        let found : filter reads (x ∷ []) ≡ [] = rw e refl in
        none_meets (filter reads t.seats) x (met x one ∙ found) ∙ ap (λ b. cond b (one_more x) x) (sym e)
  ]

  delivered : delivering_each item (filter reads t.seats) t ≡ delivering m name readers item t
  delivered =
      let seats : (delivering_each item (filter reads t.seats) t).seats ≡ map (λ x. cond (reads x) (one_more x) x) t.seats =
      rows_after (filter reads t.seats) t.seats item t refl
      ∙ map_on (counted_by (filter reads t.seats)) (λ x. cond (reads x) (one_more x) x) t.seats
      (all_weaker (IsAlone t.seats) (λ x. counted_by (filter reads t.seats) x ≡ cond (reads x) (one_more x) x) each_row t.seats (all_alone t.seats apart.seats)) in
      others_stay (filter reads t.seats) item t ∙ ap₂ (λ ss bs. record t { seats = ss; boxes = bs }) seats (boxes_after (filter reads t.seats) item t)

pub one_by_one : (m : Chart) → IsDeliveredOneByOne m
one_by_one m name readers item t apart = delivered m name readers item t apart
