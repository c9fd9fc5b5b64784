-- What the tables say after press.
use Rattle.std.proofs.Common.{◌≡◌, ℕ, ◌+◌, ◌==◌, Bool, true, false, cond, ◌&&◌, List, [], ◌∷◌, ◌++◌, map, filter, bytes_eq, refl, sym, ap, ◌∙◌, inl, inr, map-id, append-nil}
use Rattle.std.specs.List.{list_any}
use Rattle.std.proofs.lemmas.Bool.{cases_Bool}
use Rattle.std.proofs.lemmas.List.Elements.{filter-append}
use Rattle.std.proofs.lemmas.List.{map-append}
use Rattle.sqlite_keyed.proofs.ListLemmas.{filter-map, filter_same}
use Rattle.dip_map.specs.Charts.{Chart}
use Rattle.dip_store_tables.specs.Boards.{power_in as power_numbered}
use Rattle.dip_desk_state.specs.Keyed.{change_at}
use Rattle.dip_desk_state.specs.State.{Delivers, name_of, with_effect, with_item}
use Rattle.dip_desk_state.specs.Records.{Item, White, Grey}
use Rattle.dip_store_rows.specs.Tables.{SeatRow, Tables, is_seat, is_box}
use Rattle.dip_store_tables.specs.Reading.{own_of, item_of, items_of, part_of, game_of}
use Rattle.dip_store_tables.specs.Writing.{next_row}
use Rattle.dip_store_tables.specs.Changing.{is_reader, one_more, delivering}
use Rattle.dip_store_tables.specs.Coding.{AreApart}
use Rattle.dip_desk_state.specs.Writable.{IsPlainItem}
use Rattle.dip_store_tables.proofs.Records.{item_back}
use Rattle.dip_store_tables.proofs.Lists.{filters_turned}
use Rattle.dip_store_tables.proofs.Games.{with_parts, games_changed}
use Rattle.dip_store_tables.proofs.Seats.{IsAlone, all_alone}

-- a seat's items have its key
row_key : (n p : List ℕ) (item : Item) (s : SeatRow) → is_box n p (next_row item s) ≡ is_seat n p s
row_key n p (White writer addressees text) s = refl
row_key n p (Grey to_all text) s = refl

module _ (m : Chart) (t : Tables) (name readers : List ℕ) (item : Item) where
  abbrev reads : SeatRow → Bool
  reads s = is_reader m name readers s

  -- a seat's new items
  pub rows_of : (s : SeatRow) → IsAlone t.seats s → filter (is_box s.game s.power) (map (next_row item) (filter reads t.seats)) ≡ map (next_row item) (filter reads (s ∷ []))
  rows_of s one =
      filter-map (is_box s.game s.power) (next_row item) (filter reads t.seats)
      ∙ ap (map (next_row item)) (filter_same (λ x. is_box s.game s.power (next_row item x)) (is_seat s.game s.power) (row_key s.game s.power item) (filter reads t.seats)
      ∙ filters_turned (is_seat s.game s.power) reads t.seats ∙ ap (filter reads) one)

module _ (m : Chart) (t : Tables) (name readers : List ℕ) (item : Item) (plain : IsPlainItem item) (apart : AreApart t) where
  abbrev new : Tables
  new = delivering m name readers item t

  abbrev reader_row : SeatRow → Bool
  reader_row s = is_reader m name readers s

  boxes_of : (s : SeatRow) → IsAlone t.seats s → items_of new.boxes s.game s.power ≡ items_of t.boxes s.game s.power ++ map item_of (map (next_row item) (filter reader_row (s ∷ [])))
  boxes_of s one =
      ap (map item_of) (filter-append (is_box s.game s.power) t.boxes (map (next_row item) (filter reader_row t.seats)) ∙ ap (λ rs. filter (is_box s.game s.power) t.boxes ++ rs) (rows_of m t name readers item s one))
      ∙ map-append item_of (filter (is_box s.game s.power) t.boxes) (map (next_row item) (filter reader_row (s ∷ [])))

  reader : (s : SeatRow) → IsAlone t.seats s → reader_row s ≡ true → part_of m new (one_more s) ≡ with_item item (part_of m t s)
  reader s one e =
      let found : filter reader_row (s ∷ []) ≡ s ∷ [] = rw e refl in
      ap (λ b. record { own = own_of m t.pending t.ballots (one_more s); box = b })
      (boxes_of s one ∙ ap (λ rs. items_of t.boxes s.game s.power ++ map item_of (map (next_row item) rs)) found
      ∙ ap (λ x. items_of t.boxes s.game s.power ++ x ∷ []) (item_back s.game s.power (s.items + 1) item plain))

  others : (s : SeatRow) → IsAlone t.seats s → reader_row s ≡ false → part_of m new s ≡ part_of m t s
  others s one e =
      let found : filter reader_row (s ∷ []) ≡ [] = rw e refl in
      ap (λ b. record { own = own_of m t.pending t.ballots s; box = b })
      (boxes_of s one ∙ ap (λ rs. items_of t.boxes s.game s.power ++ map item_of (map (next_row item) rs)) found ∙ append-nil (items_of t.boxes s.game s.power))

  near : (s : SeatRow) → IsAlone t.seats s → bytes_eq s.game name ≡ true → part_of m new (cond (reader_row s) (one_more s) s) ≡ with_effect (Delivers readers item) (part_of m t s)
  near s one here =
      let link : reader_row s ≡ list_any (λ p. p == power_numbered m s.power) readers = ap (λ b. b && list_any (λ p. p == power_numbered m s.power) readers) here in
      elim (cases_Bool (reader_row s)) [
        | inl e ↦
            ap (λ b. part_of m new (cond b (one_more s) s)) e ∙ reader s one e
            ∙ ap (λ b. cond b (with_item item (part_of m t s)) (part_of m t s)) (sym e ∙ link)
        | inr e ↦
            ap (λ b. part_of m new (cond b (one_more s) s)) e ∙ others s one e
            ∙ ap (λ b. cond b (with_item item (part_of m t s)) (part_of m t s)) (sym e ∙ link)
      ]

  far : (s : SeatRow) → IsAlone t.seats s → bytes_eq s.game name ≡ false → part_of m new (cond (reader_row s) (one_more s) s) ≡ part_of m t s
  far s one away =
      let e : reader_row s ≡ false = ap (λ b. b && list_any (λ p. p == power_numbered m s.power) readers) away in
      ap (λ b. part_of m new (cond b (one_more s) s)) e ∙ others s one e

  stays : (s : SeatRow) → (cond (reader_row s) (one_more s) s).game ≡ s.game
  stays s = elim (cases_Bool (reader_row s)) [ inl e ↦ rw e refl | inr e ↦ rw e refl ]

  pub games_delivered : map (game_of m new) new.games ≡ change_at bytes_eq name_of name (with_parts (λ p. p) (λ ps. ps) (with_effect (Delivers readers item))) (map (game_of m t) t.games)
  games_delivered = games_changed m t new name (λ p. p) (λ ps. ps) (with_effect (Delivers readers item)) (λ g. g) (λ s. cond (reader_row s) (one_more s) s) (IsAlone t.seats)
      apart.games (all_alone t.seats apart.seats) (sym (map-id t.games)) refl (λ g. refl) stays (λ g h. refl) (λ g h. refl) refl (λ n h. refl) near far
