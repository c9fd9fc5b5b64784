-- Papers and items stay numbered.
use Rattle.std.proofs.Common.{◌≡◌, ℕ, ◌+◌, Bool, true, false, cond, not, List, [], ◌∷◌, ◌++◌, map, filter, bytes_eq, refl, sym, ap, ap₂, subst, ◌∙◌, inl, inr, add-one, append-nil}
use Rattle.std.specs.List.{AllByRecursion}
use Rattle.std.proofs.lemmas.Bool.{cases_Bool, not-true}
use Rattle.std.proofs.lemmas.List.{map-append}
use Rattle.std.proofs.lemmas.List.Elements.{filter-append}
use Rattle.sqlite_trees.specs.Tree.{IsAscending}
use Rattle.sqlite_keyed.specs.Lists.{delete_where}
use Rattle.sqlite_keyed.proofs.ListLemmas.{all-append, all-filter, all-map, all_both, all_map, all_weaker}
use Rattle.sqlite_keyed.proofs.SliceLemmas.{slice-push_mine, slice-push_other}
use Rattle.dip_map.specs.Charts.{Chart}
use Rattle.dip_store_tables.specs.Boards.{power_name}
use Rattle.dip_desk_state.specs.State.{Author, Nobody, TheMaster, Seat, NewSeat, Effect, Nothing, Pending, Votes, Delivers, Opens, Publishes, Seats}
use Rattle.dip_desk_state.proofs.KeyedLemmas.{names_tell}
use Rattle.dip_desk_state.specs.Records.{Public, Item, White, Grey, Kept}
use Rattle.dip_store_rows.specs.Tables.{GameRow, SeatRow, BoxRow, PaperRow, Tables, is_named, is_seat, is_seat_in, is_box, is_box_in, is_paper_in}
use Rattle.dip_store_tables.specs.Writing.{game_row, seat_row, paper_row, next_row, seat_noted}
use Rattle.dip_store_tables.specs.Changing.{noting, reaching, delivering, opening, publishing, is_reader, one_more}
use Rattle.dip_store_tables.specs.Coding.{AreApart, same_name}
use Rattle.dip_store_tables.specs.Counting.{counted, paper_numbers, item_numbers, AreCounted, CountsOn, IsNextPaper}
use Rattle.dip_store_tables.specs.Laws.{TablesStayCounted}
use Rattle.dip_store_tables.proofs.Anew.{put_mine, put_other}
use Rattle.dip_store_tables.proofs.Authors.{authored, ordering_alone, noted_keys}
use Rattle.dip_store_tables.proofs.Changes.{noted, printed, noted_game, noted_power, noted_games, mid_apart}
use Rattle.dip_store_tables.proofs.Lists.{all_passed, far_deleted, none_narrower}
use Rattle.dip_store_tables.proofs.Openings.{ends_apart}
use Rattle.dip_store_tables.proofs.Press.{rows_of}
use Rattle.dip_store_tables.proofs.Seats.{IsAlone, all_alone, either_way, name_turned}

-- one number more
counted_more : (n : ℕ) → counted n ++ (n + 1) ∷ [] ≡ counted (n + 1)
counted_more n = subst (λ k. counted n ++ k ∷ [] ≡ counted k) (sym (add-one n)) refl

abbrev HasItems : List BoxRow → SeatRow → Type 0
HasItems boxes s = item_numbers boxes s.game s.power ≡ counted s.items

abbrev HasPapers : List PaperRow → GameRow → Type 0
HasPapers papers g = paper_numbers papers g.name ≡ counted g.papers

-- a row of a seat with the same key and count
same_items : (boxes : List BoxRow) (s r : SeatRow) → r.game ≡ s.game → r.power ≡ s.power → r.items ≡ s.items → HasItems boxes s → HasItems boxes r
same_items boxes s r game power items has = ap₂ (item_numbers boxes) game power ∙ has ∙ ap counted (sym items)

module _ (m : Chart) (name : List ℕ) (k : Kept) (e : Effect) (t : Tables) where
  noted_items : (power : ℕ) (s : SeatRow) → (noted m name k e t power s).items ≡ s.items
  noted_items power s = either_way (λ r. r.items) (is_seat name (power_name m power) s) (seat_noted (printed m name k e t power) e s) s (noted_keys (printed m name k e t power) e s).2

  noted_counted : (who : Author) → AreCounted t → AreCounted (noting m who name k e t)
  noted_counted Nobody it = it
  noted_counted TheMaster it = record { papers = it.papers; items = it.items }
  noted_counted (Seat power) it = record {
    papers = it.papers;
    items = all_map (HasItems t.boxes) (noted m name k e t power) t.seats
        (all_weaker (HasItems t.boxes) (λ s. HasItems t.boxes (noted m name k e t power s))
        (λ s has. same_items t.boxes s (noted m name k e t power s) (noted_game m name k e t power s) (noted_power m name k e t power s) (noted_items power s) has) t.seats it.items);
  }

  mid_counted : (who : Author) → AreCounted t → AreCounted (authored m who name k e t)
  mid_counted who it =
      let u = noting m who name k e t in
      let alone = ordering_alone m who name e u in
      let has = noted_counted who it in
      record {
        papers = subst (λ gs. AllByRecursion (HasPapers (authored m who name k e t).papers) gs) (sym alone.games) (subst (λ ps. AllByRecursion (HasPapers ps) u.games) (sym alone.papers) has.papers);
        items = subst (λ ss. AllByRecursion (HasItems (authored m who name k e t).boxes) ss) (sym alone.seats) (subst (λ bs. AllByRecursion (HasItems bs) u.seats) (sym alone.boxes) has.items);
      }

next_number : (item : Item) (s : SeatRow) → (next_row item s).number ≡ s.items + 1
next_number (White writer addressees text) s = refl
next_number (Grey to_all text) s = refl

module _ (m : Chart) (name : List ℕ) (t : Tables) (it : AreCounted t) (apart : AreApart t) where
  module _ (readers : List ℕ) (item : Item) where
    abbrev reads : SeatRow → Bool
    reads s = is_reader m name readers s

    abbrev boxes : List BoxRow
    boxes = (delivering m name readers item t).boxes

    numbers_of : (s : SeatRow) → IsAlone t.seats s → item_numbers boxes s.game s.power ≡ item_numbers t.boxes s.game s.power ++ map (λ b. b.number) (map (next_row item) (filter reads (s ∷ [])))
    numbers_of s one =
        ap (map (λ (b : BoxRow). b.number))
        (filter-append (is_box s.game s.power) t.boxes (map (next_row item) (filter reads t.seats))
        ∙ ap (λ rs. filter (is_box s.game s.power) t.boxes ++ rs) (rows_of m t name readers item s one))
        ∙ map-append (λ (b : BoxRow). b.number) (filter (is_box s.game s.power) t.boxes) (map (next_row item) (filter reads (s ∷ [])))

    counts : (s : SeatRow) → IsAlone t.seats s → HasItems t.boxes s → HasItems boxes (cond (reads s) (one_more s) s)
    counts s one has = elim (cases_Bool (reads s)) [
      | inl e ↦
          let found : filter reads (s ∷ []) ≡ s ∷ [] = rw e refl in
          let is : item_numbers boxes s.game s.power ≡ counted (s.items + 1) =
          numbers_of s one ∙ ap₂ (λ ns rs. ns ++ map (λ (b : BoxRow). b.number) (map (next_row item) rs)) has found
          ∙ ap (λ n. counted s.items ++ n ∷ []) (next_number item s) ∙ counted_more s.items in
          subst (λ b. HasItems boxes (cond b (one_more s) s)) (sym e) is
      | inr e ↦
          let found : filter reads (s ∷ []) ≡ [] = rw e refl in
          let is : item_numbers boxes s.game s.power ≡ counted s.items =
          numbers_of s one ∙ ap₂ (λ ns rs. ns ++ map (λ (b : BoxRow). b.number) (map (next_row item) rs)) has found ∙ append-nil _ in
          subst (λ b. HasItems boxes (cond b (one_more s) s)) (sym e) is
    ]

    delivered_counted : AreCounted (delivering m name readers item t)
    delivered_counted = record {
      papers = it.papers;
      items = all_map (HasItems boxes) (λ s. cond (reads s) (one_more s) s) t.seats
          (all_both (IsAlone t.seats) (HasItems t.boxes) (λ s. HasItems boxes (cond (reads s) (one_more s) s)) counts t.seats (all_alone t.seats apart.seats) it.items);
    }

  module _ (p : Public) (paper : List ℕ) (seats : List NewSeat) (first : p.papers ≡ 1) (later : IsAscending (λ a b. same_name a b ≡ false) (opening m p paper seats t).games) where
    abbrev new : Tables
    new = opening m p paper seats t

    old_papers : (g : GameRow) → bytes_eq g.name p.game ≡ false → HasPapers t.papers g → HasPapers new.papers g
    old_papers g far has =
        ap (map (λ (r : PaperRow). r.number)) (put_other (λ (r : PaperRow). r.game) g.name p.game t.papers (paper_row p.game p.papers paper ∷ []) (refl, tt) far) ∙ has

    new_papers : HasPapers new.papers (game_row m p.game p)
    new_papers =
        ap (map (λ (r : PaperRow). r.number)) (put_mine (λ (r : PaperRow). r.game) p.game t.papers (paper_row p.game p.papers paper ∷ []) (refl, tt))
        ∙ subst (λ n. n ∷ [] ≡ counted n) (sym first) refl

    old_items : (s : SeatRow) → not (is_seat_in p.game s) ≡ true → HasItems t.boxes s → HasItems new.boxes s
    old_items s far has =
        ap (map (λ (b : BoxRow). b.number)) (far_deleted (λ (b : BoxRow). b.game) (λ b. bytes_eq b.power s.power) s.game p.game (name_turned s.game p.game (not-true _ far)) t.boxes) ∙ has

    opened_counted : AreCounted new
    opened_counted = record {
      papers = all-append (HasPapers new.papers) t.games (game_row m p.game p ∷ [])
          (all_both (λ g. bytes_eq g.name p.game ≡ false) (HasPapers t.papers) (HasPapers new.papers) old_papers t.games (ends_apart t.games (game_row m p.game p) later) it.papers)
          (new_papers, tt);
      items = all-append (HasItems new.boxes) (delete_where (is_seat_in p.game) t.seats) (map (seat_row m p.game) seats)
          (all_both (λ s. not (is_seat_in p.game s) ≡ true) (HasItems t.boxes) (HasItems new.boxes) old_items (delete_where (is_seat_in p.game) t.seats)
          (all_passed (λ s. not (is_seat_in p.game s)) t.seats) (all-filter (HasItems t.boxes) (λ s. not (is_seat_in p.game s)) t.seats it.items))
          (all-map (HasItems new.boxes) (seat_row m p.game)
          (λ s. ap (map (λ (b : BoxRow). b.number)) (none_narrower (is_box_in p.game) (λ b. bytes_eq b.power (power_name m s.power)) t.boxes)) seats);
    }

  module _ (p : Public) (paper : List ℕ) (played : Bool) where
    abbrev papers : List PaperRow
    papers = t.papers ++ paper_row name p.papers paper ∷ []

    published : (g : GameRow) → (is_named name g ≡ true → IsNextPaper p.papers g) → HasPapers t.papers g → HasPapers papers (cond (is_named name g) (game_row m g.name p) g)
    published g next has = elim (cases_Bool (is_named name g)) [
      | inl e ↦
          let same : name ≡ g.name = sym (names_tell.same g.name name e) in
          let mine : is_paper_in g.name (paper_row name p.papers paper) ≡ true = subst (λ n. bytes_eq n g.name ≡ true) (sym same) (names_tell.self g.name) in
          let is : paper_numbers papers g.name ≡ counted p.papers =
          slice-push_mine (is_paper_in g.name) (λ (r : PaperRow). r.number) t.papers (paper_row name p.papers paper) mine
          ∙ ap₂ (λ ns n. ns ++ n ∷ []) has (next e).0 ∙ counted_more g.papers ∙ ap counted (sym (next e).0) in
          subst (λ b. HasPapers papers (cond b (game_row m g.name p) g)) (sym e) is
      | inr e ↦
          let is : paper_numbers papers g.name ≡ counted g.papers =
          slice-push_other (is_paper_in g.name) (λ (r : PaperRow). r.number) t.papers (paper_row name p.papers paper) (name_turned g.name name e) ∙ has in
          subst (λ b. HasPapers papers (cond b (game_row m g.name p) g)) (sym e) is
    ]

    published_counted : AllByRecursion (λ g. is_named name g ≡ true → IsNextPaper p.papers g) t.games → AreCounted (publishing m name p paper played t)
    published_counted next = record {
      papers = all_map (HasPapers papers) (λ g. cond (is_named name g) (game_row m g.name p) g) t.games
          (all_both (λ g. is_named name g ≡ true → IsNextPaper p.papers g) (HasPapers t.papers) (λ g. HasPapers papers (cond (is_named name g) (game_row m g.name p) g)) published t.games next it.papers);
      items = it.items;
    }

  reached_counted : (e : Effect) → CountsOn name e t.games → AreApart (reaching m name e t) → AreCounted (reaching m name e t)
  reached_counted Nothing next later = it
  reached_counted (Pending orders) next later = it
  reached_counted (Votes vote) next later = it
  reached_counted (Delivers readers item) next later = delivered_counted readers item
  reached_counted (Opens public paper seats) next later = opened_counted public paper seats next later.games
  reached_counted (Publishes public paper played) next later = published_counted public paper played next
  reached_counted (Seats seat) next later = record {
    papers = it.papers;
    items = all_map (HasItems t.boxes) (λ s. cond (is_seat name (power_name m seat.power) s) (record s { digest = seat.digest }) s) t.seats
        (all_weaker (HasItems t.boxes) (λ s. HasItems t.boxes (cond (is_seat name (power_name m seat.power) s) (record s { digest = seat.digest }) s))
        (λ s has. elim (cases_Bool (is_seat name (power_name m seat.power) s)) [
          | inl e ↦ subst (λ b. HasItems t.boxes (cond b (record s { digest = seat.digest }) s)) (sym e) has
          | inr e ↦ subst (λ b. HasItems t.boxes (cond b (record s { digest = seat.digest }) s)) (sym e) has
        ]) t.seats it.items);
  }

pub tables_stay_counted : (m : Chart) → TablesStayCounted m
tables_stay_counted m c t next it apart later =
    let u = authored m c.author c.game c.kept c.effect t in
    let games : u.games ≡ t.games = (ordering_alone m c.author c.game c.effect (noting m c.author c.game c.kept c.effect t)).games ∙ noted_games m c.game c.kept c.effect t c.author in
    reached_counted m c.game u (mid_counted m c.game c.kept c.effect t c.author it) (mid_apart m c.game c.kept c.effect t c.author apart) c.effect (subst (CountsOn c.game c.effect) (sym games) next) later
