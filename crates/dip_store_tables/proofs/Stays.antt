-- After a change legible tables are still legible.
use Rattle.std.proofs.Common.{◌≡◌, ℕ, ◌<◌, ◌==◌, Bool, true, false, cond, not, List, [], ◌∷◌, ◌++◌, map, filter, codes, refl, sym, arith, inl, inr}
use Rattle.std.specs.List.{AllByRecursion}
use Rattle.std.proofs.lemmas.Bool.{cases_Bool, cond_both}
use Rattle.sqlite_keyed.specs.Lists.{delete_where}
use Rattle.sqlite_keyed.proofs.ListLemmas.{all-append, all-filter, all-map, all_both, all_map, all_weaker}
use Rattle.dip_map.specs.Charts.{Chart, IsMap}
use Rattle.dip_store_tables.specs.Boards.{power_name}
use Rattle.dip_desk_state.specs.Bounds.{most_items, most_sent}
use Rattle.dip_desk_state.specs.State.{Author, Nobody, TheMaster, Seat, NewSeat, Effect, Nothing, Pending, Votes, Delivers, Opens, Publishes, Seats}
use Rattle.dip_desk_state.specs.Writable.{IsAuthorOf}
use Rattle.dip_desk_state.specs.Records.{Item, White, Grey, Kept, Standing}
use Rattle.dip_store_tables.specs.Changing.{noting, ordering, reaching, is_reader, one_more}
use Rattle.dip_store_rows.specs.Tables.{SeatRow, Tables, is_seat, is_seat_in, is_pending, is_pending_in, is_box_in, is_paper_in}
use Rattle.dip_store_tables.specs.Writing.{as_printed, desk_noted, next_row, paper_row, pending_row, seat_noted, seat_row, whole_reply}
use Rattle.dip_store_tables.specs.LegibleLaws.{TablesStayLegible}
use Rattle.dip_store_tables.specs.Legible.{AreLegible, IsDeskLegible, IsItemLegible, IsOrderLegible, IsPaperLegible, IsSeatLegible, IsText}
use Rattle.dip_store_tables.specs.Room.{HasRoom}
use Rattle.dip_store_tables.specs.ChangeTexts.{HasEffectTexts, IsItemOfTexts}
use Rattle.dip_store_tables.proofs.MapTexts.{power_text}
use Rattle.dip_store_tables.proofs.Spelled.{both, lines, none, number, plain, words}

module _ {A : Type 0} where
  -- rows that are left
  left : (P : A → Type 0) (test : A → Bool) (xs : List A) → AllByRecursion P xs → AllByRecursion P (delete_where test xs)
  left P test xs all = all-filter P (λ x. not (test x)) xs all

  -- where some rows are changed, each is as it is to be
  all_changed : (P Q : A → Type 0) (test : A → Bool) (f : A → A) → ((x : A) → test x ≡ true → P x → Q (f x)) → ((x : A) → P x → Q x)
      → (xs : List A) → AllByRecursion P xs → AllByRecursion Q (map (λ x. cond (test x) (f x) x) xs)
  all_changed P Q test f turn keep xs all =
      all_map Q (λ x. cond (test x) (f x) x) xs
      (all_weaker P (λ x. Q (cond (test x) (f x) x)) (λ x it. cond_both (test x) (f x) x Q (λ e. turn x e it) (λ e. keep x it)) xs all)

  -- what holds of the rows that pass
  of_passed : (P : A → Type 0) (test : A → Bool) (xs : List A) → AllByRecursion P (filter test xs) → AllByRecursion (λ x. test x ≡ true → P x) xs
  of_passed P test [] all = tt
  of_passed P test (x ∷ xs) all = elim (cases_Bool (test x)) [
    | inl hit ↦ let has = rw hit at all in ((λ _. has.0), of_passed P test xs has.1)
    | inr off ↦ ((λ e. absurd (let bad = sym off in cc)), of_passed P test xs (rw off at all))
  ]

  pairs : (P Q : A → Type 0) (xs : List A) → AllByRecursion P xs → AllByRecursion Q xs → AllByRecursion (λ x. P x × Q x) xs
  pairs P Q xs one other = all_both P Q (λ x. P x × Q x) (λ x p q. (p, q)) xs one other

  always : (P : A → Type 0) → ((x : A) → P x) → (xs : List A) → AllByRecursion P xs
  always P f [] = tt
  always P f (x ∷ xs) = (f x, always P f xs)

reply_text : (game sender : List ℕ) (k : Kept) → IsText game → IsText sender → IsText k.reply → IsText (whole_reply game sender k)
reply_text game sender k named from told =
    let one = both (both (plain (codes "REPLY ") refl) named) (plain (codes " ") refl) in
    let two = both (both (both one from) (plain (codes " ") refl)) (number k.number) in
    both (both (both two (plain (codes "\n") refl)) told) (plain (codes "END\n") refl)

-- the author's count has room, and so have the readers'
abbrev MaySend : Effect → SeatRow → Type 0
MaySend Nothing s = Unit {0}
MaySend (Pending orders) s = Unit {0}
MaySend (Votes vote) s = Unit {0}
MaySend (Delivers readers item) s = s.sent < most_sent
MaySend (Opens public paper seats) s = Unit {0}
MaySend (Publishes public paper played) s = Unit {0}
MaySend (Seats seat) s = Unit {0}

abbrev MayGet : Chart → List ℕ → Effect → SeatRow → Type 0
MayGet m name Nothing s = Unit {0}
MayGet m name (Pending orders) s = Unit {0}
MayGet m name (Votes vote) s = Unit {0}
MayGet m name (Delivers readers item) s = is_reader m name readers s ≡ true → s.items < most_items
MayGet m name (Opens public paper seats) s = Unit {0}
MayGet m name (Publishes public paper played) s = Unit {0}
MayGet m name (Seats seat) s = Unit {0}

may_get : (m : Chart) (who : Author) (name : List ℕ) (e : Effect) (t : Tables) → HasRoom m who name e t → AllByRecursion (MayGet m name e) t.seats
may_get m who name Nothing t room = always _ (λ s. tt) t.seats
may_get m who name (Pending orders) t room = always _ (λ s. tt) t.seats
may_get m who name (Votes vote) t room = always _ (λ s. tt) t.seats
may_get m who name (Delivers readers item) t room = of_passed (λ s. s.items < most_items) (is_reader m name readers) t.seats room.1
may_get m who name (Opens public paper seats) t room = always _ (λ s. tt) t.seats
may_get m who name (Publishes public paper played) t room = always _ (λ s. tt) t.seats
may_get m who name (Seats seat) t room = always _ (λ s. tt) t.seats

may_send : (m : Chart) (p : ℕ) (name : List ℕ) (e : Effect) (t : Tables) → HasRoom m (Seat p) name e t
    → AllByRecursion (λ s. is_seat name (power_name m p) s ≡ true → MaySend e s) t.seats
may_send m p name Nothing t room = always _ (λ s _. tt) t.seats
may_send m p name (Pending orders) t room = always _ (λ s _. tt) t.seats
may_send m p name (Votes vote) t room = always _ (λ s _. tt) t.seats
may_send m p name (Delivers readers item) t room = room.0
may_send m p name (Opens public paper seats) t room = always _ (λ s _. tt) t.seats
may_send m p name (Publishes public paper played) t room = always _ (λ s _. tt) t.seats
may_send m p name (Seats seat) t room = always _ (λ s _. tt) t.seats

-- the author's row with the letter
noted_seat : (m : Chart) (name : List ℕ) (k : Kept) (e : Effect) (s : SeatRow) → IsText k.reply → MaySend e s → IsSeatLegible s → MayGet m name e s
    → IsSeatLegible (seat_noted k e s) × MayGet m name e (seat_noted k e s)
noted_seat m name k Nothing s told may it get = ((told, it.1, it.2), tt)
noted_seat m name k (Pending orders) s told may it get = ((told, it.1, it.2), tt)
noted_seat m name k (Votes vote) s told may it get = ((told, it.1, it.2), tt)
noted_seat m name k (Delivers readers item) s told may it get = ((told, omega (arith, may), it.2), get)
noted_seat m name k (Opens public paper seats) s told may it get = ((told, it.1, it.2), tt)
noted_seat m name k (Publishes public paper played) s told may it get = ((told, it.1, it.2), tt)
noted_seat m name k (Seats seat) s told may it get = ((told, it.1, it.2), tt)

-- legible tables whose readers have room
record AreReady (m : Chart) (name : List ℕ) (e : Effect) (t : Tables) : Type 0 where
  legible : AreLegible t
  room : AllByRecursion (MayGet m name e) t.seats

module _ (m : Chart) (ok : IsMap m) (name : List ℕ) (named : IsText name) (k : Kept) (told : IsText k.reply) (e : Effect) where
  noted : (who : Author) (t : Tables) → IsAuthorOf m who → HasRoom m who name e t → AreLegible t → AreReady m name e (noting m who name k e t)
  noted Nobody t is room it = record { legible = it; room = may_get m Nobody name e t room }
  noted TheMaster t is room it = record {
    legible = record {
      desk = all_changed IsDeskLegible IsDeskLegible (λ d. d.id == 1) (desk_noted (as_printed name (codes "master") k))
          (λ d mine old. reply_text name (codes "master") k named (plain (codes "master") refl) told) (λ d old. old) t.desk it.desk;
      seats = it.seats;
      pending = it.pending;
      boxes = it.boxes;
      papers = it.papers;
    };
    room = may_get m TheMaster name e t room;
  }
  noted (Seat power) t is room it =
      let mine = power_name m power in
      let Is : SeatRow → Type 0 = (λ s. IsSeatLegible s × MayGet m name e s) in
      let Has : SeatRow → Type 0 = (λ s. Is s × (is_seat name mine s ≡ true → MaySend e s)) in
      let all : AllByRecursion Has t.seats =
      pairs Is (λ s. is_seat name mine s ≡ true → MaySend e s) t.seats (pairs IsSeatLegible (MayGet m name e) t.seats it.seats (may_get m (Seat power) name e t room)) (may_send m power name e t room) in
      let words = reply_text name mine k named (power_text m ok power is) told in
      let after = all_changed Has Is (is_seat name mine) (seat_noted (as_printed name mine k) e)
      (λ s hit has. noted_seat m name (as_printed name mine k) e s words (has.1 hit) has.0.0 has.0.1) (λ s has. has.0) t.seats all in
      record {
        legible = record {
          desk = it.desk;
          seats = all_weaker Is IsSeatLegible (λ s has. has.0) _ after;
          pending = it.pending;
          boxes = it.boxes;
          papers = it.papers;
        };
        room = all_weaker Is (MayGet m name e) (λ s has. has.1) _ after;
      }

order_rows : (m : Chart) (name power : List ℕ) (os : List Standing) → AllByRecursion (λ o. IsText o.line) os → AllByRecursion IsOrderLegible (map (pending_row m name power) os)
order_rows m name power os all = all_map IsOrderLegible (pending_row m name power) os all

with_pending : (t : Tables) → AreLegible t → (name power : List ℕ) (m : Chart) (os : List Standing) → AllByRecursion (λ o. IsText o.line) os
    → AreLegible (record t { pending = delete_where (is_pending name power) t.pending ++ map (pending_row m name power) os })
with_pending t it name power m os all = record {
  desk = it.desk;
  seats = it.seats;
  pending = all-append IsOrderLegible (delete_where (is_pending name power) t.pending) (map (pending_row m name power) os)
      (left IsOrderLegible (is_pending name power) t.pending it.pending) (order_rows m name power os all);
  boxes = it.boxes;
  papers = it.papers;
}

ordered : (m : Chart) (who : Author) (name : List ℕ) (e : Effect) (t : Tables) → HasEffectTexts e → AreReady m name e t → AreReady m name e (ordering m who name e t)
ordered m who name Nothing t texts it = it
ordered m Nobody name (Pending orders) t texts it = it
ordered m TheMaster name (Pending orders) t texts it = it
ordered m (Seat power) name (Pending orders) t texts it = record { legible = with_pending t it.legible name (power_name m power) m orders texts; room = it.room }
ordered m Nobody name (Votes vote) t texts it = it
ordered m TheMaster name (Votes vote) t texts it = it
ordered m (Seat power) name (Votes vote) t texts it =
    let old = it.legible in record { legible = record { desk = old.desk; seats = old.seats; pending = old.pending; boxes = old.boxes; papers = old.papers }; room = it.room }
ordered m who name (Delivers readers item) t texts it = it
ordered m who name (Opens public paper seats) t texts it = it
ordered m who name (Publishes public paper played) t texts it = it
ordered m who name (Seats seat) t texts it = it

-- an item's row
item_row : (item : Item) → IsItemOfTexts item → (s : SeatRow) → IsItemLegible (next_row item s)
item_row (White writer addressees text) texts s = (texts.0, words 32 (omega arith) addressees texts.1, lines 10 (omega arith) text texts.2)
item_row (Grey true text) texts s = (none, plain (codes "all") refl, lines 10 (omega arith) text texts)
item_row (Grey false text) texts s = (none, plain (codes "you") refl, lines 10 (omega arith) text texts)

new_seat : (m : Chart) (name : List ℕ) (s : NewSeat) → IsSeatLegible (seat_row m name s)
new_seat m name s = (none, omega arith, omega arith)

module _ (m : Chart) (name : List ℕ) (t : Tables) where
  reached : (e : Effect) → HasEffectTexts e → AreReady m name e t → AreLegible (reaching m name e t)
  reached Nothing texts it = it.legible
  reached (Pending orders) texts it = it.legible
  reached (Votes vote) texts it = it.legible
  reached (Delivers readers item) texts it =
      let old = it.legible in
      let get = MayGet m name (Delivers readers item) in
      record {
        desk = old.desk;
        seats = all_changed (λ s. IsSeatLegible s × get s) IsSeatLegible (is_reader m name readers) one_more
            (λ s hit has. (has.0.0, has.0.1, let few = has.1 hit in omega (arith, few))) (λ s has. has.0) t.seats (pairs IsSeatLegible get t.seats old.seats it.room);
        pending = old.pending;
        boxes = all-append IsItemLegible t.boxes (map (next_row item) (filter (is_reader m name readers) t.seats)) old.boxes
            (all-map IsItemLegible (next_row item) (item_row item texts) (filter (is_reader m name readers) t.seats));
        papers = old.papers;
      }
  reached (Opens p paper seats) texts it =
      let old = it.legible in
      record {
        desk = old.desk;
        seats = all-append IsSeatLegible (delete_where (is_seat_in p.game) t.seats) (map (seat_row m p.game) seats) (left IsSeatLegible (is_seat_in p.game) t.seats old.seats)
            (all-map IsSeatLegible (seat_row m p.game) (new_seat m p.game) seats);
        pending = left IsOrderLegible (is_pending_in p.game) t.pending old.pending;
        boxes = left IsItemLegible (is_box_in p.game) t.boxes old.boxes;
        papers = all-append IsPaperLegible (delete_where (is_paper_in p.game) t.papers) (paper_row p.game p.papers paper ∷ []) (left IsPaperLegible (is_paper_in p.game) t.papers old.papers) (texts, tt);
      }
  reached (Publishes p paper played) texts it =
      let old = it.legible in
      record {
        desk = old.desk;
        seats = old.seats;
        pending = cond_both played (delete_where (is_pending_in name) t.pending) t.pending (AllByRecursion IsOrderLegible)
            (λ e. left IsOrderLegible (is_pending_in name) t.pending old.pending) (λ e. old.pending);
        boxes = old.boxes;
        papers = all-append IsPaperLegible t.papers (paper_row name p.papers paper ∷ []) old.papers (texts, tt);
      }
  reached (Seats seat) texts it =
      let old = it.legible in
      record {
        desk = old.desk;
        seats = all_changed IsSeatLegible IsSeatLegible (is_seat name (power_name m seat.power)) (λ s. record s { digest = seat.digest }) (λ s e has. has) (λ s has. has) t.seats old.seats;
        pending = old.pending;
        boxes = old.boxes;
        papers = old.papers;
      }

pub tables_stay_legible : (m : Chart) → TablesStayLegible m
tables_stay_legible m c t ok author texts room it =
    let u = noting m c.author c.game c.kept c.effect t in
    let noted_it = noted m ok c.game texts.0 c.kept texts.1 c.effect c.author t author room it in
    reached m c.game (ordering m c.author c.game c.effect u) c.effect texts.2 (ordered m c.author c.game c.effect u texts.2 noted_it)
