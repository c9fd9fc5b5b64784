-- A letter of a seat, in its row and its standing orders.
use Rattle.std.proofs.Common.{◌≡◌, ℕ, ◌<◌, ◌+◌, ◌==◌, Bool, true, false, ◌&&◌, List, [], ◌∷◌, ◌++◌, map, filter, length, Option, Some, bytes_eq, refl, sym, ap, ap₂, subst, ◌∙◌, append-nil}
use Rattle.std.specs.List.{AllByRecursion}
use Rattle.std.proofs.lemmas.List.Elements.{filter-append}
use Rattle.sqlite_keyed.specs.Lists.{delete_where}
use Rattle.sqlite_keyed.proofs.ListLemmas.{all_of, all_map, filter_all, filter_none}
use Rattle.sqlite_keyed.proofs.SliceLemmas.{slice-delete_other}
use Rattle.dip_map.specs.Charts.{Chart, IsMap}
use Rattle.dip_store_tables.specs.Boards.{code, power_name, power_in as power_numbered, prov_in, or_zero}
use Rattle.dip_desk_state.specs.State.{Part, Seat, Effect, Nothing, Pending, Votes, Delivers, Opens, Publishes, Seats, with_letter}
use Rattle.dip_desk_state.specs.Records.{Kept, Standing, Vote}
use Rattle.dip_store_rows.specs.Tables.{SeatRow, PendingRow, Tables, is_seat, is_pending}
use Rattle.dip_store_tables.specs.Reading.{kept_of, pending_of, standing_of, items_of, part_of}
use Rattle.dip_desk_state.specs.Writable.{Lacks}
use Rattle.dip_store_tables.specs.Writing.{number_of, pending_row, as_printed, seat_noted}
use Rattle.dip_store_tables.specs.Changing.{noting, ordering}
use Rattle.dip_store_tables.specs.Coding.{HasBallot, IsEffectOf}
use Rattle.dip_store_tables.specs.Votes.{vote_in}
use Rattle.dip_store_tables.proofs.Records.{name_plain}
use Rattle.dip_store_tables.proofs.Ballots.{vote_changed, vote_far}
use Rattle.dip_store_tables.proofs.Replies.{printed_back}
use Rattle.dip_store_tables.proofs.Lists.{none_left}
use Rattle.dip_store_tables.proofs.Seats.{both_same, both_tell, keys_turned}

pub number_back : (b : Bool) → (number_of b == 1) ≡ b
number_back true = refl
number_back false = refl

-- the orders that an effect gives a seat, or those that it has
abbrev pub orders_after : Effect → List Standing → List Standing
orders_after Nothing ls = ls
orders_after (Pending orders) ls = orders
orders_after (Votes vote) ls = ls
orders_after (Delivers readers item) ls = ls
orders_after (Opens public paper seats) ls = ls
orders_after (Publishes public paper played) ls = ls
orders_after (Seats seat) ls = ls

module _ (m : Chart) (ok : IsMap m) (name power : List ℕ) where
  -- rows of the seat say the orders
  rows_back : (orders : List Standing) → AllByRecursion (λ o. o.province < length m.provinces) orders → map (standing_of m) (map (pending_row m name power) orders) ≡ orders
  rows_back [] all = refl
  rows_back (o ∷ os) all =
      let prov : prov_in m (code m o.province) ≡ o.province = ap or_zero (ok.codes_found o.province all.0) in
      ap₂ ◌∷◌ (ap (λ p. record { province = p; line = o.line }) prov) (rows_back os all.1)

  abbrev given : List Standing → List PendingRow → List PendingRow
  given orders rows = delete_where (is_pending name power) rows ++ map (pending_row m name power) orders

  pub orders_given : (orders : List Standing) (rows : List PendingRow) → AllByRecursion (λ o. o.province < length m.provinces) orders → pending_of m (given orders rows) name power ≡ orders
  orders_given orders rows all =
      ap (map (standing_of m))
      (filter-append (is_pending name power) (delete_where (is_pending name power) rows) (map (pending_row m name power) orders)
      ∙ ap (λ rs. rs ++ filter (is_pending name power) (map (pending_row m name power) orders)) (none_left (is_pending name power) rows)
      ∙ filter_all (is_pending name power) (map (pending_row m name power) orders)
      (all_map (λ r. is_pending name power r ≡ true) (pending_row m name power) orders (all_of (λ o. is_pending name power (pending_row m name power o) ≡ true) (λ o. both_tell name power) orders)))
      ∙ rows_back orders all

  pub orders_kept : (orders : List Standing) (rows : List PendingRow) (n p : List ℕ) → (bytes_eq n name && bytes_eq p power) ≡ false → pending_of m (given orders rows) n p ≡ pending_of m rows n p
  orders_kept orders rows n p far =
      let turned = keys_turned n p name power far in
      ap (map (standing_of m))
      (filter-append (is_pending n p) (delete_where (is_pending name power) rows) (map (pending_row m name power) orders)
      ∙ ap (λ rs. filter (is_pending n p) (delete_where (is_pending name power) rows) ++ rs)
      (filter_none (is_pending n p) (map (pending_row m name power) orders)
      (all_map (λ r. is_pending n p r ≡ false) (pending_row m name power) orders (all_of (λ o. is_pending n p (pending_row m name power o) ≡ false) (λ o. turned) orders)))
      ∙ append-nil _)
      ∙ slice-delete_other (is_pending n p) (standing_of m) (is_pending name power)
      (λ r h. let same = both_same r.game r.power name power h in
      subst (λ g. (bytes_eq g n && bytes_eq r.power p) ≡ false) (sym same.0) (subst (λ q. (bytes_eq name n && bytes_eq q p) ≡ false) (sym same.1) turned)) rows

module _ (m : Chart) (ok : IsMap m) (name : List ℕ) (plain : Lacks 10 name) (k : Kept) (numbered : (k.number == 0) ≡ false) (power : ℕ) (low : power < length m.realms) where
  abbrev printed : Kept
  printed = as_printed name (power_name m power) k

  kept_back : kept_of k.number k.sum printed.reply ≡ Some k
  kept_back = printed_back name (power_name m power) k plain (name_plain m ok power low) numbered

  abbrev noted : Effect → Tables → Tables
  noted e t = ordering m (Seat power) name e (noting m (Seat power) name k e t)

  my_orders : (e : Effect) (t : Tables) → IsEffectOf m e → (s : SeatRow) → is_seat name (power_name m power) s ≡ true
      → pending_of m (noted e t).pending s.game s.power ≡ orders_after e (pending_of m t.pending s.game s.power)
  my_orders (Pending orders) t fits s mine =
      let same = both_same s.game s.power name (power_name m power) mine in
      ap₂ (pending_of m (noted (Pending orders) t).pending) same.0 same.1 ∙ orders_given m ok name (power_name m power) orders t.pending fits
  my_orders Nothing t fits s mine = refl
  my_orders (Votes vote) t fits s mine = refl
  my_orders (Delivers readers item) t fits s mine = refl
  my_orders (Opens public paper seats) t fits s mine = refl
  my_orders (Publishes public paper played) t fits s mine = refl
  my_orders (Seats seat) t fits s mine = refl

  other_orders : (e : Effect) (t : Tables) (s : SeatRow) → is_seat name (power_name m power) s ≡ false → pending_of m (noted e t).pending s.game s.power ≡ pending_of m t.pending s.game s.power
  other_orders (Pending orders) t s far = orders_kept m ok name (power_name m power) orders t.pending s.game s.power far
  other_orders Nothing t s far = refl
  other_orders (Votes vote) t s far = refl
  other_orders (Delivers readers item) t s far = refl
  other_orders (Opens public paper seats) t s far = refl
  other_orders (Publishes public paper played) t s far = refl
  other_orders (Seats seat) t s far = refl

  -- what a seat's row says, with other orders and another letter kept
  abbrev lettered : Tables → Vote → ℕ → SeatRow → List Standing → Option Kept → Part
  lettered t vote sent s orders kept = record {
    own = record { power = power_numbered m s.power; digest = s.digest; vote = vote; pending = orders; kept = kept; sent = sent; items = s.items };
    box = items_of t.boxes s.game s.power;
  }

  pub my_part : (e : Effect) (t : Tables) → IsEffectOf m e → (s : SeatRow) → HasBallot t.ballots s.game s.power → is_seat name (power_name m power) s ≡ true → part_of m (noted e t) (seat_noted printed e s) ≡ with_letter k e (part_of m t s)
  my_part Nothing t fits s has mine = ap₂ (lettered t (vote_in m t.ballots s.game s.power) s.sent s) (my_orders Nothing t fits s mine) kept_back
  my_part (Pending orders) t fits s has mine = ap₂ (lettered t (vote_in m t.ballots s.game s.power) s.sent s) (my_orders (Pending orders) t fits s mine) kept_back
  my_part (Votes vote) t fits s has mine =
      let same = both_same s.game s.power name (power_name m power) mine in
      let ballots = (noted (Votes vote) t).ballots in
      let vote_is : vote_in m ballots s.game s.power ≡ vote =
      ap₂ (vote_in m ballots) same.0 same.1
      ∙ vote_changed m ok vote fits name (power_name m power) t.ballots (subst (λ g. HasBallot t.ballots g (power_name m power)) same.0 (subst (HasBallot t.ballots s.game) same.1 has)) in
      ap₂ (λ v o. lettered t v s.sent s (pending_of m t.pending s.game s.power) o) vote_is kept_back
  my_part (Delivers readers item) t fits s has mine = ap₂ (lettered t (vote_in m t.ballots s.game s.power) (s.sent + 1) s) (my_orders (Delivers readers item) t fits s mine) kept_back
  my_part (Opens public paper seats) t fits s has mine = ap₂ (lettered t (vote_in m t.ballots s.game s.power) s.sent s) (my_orders (Opens public paper seats) t fits s mine) kept_back
  my_part (Publishes public paper played) t fits s has mine = ap₂ (lettered t (vote_in m t.ballots s.game s.power) s.sent s) (my_orders (Publishes public paper played) t fits s mine) kept_back
  my_part (Seats seat) t fits s has mine = ap₂ (lettered t (vote_in m t.ballots s.game s.power) s.sent s) (my_orders (Seats seat) t fits s mine) kept_back

  boxes_stay : (e : Effect) (t : Tables) → (noted e t).boxes ≡ t.boxes
  boxes_stay Nothing t = refl
  boxes_stay (Pending orders) t = refl
  boxes_stay (Votes vote) t = refl
  boxes_stay (Delivers readers item) t = refl
  boxes_stay (Opens public paper seats) t = refl
  boxes_stay (Publishes public paper played) t = refl
  boxes_stay (Seats seat) t = refl

  other_vote : (e : Effect) (t : Tables) (s : SeatRow) → is_seat name (power_name m power) s ≡ false → vote_in m (noted e t).ballots s.game s.power ≡ vote_in m t.ballots s.game s.power
  other_vote (Votes vote) t s far = vote_far m vote name (power_name m power) s.game s.power far t.ballots
  other_vote Nothing t s far = refl
  other_vote (Pending orders) t s far = refl
  other_vote (Delivers readers item) t s far = refl
  other_vote (Opens public paper seats) t s far = refl
  other_vote (Publishes public paper played) t s far = refl
  other_vote (Seats seat) t s far = refl

  pub other_part : (e : Effect) (t : Tables) (s : SeatRow) → is_seat name (power_name m power) s ≡ false → part_of m (noted e t) s ≡ part_of m t s
  other_part e t s far =
      let orders = other_orders e t s far in
      let boxes = boxes_stay e t in
      let vote = other_vote e t s far in
      λ i. record {
        own = record { power = power_numbered m s.power; digest = s.digest; vote = vote i; pending = orders i; kept = kept_of s.last s.kept s.reply; sent = s.sent; items = s.items };
        box = items_of (boxes i) s.game s.power;
      }
