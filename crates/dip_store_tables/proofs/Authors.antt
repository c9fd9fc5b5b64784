-- What the tables say after a letter's author's row and orders.
use Rattle.std.proofs.Common.{◌≡◌, ℕ, ◌<◌, ◌==◌, Bool, true, false, cond, ◌&&◌, List, map, filter, length, bytes_eq, refl, sym, ap, ◌∙◌, inl, inr, map-id}
use Rattle.std.specs.List.{AllByRecursion}
use Rattle.std.proofs.lemmas.Bool.{cases_Bool}
use Rattle.sqlite_trees.specs.Tree.{IsAscending}
use Rattle.sqlite_keyed.proofs.ListLemmas.{all-filter, all_both, all_of, all_map, ascending-filter, ascending-map}
use Rattle.dip_map.specs.Charts.{Chart, IsMap}
use Rattle.dip_store_tables.specs.Boards.{power_name, power_in as power_numbered}
use Rattle.dip_desk_state.specs.Keyed.{change_at}
use Rattle.dip_desk_state.specs.State.{Game, Part, Author, Nobody, TheMaster, Seat, Effect, Nothing, Pending, Votes, Delivers, Opens, Publishes, Seats, name_of, power_in, with_letter, with_author}
use Rattle.dip_desk_state.proofs.KeyedLemmas.{powers_tell}
use Rattle.dip_desk_state.specs.Records.{Kept}
use Rattle.dip_store_rows.specs.Tables.{GameRow, SeatRow, Tables, is_seat, is_seat_in}
use Rattle.dip_store_tables.specs.Reading.{public_of, papers_of, part_of, game_of}
use Rattle.dip_desk_state.specs.Writable.{Lacks, IsAuthorOf}
use Rattle.dip_store_tables.specs.Writing.{as_printed, seat_noted}
use Rattle.dip_store_tables.specs.Changing.{noting, ordering}
use Rattle.dip_store_tables.specs.Coding.{AreApart, HasBallot, IsSeatOf, IsEffectOf, same_seat}
use Rattle.dip_store_tables.proofs.Lists.{each_changed, change_at_on, change_at_same, all_passed}
use Rattle.dip_store_tables.proofs.Games.{with_parts, games_changed}
use Rattle.dip_store_tables.proofs.Letters.{my_part, other_part}
use Rattle.dip_store_tables.proofs.Seats.{same_power, powers_apart}

-- the author's row and orders
abbrev pub authored : Chart → Author → List ℕ → Kept → Effect → Tables → Tables
authored m who name k e t = ordering m who name e (noting m who name k e t)

-- a game whose author's seat has the letter
abbrev pub with_seats : Author → Kept → Effect → Game → Game
with_seats who k e g = record g { seats = with_author who k e g.seats }

-- whoever is no seat has no orders
pub no_orders : (m : Chart) (name : List ℕ) (e : Effect) (t : Tables) → (ordering m Nobody name e t ≡ t) × (ordering m TheMaster name e t ≡ t)
no_orders m name Nothing t = (refl, refl)
no_orders m name (Pending orders) t = (refl, refl)
no_orders m name (Votes vote) t = (refl, refl)
no_orders m name (Delivers readers item) t = (refl, refl)
no_orders m name (Opens public paper seats) t = (refl, refl)
no_orders m name (Publishes public paper played) t = (refl, refl)
no_orders m name (Seats seat) t = (refl, refl)

-- a letter keeps its author's key and its items
pub noted_keys : (k : Kept) (e : Effect) (s : SeatRow) → ((seat_noted k e s).game ≡ s.game) × ((seat_noted k e s).power ≡ s.power) × ((seat_noted k e s).items ≡ s.items)
noted_keys k Nothing s = (refl, refl, refl)
noted_keys k (Pending orders) s = (refl, refl, refl)
noted_keys k (Votes vote) s = (refl, refl, refl)
noted_keys k (Delivers readers item) s = (refl, refl, refl)
noted_keys k (Opens public paper seats) s = (refl, refl, refl)
noted_keys k (Publishes public paper played) s = (refl, refl, refl)
noted_keys k (Seats seat) s = (refl, refl, refl)

-- orders are rows of pending alone, and votes of ballots
pub record IsPendingAlone (old new : Tables) : Type 0 where
  pub desk : new.desk ≡ old.desk
  pub games : new.games ≡ old.games
  pub seats : new.seats ≡ old.seats
  pub units : new.units ≡ old.units
  pub centres : new.centres ≡ old.centres
  pub papers : new.papers ≡ old.papers
  pub boxes : new.boxes ≡ old.boxes
  pub choices : new.choices ≡ old.choices

same : (t : Tables) → IsPendingAlone t t
same t = record { desk = refl; games = refl; seats = refl; units = refl; centres = refl; papers = refl; boxes = refl; choices = refl }

pub ordering_alone : (m : Chart) (who : Author) (name : List ℕ) (e : Effect) (t : Tables) → IsPendingAlone t (ordering m who name e t)
ordering_alone m who name Nothing t = same t
ordering_alone m Nobody name (Pending orders) t = same t
ordering_alone m TheMaster name (Pending orders) t = same t
ordering_alone m (Seat power) name (Pending orders) t = record { desk = refl; games = refl; seats = refl; units = refl; centres = refl; papers = refl; boxes = refl; choices = refl }
ordering_alone m Nobody name (Votes vote) t = same t
ordering_alone m TheMaster name (Votes vote) t = same t
ordering_alone m (Seat power) name (Votes vote) t = record { desk = refl; games = refl; seats = refl; units = refl; centres = refl; papers = refl; boxes = refl; choices = refl }
ordering_alone m who name (Delivers readers item) t = same t
ordering_alone m who name (Opens public paper seats) t = same t
ordering_alone m who name (Publishes public paper played) t = same t
ordering_alone m who name (Seats seat) t = same t

module _ (m : Chart) (ok : IsMap m) (name : List ℕ) (plain : Lacks 10 name) (k : Kept) (numbered : (k.number == 0) ≡ false) (e : Effect) (fits : IsEffectOf m e) (t : Tables)
    (apart : AreApart t) (coded : AllByRecursion (IsSeatOf m) t.seats) (voted : AllByRecursion (λ s. HasBallot t.ballots s.game s.power) t.seats) where
  abbrev IsKnown : SeatRow → Type 0
  IsKnown s = IsSeatOf m s × HasBallot t.ballots s.game s.power

  known : AllByRecursion IsKnown t.seats
  known = all_both (IsSeatOf m) (λ s. HasBallot t.ballots s.game s.power) IsKnown (λ s a b. (a, b)) t.seats coded voted

  module _ (power : ℕ) (low : power < length m.realms) where
    abbrev new : Tables
    new = authored m (Seat power) name k e t

    abbrev printed : Kept
    printed = as_printed name (power_name m power) k

    abbrev mine : SeatRow → Bool
    mine s = is_seat name (power_name m power) s

    abbrev changed : Part → Part
    changed s = cond (power_in s == power) (with_letter k e s) s

    alone : IsPendingAlone (noting m (Seat power) name k e t) new
    alone = ordering_alone m (Seat power) name e (noting m (Seat power) name k e t)

    near : (s : SeatRow) → IsKnown s → bytes_eq s.game name ≡ true → part_of m new (cond (mine s) (seat_noted printed e s) s) ≡ changed (part_of m t s)
    near s of_map here =
        let link : mine s ≡ (power_numbered m s.power == power) = ap (λ b. b && bytes_eq s.power (power_name m power)) here ∙ same_power m ok power low s of_map.0 in
        elim (cases_Bool (mine s)) [
          | inl i ↦
              ap (λ b. part_of m new (cond b (seat_noted printed e s) s)) i ∙ my_part m ok name plain k numbered power low e t fits s of_map.1 i
              ∙ ap (λ b. cond b (with_letter k e (part_of m t s)) (part_of m t s)) (sym i ∙ link)
          | inr i ↦
              ap (λ b. part_of m new (cond b (seat_noted printed e s) s)) i ∙ other_part m ok name plain k numbered power low e t s i
              ∙ ap (λ b. cond b (with_letter k e (part_of m t s)) (part_of m t s)) (sym i ∙ link)
        ]

    far : (s : SeatRow) → IsKnown s → bytes_eq s.game name ≡ false → part_of m new (cond (mine s) (seat_noted printed e s) s) ≡ part_of m t s
    far s of_map away =
        let i : mine s ≡ false = ap (λ b. b && bytes_eq s.power (power_name m power)) away in
        ap (λ b. part_of m new (cond b (seat_noted printed e s) s)) i ∙ other_part m ok name plain k numbered power low e t s i

    public_same : (g : GameRow) → public_of m new.units new.centres new.choices g ≡ public_of m t.units t.centres t.choices g
    public_same g = λ i. public_of m (alone.units i) (alone.centres i) (alone.choices i) g

    seats_changed : map (game_of m new) new.games ≡ change_at bytes_eq name_of name (with_parts (λ p. p) (λ ps. ps) changed) (map (game_of m t) t.games)
    seats_changed = games_changed m t new name (λ p. p) (λ ps. ps) changed (λ g. g) (λ s. cond (mine s) (seat_noted printed e s) s) IsKnown
        apart.games known (alone.games ∙ sym (map-id t.games)) alone.seats (λ g. refl) (stays e) (λ g h. public_same g) (λ g h. public_same g)
        (ap (λ ps. papers_of ps name) alone.papers) (λ n h. ap (λ ps. papers_of ps n) alone.papers) near far
      where
        stays : (d : Effect) (s : SeatRow) → (cond (mine s) (seat_noted printed d s) s).game ≡ s.game
        stays d s = elim (cases_Bool (mine s)) [ inl i ↦ rw i (noted_keys printed d s).0 | inr i ↦ rw i refl ]

    first_changed : (g : GameRow) → with_parts (λ p. p) (λ ps. ps) changed (game_of m t g) ≡ with_seats (Seat power) k e (game_of m t g)
    first_changed g =
        let seats = filter (is_seat_in g.name) t.seats in
        let up : IsAscending (λ a b. (power_in a == power_in b) ≡ false) (map (part_of m t) seats) =
        ascending-map (λ a b. (power_in a == power_in b) ≡ false) (part_of m t) seats
        (powers_apart m ok g.name seats (ascending-filter (λ a b. same_seat a b ≡ false) (is_seat_in g.name) t.seats apart.seats)
        (all-filter (IsSeatOf m) (is_seat_in g.name) t.seats coded) (all_passed (is_seat_in g.name) t.seats)) in
        ap (λ ss. record { public = public_of m t.units t.centres t.choices g; papers = papers_of t.papers g.name; seats = ss })
        (sym (each_changed (λ a b. a == b) power_in power powers_tell (with_letter k e) (map (part_of m t) seats) up))

    pub seat_authored : map (game_of m new) new.games ≡ change_at bytes_eq name_of name (with_seats (Seat power) k e) (map (game_of m t) t.games)
    seat_authored = seats_changed ∙ change_at_on bytes_eq name_of name (with_parts (λ p. p) (λ ps. ps) changed) (with_seats (Seat power) k e) (map (game_of m t) t.games)
        (all_map (λ g. with_parts (λ p. p) (λ ps. ps) changed g ≡ with_seats (Seat power) k e g) (game_of m t) t.games (all_of (λ g. with_parts (λ p. p) (λ ps. ps) changed (game_of m t g) ≡ with_seats (Seat power) k e (game_of m t g)) first_changed t.games))

  pub games_authored : (who : Author) → IsAuthorOf m who
      → map (game_of m (authored m who name k e t)) (authored m who name k e t).games ≡ change_at bytes_eq name_of name (with_seats who k e) (map (game_of m t) t.games)
  games_authored Nobody of_map =
      ap (λ u. map (game_of m u) u.games) (no_orders m name e t).0 ∙ sym (change_at_same bytes_eq name_of name (with_seats Nobody k e) (map (game_of m t) t.games) (λ g. refl))
  games_authored TheMaster of_map =
      ap (λ u. map (game_of m u) u.games) (no_orders m name e (noting m TheMaster name k e t)).1
      ∙ sym (change_at_same bytes_eq name_of name (with_seats TheMaster k e) (map (game_of m t) t.games) (λ g. refl))
  games_authored (Seat power) low = seat_authored power low
