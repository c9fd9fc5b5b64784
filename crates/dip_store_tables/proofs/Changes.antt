-- What the tables say after a change.
use Rattle.std.proofs.Common.{◌≡◌, ℕ, ◌==◌, true, false, cond, List, [], ◌∷◌, ◌++◌, map, Some, bytes_eq, codes, refl, sym, ap, subst, ◌∙◌}
use Rattle.std.specs.List.{AllByRecursion}
use Rattle.sqlite_trees.specs.Tree.{IsAscending}
use Rattle.sqlite_keyed.specs.Lists.{update_where}
use Rattle.dip_map.specs.Charts.{Chart, IsMap}
use Rattle.dip_store_tables.specs.Boards.{power_name}
use Rattle.dip_desk_state.specs.Keyed.{change_at}
use Rattle.dip_desk_state.specs.State.{Author, Nobody, TheMaster, Seat, Effect, Nothing, Pending, Votes, Delivers, Opens, Publishes, Seats, name_of, desk_after, game_after, new_games}
use Rattle.dip_desk_state.specs.Records.{Kept}
use Rattle.dip_store_rows.specs.Tables.{DeskRow, SeatRow, Tables, is_seat}
use Rattle.dip_store_tables.specs.Reading.{desk_of, game_of}
use Rattle.dip_desk_state.specs.Writable.{Lacks}
use Rattle.dip_store_tables.specs.Writing.{as_printed, desk_noted, seat_noted}
use Rattle.dip_store_tables.specs.Changing.{noting, reaching, changing}
use Rattle.dip_store_tables.specs.Coding.{AreApart, IsSeatOf, same_name, same_seat}
use Rattle.dip_store_tables.specs.Laws.{StateIsChanged}
use Rattle.dip_store_tables.proofs.Authors.{authored, with_seats, games_authored, ordering_alone, noted_keys}
use Rattle.dip_store_tables.proofs.Effects.{game_reached, games_reached}
use Rattle.dip_store_tables.proofs.Lists.{change_at_twice}
use Rattle.dip_store_tables.proofs.Replies.{printed_back, tested}
use Rattle.dip_store_tables.proofs.Seats.{coded_map, apart_map, either_way}

-- the master's row is there
abbrev pub HasDesk : List DeskRow → Type 0
HasDesk ds = (d : DeskRow) × (ds ≡ d ∷ []) × ((d.id == 1) ≡ true)

module _ (m : Chart) (name : List ℕ) (k : Kept) (e : Effect) (t : Tables) where
  abbrev masters : Kept
  masters = as_printed name (codes "master") k

  noted_desk : (who : Author) → Lacks 10 name → (k.number == 0) ≡ false → HasDesk t.desk → desk_of (noting m who name k e t).desk ≡ desk_after who k (desk_of t.desk)
  noted_desk Nobody plain numbered it = refl
  noted_desk TheMaster plain numbered it =
      ap (λ ds. desk_of (update_where (λ d. d.id == 1) (desk_noted masters) ds)) it.1
      ∙ rw it.2 (ap (λ o. record { digest = it.0.digest; kept = o }) (printed_back name (codes "master") k plain (tested 10 (codes "master") refl) numbered))
      ∙ ap (λ ds. record (desk_of ds) { kept = Some k }) (sym it.1)
  noted_desk (Seat power) plain numbered it = refl

  pub desk_noted_stays : (who : Author) → HasDesk t.desk → HasDesk (noting m who name k e t).desk
  desk_noted_stays Nobody it = it
  desk_noted_stays TheMaster it = (desk_noted masters it.0, ap (update_where (λ d. d.id == 1) (desk_noted masters)) it.1 ∙ rw it.2 refl, it.2)
  desk_noted_stays (Seat power) it = it

  pub noted_games : (who : Author) → (noting m who name k e t).games ≡ t.games
  noted_games Nobody = refl
  noted_games TheMaster = refl
  noted_games (Seat power) = refl

  abbrev pub printed : ℕ → Kept
  printed power = as_printed name (power_name m power) k

  abbrev pub noted : ℕ → SeatRow → SeatRow
  noted power s = cond (is_seat name (power_name m power) s) (seat_noted (printed power) e s) s

  pub noted_game : (power : ℕ) (s : SeatRow) → (noted power s).game ≡ s.game
  noted_game power s = either_way (λ r. r.game) (is_seat name (power_name m power) s) (seat_noted (printed power) e s) s (noted_keys (printed power) e s).0

  pub noted_power : (power : ℕ) (s : SeatRow) → (noted power s).power ≡ s.power
  noted_power power s = either_way (λ r. r.power) (is_seat name (power_name m power) s) (seat_noted (printed power) e s) s (noted_keys (printed power) e s).1

  noted_coded : (who : Author) → AllByRecursion (IsSeatOf m) t.seats → AllByRecursion (IsSeatOf m) (noting m who name k e t).seats
  noted_coded Nobody all = all
  noted_coded TheMaster all = all
  noted_coded (Seat power) all = coded_map (noted power) (noted_game power) (noted_power power) m t.seats all

  noted_apart : (who : Author) → IsAscending (λ a b. same_seat a b ≡ false) t.seats → IsAscending (λ a b. same_seat a b ≡ false) (noting m who name k e t).seats
  noted_apart Nobody up = up
  noted_apart TheMaster up = up
  noted_apart (Seat power) up = apart_map (noted power) (noted_game power) (noted_power power) t.seats up

  module _ (who : Author) where
    abbrev mid : Tables
    mid = authored m who name k e t

    pub mid_desk : mid.desk ≡ (noting m who name k e t).desk
    mid_desk = (ordering_alone m who name e (noting m who name k e t)).desk

    pub mid_coded : AllByRecursion (IsSeatOf m) t.seats → AllByRecursion (IsSeatOf m) mid.seats
    mid_coded all = subst (AllByRecursion (IsSeatOf m)) (sym (ordering_alone m who name e (noting m who name k e t)).seats) (noted_coded who all)

    pub mid_apart : AreApart t → AreApart mid
    mid_apart it =
        let alone = ordering_alone m who name e (noting m who name k e t) in
        record {
          games = subst (IsAscending (λ a b. same_name a b ≡ false)) (sym (alone.games ∙ noted_games who)) it.games;
          seats = subst (IsAscending (λ a b. same_seat a b ≡ false)) (sym alone.seats) (noted_apart who it.seats);
        }

-- no effect touches the master's row
pub reached_desk : (m : Chart) (name : List ℕ) (e : Effect) (t : Tables) → (reaching m name e t).desk ≡ t.desk
reached_desk m name Nothing t = refl
reached_desk m name (Pending orders) t = refl
reached_desk m name (Votes vote) t = refl
reached_desk m name (Delivers readers item) t = refl
reached_desk m name (Opens public paper seats) t = refl
reached_desk m name (Publishes public paper played) t = refl
reached_desk m name (Seats seat) t = refl

pub state_changed : (m : Chart) → IsMap m → StateIsChanged m
state_changed m ok c t fits coded apart later =
    let u = authored m c.author c.game c.kept c.effect t in
    let desk : desk_of (changing m c t).desk ≡ desk_after c.author c.kept (desk_of t.desk) =
    ap desk_of (reached_desk m c.game c.effect u ∙ mid_desk m c.game c.kept c.effect t c.author) ∙ noted_desk m c.game c.kept c.effect t c.author fits.named fits.numbered coded.desk in
    let first = games_authored m ok c.game fits.named c.kept fits.numbered c.effect fits.effect t apart coded.seats coded.ballots c.author fits.author in
    let games : map (game_of m (changing m c t)) (changing m c t).games ≡ change_at bytes_eq name_of c.game (game_after c) (map (game_of m t) t.games) ++ new_games c.effect =
    games_reached m ok c.game u (mid_apart m c.game c.kept c.effect t c.author apart) c.effect fits.effect (mid_coded m c.game c.kept c.effect t c.author coded.seats) later
    ∙ ap (λ gs. gs ++ new_games c.effect)
    (ap (change_at bytes_eq name_of c.game (game_reached c.effect)) first
    ∙ change_at_twice bytes_eq name_of c.game (with_seats c.author c.kept c.effect) (game_reached c.effect) (map (game_of m t) t.games) (λ g. refl)) in
    λ i. record { desk = desk i; games = games i }
