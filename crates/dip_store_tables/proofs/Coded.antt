-- After a change the rows are still such as a keeper wrote.
use Rattle.dip_desk_state.proofs.KeyedLemmas.{names_tell}
use Rattle.std.proofs.Common.{◌||◌, inl, inr, Bool, ap₂, ◌≡◌, ℕ, ◌<◌, true, false, cond, not, List, [], ◌∷◌, ◌++◌, map, length, bytes_eq, refl, sym, ap, subst, ◌∙◌}
use Rattle.std.specs.List.{AllByRecursion, list_any}
use Rattle.sqlite_keyed.specs.Lists.{delete_where}
use Rattle.sqlite_keyed.proofs.ListLemmas.{all-append, all-filter, all_both, all_map, all_weaker, all-map}
use Rattle.dip_map.specs.Charts.{Chart}
use Rattle.dip_store_tables.specs.Boards.{power_name}
use Rattle.dip_desk_state.specs.State.{Author, Nobody, TheMaster, Seat, NewSeat, Effect, Nothing, Pending, Votes, Delivers, Opens, Publishes, Seats}
use Rattle.dip_desk_state.specs.Records.{Kept}
use Rattle.dip_store_rows.specs.Tables.{BallotRow, SeatRow, Tables, is_ballot, is_ballot_in, is_seat, is_seat_in, GameRow, is_named}
use Rattle.dip_store_tables.specs.Writing.{ballot_noted, ballot_row, seat_row, game_row}
use Rattle.dip_store_tables.specs.Changing.{noting, ordering, reaching, is_reader, one_more}
use Rattle.dip_store_tables.specs.Coding.{IsEffectOf, IsSeatOf, HasBallot, HasGame}
use Rattle.dip_store_tables.specs.Laws.{TablesStayCoded}
use Rattle.dip_store_tables.proofs.Authors.{authored, ordering_alone}
use Rattle.dip_store_tables.proofs.Seats.{both_tell, coded_map, either_way}
use Rattle.dip_store_tables.proofs.Ballots.{any_far, any_left, game_far, noted_key}
use Rattle.dip_store_tables.proofs.Lists.{all_passed}
use Rattle.std.proofs.lemmas.Bool.{cases_Bool, not-true}
use Rattle.std.proofs.lemmas.List.Folds.{list_any-append}
use Rattle.dip_store_tables.proofs.Changes.{HasDesk, desk_noted_stays, mid_coded, mid_desk, noted, noted_game, noted_games, noted_power, reached_desk}

new_seats : (m : Chart) (name : List ℕ) (ss : List NewSeat) → AllByRecursion (λ s. s.power < length m.realms) ss → AllByRecursion (IsSeatOf m) (map (seat_row m name) ss)
new_seats m name ss low = all_map (IsSeatOf m) (seat_row m name) ss (all_weaker _ (λ s. IsSeatOf m (seat_row m name s)) (λ s h. (s.power, h, refl)) ss low)

reached_coded : (m : Chart) (name : List ℕ) (e : Effect) (t : Tables) → IsEffectOf m e → AllByRecursion (IsSeatOf m) t.seats → AllByRecursion (IsSeatOf m) (reaching m name e t).seats
reached_coded m name Nothing t fits all = all
reached_coded m name (Pending orders) t fits all = all
reached_coded m name (Votes vote) t fits all = all
reached_coded m name (Delivers readers item) t fits all =
    coded_map (λ s. cond (is_reader m name readers s) (one_more s) s) (λ s. either_way (λ r. r.game) (is_reader m name readers s) (one_more s) s refl)
    (λ s. either_way (λ r. r.power) (is_reader m name readers s) (one_more s) s refl) m t.seats all
reached_coded m name (Opens public paper seats) t fits all =
    all-append (IsSeatOf m) (delete_where (is_seat_in public.game) t.seats) (map (seat_row m public.game) seats)
    (all-filter (IsSeatOf m) (λ s. not (is_seat_in public.game s)) t.seats all) (new_seats m public.game seats fits.2)
reached_coded m name (Publishes public paper played) t fits all = all
reached_coded m name (Seats seat) t fits all =
    coded_map (λ s. cond (is_seat name (power_name m seat.power) s) (record s { digest = seat.digest }) s)
    (λ s. either_way (λ r. r.game) (is_seat name (power_name m seat.power) s) (record s { digest = seat.digest }) s refl)
    (λ s. either_way (λ r. r.power) (is_seat name (power_name m seat.power) s) (record s { digest = seat.digest }) s refl) m t.seats all

-- a game that is there stays there after others, and where games keep their names
more_games : (games more : List GameRow) (name : List ℕ) → HasGame games name → HasGame (games ++ more) name
more_games games more name has = list_any-append (is_named name) games more ∙ rw has refl

same_games : (h : GameRow → GameRow) (name : List ℕ) → ((g : GameRow) → (h g).name ≡ g.name) → (games : List GameRow) → list_any (is_named name) (map h games) ≡ list_any (is_named name) games
same_games h name keeps [] = refl
same_games h name keeps (g ∷ gs) = ap₂ ◌||◌ (ap (λ n. bytes_eq n name) (keeps g)) (same_games h name keeps gs)

-- a change of seats that keeps their games
homes_map : (games : List GameRow) (f : SeatRow → SeatRow) → ((s : SeatRow) → (f s).game ≡ s.game) → (seats : List SeatRow) → AllByRecursion (λ s. HasGame games s.game) seats
    → AllByRecursion (λ s. HasGame games s.game) (map f seats)
homes_map games f keeps seats all =
    all_map (λ s. HasGame games s.game) f seats (all_weaker (λ s. HasGame games s.game) (λ s. HasGame games (f s).game) (λ s has. subst (HasGame games) (sym (keeps s)) has) seats all)

mid_homes : (m : Chart) (who : Author) (name : List ℕ) (k : Kept) (e : Effect) (t : Tables) → AllByRecursion (λ s. HasGame t.games s.game) t.seats
    → AllByRecursion (λ s. HasGame (authored m who name k e t).games s.game) (authored m who name k e t).seats
mid_homes m who name k e t all =
    let alone = ordering_alone m who name e (noting m who name k e t) in
    let games = alone.games ∙ noted_games m name k e t who in
    subst (λ gs. AllByRecursion (λ s. HasGame gs s.game) (authored m who name k e t).seats) (sym games)
    (subst (AllByRecursion (λ s. HasGame t.games s.game)) (sym alone.seats) (noted_homes who))
  where
    noted_homes : (a : Author) → AllByRecursion (λ s. HasGame t.games s.game) (noting m a name k e t).seats
    noted_homes Nobody = all
    noted_homes TheMaster = all
    noted_homes (Seat power) = homes_map t.games (noted m name k e t power) (noted_game m name k e t power) t.seats all

reached_homes : (m : Chart) (name : List ℕ) (e : Effect) (t : Tables) → AllByRecursion (λ s. HasGame t.games s.game) t.seats → AllByRecursion (λ s. HasGame (reaching m name e t).games s.game) (reaching m name e t).seats
reached_homes m name Nothing t all = all
reached_homes m name (Pending orders) t all = all
reached_homes m name (Votes vote) t all = all
reached_homes m name (Delivers readers item) t all =
    homes_map t.games (λ s. cond (is_reader m name readers s) (one_more s) s) (λ s. either_way (λ r. r.game) (is_reader m name readers s) (one_more s) s refl) t.seats all
reached_homes m name (Opens p paper seats) t all =
    let row = game_row m p.game p in
    let here : HasGame (t.games ++ row ∷ []) p.game =
    list_any-append (is_named p.game) t.games (row ∷ []) ∙ rw (names_tell.self p.game) (always (list_any (is_named p.game) t.games)) in
    all-append (λ s. HasGame (t.games ++ row ∷ []) s.game) (delete_where (is_seat_in p.game) t.seats) (map (seat_row m p.game) seats)
    (all-filter (λ s. HasGame (t.games ++ row ∷ []) s.game) (λ s. not (is_seat_in p.game s)) t.seats
    (all_weaker (λ s. HasGame t.games s.game) (λ s. HasGame (t.games ++ row ∷ []) s.game) (λ s has. more_games t.games (row ∷ []) s.game has) t.seats all))
    (all-map (λ s. HasGame (t.games ++ row ∷ []) s.game) (seat_row m p.game) (λ s. here) seats)
  where
    always : (b : Bool) → (b || true) ≡ true
    always true = refl
    always false = refl
reached_homes m name (Publishes p paper played) t all =
    all_weaker (λ s. HasGame t.games s.game) (λ s. HasGame (reaching m name (Publishes p paper played) t).games s.game)
    (λ s has. same_games (λ g. cond (is_named name g) (game_row m g.name p) g) s.game named t.games ∙ has) t.seats all
  where
    named : (g : GameRow) → (cond (is_named name g) (game_row m g.name p) g).name ≡ g.name
    named g = elim (cases_Bool (is_named name g)) [ inl e ↦ rw e refl | inr e ↦ rw e refl ]
reached_homes m name (Seats seat) t all =
    homes_map t.games (λ s. cond (is_seat name (power_name m seat.power) s) (record s { digest = seat.digest }) s)
    (λ s. either_way (λ r. r.game) (is_seat name (power_name m seat.power) s) (record s { digest = seat.digest }) s refl) t.seats all

-- each seat's ballot stays there
ballots_map : (ballots : List BallotRow) (f : SeatRow → SeatRow) → ((s : SeatRow) → (f s).game ≡ s.game) → ((s : SeatRow) → (f s).power ≡ s.power) → (seats : List SeatRow)
    → AllByRecursion (λ s. HasBallot ballots s.game s.power) seats → AllByRecursion (λ s. HasBallot ballots s.game s.power) (map f seats)
ballots_map ballots f game power seats all =
    all_map (λ s. HasBallot ballots s.game s.power) f seats
    (all_weaker (λ s. HasBallot ballots s.game s.power) (λ s. HasBallot ballots (f s).game (f s).power)
    (λ s has. subst (λ g. HasBallot ballots g (f s).power) (sym (game s)) (subst (HasBallot ballots s.game) (sym (power s)) has)) seats all)

ordered_ballots : (m : Chart) (who : Author) (name : List ℕ) (e : Effect) (t : Tables) (g p : List ℕ) → HasBallot t.ballots g p → HasBallot (ordering m who name e t).ballots g p
ordered_ballots m who name Nothing t g p has = has
ordered_ballots m Nobody name (Pending orders) t g p has = has
ordered_ballots m TheMaster name (Pending orders) t g p has = has
ordered_ballots m (Seat power) name (Pending orders) t g p has = has
ordered_ballots m Nobody name (Votes vote) t g p has = has
ordered_ballots m TheMaster name (Votes vote) t g p has = has
ordered_ballots m (Seat power) name (Votes vote) t g p has =
    any_far (is_ballot name (power_name m power)) (is_ballot g p) (ballot_noted m vote) (noted_key m vote g p) t.ballots ∙ has
ordered_ballots m who name (Delivers readers item) t g p has = has
ordered_ballots m who name (Opens public paper seats) t g p has = has
ordered_ballots m who name (Publishes public paper played) t g p has = has
ordered_ballots m who name (Seats seat) t g p has = has

abbrev AreVoted : Tables → Type 0
AreVoted t = AllByRecursion (λ s. HasBallot t.ballots s.game s.power) t.seats

noted_ballots : (m : Chart) (who : Author) (name : List ℕ) (k : Kept) (e : Effect) (t : Tables) → AreVoted t → AllByRecursion (λ s. HasBallot t.ballots s.game s.power) (noting m who name k e t).seats
noted_ballots m Nobody name k e t all = all
noted_ballots m TheMaster name k e t all = all
noted_ballots m (Seat power) name k e t all = ballots_map t.ballots (noted m name k e t power) (noted_game m name k e t power) (noted_power m name k e t power) t.seats all

still_ballots : (m : Chart) (who : Author) (name : List ℕ) (k : Kept) (e : Effect) (t : Tables) → (noting m who name k e t).ballots ≡ t.ballots
still_ballots m Nobody name k e t = refl
still_ballots m TheMaster name k e t = refl
still_ballots m (Seat power) name k e t = refl

mid_voted : (m : Chart) (who : Author) (name : List ℕ) (k : Kept) (e : Effect) (t : Tables) → AreVoted t → AreVoted (authored m who name k e t)
mid_voted m who name k e t all =
    let u = noting m who name k e t in
    let alone = ordering_alone m who name e u in
    subst (λ ss. AllByRecursion (λ s. HasBallot (authored m who name k e t).ballots s.game s.power) ss) (sym alone.seats)
    (all_weaker (λ s. HasBallot t.ballots s.game s.power) (λ s. HasBallot (authored m who name k e t).ballots s.game s.power)
    (λ s has. ordered_ballots m who name e u s.game s.power (subst (λ bs. HasBallot bs s.game s.power) (sym (still_ballots m who name k e t)) has)) u.seats (noted_ballots m who name k e t all))

reached_voted : (m : Chart) (name : List ℕ) (e : Effect) (t : Tables) → AreVoted t → AreVoted (reaching m name e t)
reached_voted m name Nothing t all = all
reached_voted m name (Pending orders) t all = all
reached_voted m name (Votes vote) t all = all
reached_voted m name (Delivers readers item) t all =
    ballots_map t.ballots (λ s. cond (is_reader m name readers s) (one_more s) s) (λ s. either_way (λ r. r.game) (is_reader m name readers s) (one_more s) s refl)
    (λ s. either_way (λ r. r.power) (is_reader m name readers s) (one_more s) s refl) t.seats all
reached_voted m name (Opens p paper seats) t all =
    all-append Is (delete_where (is_seat_in p.game) t.seats) (map (seat_row m p.game) seats)
    (all_both (λ s. not (is_seat_in p.game s) ≡ true) (λ s. HasBallot t.ballots s.game s.power) Is
    (λ s off has. list_any-append (is_ballot s.game s.power) (delete_where (is_ballot_in p.game) t.ballots) (map (ballot_row m p.game) seats)
    ∙ rw (any_left (is_ballot_in p.game) (is_ballot s.game s.power) (λ b. b) (game_far p.game s.game s.power (not-true _ off)) t.ballots ∙ has) refl)
    (delete_where (is_seat_in p.game) t.seats) (all_passed (λ s. not (is_seat_in p.game s)) t.seats)
    (all-filter (λ s. HasBallot t.ballots s.game s.power) (λ s. not (is_seat_in p.game s)) t.seats all))
    (mine seats (λ g w has. list_any-append (is_ballot g w) (delete_where (is_ballot_in p.game) t.ballots) (map (ballot_row m p.game) seats) ∙ ap (λ b. list_any (is_ballot g w) (delete_where (is_ballot_in p.game) t.ballots) || b) has ∙ always _))
  where
    Is : SeatRow → Type 0
    Is s = HasBallot (delete_where (is_ballot_in p.game) t.ballots ++ map (ballot_row m p.game) seats) s.game s.power

    always : (b : Bool) → (b || true) ≡ true
    always true = refl
    always false = refl

    own : (ss : List NewSeat) → AllByRecursion (λ s. list_any (is_ballot p.game (power_name m s.power)) (map (ballot_row m p.game) ss) ≡ true) ss
    own [] = tt
    own (s ∷ ss) = (rw (both_tell p.game (power_name m s.power)) refl, all_weaker _ (λ r. list_any (is_ballot p.game (power_name m r.power)) (map (ballot_row m p.game) (s ∷ ss)) ≡ true) (λ r has. rw has (always _)) ss (own ss))

    mine : (ss : List NewSeat) → ((g w : List ℕ) → list_any (is_ballot g w) (map (ballot_row m p.game) ss) ≡ true → HasBallot (delete_where (is_ballot_in p.game) t.ballots ++ map (ballot_row m p.game) seats) g w)
        → AllByRecursion Is (map (seat_row m p.game) ss)
    mine ss more = all_map Is (seat_row m p.game) ss (all_weaker _ (λ s. Is (seat_row m p.game s)) (λ s has. more p.game (power_name m s.power) has) ss (own ss))
reached_voted m name (Publishes p paper played) t all = all
reached_voted m name (Seats seat) t all =
    ballots_map t.ballots (λ s. cond (is_seat name (power_name m seat.power) s) (record s { digest = seat.digest }) s)
    (λ s. either_way (λ r. r.game) (is_seat name (power_name m seat.power) s) (record s { digest = seat.digest }) s refl)
    (λ s. either_way (λ r. r.power) (is_seat name (power_name m seat.power) s) (record s { digest = seat.digest }) s refl) t.seats all

pub tables_stay_coded : (m : Chart) → TablesStayCoded m
tables_stay_coded m c t fits coded =
    let u = authored m c.author c.game c.kept c.effect t in
    record {
      desk = subst HasDesk (sym (reached_desk m c.game c.effect u ∙ mid_desk m c.game c.kept c.effect t c.author)) (desk_noted_stays m c.game c.kept c.effect t c.author coded.desk);
      seats = reached_coded m c.game c.effect u fits.effect (mid_coded m c.game c.kept c.effect t c.author coded.seats);
      games = reached_homes m c.game c.effect u (mid_homes m c.author c.game c.kept c.effect t coded.games);
      ballots = reached_voted m c.game c.effect u (mid_voted m c.author c.game c.kept c.effect t coded.ballots);
    }
