-- What the tables say after an effect on a game.
use Rattle.std.proofs.Common.{◌≡◌, ℕ, ◌<◌, ◌==◌, Bool, true, false, cond, ◌&&◌, List, [], ◌++◌, map, length, bytes_eq, refl, sym, ap, subst, ◌∙◌, inl, inr, map-id, append-nil, arith}
use Rattle.std.specs.List.{AllByRecursion}
use Rattle.std.proofs.lemmas.Bool.{cases_Bool}
use Rattle.std.proofs.lemmas.Bool.Decides.{nat_tests}
use Rattle.sqlite_keyed.specs.Lists.{delete_where}
use Rattle.sqlite_keyed.proofs.ListLemmas.{map_same}
use Rattle.sqlite_keyed.proofs.SliceLemmas.{slice-push_mine, slice-push_other}
use Rattle.dip_map.specs.Charts.{Chart, IsMap}
use Rattle.dip_map.specs.Boards.{IsOf}
use Rattle.dip_store_tables.specs.Boards.{UnitRow, CentreRow, power_name, power_in as power_numbered, board_of, unit_rows, centre_rows}
use Rattle.dip_desk_state.specs.Keyed.{change_at}
use Rattle.dip_desk_state.specs.State.{Game, Part, NewSeat, Effect, Nothing, Pending, Votes, Delivers, Opens, Publishes, Seats, name_of, public_after, papers_after, with_effect, with_digest, after_paper, new_games}
use Rattle.dip_desk_state.proofs.KeyedLemmas.{names_tell}
use Rattle.dip_desk_state.specs.Records.{Public, Standing}
use Rattle.dip_store_rows.specs.Tables.{GameRow, SeatRow, PendingRow, PaperRow, Tables, is_named, is_seat, is_pending_in, is_paper_in}
use Rattle.dip_store_tables.specs.Votes.{vote_in}
use Rattle.dip_store_tables.specs.Reading.{intends, kept_of, public_of, pending_of, standing_of, items_of, part_of, game_of, status_of}
use Rattle.dip_store_tables.specs.Writing.{game_row, paper_row}
use Rattle.dip_store_tables.specs.Changing.{publishing, replacing, reaching}
use Rattle.dip_store_tables.specs.Coding.{AreApart, IsSeatOf, IsEffectOf}
use Rattle.dip_desk_state.specs.Writable.{IsStatusOf}
use Rattle.dip_store_tables.proofs.Anew.{other_choice, put_choice, put_mine, put_other, units_of_game, centres_of_game, public_back}
use Rattle.dip_store_tables.proofs.Lists.{change_at_same, none_narrower, far_deleted}
use Rattle.dip_store_tables.proofs.Games.{with_parts, games_changed}
use Rattle.dip_store_tables.proofs.Openings.{games_opened}
use Rattle.dip_store_tables.proofs.Press.{games_delivered}
use Rattle.dip_store_tables.proofs.Seats.{name_turned, same_power}

turned : (a b : ℕ) → (a == b) ≡ (b == a)
turned a b = grind (arith, nat_tests)

-- a game after an effect
abbrev pub game_reached : Effect → Game → Game
game_reached e = with_parts (public_after e) (papers_after e) (with_effect e)

-- an effect that is none on games that are there
still : {A : Type 0} (f : A → A) (xs : List A) → ((x : A) → f x ≡ x) → map f xs ≡ xs
still f xs same = map_same f (λ x. x) same xs ∙ map-id xs

unmoved : (e : Effect) (name : List ℕ) (gs : List Game) → ((p : Public) → public_after e p ≡ p) → ((ps : List (List ℕ)) → papers_after e ps ≡ ps) → ((s : Part) → with_effect e s ≡ s)
    → change_at bytes_eq name_of name (game_reached e) gs ≡ gs
unmoved e name gs public papers seats = change_at_same bytes_eq name_of name (game_reached e) gs
    (λ g. λ i. record { public = public g.public i; papers = papers g.papers i; seats = still (with_effect e) g.seats seats i })

module _ (m : Chart) (ok : IsMap m) (name : List ℕ) (t : Tables) (apart : AreApart t) where
  -- another digest for a seat
  module _ (seat : NewSeat) (low : seat.power < length m.realms) (coded : AllByRecursion (IsSeatOf m) t.seats) where
    abbrev digested : SeatRow → SeatRow
    digested s = record s { digest = seat.digest }

    abbrev mine : SeatRow → Bool
    mine s = is_seat name (power_name m seat.power) s

    near : (s : SeatRow) → IsSeatOf m s → bytes_eq s.game name ≡ true → part_of m (replacing m name seat t) (cond (mine s) (digested s) s) ≡ with_effect (Seats seat) (part_of m t s)
    near s of_map here =
        let link : mine s ≡ (seat.power == power_numbered m s.power) =
        ap (λ b. b && bytes_eq s.power (power_name m seat.power)) here ∙ same_power m ok seat.power low s of_map ∙ turned (power_numbered m s.power) seat.power in
        elim (cases_Bool (mine s)) [
          | inl e ↦ ap (λ b. part_of m t (cond b (digested s) s)) e ∙ ap (λ b. cond b (with_digest seat.digest (part_of m t s)) (part_of m t s)) (sym e ∙ link)
          | inr e ↦ ap (λ b. part_of m t (cond b (digested s) s)) e ∙ ap (λ b. cond b (with_digest seat.digest (part_of m t s)) (part_of m t s)) (sym e ∙ link)
        ]

    far : (s : SeatRow) → IsSeatOf m s → bytes_eq s.game name ≡ false → part_of m (replacing m name seat t) (cond (mine s) (digested s) s) ≡ part_of m t s
    far s of_map away =
        let e : mine s ≡ false = ap (λ b. b && bytes_eq s.power (power_name m seat.power)) away in
        ap (λ b. part_of m t (cond b (digested s) s)) e

    stays : (s : SeatRow) → (cond (mine s) (digested s) s).game ≡ s.game
    stays s = elim (cases_Bool (mine s)) [ inl e ↦ rw e refl | inr e ↦ rw e refl ]

    pub games_replaced : map (game_of m (replacing m name seat t)) t.games ≡ change_at bytes_eq name_of name (game_reached (Seats seat)) (map (game_of m t) t.games)
    games_replaced = games_changed m t (replacing m name seat t) name (λ p. p) (λ ps. ps) (with_effect (Seats seat)) (λ g. g) (λ s. cond (mine s) (digested s) s) (IsSeatOf m)
        apart.games coded (sym (map-id t.games)) refl (λ g. refl) stays (λ g h. refl) (λ g h. refl) refl (λ n h. refl) near far

  -- a paper, and the public part after it
  module _ (p : Public) (paper : List ℕ) (played : Bool) (of_map : IsOf m p.board) (status : IsStatusOf m p.status) (coded : AllByRecursion (IsSeatOf m) t.seats) where
    abbrev new : Tables
    new = publishing m name p paper played t

    abbrev renewed : GameRow → GameRow
    renewed g = cond (is_named name g) (game_row m g.name p) g

    my_public : (g : GameRow) → bytes_eq g.name name ≡ true → public_of m new.units new.centres new.choices (renewed g) ≡ record p { game = g.name }
    my_public g e =
        let same : name ≡ g.name = sym (names_tell.same g.name name e) in
        ap (λ b. public_of m new.units new.centres new.choices (cond b (game_row m g.name p) g)) e
        ∙ subst (λ n. public_of m new.units new.centres new.choices (game_row m n p) ≡ record p { game = n }) same
        (public_back m ok name p new.units new.centres new.choices of_map status
        (put_mine (λ (u : UnitRow). u.game) name t.units (unit_rows m name p.board) (units_of_game m name p.board))
        (put_mine (λ (c : CentreRow). c.game) name t.centres (centre_rows m name p.board) (centres_of_game m name p.board))
        (put_choice name p.board.intent t.choices))

    other_public : (g : GameRow) → bytes_eq g.name name ≡ false → public_of m new.units new.centres new.choices (renewed g) ≡ public_of m t.units t.centres t.choices g
    other_public g far =
        let units = put_other (λ (u : UnitRow). u.game) g.name name t.units (unit_rows m name p.board) (units_of_game m name p.board) far in
        let centres = put_other (λ (c : CentreRow). c.game) g.name name t.centres (centre_rows m name p.board) (centres_of_game m name p.board) far in
        let choice = other_choice g.name name p.board.intent t.choices far in
        ap (λ b. public_of m new.units new.centres new.choices (cond b (game_row m g.name p) g)) far
        ∙ (λ i. record {
          game = g.name;
          board = board_of m (units i) (centres i) g.standoff g.year g.phase (intends (choice i));
          status = status_of m g.status;
          due = g.due;
          period = g.period;
          grey = g.grey == 1;
          papers = g.papers;
        })

    -- its standing orders
    my_orders : (b : Bool) (s : SeatRow) → bytes_eq s.game name ≡ true → pending_of m (cond b (delete_where (is_pending_in name) t.pending) t.pending) s.game s.power ≡ cond b [] (pending_of m t.pending s.game s.power)
    my_orders true s here =
        subst (λ n. pending_of m (delete_where (is_pending_in name) t.pending) n s.power ≡ []) (sym (names_tell.same s.game name here))
        (ap (map (standing_of m)) (none_narrower (is_pending_in name) (λ q. bytes_eq q.power s.power) t.pending))
    my_orders false s here = refl

    other_orders : (b : Bool) (s : SeatRow) → bytes_eq s.game name ≡ false → pending_of m (cond b (delete_where (is_pending_in name) t.pending) t.pending) s.game s.power ≡ pending_of m t.pending s.game s.power
    other_orders true s far = ap (map (standing_of m)) (far_deleted (λ (q : PendingRow). q.game) (λ q. bytes_eq q.power s.power) s.game name (name_turned s.game name far) t.pending)
    other_orders false s far = refl

    -- a seat with other orders
    abbrev ordered : SeatRow → List Standing → Part
    ordered s orders = record {
      own = record { power = power_numbered m s.power; digest = s.digest; vote = vote_in m t.ballots s.game s.power; pending = orders; kept = kept_of s.last s.kept s.reply; sent = s.sent; items = s.items };
      box = items_of t.boxes s.game s.power;
    }

    behind : (b : Bool) (s : SeatRow) → ordered s (cond b [] (pending_of m t.pending s.game s.power)) ≡ after_paper b (part_of m t s)
    behind true s = refl
    behind false s = refl

    pub games_published : map (game_of m new) new.games ≡ change_at bytes_eq name_of name (game_reached (Publishes p paper played)) (map (game_of m t) t.games)
    games_published = games_changed m t new name (public_after (Publishes p paper played)) (papers_after (Publishes p paper played)) (with_effect (Publishes p paper played)) renewed (λ s. s) (IsSeatOf m)
        apart.games coded refl (sym (map-id t.seats)) named (λ s. refl) my_public other_public
        (slice-push_mine (is_paper_in name) (λ (r : PaperRow). r.body) t.papers (paper_row name p.papers paper) (names_tell.self name))
        (λ n far. slice-push_other (is_paper_in n) (λ (r : PaperRow). r.body) t.papers (paper_row name p.papers paper) (name_turned n name far))
        (λ s of_map here. ap (ordered s) (my_orders played s here) ∙ behind played s)
        (λ s of_map far. ap (ordered s) (other_orders played s far))
      where
        named : (g : GameRow) → (renewed g).name ≡ g.name
        named g = elim (cases_Bool (is_named name g)) [ inl e ↦ rw e refl | inr e ↦ rw e refl ]

  pub games_reached : (e : Effect) → IsEffectOf m e → AllByRecursion (IsSeatOf m) t.seats → AreApart (reaching m name e t)
      → map (game_of m (reaching m name e t)) (reaching m name e t).games ≡ change_at bytes_eq name_of name (game_reached e) (map (game_of m t) t.games) ++ new_games e
  games_reached Nothing fits coded later = sym (append-nil _ ∙ unmoved Nothing name (map (game_of m t) t.games) (λ p. refl) (λ ps. refl) (λ s. refl))
  games_reached (Pending orders) fits coded later = sym (append-nil _ ∙ unmoved (Pending orders) name (map (game_of m t) t.games) (λ p. refl) (λ ps. refl) (λ s. refl))
  games_reached (Votes vote) fits coded later = sym (append-nil _ ∙ unmoved (Votes vote) name (map (game_of m t) t.games) (λ p. refl) (λ ps. refl) (λ s. refl))
  games_reached (Delivers readers item) fits coded later = games_delivered m t name readers item fits apart ∙ sym (append-nil _)
  games_reached (Opens public paper seats) fits coded later =
      games_opened m ok public paper seats t fits.0 fits.1 fits.2 later.games
      ∙ ap (λ gs. gs ++ new_games (Opens public paper seats)) (sym (unmoved (Opens public paper seats) name (map (game_of m t) t.games) (λ p. refl) (λ ps. refl) (λ s. refl)))
  games_reached (Publishes public paper played) fits coded later = games_published public paper played fits.0 fits.1 coded ∙ sym (append-nil _)
  games_reached (Seats seat) fits coded later = games_replaced seat fits coded ∙ sym (append-nil _)
