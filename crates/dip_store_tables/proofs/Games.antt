-- What the tables say of a game, where its rows are changed.
use Rattle.std.proofs.Common.{◌≡◌, ℕ, true, false, cond, List, map, filter, bytes_eq, refl, sym, ap, subst, ◌∙◌, inl, inr}
use Rattle.std.specs.List.{AllByRecursion}
use Rattle.std.proofs.lemmas.Bool.{cases_Bool}
use Rattle.sqlite_trees.specs.Tree.{IsAscending}
use Rattle.sqlite_keyed.proofs.ListLemmas.{map-map, map_same, all_both, all-filter, all_weaker, ascending-map}
use Rattle.dip_map.specs.Charts.{Chart}
use Rattle.dip_desk_state.specs.Keyed.{change_at}
use Rattle.dip_desk_state.specs.State.{Game, Part, name_of}
use Rattle.dip_desk_state.proofs.KeyedLemmas.{names_tell}
use Rattle.dip_desk_state.specs.Records.{Public}
use Rattle.dip_store_rows.specs.Tables.{GameRow, SeatRow, Tables, is_seat_in}
use Rattle.dip_store_tables.specs.Reading.{public_of, papers_of, part_of, game_of}
use Rattle.dip_store_tables.specs.Coding.{same_name}
use Rattle.dip_store_tables.proofs.Lists.{each_changed, map_on, all_passed, filter_through}

-- a game whose public part, papers and seats are changed
abbrev pub with_parts : (Public → Public) → (List (List ℕ) → List (List ℕ)) → (Part → Part) → Game → Game
with_parts P Q S g = record { public = P g.public; papers = Q g.papers; seats = map S g.seats }

-- rows of games and seats are changed where they stand, and of what else the game of the name has
module _ (m : Chart) (t new : Tables) (name : List ℕ) (P : Public → Public) (Q : List (List ℕ) → List (List ℕ)) (S : Part → Part)
    (h : GameRow → GameRow) (f : SeatRow → SeatRow) (K : SeatRow → Type 0)
    (apart : IsAscending (λ a b. same_name a b ≡ false) t.games) (known : AllByRecursion K t.seats)
    (games : new.games ≡ map h t.games) (seats : new.seats ≡ map f t.seats)
    (named : (g : GameRow) → (h g).name ≡ g.name) (stays : (s : SeatRow) → (f s).game ≡ s.game)
    (my_public : (g : GameRow) → bytes_eq g.name name ≡ true → public_of m new.units new.centres new.choices (h g) ≡ P (public_of m t.units t.centres t.choices g))
    (other_public : (g : GameRow) → bytes_eq g.name name ≡ false → public_of m new.units new.centres new.choices (h g) ≡ public_of m t.units t.centres t.choices g)
    (my_papers : papers_of new.papers name ≡ Q (papers_of t.papers name))
    (other_papers : (n : List ℕ) → bytes_eq n name ≡ false → papers_of new.papers n ≡ papers_of t.papers n)
    (my_part : (s : SeatRow) → K s → bytes_eq s.game name ≡ true → part_of m new (f s) ≡ S (part_of m t s))
    (other_part : (s : SeatRow) → K s → bytes_eq s.game name ≡ false → part_of m new (f s) ≡ part_of m t s) where
  abbrev mine : List ℕ → List SeatRow
  mine n = filter (is_seat_in n) t.seats

  seats_new : (n : List ℕ) → map (part_of m new) (filter (is_seat_in n) new.seats) ≡ map (λ s. part_of m new (f s)) (mine n)
  seats_new n =
      ap (map (part_of m new)) (ap (filter (is_seat_in n)) seats ∙ filter_through (is_seat_in n) f t.seats (λ s. ap (λ g. bytes_eq g n) (stays s)))
      ∙ map-map (part_of m new) f (mine n)

  both : (n : List ℕ) → AllByRecursion (λ s. K s × (bytes_eq s.game n ≡ true)) (mine n)
  both n = all_both K (λ s. bytes_eq s.game n ≡ true) (λ s. K s × (bytes_eq s.game n ≡ true)) (λ s k e. (k, e)) (mine n) (all-filter K (is_seat_in n) t.seats known) (all_passed (is_seat_in n) t.seats)

  my_seats : map (part_of m new) (filter (is_seat_in name) new.seats) ≡ map S (map (part_of m t) (mine name))
  my_seats =
      seats_new name
      ∙ map_on (λ s. part_of m new (f s)) (λ s. S (part_of m t s)) (mine name)
      (all_weaker _ (λ s. part_of m new (f s) ≡ S (part_of m t s)) (λ s it. my_part s it.0 it.1) (mine name) (both name))
      ∙ sym (map-map S (part_of m t) (mine name))

  other_seats : (n : List ℕ) → bytes_eq n name ≡ false → map (part_of m new) (filter (is_seat_in n) new.seats) ≡ map (part_of m t) (mine n)
  other_seats n far =
      seats_new n
      ∙ map_on (λ s. part_of m new (f s)) (part_of m t) (mine n)
      (all_weaker _ (λ s. part_of m new (f s) ≡ part_of m t s)
      (λ s it. other_part s it.0 (subst (λ j. bytes_eq j name ≡ false) (sym (names_tell.same s.game n it.1)) far)) (mine n) (both n))

  my_game : (g : GameRow) → bytes_eq g.name name ≡ true → game_of m new (h g) ≡ with_parts P Q S (game_of m t g)
  my_game g e =
      let same : (h g).name ≡ name = named g ∙ names_tell.same g.name name e in
      let old : name ≡ g.name = sym (names_tell.same g.name name e) in
      let public = my_public g e in
      let papers : papers_of new.papers (h g).name ≡ Q (papers_of t.papers g.name) = ap (papers_of new.papers) same ∙ my_papers ∙ ap (λ n. Q (papers_of t.papers n)) old in
      let parts : map (part_of m new) (filter (is_seat_in (h g).name) new.seats) ≡ map S (map (part_of m t) (mine g.name)) =
      ap (λ n. map (part_of m new) (filter (is_seat_in n) new.seats)) same ∙ my_seats ∙ ap (λ n. map S (map (part_of m t) (mine n))) old in
      λ i. record { public = public i; papers = papers i; seats = parts i }

  other_game : (g : GameRow) → bytes_eq g.name name ≡ false → game_of m new (h g) ≡ game_of m t g
  other_game g e =
      let public = other_public g e in
      let papers : papers_of new.papers (h g).name ≡ papers_of t.papers g.name = ap (papers_of new.papers) (named g) ∙ other_papers g.name e in
      let parts : map (part_of m new) (filter (is_seat_in (h g).name) new.seats) ≡ map (part_of m t) (mine g.name) =
      ap (λ n. map (part_of m new) (filter (is_seat_in n) new.seats)) (named g) ∙ other_seats g.name e in
      λ i. record { public = public i; papers = papers i; seats = parts i }

  each_game : (g : GameRow) → game_of m new (h g) ≡ cond (bytes_eq g.name name) (with_parts P Q S (game_of m t g)) (game_of m t g)
  each_game g = elim (cases_Bool (bytes_eq g.name name)) [ inl e ↦ my_game g e ∙ rw e refl | inr e ↦ other_game g e ∙ rw e refl ]

  pub games_changed : map (game_of m new) new.games ≡ change_at bytes_eq name_of name (with_parts P Q S) (map (game_of m t) t.games)
  games_changed =
      ap (map (game_of m new)) games ∙ map-map (game_of m new) h t.games
      ∙ map_same (λ g. game_of m new (h g)) (λ g. cond (bytes_eq g.name name) (with_parts P Q S (game_of m t g)) (game_of m t g)) each_game t.games
      ∙ sym (map-map (λ g. cond (bytes_eq (name_of g) name) (with_parts P Q S g) g) (game_of m t) t.games)
      ∙ sym (each_changed bytes_eq name_of name names_tell (with_parts P Q S) (map (game_of m t) t.games)
      (ascending-map (λ a b. bytes_eq (name_of a) (name_of b) ≡ false) (game_of m t) t.games apart))
