-- What is asked of the state is what is found in its tables.
use Rattle.std.proofs.Common.{◌≡◌, ℕ, ◌<◌, ◌+◌, ◌-◌, ◌==◌, Bool, List, [], ◌∷◌, map, filter, find, length, Option, Some, None, option_map, option_and_then, take, drop, refl, sym, ap, subst, ◌∙◌, inl, inr, arith}
use Rattle.std.specs.List.{AllByRecursion}
use Rattle.std.proofs.lemmas.Bool.{cases_Bool}
use Rattle.dip_map.specs.Charts.{Chart, IsMap}
use Rattle.dip_store_tables.specs.Boards.{power_name}
use Rattle.dip_desk_state.specs.State.{Game, Part, digest_at, game_at, seat_at, items_at, page_of, paper_at, paper_numbered, whole_at, whole_of}
use Rattle.dip_desk_state.specs.Records.{Own}
use Rattle.dip_desk_state.proofs.KeyedLemmas.{names_tell}
use Rattle.dip_store_tables.specs.Coding.{AreCoded}
use Rattle.dip_store_tables.specs.Counting.{AreCounted, counted, item_numbers, paper_numbers}
use Rattle.dip_store_tables.specs.Looking.{OwnIsFound, PageIsFound, PaperIsFound}
use Rattle.dip_store_tables.specs.Reading.{game_of, own_of, part_of, state_of}
use Rattle.dip_store_tables.specs.Tables.{GameRow, SeatRow, Tables, is_named, is_paper_in, is_seat, is_seat_in}
use Rattle.sqlite.specs.Order.{Row}
use Rattle.dip_store_sql.specs.Showing.{is_numbered, show_game}
use Rattle.dip_store_sql.proofs.Numbered.{paper_by_number}
use Rattle.dip_store_looks.specs.Asked.{page_in, whole_in}
use Rattle.dip_store.proofs.Finding.{part_found}
use Rattle.dip_store_tables.proofs.Found.{map_twice, then_map, found_passes, game_found}

-- what is found has what all have
found_has : {A : Type 0} (P : A → Type 0) (p : A → Bool) (xs : List A) (x : A) → AllByRecursion P xs → find p xs ≡ Some x → P x
found_has P p [] x all h = absurd (cc)
found_has P p (y ∷ ys) x all h = elim (cases_Bool (p y)) [
  | inl e ↦ let h2 = rw e at h in let same : y ≡ x = cc in subst P same all.0
  | inr e ↦ found_has P p ys x all.1 (rw e at h)
]

each_twice : {A B C : Type 0} (g : B → C) (f : A → B) (xs : List A) → map g (map f xs) ≡ map (λ x. g (f x)) xs
each_twice g f [] = refl
each_twice g f (x ∷ xs) = ap (λ r. g (f x) ∷ r) (each_twice g f xs)

-- a game with the own parts of its seats
pub whole_found : (m : Chart) (t : Tables) (name : List ℕ) → option_map (whole_in m t) (find (is_named name) t.games) ≡ whole_at name (state_of m t)
whole_found m t name = sym (
    ap (option_map whole_of) (game_found m t name)
    ∙ map_twice whole_of (game_of m t) (find (is_named name) t.games)
    ∙ each (find (is_named name) t.games))
  where
    one : (g : GameRow) → whole_of (game_of m t g) ≡ whole_in m t g
    one g = ap (λ seats. record { public = (game_of m t g).public; seats = seats }) (each_twice (λ (s : Part). s.own) (part_of m t) (filter (is_seat_in g.name) t.seats))

    each : (o : Option GameRow) → option_map (λ g. whole_of (game_of m t g)) o ≡ option_map (whole_in m t) o
    each None = refl
    each (Some g) = ap Some (one g)

-- a paper of a game that is there
module _ (m : Chart) (law : PaperIsFound m) (t : Tables) (counts : AreCounted t) (name : List ℕ) (number : ℕ) where
  pub no_paper : find (is_named name) t.games ≡ None → paper_at name number (state_of m t) ≡ None
  no_paper none = ap (option_and_then (λ g. paper_numbered number g.papers)) (game_found m t name ∙ ap (option_map (game_of m t)) none)

  pub paper_found : (g : GameRow) → find (is_named name) t.games ≡ Some g → option_map (λ p. p.body) (find (is_numbered name number) t.papers) ≡ paper_at name number (state_of m t)
  paper_found g some =
      let same : g.name ≡ name = names_tell.same g.name name (found_passes (is_named name) t.games g some) in
      let here = law t g number (found_has (λ g. paper_numbers t.papers g.name ≡ counted g.papers) (is_named name) t.games g counts.papers some) in
      sym (
      ap (option_and_then (λ g. paper_numbered number g.papers)) (game_found m t name ∙ ap (option_map (game_of m t)) some)
      ∙ here
      ∙ ap (λ n. option_map (λ p. p.body) (find (λ p. p.number == number) (filter (is_paper_in n) t.papers))) same
      ∙ ap (option_map (λ p. p.body)) (sym (paper_by_number name number t.papers)))

-- of a query for a game: there is none
none_shown : {A B : Type 0} (f : A → B) (o : Option A) → None ≡ option_map f o → o ≡ None
none_shown f None is = refl
none_shown f (Some x) is = absurd (cc)

-- or there is one
some_shown : {A B : Type 0} (f : A → B) (o : Option A) (y : B) → Some y ≡ option_map f o → (x : A) × (o ≡ Some x)
some_shown f None y is = absurd (cc)
some_shown f (Some x) y is = (x, refl)

module _ (m : Chart) (law : PaperIsFound m) (t : Tables) (counts : AreCounted t) (name : List ℕ) (number : ℕ) where
  pub no_paper_is : None ≡ option_map show_game (find (is_named name) t.games) → None ≡ paper_at name number (state_of m t)
  no_paper_is none = sym (no_paper m law t counts name number (none_shown show_game (find (is_named name) t.games) none))

  pub paper_is : (row : Row) (body : Option (List ℕ)) → Some row ≡ option_map show_game (find (is_named name) t.games)
      → body ≡ option_map (λ p. p.body) (find (is_numbered name number) t.papers) → body ≡ paper_at name number (state_of m t)
  paper_is row body some read =
      let game = some_shown show_game (find (is_named name) t.games) row some in
      read ∙ paper_found m law t counts name number game.0 game.1

-- the digest of a seat's secret
pub digest_found : (m : Chart) → OwnIsFound m → (t : Tables) → AreCoded m t → (name : List ℕ) (power : ℕ) → power < length m.realms
    → option_map (λ s. s.digest) (find (is_seat name (power_name m power)) t.seats) ≡ digest_at name power (state_of m t)
digest_found m law t coded name power low = sym (
    ap (option_map (λ (o : Own). o.digest)) (law t name power coded low)
    ∙ map_twice (λ (o : Own). o.digest) (own_of m t.pending t.ballots) (find (is_seat name (power_name m power)) t.seats))

-- a page of a seat's inbox
module _ (m : Chart) (ok : IsMap m) (law : PageIsFound m) (t : Tables) (coded : AreCoded m t) (counts : AreCounted t) (name : List ℕ) (power first most : ℕ) (low : power < length m.realms) where
  the_page : (o : Option SeatRow) → find (is_seat name (power_name m power)) t.seats ≡ o → option_map (page_in t.boxes first most) o ≡ option_map (λ (p : Part). page_of first most p.box) (option_map (part_of m t) o)
  the_page None none = refl
  the_page (Some s) some =
      let box = (part_of m t s).box in
      let place : (1 + (first - 1)) - 1 ≡ first - 1 = omega (arith) in
      let here = law t s (1 + (first - 1)) most (found_has (λ s. item_numbers t.boxes s.game s.power ≡ counted s.items) (is_seat name (power_name m power)) t.seats s counts.items some) (omega (arith)) in
      ap Some (sym here ∙ ap (λ n. take most (drop n box)) place)

  pub page_found : option_map (page_in t.boxes first most) (find (is_seat name (power_name m power)) t.seats) ≡ items_at name power first most (state_of m t)
  page_found =
      the_page (find (is_seat name (power_name m power)) t.seats) refl
      ∙ ap (option_map (λ (p : Part). page_of first most p.box)) (sym (part_found m ok t coded name power low))
      ∙ sym (then_map (λ (p : Part). page_of first most p.box) (λ (g : Game). seat_at power g.seats) (game_at name (state_of m t)))
