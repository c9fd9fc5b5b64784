-- Own parts after a change.
use Rattle.std.proofs.Common.{◌≡◌, ◌==◌, ℕ, Bool, true, false, cond, List, [], ◌∷◌, Option, None, Some, map, option_map, option_and_then, refl, sym, ap, subst, ◌∙◌, bytes_eq, eqb-true}
use Rattle.std.specs.Option.{option_or}
use Rattle.dip_desk_state.specs.Keyed.{at, change_at}
use Rattle.dip_desk_state.specs.Records.{Kept, Own}
use Rattle.dip_desk_state.specs.State.{Author, Nobody, TheMaster, Seat, Change, Effect, Nothing, Pending, Votes, Delivers, Opens, Publishes, Seats, Game, Part, State, game_after, game_at, is_seat, name_of, new_games, own_at, own_effect, own_of, power_in, seat_at, state_after, with_author, with_effect, with_letter}
use Rattle.dip_desk_state.proofs.KeyedLemmas.{at-append, at-change_at_other, at-change_at_same, names_tell, powers_tell}
use Rattle.dip_desk_state.proofs.KeptKeys.{letter_power, name_kept}
use Rattle.dip_store_memory.specs.Owns.{HasOwn, leaves_owns_known, own_after, papered}

-- the own part that is found for a power is of that power
seat_power : (power : ℕ) (xs : List Part) (o : Own) → own_of (seat_at power xs) ≡ Some o → o.power ≡ power
seat_power power [] o h = absurd (let x = h in cc)
seat_power power (x ∷ xs) o h = go (x.own.power == power) refl h (seat_power power xs o)
  where
    go : (b : Bool) → (x.own.power == power) ≡ b → own_of (cond b (Some x) (seat_at power xs)) ≡ Some o → (own_of (seat_at power xs) ≡ Some o → o.power ≡ power) → o.power ≡ power
    go true is h more = let same : x.own ≡ o = cc in ap (λ (w : Own). w.power) (sym same) ∙ eqb-true x.own.power power is
    go false is h more = more h

pub own_power : (s : State) (name : List ℕ) (power : ℕ) (o : Own) → own_at name power s ≡ Some o → o.power ≡ power
own_power s name power o h = go (game_at name s) h
  where
    go : (g : Option Game) → option_and_then (λ g. own_of (seat_at power g.seats)) g ≡ Some o → o.power ≡ power
    go None h = absurd (let x = h in cc)
    go (Some g) h = seat_power power g.seats o h

-- so a state that has it has it by its own power
pub has_own : (s : State) (name : List ℕ) (power : ℕ) (o : Own) → own_at name power s ≡ Some o → HasOwn s name o
has_own s name power o h = subst (λ (p : ℕ). own_at name p s ≡ Some o) (sym (own_power s name power o h)) h

-- what a letter makes of the own part of its author, and of those of others
letter_at : (who : Author) (k : Kept) (e : Effect) (power : ℕ) (xs : List Part) (o : Own) → own_of (seat_at power xs) ≡ Some o
    → own_of (seat_at power (with_author who k e xs)) ≡ Some (cond (is_seat who power) (own_effect e (record o { kept = Some k })) o)
letter_at Nobody k e power xs o h = h
letter_at TheMaster k e power xs o h = h
letter_at (Seat p) k e power xs o h = go (p == power) refl
  where
    changed : (x : Option Part) → own_of x ≡ Some o → own_of (option_map (with_letter k e) x) ≡ Some (own_effect e (record o { kept = Some k }))
    changed None h = cc
    changed (Some x) h = let same : x.own ≡ o = cc in ap (λ (w : Own). Some (own_effect e (record w { kept = Some k }))) same

    go : (b : Bool) → (p == power) ≡ b
        → own_of (seat_at power (change_at (λ a b. a == b) power_in p (with_letter k e) xs)) ≡ Some (cond b (own_effect e (record o { kept = Some k })) o)
    go true is =
        subst (λ (q : ℕ). own_of (seat_at power (change_at (λ a b. a == b) power_in q (with_letter k e) xs)) ≡ Some (own_effect e (record o { kept = Some k })))
        (sym (eqb-true p power is))
        (ap (λ (x : Option Part). own_of x) (at-change_at_same (λ a b. a == b) power_in power (with_letter k e) xs (letter_power k e)) ∙ changed (seat_at power xs) h)
    go false is = ap (λ (x : Option Part). own_of x) (at-change_at_other (λ a b. a == b) power_in p power (with_letter k e) xs powers_tell (letter_power k e) is) ∙ h

-- what such an effect makes of a seat besides: nothing, but for a paper
module _ (e : Effect) (own : leaves_owns_known e ≡ true) where
  reached : (e : Effect) → leaves_owns_known e ≡ true → (x : Part) → ((with_effect e x).own ≡ papered e x.own) × (power_in (with_effect e x) ≡ power_in x)
  reached Nothing own x = (refl, refl)
  reached (Pending orders) own x = (refl, refl)
  reached (Votes vote) own x = (refl, refl)
  reached (Delivers readers item) own x = absurd (let no = own in cc)
  reached (Opens public paper seats) own x = absurd (let no = own in cc)
  reached (Publishes public paper true) own x = (refl, refl)
  reached (Publishes public paper false) own x = (refl, refl)
  reached (Seats seat) own x = absurd (let no = own in cc)

  each_reached : (power : ℕ) (xs : List Part) → own_of (seat_at power (map (with_effect e) xs)) ≡ option_map (papered e) (own_of (seat_at power xs))
  each_reached power [] = refl
  each_reached power (x ∷ xs) =
      ap (λ (p : ℕ). own_of (cond (p == power) (Some (with_effect e x)) (seat_at power (map (with_effect e) xs)))) (reached e own x).1
      ∙ go (power_in x == power) (each_reached power xs)
    where
      go : (b : Bool) → own_of (seat_at power (map (with_effect e) xs)) ≡ option_map (papered e) (own_of (seat_at power xs))
          → own_of (cond b (Some (with_effect e x)) (seat_at power (map (with_effect e) xs))) ≡ option_map (papered e) (own_of (cond b (Some x) (seat_at power xs)))
      go true more = ap (λ (o : Own). Some o) (reached e own x).0
      go false more = more

-- a game that a change leaves there is found after it
still_found : (c : Change) (s : State) (name : List ℕ) (power : ℕ) (o : Own)
    → option_and_then (λ g. own_of (seat_at power g.seats)) (at bytes_eq name_of name (change_at bytes_eq name_of c.game (game_after c) s.games)) ≡ Some o
    → own_at name power (state_after c s) ≡ Some o
still_found c s name power o h =
    ap (λ (x : Option Game). option_and_then (λ g. own_of (seat_at power g.seats)) x) (at-append bytes_eq name_of name (change_at bytes_eq name_of c.game (game_after c) s.games) (new_games c.effect))
    ∙ first (at bytes_eq name_of name (change_at bytes_eq name_of c.game (game_after c) s.games)) h
  where
    first : (x : Option Game) → option_and_then (λ g. own_of (seat_at power g.seats)) x ≡ Some o
        → option_and_then (λ g. own_of (seat_at power g.seats)) (option_or x (at bytes_eq name_of name (new_games c.effect))) ≡ Some o
    first None h = cc
    first (Some g) h = h

-- an own part of another game is as it was
pub other_stays : (c : Change) (s : State) (name : List ℕ) → bytes_eq c.game name ≡ false → (o : Own) → HasOwn s name o → HasOwn (state_after c s) name o
other_stays c s name other o h = still_found c s name o.power o
    (ap (λ (x : Option Game). option_and_then (λ g. own_of (seat_at o.power g.seats)) x) (at-change_at_other bytes_eq name_of c.game name (game_after c) s.games names_tell (name_kept c) other) ∙ h)

-- one of the same game is what a letter makes of it
own_reached : (c : Change) (s : State) (o : Own) → leaves_owns_known c.effect ≡ true → HasOwn s c.game o → own_at c.game o.power (state_after c s) ≡ Some (own_after c o)
own_reached c s o own h = still_found c s c.game o.power (own_after c o)
    (ap (λ (x : Option Game). option_and_then (λ g. own_of (seat_at o.power g.seats)) x) (at-change_at_same bytes_eq name_of c.game (game_after c) s.games (name_kept c)) ∙ inside (game_at c.game s) h)
  where
    inside : (x : Option Game) → option_and_then (λ g. own_of (seat_at o.power g.seats)) x ≡ Some o
        → option_and_then (λ g. own_of (seat_at o.power g.seats)) (option_map (game_after c) x) ≡ Some (own_after c o)
    inside None h = cc
    inside (Some g) h =
        each_reached c.effect own o.power (with_author c.author c.kept c.effect g.seats)
        ∙ ap (option_map (papered c.effect)) (letter_at c.author c.kept c.effect o.power g.seats o h)

pub letter_stays : (c : Change) (s : State) → leaves_owns_known c.effect ≡ true → (o : Own) → HasOwn s c.game o → HasOwn (state_after c s) c.game (own_after c o)
letter_stays c s own o h = has_own (state_after c s) c.game o.power (own_after c o) (own_reached c s o own h)
