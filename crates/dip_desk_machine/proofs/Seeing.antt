-- One step, seen by one seat.
use Rattle.std.proofs.Common.{◌≡◌, ◌==◌, ℕ, Bool, true, false, cond, List, [], ◌∷◌, ◌++◌, map, Option, Some, None, option_map, refl, sym, ◌∙◌, ap, subst, eqb, bytes_eq, append_assoc, append-nil}
use Rattle.std.specs.Prelude.{◌&&◌}
use Rattle.std.specs.List.{list_any}
use Rattle.std.specs.Option.{option_or}
use Rattle.std.proofs.lemmas.Bool.{false≢true}
use Rattle.dip_map.specs.Charts.{Chart}
use Rattle.dip_desk_state.specs.Records.{Item, Kept, Public, Reply}
use Rattle.dip_desk_state.specs.Keyed.{at, change_at}
use Rattle.dip_desk_machine.specs.Mail.{Mail}
use Rattle.dip_desk_state.specs.State.{State, Game, Part, Author, Nobody, TheMaster, Seat, is_seat, Effect, Nothing, Pending, Votes, Delivers, Opens, Publishes, Seats, NewSeat, Change, after_paper, fresh, game_after, game_at, name_of, new_games, power_in, public_after, seat_at, state_after, with_author, with_digest, with_effect, with_item, with_letter}
use Rattle.dip_desk_machine.specs.Machine.{Decides, SeatName, Seen, Verdict, NotKnown, Again, OutOfTurn, Taken, after, change_of, kept_of, reply_of, seen_by, seen_in, verdict_on}
use Rattle.dip_desk_machine.specs.View.{AreEffectsShown, Event, OwnLetter, Heard, Published, Seated, Suits, absorb, absorb_all, effect_events, own_events, part_by, seat_events, events_for, replies_to_events, replies_at, verdict_events, writes}
use Rattle.dip_desk_state.proofs.KeyedLemmas.{at_key, at-append, at-change_at_other, at-change_at_same, at-map, names_tell, powers_tell}
use Rattle.dip_desk_state.proofs.KeptKeys.{effect_power, letter_power, name_kept}
use Rattle.dip_desk_machine.proofs.Suiting.{decides_suits}

-- events one after another
pub absorb_all-append : (m : Chart) (power : ℕ) (s : Seen) (es fs : List Event) → absorb_all m power s (es ++ fs) ≡ absorb_all m power (absorb_all m power s es) fs
absorb_all-append m power s [] fs = refl
absorb_all-append m power s (e ∷ es) fs = absorb_all-append m power (absorb m power s e) es fs

abbrev at_one : Option Public → Part → Seen
at_one p s = record { public = p; seat = Some s }

heard_one : (m : Chart) (power : ℕ) (t : Bool) (p : Option Public) (s : Part) (item : Item) → absorb_all m power (at_one p s) (cond t (Heard item ∷ []) []) ≡ at_one p (cond t (with_item item s) s)
heard_one m power true p s item = refl
heard_one m power false p s item = refl

seated_one : (m : Chart) (power : ℕ) (t : Bool) (p : Option Public) (s : Part) (by : List ℕ) → absorb_all m power (at_one p s) (cond t (Seated by ∷ []) []) ≡ at_one p (cond t (with_digest by s) s)
seated_one m power true p s by = refl
seated_one m power false p s by = refl

-- what an effect does to a seat is what its events say
effect_absorbed : (m : Chart) (name : List ℕ) (e : Effect) (g : Game) (s : Part) → Suits name (Some g) e
    → at_one (Some (public_after e g.public)) (with_effect e s) ≡ absorb_all m (power_in s) (at_one (Some g.public) s) (effect_events (power_in s) e)
effect_absorbed m name Nothing g s h = refl
effect_absorbed m name (Pending orders) g s h = refl
effect_absorbed m name (Votes vote) g s h = refl
effect_absorbed m name (Delivers readers item) g s h = sym (heard_one m (power_in s) (list_any (λ p. p == power_in s) readers) (Some g.public) s item)
effect_absorbed m name (Opens public paper seats) g s h = absurd h
effect_absorbed m name (Publishes public paper played) g s h =
    ap (λ (x : List ℕ). at_one (Some (record public { game = x })) (after_paper played s)) (sym h)
effect_absorbed m name (Seats seat) g s h = sym (seated_one m (power_in s) (seat.power == power_in s) (Some g.public) s seat.digest)

-- the author's seat has the letter
abbrev pub author_part : Author → Kept → Effect → ℕ → Part → Part
author_part who k e power s = cond (is_seat who power) (with_letter k e s) s

same_parts : (o : Option Part) → o ≡ option_map (λ s. s) o
same_parts None = refl
same_parts (Some s) = refl

pub author_found : (who : Author) (k : Kept) (e : Effect) (power : ℕ) (seats : List Part) → seat_at power (with_author who k e seats) ≡ option_map (author_part who k e power) (seat_at power seats)
author_found Nobody k e power seats = same_parts (seat_at power seats)
author_found TheMaster k e power seats = same_parts (seat_at power seats)
author_found (Seat p) k e power seats = go (p == power) refl
  where
    go : (b : Bool) → (p == power) ≡ b → seat_at power (change_at (λ a b. a == b) power_in p (with_letter k e) seats) ≡ option_map (λ s. cond b (with_letter k e s) s) (seat_at power seats)
    go true same =
        subst (λ (q : ℕ). seat_at q (change_at (λ a b. a == b) power_in p (with_letter k e) seats) ≡ option_map (with_letter k e) (seat_at q seats)) (powers_tell.same p power same)
        (at-change_at_same (λ a b. a == b) power_in p (with_letter k e) seats (letter_power k e))
    go false differ =
        at-change_at_other (λ a b. a == b) power_in p power (with_letter k e) seats powers_tell (letter_power k e) differ ∙ same_parts (seat_at power seats)

-- the author's seat, or another
seat_absorbed : (m : Chart) (n : Mail) (who : Author) (text : List ℕ) (e : Effect) (g : Game) (s : Part) → Suits n.note.game (Some g) e
    → (is_seat who (power_in s) ≡ true → verdict_on m n (at_one (Some g.public) s) ≡ Taken text e)
    → at_one (Some (public_after e g.public)) (with_effect e (author_part who (kept_of n text) e (power_in s) s))
    ≡ absorb_all m (power_in s) (at_one (Some g.public) s) (own_events (is_seat who (power_in s)) n ++ effect_events (power_in s) e)
seat_absorbed m n who text e g s suits own = go (is_seat who (power_in s)) refl
  where
    go : (b : Bool) → is_seat who (power_in s) ≡ b → at_one (Some (public_after e g.public)) (with_effect e (cond b (with_letter (kept_of n text) e s) s))
        ≡ absorb_all m (power_in s) (at_one (Some g.public) s) (own_events b n ++ effect_events (power_in s) e)
    go true h =
        let mine : Part = with_letter (kept_of n text) e s in
        let told_it : absorb m (power_in s) (at_one (Some g.public) s) (OwnLetter n) ≡ at_one (Some g.public) mine =
        ap (λ (v : Verdict). at_one (Some g.public) (part_by n v s)) (own h) in
        let there : at_one (Some (public_after e g.public)) (with_effect e mine) ≡ absorb_all m (power_in s) (at_one (Some g.public) mine) (effect_events (power_in s) e) =
        subst (λ (q : ℕ). at_one (Some (public_after e g.public)) (with_effect e mine) ≡ absorb_all m q (at_one (Some g.public) mine) (effect_events q e)) (letter_power (kept_of n text) e s) (effect_absorbed m n.note.game e g mine suits) in
        there ∙ sym (ap (λ (x : Seen). absorb_all m (power_in s) x (effect_events (power_in s) e)) told_it)
    go false h = effect_absorbed m n.note.game e g s suits

-- nothing reaches a seat that isn't there
absent_absorbed : (m : Chart) (name : List ℕ) (power : ℕ) (b : Bool) (n : Mail) (e : Effect) (g : Game) → Suits name (Some g) e → seat_at power g.seats ≡ None
    → record { public = Some (public_after e g.public); seat = None } ≡ absorb_all m power (record { public = Some g.public; seat = None }) (own_events b n ++ effect_events power e)
absent_absorbed m name power b n e g suits none = here e suits ∙ sym (mine b)
  where
    here : (e : Effect) → Suits name (Some g) e → record { public = Some (public_after e g.public); seat = None } ≡ absorb_all m power (record { public = Some g.public; seat = None }) (effect_events power e)
    here Nothing h = refl
    here (Pending orders) h = refl
    here (Votes vote) h = refl
    here (Delivers readers item) h = go (list_any (λ p. p == power) readers)
      where
        go : (t : Bool) → record { public = Some g.public; seat = None } ≡ absorb_all m power (record { public = Some g.public; seat = None }) (cond t (Heard item ∷ []) [])
        go true = refl
        go false = refl
    here (Opens public paper seats) h = absurd h
    here (Publishes public paper played) h = ap (λ (x : List ℕ). record { public = Some (record public { game = x }); seat = None }) (sym h)
    here (Seats seat) h = go (seat.power == power) refl
      where
        go : (t : Bool) → (seat.power == power) ≡ t → record { public = Some g.public; seat = None } ≡ absorb_all m power (record { public = Some g.public; seat = None }) (cond t (Seated seat.digest ∷ []) [])
        go true same =
            let it : seat.power ≡ power = powers_tell.same seat.power power same in
            let found : seat_at power g.seats ≡ Some h.0 = subst (λ (q : ℕ). seat_at q g.seats ≡ Some h.0) it h.1 in
            let bad : ◌≡◌ {A = Option Part} None (Some h.0) = sym none ∙ found in absurd (cc)
        go false same = refl

    mine : (b : Bool) → absorb_all m power (record { public = Some g.public; seat = None }) (own_events b n ++ effect_events power e) ≡ absorb_all m power (record { public = Some g.public; seat = None }) (effect_events power e)
    mine true = refl
    mine false = refl

-- a game that is there, seen by one of its seats
game_absorbed : (m : Chart) (power : ℕ) (n : Mail) (who : Author) (text : List ℕ) (e : Effect) (g : Game) → Suits n.note.game (Some g) e
    → (is_seat who power ≡ true → verdict_on m n (seen_in power (Some g)) ≡ Taken text e)
    → seen_in power (Some (game_after (change_of n who text e) g)) ≡ absorb_all m power (seen_in power (Some g)) (own_events (is_seat who power) n ++ effect_events power e)
game_absorbed m power n who text e g suits own =
    ap (λ (s : Option Part). record { public = Some (public_after e g.public); seat = s })
    (at-map eqb power_in power (with_effect e) (with_author who (kept_of n text) e g.seats) (effect_power e)
    ∙ ap (option_map (with_effect e)) (author_found who (kept_of n text) e power g.seats))
    ∙ go (seat_at power g.seats) refl
  where
    go : (found : Option Part) → seat_at power g.seats ≡ found
        → record { public = Some (public_after e g.public); seat = option_map (with_effect e) (option_map (author_part who (kept_of n text) e power) found) }
        ≡ absorb_all m power (record { public = Some g.public; seat = found }) (own_events (is_seat who power) n ++ effect_events power e)
    go None h = absent_absorbed m n.note.game power (is_seat who power) n e g suits h
    go (Some s) h =
        let it : power_in s ≡ power = powers_tell.same (power_in s) power (at_key eqb power_in power g.seats s h) in
        let mine : is_seat who power ≡ true → verdict_on m n (at_one (Some g.public) s) ≡ Taken text e =
        λ w. ap (λ (f : Option Part). verdict_on m n (record { public = Some g.public; seat = f })) (sym h) ∙ own w in
        subst (λ (q : ℕ). (is_seat who q ≡ true → verdict_on m n (at_one (Some g.public) s) ≡ Taken text e)
        → at_one (Some (public_after e g.public)) (with_effect e (author_part who (kept_of n text) e q s)) ≡ absorb_all m q (at_one (Some g.public) s) (own_events (is_seat who q) n ++ effect_events q e)) it (seat_absorbed m n who text e g s suits) mine

pub option_or-none : {A : Type 0} (o : Option A) → option_or o None ≡ o
option_or-none None = refl
option_or-none (Some x) = refl

pub same_game : (c : Change) (s : State) → game_at c.game (state_after c s) ≡ option_or (option_map (game_after c) (game_at c.game s)) (at bytes_eq name_of c.game (new_games c.effect))
same_game c s =
    at-append bytes_eq name_of c.game (change_at bytes_eq name_of c.game (game_after c) s.games) (new_games c.effect)
    ∙ ap (λ (o : Option Game). option_or o (at bytes_eq name_of c.game (new_games c.effect))) (at-change_at_same bytes_eq name_of c.game (game_after c) s.games (name_kept c))

-- the game that a letter names, after it
pub game_left : (c : Change) (s : State) (g : Game) → game_at c.game s ≡ Some g → game_at c.game (state_after c s) ≡ Some (game_after c g)
game_left c s g found = same_game c s ∙ ap (λ (x : Option Game). option_or (option_map (game_after c) x) (at bytes_eq name_of c.game (new_games c.effect))) found

-- a seat of it
pub seat_left : (c : Change) (g : Game) (power : ℕ)
    → seat_at power (game_after c g).seats ≡ option_map (with_effect c.effect) (option_map (author_part c.author c.kept c.effect power) (seat_at power g.seats))
seat_left c g power =
    at-map eqb power_in power (with_effect c.effect) (with_author c.author c.kept c.effect g.seats) (effect_power c.effect)
    ∙ ap (option_map (with_effect c.effect)) (author_found c.author c.kept c.effect power g.seats)

-- the seats of a new game
seats_opened : (m : Chart) (power : ℕ) (p : Option Public) (seats : List NewSeat)
    → record { public = p; seat = seat_at power (map fresh seats) } ≡ absorb_all m power (record { public = p; seat = None }) (seat_events power seats)
seats_opened m power p [] = refl
seats_opened m power p (s ∷ ss) = go (s.power == power) refl (seats_opened m power p ss)
  where
    go : (b : Bool) → (s.power == power) ≡ b
        → record { public = p; seat = seat_at power (map fresh ss) } ≡ absorb_all m power (record { public = p; seat = None }) (seat_events power ss)
        → record { public = p; seat = cond b (Some (fresh s)) (seat_at power (map fresh ss)) }
        ≡ absorb_all m power (record { public = p; seat = None }) (cond b (Seated s.digest ∷ []) (seat_events power ss))
    go true same rest = ap (λ (q : ℕ). record { public = p; seat = Some (fresh (record { power = q; digest = s.digest })) }) (powers_tell.same s.power power same)
    go false same rest = rest

-- a letter that is taken, seen by a seat of the game that it names: the case that a new effect adds to
pub taken_seen : (m : Chart) (power : ℕ) (s : State) (n : Mail) (who : Author) (text : List ℕ) (e : Effect) → Suits n.note.game (game_at n.note.game s) e
    → (is_seat who power ≡ true → verdict_on m n (seen_in power (game_at n.note.game s)) ≡ Taken text e)
    → seen_in power (game_at n.note.game (after n who (Taken text e) s)) ≡ absorb_all m power (seen_in power (game_at n.note.game s)) (own_events (is_seat who power) n ++ effect_events power e)
taken_seen m power s n who text e h own = ap (seen_in power) (same_game (change_of n who text e) s) ∙ go (game_at n.note.game s) h own
  where
    go : (game : Option Game) → Suits n.note.game game e → (is_seat who power ≡ true → verdict_on m n (seen_in power game) ≡ Taken text e)
        → seen_in power (option_or (option_map (game_after (change_of n who text e)) game) (at bytes_eq name_of n.note.game (new_games e)))
        ≡ absorb_all m power (seen_in power game) (own_events (is_seat who power) n ++ effect_events power e)
    go (Some g) suits mine = game_absorbed m power n who text e g suits mine
    go None suits mine = new e suits ∙ first (is_seat who power)
      where
        new : (e : Effect) → Suits n.note.game None e → seen_in power (at bytes_eq name_of n.note.game (new_games e)) ≡ absorb_all m power (record { public = None; seat = None }) (effect_events power e)
        new Nothing k = refl
        new (Pending orders) k = absurd k
        new (Votes vote) k = absurd k
        new (Delivers readers item) k = absurd k
        new (Opens public paper seats) k =
            let here : bytes_eq public.game n.note.game ≡ true = ap (λ (x : List ℕ). bytes_eq x n.note.game) k ∙ names_tell.self n.note.game in
            rw here (seats_opened m power (Some public) seats)
        new (Publishes public paper played) k = absurd k
        new (Seats seat) k = absurd k

        first : (b : Bool) → absorb_all m power (record { public = None; seat = None }) (effect_events power e) ≡ absorb_all m power (record { public = None; seat = None }) (own_events b n ++ effect_events power e)
        first true = refl
        first false = refl

-- a game that the letter doesn't name stays as it is
pub other_game : (c : Change) (s : State) (name : List ℕ) → Suits c.game (game_at c.game s) c.effect → bytes_eq c.game name ≡ false → game_at name (state_after c s) ≡ game_at name s
other_game c s name suits differ =
    at-append bytes_eq name_of name (change_at bytes_eq name_of c.game (game_after c) s.games) (new_games c.effect)
    ∙ ap (λ (o : Option Game). option_or (at bytes_eq name_of name (change_at bytes_eq name_of c.game (game_after c) s.games)) o) (none c.effect (game_at c.game s) suits)
    ∙ option_or-none (at bytes_eq name_of name (change_at bytes_eq name_of c.game (game_after c) s.games))
    ∙ at-change_at_other bytes_eq name_of c.game name (game_after c) s.games names_tell (name_kept c) differ
  where
    none : (e : Effect) (game : Option Game) → Suits c.game game e → at bytes_eq name_of name (new_games e) ≡ None
    none Nothing game h = refl
    none (Pending orders) game h = refl
    none (Votes vote) game h = refl
    none (Delivers readers item) game h = refl
    none (Opens public paper seats) None h =
        let unlike : bytes_eq public.game name ≡ false = ap (λ (x : List ℕ). bytes_eq x name) h ∙ differ in rw unlike refl
    none (Opens public paper seats) (Some g) h = absurd h
    none (Publishes public paper played) game h = refl
    none (Seats seat) game h = refl

-- a seat's letter has the verdict on what the seat sees
pub own_verdict : (m : Chart) (s : State) (n : Mail) (who : Author) (v : Verdict) (power : ℕ) → Decides m s n who v → is_seat who power ≡ true
    → verdict_on m n (seen_in power (game_at n.note.game s)) ≡ v
own_verdict m s n Nobody v power h mine = absurd (false≢true mine)
own_verdict m s n TheMaster v power h mine = absurd (false≢true mine)
own_verdict m s n (Seat p) v power h mine = ap (λ (q : ℕ). verdict_on m n (seen_in q (game_at n.note.game s))) (sym (powers_tell.same p power mine)) ∙ sym h

-- a verdict that changes nothing
abbrev IsIdle : Verdict → Type 0
IsIdle v = (s : Part) (n : Mail) → part_by n v s ≡ s

-- a letter that changes nothing
idle_seen : (m : Chart) (power : ℕ) (mine : Bool) (s : Seen) (n : Mail) (v : Verdict) → IsIdle v → (mine ≡ true → verdict_on m n s ≡ v)
    → s ≡ absorb_all m power s (own_events mine n ++ [])
idle_seen m power false s n v idle known = refl
idle_seen m power true s n v idle known =
    sym (ap (λ (w : Verdict). record { public = s.public; seat = option_map (part_by n w) s.seat }) (known refl)
    ∙ ap (λ (x : Option Part). record { public = s.public; seat = x }) (go s.seat))
  where
    go : (o : Option Part) → option_map (part_by n v) o ≡ o
    go None = refl
    go (Some x) = ap (λ (y : Part). Some y) (idle x n)

pub both : (a b : Bool) → (a && b) ≡ true → (a ≡ true) × (b ≡ true)
both true b e = (refl, e)
both false b e = absurd (false≢true e)

-- what each seat sees after an effect is what its events say
pub effect_seen : (m : Chart) → AreEffectsShown m
effect_seen m seat s n who text e suits known = go (bytes_eq n.note.game seat.game) refl known
  where
    go : (b : Bool) → bytes_eq n.note.game seat.game ≡ b → ((b && is_seat who seat.power) ≡ true → verdict_on m n (seen_by seat s) ≡ Taken text e)
        → seen_by seat (after n who (Taken text e) s) ≡ absorb_all m seat.power (seen_by seat s) (own_events (b && is_seat who seat.power) n ++ cond b (effect_events seat.power e) [])
    go false differ own = ap (seen_in seat.power) (other_game (change_of n who text e) s seat.game suits differ)
    go true same own =
        let name : n.note.game ≡ seat.game = names_tell.same n.note.game seat.game same in
        subst (λ (x : List ℕ). (is_seat who seat.power ≡ true → verdict_on m n (seen_in seat.power (game_at x s)) ≡ Taken text e)
        → seen_in seat.power (game_at x (after n who (Taken text e) s)) ≡ absorb_all m seat.power (seen_in seat.power (game_at x s)) (own_events (is_seat who seat.power) n ++ effect_events seat.power e))
        name (taken_seen m seat.power s n who text e suits) own

-- one step, seen by any seat
pub step_seen : (m : Chart) (seat : SeatName) (s : State) (n : Mail) (who : Author) (v : Verdict) → Decides m s n who v
    → seen_by seat (after n who v s) ≡ absorb_all m seat.power (seen_by seat s) (events_for seat n who v)
step_seen m seat s n who v h = go v h
  where
    known : (v : Verdict) → Decides m s n who v → writes seat n who ≡ true → verdict_on m n (seen_by seat s) ≡ v
    known v d mine =
        let parts = both (bytes_eq n.note.game seat.game) (is_seat who seat.power) mine in
        subst (λ (name : List ℕ). verdict_on m n (seen_in seat.power (game_at name s)) ≡ v) (names_tell.same n.note.game seat.game parts.0) (own_verdict m s n who v seat.power d parts.1)

    still : (v : Verdict) → IsIdle v → verdict_events seat.power v ≡ [] → (writes seat n who ≡ true → verdict_on m n (seen_by seat s) ≡ v)
        → seen_by seat s ≡ absorb_all m seat.power (seen_by seat s) (events_for seat n who v)
    still v idle none d =
        idle_seen m seat.power (writes seat n who) (seen_by seat s) n v idle d
        ∙ ap (λ (es : List Event). absorb_all m seat.power (seen_by seat s) (own_events (writes seat n who) n ++ es)) (empty (bytes_eq n.note.game seat.game))
      where
        empty : (b : Bool) → [] ≡ cond b (verdict_events seat.power v) []
        empty true = sym none
        empty false = refl

    go : (v : Verdict) → Decides m s n who v → seen_by seat (after n who v s) ≡ absorb_all m seat.power (seen_by seat s) (events_for seat n who v)
    go NotKnown d = still NotKnown (λ x n. refl) refl (known NotKnown d)
    go (Again text) d = still (Again text) (λ x n. refl) refl (known (Again text) d)
    go (OutOfTurn text) d = still (OutOfTurn text) (λ x n. refl) refl (known (OutOfTurn text) d)
    go (Taken text e) d = effect_seen m seat s n who text e (decides_suits m s n who (Taken text e) d).1 (known (Taken text e) d)

pub told-append : (m : Chart) (power : ℕ) (s : Seen) (es fs : List Event) → replies_to_events m power s (es ++ fs) ≡ replies_to_events m power s es ++ replies_to_events m power (absorb_all m power s es) fs
told-append m power s [] fs = refl
told-append m power s (e ∷ es) fs =
    ap (λ (rs : List Reply). replies_at m s e ++ rs) (told-append m power (absorb m power s e) es fs)
    ∙ sym (append_assoc (replies_at m s e) (replies_to_events m power (absorb m power s e) es) (replies_to_events m power (absorb_all m power (absorb m power s e) es) fs))

seats_tell : (m : Chart) (power : ℕ) (s : Seen) (seats : List NewSeat) → replies_to_events m power s (seat_events power seats) ≡ []
seats_tell m power s [] = refl
seats_tell m power s (x ∷ xs) = go (x.power == power) (seats_tell m power s xs)
  where
    go : (b : Bool) → replies_to_events m power s (seat_events power xs) ≡ [] → replies_to_events m power s (cond b (Seated x.digest ∷ []) (seat_events power xs)) ≡ []
    go true rest = refl
    go false rest = rest

one_tells : (m : Chart) (power : ℕ) (s : Seen) (b : Bool) (e : Event) → replies_at m s e ≡ [] → replies_to_events m power s (cond b (e ∷ []) []) ≡ []
one_tells m power s true e h = ap (λ (rs : List Reply). rs ++ []) h
one_tells m power s false e h = refl

effect_tells : (m : Chart) (power : ℕ) (s : Seen) (b : Bool) (v : Verdict) → replies_to_events m power s (cond b (verdict_events power v) []) ≡ []
effect_tells m power s false v = refl
effect_tells m power s true NotKnown = refl
effect_tells m power s true (Again text) = refl
effect_tells m power s true (OutOfTurn text) = refl
effect_tells m power s true (Taken text Nothing) = refl
effect_tells m power s true (Taken text (Pending orders)) = refl
effect_tells m power s true (Taken text (Votes vote)) = refl
effect_tells m power s true (Taken text (Delivers readers item)) = one_tells m power s (list_any (λ p. p == power) readers) (Heard item) refl
effect_tells m power s true (Taken text (Opens public paper seats)) = seats_tell m power (absorb m power s (Published public paper false)) seats
effect_tells m power s true (Taken text (Publishes public paper played)) = refl
effect_tells m power s true (Taken text (Seats seat)) = one_tells m power s (seat.power == power) (Seated seat.digest) refl

pub step_told : (m : Chart) (seat : SeatName) (s : State) (n : Mail) (who : Author) (v : Verdict) → Decides m s n who v
    → cond (writes seat n who) (reply_of n v ∷ []) [] ≡ replies_to_events m seat.power (seen_by seat s) (events_for seat n who v)
step_told m seat s n who v h = mine (writes seat n who) refl ∙ sym more
  where
    more : replies_to_events m seat.power (seen_by seat s) (events_for seat n who v) ≡ replies_to_events m seat.power (seen_by seat s) (own_events (writes seat n who) n)
    more = told-append m seat.power (seen_by seat s) (own_events (writes seat n who) n) (cond (bytes_eq n.note.game seat.game) (verdict_events seat.power v) [])
        ∙ ap (λ (rs : List Reply). replies_to_events m seat.power (seen_by seat s) (own_events (writes seat n who) n) ++ rs)
        (effect_tells m seat.power (absorb_all m seat.power (seen_by seat s) (own_events (writes seat n who) n)) (bytes_eq n.note.game seat.game) v)
        ∙ append-nil (replies_to_events m seat.power (seen_by seat s) (own_events (writes seat n who) n))

    mine : (b : Bool) → writes seat n who ≡ b → cond b (reply_of n v ∷ []) [] ≡ replies_to_events m seat.power (seen_by seat s) (own_events b n)
    mine false e = refl
    mine true e =
        let parts = both (bytes_eq n.note.game seat.game) (is_seat who seat.power) e in
        let known : verdict_on m n (seen_by seat s) ≡ v =
        subst (λ (name : List ℕ). verdict_on m n (seen_in seat.power (game_at name s)) ≡ v) (names_tell.same n.note.game seat.game parts.0) (own_verdict m s n who v seat.power h parts.1) in
        sym (ap (λ (w : Verdict). reply_of n w ∷ []) known)
