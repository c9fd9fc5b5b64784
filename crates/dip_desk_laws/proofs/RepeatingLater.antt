-- A letter that comes again after letters of others.
use Rattle.std.proofs.Common.{◌≡◌, ◌≢◌, ◌==◌, ℕ, Bool, true, false, cond, List, [], ◌∷◌, refl, sym, ap, subst, ◌∙◌, Option, Some, None, option_map, bytes_eq, codes, is_some, unwrap_or}
use Rattle.std.specs.Prelude.{option_and_then}
use Rattle.std.specs.List.{AllByRecursion, list_any}
use Rattle.dip_letters.specs.Notes.{Request}
use Rattle.dip_map.specs.Charts.{Chart, power_of}
use Rattle.dip_desk_state.specs.Records.{Item, Kept, Own, Public}
use Rattle.std.specs.Option.{option_or}
use Rattle.dip_desk_state.specs.Keyed.{at}
use Rattle.dip_desk_machine.specs.Machine.{Decides, DecidesIn, MasterDecides, change_of, NumberedBy, SeatName, Seen, Verdict, NotKnown, Again, OutOfTurn, Taken, after, author, digest, master_author, old_number, page_shown, power_author, reply_of, seat_author, seat_command, seat_verdict, seen_by, seen_in, verdict_by, verdict_on}
use Rattle.dip_desk_machine.specs.Mail.{Mail}
use Rattle.dip_desk_laws.specs.Repeats.{ActsOnceLater, AreOthers, has_author}
use Rattle.dip_desk_state.specs.State.{State, Game, Author, Nobody, TheMaster, Seat, Effect, Nothing, Pending, Votes, Delivers, Opens, Publishes, Seats, NewSeat, Part, after_paper, game_after, game_at, name_of, new_games, own_of, seat_at, with_digest, with_item}
use Rattle.dip_desk_machine.specs.View.{Event, Heard, IsRun, OwnLetter, Published, Seated, Suits, Turn, absorb, absorb_all, author_in, events_for, left_by, seat_events, seat_with_digest, verdict_events, writes}
use Rattle.dip_desk_state.proofs.KeyedLemmas.{names_tell}
use Rattle.dip_desk_laws.proofs.Others.{seat_unpublished, shown_of}
use Rattle.dip_desk_laws.proofs.Repeating.{IsUntaken, decides_one, in_game_taken, repeats}
use Rattle.dip_desk_machine.proofs.Seeing.{option_or-none, other_game, same_game, step_seen}
use Rattle.dip_desk_machine.proofs.Suiting.{command_holds, decides_suits}

-- a letter that opens nothing leaves the games that are there
is_there_still : (s : State) (n : Mail) (who : Author) (text : List ℕ) (e : Effect) (name : List ℕ) → Suits n.note.game (game_at n.note.game s) e → new_games e ≡ []
    → is_some (game_at name (after n who (Taken text e) s)) ≡ is_some (game_at name s)
is_there_still s n who text e name suits none = go (bytes_eq n.note.game name) refl
  where
    kept : (o : Option Game) → is_some (option_map (game_after (change_of n who text e)) o) ≡ is_some o
    kept None = refl
    kept (Some g) = refl

    here : is_some (game_at n.note.game (after n who (Taken text e) s)) ≡ is_some (game_at n.note.game s)
    here =
        ap is_some (same_game (change_of n who text e) s
        ∙ ap (λ (gs : List Game). option_or (option_map (game_after (change_of n who text e)) (game_at n.note.game s)) (at bytes_eq name_of n.note.game gs)) none
        ∙ option_or-none (option_map (game_after (change_of n who text e)) (game_at n.note.game s)))
        ∙ kept (game_at n.note.game s)

    go : (b : Bool) → bytes_eq n.note.game name ≡ b → is_some (game_at name (after n who (Taken text e) s)) ≡ is_some (game_at name s)
    go true same = subst (λ (x : List ℕ). is_some (game_at x (after n who (Taken text e) s)) ≡ is_some (game_at x s)) (names_tell.same n.note.game name same) here
    go false differ = ap is_some (other_game (change_of n who text e) s name suits differ)

-- the letters of others leave what a seat that is there remembers: what is kept of its last letter

abbrev pub IsNotOwn : Event → Type 0
IsNotOwn (OwnLetter n) = ⊥
IsNotOwn (Heard item) = Unit {0}
IsNotOwn (Published public paper played) = Unit {0}
IsNotOwn (Seated by) = Unit {0}

-- the seat is there, and remembers this
abbrev pub Remembers : Option Kept → Option Part → Type 0
Remembers k seat = (x : Part) × (seat ≡ Some x) × (x.own.kept ≡ k)

one_remembered : (m : Chart) (power : ℕ) (k : Option Kept) (s : Seen) (e : Event) → IsNotOwn e → Remembers k s.seat → Remembers k (absorb m power s e).seat
one_remembered m power k s (OwnLetter n) other there = absurd other
one_remembered m power k s (Heard item) other there = (with_item item there.0, ap (option_map (with_item item)) there.1, there.2)
one_remembered m power k s (Published public paper played) other there = (after_paper played there.0, ap (option_map (after_paper played)) there.1, go played)
  where
    go : (t : Bool) → (after_paper t there.0).own.kept ≡ k
    go true = there.2
    go false = there.2
one_remembered m power k s (Seated by) other there = (with_digest by there.0, ap (seat_with_digest power by) there.1, there.2)

all_remembered : (m : Chart) (power : ℕ) (k : Option Kept) (s : Seen) (es : List Event) → AllByRecursion IsNotOwn es → Remembers k s.seat → Remembers k (absorb_all m power s es).seat
all_remembered m power k s [] others there = there
all_remembered m power k s (e ∷ es) others there = all_remembered m power k (absorb m power s e) es others.1 (one_remembered m power k s e others.0 there)

-- what a verdict shows each seat of its game is no letter of its own
verdict_not_own : (power : ℕ) (v : Verdict) → AllByRecursion IsNotOwn (verdict_events power v)
verdict_not_own power NotKnown = tt
verdict_not_own power (Again text) = tt
verdict_not_own power (OutOfTurn text) = tt
verdict_not_own power (Taken text Nothing) = tt
verdict_not_own power (Taken text (Pending orders)) = tt
verdict_not_own power (Taken text (Votes vote)) = tt
verdict_not_own power (Taken text (Delivers readers item)) = go (list_any (λ p. p == power) readers)
  where
    go : (t : Bool) → AllByRecursion IsNotOwn (cond t (Heard item ∷ []) [])
    go true = (tt, tt)
    go false = tt
verdict_not_own power (Taken text (Opens public paper seats)) = (tt, given seats)
  where
    given : (seats : List NewSeat) → AllByRecursion IsNotOwn (seat_events power seats)
    given [] = tt
    given (s ∷ ss) = go (s.power == power) (given ss)
      where
        go : (t : Bool) → AllByRecursion IsNotOwn (seat_events power ss) → AllByRecursion IsNotOwn (cond t (Seated s.digest ∷ []) (seat_events power ss))
        go true rest = (tt, tt)
        go false rest = rest
verdict_not_own power (Taken text (Publishes public paper played)) = (tt, tt)
verdict_not_own power (Taken text (Seats seat)) = go (seat.power == power)
  where
    go : (t : Bool) → AllByRecursion IsNotOwn (cond t (Seated seat.digest ∷ []) [])
    go true = (tt, tt)
    go false = tt

-- one turn of another author
turn_remembered : (m : Chart) (seat : SeatName) (k : Option Kept) (s : State) (n : Mail) (who : Author) (v : Verdict) → Decides m s n who v → writes seat n who ≡ false
    → Remembers k (seen_by seat s).seat → Remembers k (seen_by seat (after n who v s)).seat
turn_remembered m seat k s n who v d others there =
    subst (λ (x : Seen). Remembers k x.seat) (sym (step_seen m seat s n who v d))
    (all_remembered m seat.power k (seen_by seat s) (events_for seat n who v) (subst (AllByRecursion IsNotOwn) (sym (shown_of seat n who v others)) (go (bytes_eq n.note.game seat.game))) there)
  where
    go : (b : Bool) → AllByRecursion IsNotOwn (cond b (verdict_events seat.power v) [])
    go true = verdict_not_own seat.power v
    go false = tt

run_remembered : (m : Chart) (n : Mail) (power : ℕ) (k : Option Kept) (ts : List Turn) (s t : State) → IsRun m s ts t → AreOthers m n (Seat power) ts
    → Remembers k (seen_by (record { game = n.note.game; power = power }) s).seat → Remembers k (seen_by (record { game = n.note.game; power = power }) t).seat
run_remembered m n power k [] s t run others there = subst (λ (x : State). Remembers k (seen_by (record { game = n.note.game; power = power }) x).seat) (sym run) there
run_remembered m n power k (u ∷ us) s t run others there =
    run_remembered m n power k us (left_by m u) t run.2 others.1
    (turn_remembered m (record { game = n.note.game; power = power }) k u.before u.letter (author_in m u) u.verdict run.1 others.0
    (subst (λ (x : State). Remembers k (seen_by (record { game = n.note.game; power = power }) x).seat) (sym run.0) there))

-- a seat that is the author is there
author_there : (m : Chart) (n : Mail) (s : State) (p : ℕ) → author m n s ≡ Seat p → (x : Part) × ((seen_in p (game_at n.note.game s)).seat ≡ Some x)
author_there m n s p is = go (bytes_eq n.note.sender (codes "master")) is
  where
    Found : ℕ → Type 0
    Found q = (x : Part) × ((seen_in q (game_at n.note.game s)).seat ≡ Some x)

    here : (q : ℕ) (b : Bool) (x : Part) → (seen_in q (game_at n.note.game s)).seat ≡ Some x → cond b (Seat q) Nobody ≡ Seat p → Found p
    here q true x found e = let same : q ≡ p = cc in subst Found same (x, found)
    here q false x found e = let bad : ◌≡◌ {A = Author} Nobody (Seat p) = e in absurd (cc)

    seat : (q : ℕ) (g : Game) → game_at n.note.game s ≡ Some g → (x : Option Part) → seat_at q g.seats ≡ x → seat_author n q (own_of x) ≡ Seat p → Found p
    seat q g game None at e = let bad : ◌≡◌ {A = Author} Nobody (Seat p) = e in absurd (cc)
    seat q g game (Some x) at e =
        here q (bytes_eq (digest n.note.game n.note.sender n.note.secret) x.own.digest) x (ap (λ (y : Option Game). (seen_in q y).seat) game ∙ at) e

    by_game : (q : ℕ) (game : Option Game) → game_at n.note.game s ≡ game → seat_author n q (option_and_then (λ g. own_of (seat_at q g.seats)) game) ≡ Seat p → Found p
    by_game q None at e = let bad : ◌≡◌ {A = Author} Nobody (Seat p) = e in absurd (cc)
    by_game q (Some g) at e = seat q g at (seat_at q g.seats) refl e

    power : (q : Option ℕ) → power_author n q s ≡ Seat p → Found p
    power None e = let bad : ◌≡◌ {A = Author} Nobody (Seat p) = e in absurd (cc)
    power (Some q) e = by_game q (game_at n.note.game s) refl e

    master : (b : Bool) → cond b TheMaster Nobody ≡ Seat p → Found p
    master true e = let bad : ◌≡◌ {A = Author} TheMaster (Seat p) = e in absurd (cc)
    master false e = let bad : ◌≡◌ {A = Author} Nobody (Seat p) = e in absurd (cc)

    go : (b : Bool) → cond b (master_author n s) (power_author n (power_of m n.note.sender) s) ≡ Seat p → Found p
    go true e = master (bytes_eq (digest (codes "desk") (codes "master") n.note.secret) s.desk.digest) e
    go false e = power (power_of m n.note.sender) e

-- a letter that isn't taken is so by what the seat remembers

command_taken : (m : Chart) (command : Request) (p : Public) (o : Own) (page : List Item) → IsUntaken (seat_command m command p o page) → ⊥
command_taken m command p o page = command_holds (λ v. IsUntaken v → ⊥) m command p o page (record {
  refused = λ r h. h;
  told = λ t h. h;
  ordered = λ lines h. h;
  withdrawn = λ h. h;
  voted = λ draw h. h;
  voted_for = λ names set of found h. h;
  sent = λ grey names lines readers of found few h. h;
})

-- a seat that is there, of a game that is there
game_of_seat : (p : ℕ) (game : Option Game) (x : Part) → (seen_in p game).seat ≡ Some x → (g : Game) × (game ≡ Some g) × (seat_at p g.seats ≡ Some x)
game_of_seat p None x at = absurd (cc)
game_of_seat p (Some g) x at = (g, refl, at)

verdict_at : (m : Chart) (n : Mail) (p : ℕ) (game : Option Game) (x : Part) → (there : (seen_in p game).seat ≡ Some x)
    → verdict_on m n (seen_in p game) ≡ seat_verdict m n (game_of_seat p game x there).0.public x.own (page_shown n.note.command x.box)
unfolding game_of_seat
verdict_at m n p None x there = absurd (cc)
verdict_at m n p (Some g) x there = ap (λ (y : Option Part). verdict_by m n (Some g.public) y) there

untaken_by : (m : Chart) (n : Mail) (v : Verdict) (p : Public) (o : Own) (page : List Item) (k : Option Kept) → IsUntaken v → o.kept ≡ k → v ≡ seat_verdict m n p o page → old_number n k ≡ Some v
untaken_by m n v p o page k untaken same is = go (old_number n k) refl (is ∙ ap (λ (j : Option Kept). unwrap_or (old_number n j) (seat_command m n.note.command p o page)) same)
  where
    go : (old : Option Verdict) → old_number n k ≡ old → v ≡ unwrap_or old (seat_command m n.note.command p o page) → old ≡ Some v
    go None at e = absurd (command_taken m n.note.command p o page (subst IsUntaken e untaken))
    go (Some w) at e = ap (λ (x : Verdict). Some x) (sym e)

untaken_so : (m : Chart) (n : Mail) (v : Verdict) (p : Public) (o : Own) (page : List Item) (k : Option Kept) → o.kept ≡ k → old_number n k ≡ Some v → v ≡ seat_verdict m n p o page
untaken_so m n v p o page k same is =
    sym (ap (λ (j : Option Kept). unwrap_or (old_number n j) (seat_command m n.note.command p o page)) same
    ∙ ap (λ (old : Option Verdict). unwrap_or old (seat_command m n.note.command p o page)) is)

-- so it is decided so again wherever the seat remembers the same
untaken_again : (m : Chart) (n : Mail) (p : ℕ) (k : Option Kept) (a b : Option Game) (v : Verdict) → IsUntaken v → Remembers k (seen_in p a).seat → Remembers k (seen_in p b).seat
    → v ≡ verdict_on m n (seen_in p a) → v ≡ verdict_on m n (seen_in p b)
untaken_again m n p k a b v untaken one other is =
    let there = verdict_at m n p a one.0 one.1 in
    let here = verdict_at m n p b other.0 other.1 in
    untaken_so m n v _ other.0.own (page_shown n.note.command other.0.box) k other.2 (untaken_by m n v _ one.0.own (page_shown n.note.command one.0.box) k untaken one.2 (is ∙ there)) ∙ sym here

-- the master's row, and which games are there, stay after the letters of others

abbrev pub IsKeptFor : List ℕ → State → State → Type 0
IsKeptFor name s t = (t.desk ≡ s.desk) × (is_some (game_at name t) ≡ is_some (game_at name s))

turn_kept : (m : Chart) (name : List ℕ) (s : State) (n : Mail) (who : Author) (v : Verdict) → Decides m s n who v → (who ≡ TheMaster → ⊥) → IsKeptFor name s (after n who v s)
turn_kept m name s n who NotKnown d other = (refl, refl)
turn_kept m name s n who (Again text) d other = (refl, refl)
turn_kept m name s n who (OutOfTurn text) d other = (refl, refl)
turn_kept m name s n Nobody (Taken text e) d other = absurd (decides_suits m s n Nobody (Taken text e) d).0
turn_kept m name s n TheMaster (Taken text e) d other = absurd (other refl)
turn_kept m name s n (Seat p) (Taken text e) d other =
    let fits = decides_suits m s n (Seat p) (Taken text e) d in
    (refl, is_there_still s n (Seat p) text e name fits.1 (seat_unpublished p (game_at n.note.game s) e fits.0).0)

run_kept : (m : Chart) (n : Mail) (ts : List Turn) (s t : State) → IsRun m s ts t → AreOthers m n TheMaster ts → IsKeptFor n.note.game s t
run_kept m n [] s t run others = subst (λ (x : State). IsKeptFor n.note.game s x) (sym run) (refl, refl)
run_kept m n (u ∷ us) s t run others =
    let not_master : author_in m u ≡ TheMaster → ⊥ = λ is. let bad = sym others.0 ∙ ap (λ (a : Author). has_author n TheMaster u.letter a) is in absurd (cc) in
    let one = turn_kept m n.note.game u.before u.letter (author_in m u) u.verdict run.1 not_master in
    let rest = run_kept m n us (left_by m u) t run.2 others.1 in
    subst (λ (x : State). IsKeptFor n.note.game x t) run.0 (rest.0 ∙ one.0, rest.1 ∙ one.1)

-- whether a letter of the master goes untaken hangs on whether its game is there
master_same : (m : Chart) (n : Mail) (k : Option Kept) (command : Request) (a b : Option Game) (v : Verdict) → IsUntaken v → is_some b ≡ is_some a
    → MasterDecides m n k command a v → MasterDecides m n k command b v
master_same m n k command None None v untaken same d = d
master_same m n k command None (Some g) v untaken same d = absurd (cc)
master_same m n k command (Some g) None v untaken same d = absurd (cc)
master_same m n k command (Some g) (Some h) v untaken same d = go (old_number n k) d
  where
    go : (o : Option Verdict) → NumberedBy o (DecidesIn m n command g) v → NumberedBy o (DecidesIn m n command h) v
    go None d = absurd (in_game_taken m n command g v untaken d)
    go (Some old) d = d

-- the verdict after the letters of others
later : (m : Chart) (mid late : State) (n : Mail) (between : List Turn) (v : Verdict) (who : Author) → IsUntaken v → who ≢ Nobody → author m n mid ≡ who → IsRun m mid between late
    → AreOthers m n who between → Decides m mid n who v → Decides m late n who v
later m mid late n between v Nobody untaken somebody is run others d = absurd (somebody refl)
later m mid late n between v TheMaster untaken somebody is run others d =
    let kept = run_kept m n between mid late run others in
    master_same m n late.desk.kept n.note.command (game_at n.note.game mid) (game_at n.note.game late) v untaken kept.1
    (subst (λ (x : _). MasterDecides m n x.kept n.note.command (game_at n.note.game mid) v) (sym kept.0) d)
later m mid late n between v (Seat p) untaken somebody is run others d =
    let there = author_there m n mid p is in
    let old : Remembers there.0.own.kept (seen_in p (game_at n.note.game mid)).seat = (there.0, there.1, refl) in
    untaken_again m n p there.0.own.kept (game_at n.note.game mid) (game_at n.note.game late) v untaken old (run_remembered m n p there.0.own.kept between mid late run others old) d

pub acts_once_later : (m : Chart) → ActsOnceLater m
acts_once_later m old mid late new n first again between somebody one run others still two =
    let next = repeats m old mid n first one in
    let who = author m n old in
    let still_decided = later m mid late n between next.verdict who next.untaken somebody next.author run others (subst (λ (a : Author). Decides m mid n a next.verdict) next.author next.decided) in
    let decided : Decides m late n (author m n late) next.verdict = subst (λ (a : Author). Decides m late n a next.verdict) (sym still) still_decided in
    let same : two.0 ≡ next.verdict = decides_one m late n (author m n late) two.0 next.verdict next.untaken two.1 decided in
    (two.2 ∙ ap (λ (w : Verdict). reply_of n w) same ∙ sym next.told, two.3 ∙ ap (λ (w : Verdict). after n (author m n late) w late) same ∙ next.stays n (author m n late) late)
