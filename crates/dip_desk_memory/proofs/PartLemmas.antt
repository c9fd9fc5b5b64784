-- Seats in memory, after a change.
use Rattle.std.proofs.Common.{◌≡◌, ◌<◌, ◌==◌, ◌++◌, ◌+◌, ◌-◌, ◌&&◌, ℕ, nat_le, nat_lt, Bool, true, false, cond, List, [], ◌∷◌, map, Option, None, Some, option_map, Result, Ok, Err, OnOk, Bor, refl, sym, ap, subst, ◌∙◌, slice_set, get_or, length, take, drop, zero, suc, add-one, arith}
use Rattle.std.specs.List.{AllByRecursion, list_all, list_any}
use Rattle.std.specs.declared.alloc.Global.{Global}
use Rattle.std.specs.declared.rc.Rc.{Rc}
use Rattle.std.proofs.lemmas.Bool.{and_parts, false≢true, ltb-true}
use Rattle.std.proofs.lemmas.Bool.Decides.{nat_tests}
use Rattle.std.proofs.lemmas.List.{drop-map, take-map}
use Rattle.dip_desk_state.specs.Bounds.{most_papers, most_sent}
use Rattle.dip_desk_state.specs.Keyed.{change_at, place}
use Rattle.dip_desk_state.specs.State.{Author, Nobody, TheMaster, Seat, Change, Effect, Nothing, Pending, Votes, Delivers, Opens, Publishes, Seats, NewSeat, Part, fresh, game_after, opening_game, page_of, papers_after, power_in, public_after, whole_of, with_author, with_effect, with_item, with_letter, has_room, have_room, is_seat, may_get, may_send}
use Rattle.dip_desk_state.specs.Records.{Item, Kept, Own, Public, Whole}
use Rattle.dip_desk_state.specs.Rows as rows
use Rattle.dip_desk_state.specs.declared.records.Item.{Item as ItemRow}
use Rattle.dip_desk_memory.specs.Lacking.{LacksPlace}
use Rattle.dip_desk_memory.specs.Stored.{AuthorMaySend, Brings, delivered, finds_room, game, inboxes_have_room, is_press, part, parts, reached}
use Rattle.dip_desk_memory.specs.declared.games.GameRow.{GameRow}
use Rattle.dip_desk_memory.specs.declared.games.SeatRow.{SeatRow}

-- what is said of a seat that is found
pub of_seat : {X : Type 0} (f : Part → X) (r : Option (Bor SeatRow)) (found : Option Part) → option_map (λ q. part q.now) r ≡ found → option_map (λ q. f (part q.now)) r ≡ option_map f found
of_seat f None found is = ap (option_map f) is
of_seat f (Some q) found is = ap (option_map f) is

-- a page of an inbox: what stands after a place, and of that at most so many
pub page_shown : (first most place : ℕ) (box front page : List (Rc ItemRow Global)) → place ≡ first - 1 → front ≡ drop place box → page ≡ take most front
    → rows.items page ≡ page_of first most (rows.items box)
page_shown first most place box front page here rest is =
    ap (λ (is : List (Rc ItemRow Global)). rows.items is) is
    ∙ sym (take-map (λ i. rows.item i.value) most front)
    ∙ ap (λ (is : List (Rc ItemRow Global)). take most (rows.items is)) rest
    ∙ ap (λ (is : List Item). take most is) (sym (drop-map (λ i. rows.item i.value) place box))
    ∙ ap (λ (n : ℕ). take most (drop n (rows.items box))) here

-- a game with the own parts of its seats
pub whole_shown : (name : List ℕ) (g : GameRow) (p : Public) (os : List Own) → p ≡ (game name g).public → os ≡ map (λ q. q.own) (parts g.seats.items)
    → ◌≡◌ {A = Whole} (record { public = p; seats = os }) (whole_of (game name g))
whole_shown name g p os public seats = ap (λ (q : Public). whole q os) public ∙ ap (λ (more : List Own). whole (game name g).public more) seats
  where
    whole : Public → List Own → Whole
    whole q more = record { public = q; seats = more }

-- a new game
pub new_game : (name : List ℕ) (g : GameRow) (public : Public) (paper : List ℕ) (seats : List NewSeat) → (game name g).public ≡ public → rows.lines g.papers.items ≡ paper ∷ []
    → parts g.seats.items ≡ map fresh seats → game name g ≡ opening_game public paper seats
new_game name g public paper seats same one new =
    ap (λ (p : Public). record { public = p; papers = rows.lines g.papers.items; seats = parts g.seats.items }) same
    ∙ ap (λ (ps : List (List ℕ)). record { public = public; papers = ps; seats = parts g.seats.items }) one
    ∙ ap (λ (ps : List Part). record { public = public; papers = paper ∷ []; seats = ps }) new

-- a change of one seat, and one of each seat that keeps its power: either may be first, where they may at each seat
change_map : (power : ℕ) (f d : Part → Part) (ps : List Part) → ((p : Part) → power_in (d p) ≡ power_in p) → ((p : Part) → f (d p) ≡ d (f p))
    → change_at (λ a b. a == b) power_in power f (map d ps) ≡ map d (change_at (λ a b. a == b) power_in power f ps)
change_map power f d [] keeps turns = refl
change_map power f d (p ∷ ps) keeps turns = go (power_in (d p) == power) (power_in p == power) (ap (λ (n : ℕ). n == power) (keeps p)) (change_map power f d ps keeps turns)
  where
    go : (x y : Bool) → x ≡ y → change_at (λ a b. a == b) power_in power f (map d ps) ≡ map d (change_at (λ a b. a == b) power_in power f ps)
        → cond x (f (d p) ∷ map d ps) (d p ∷ change_at (λ a b. a == b) power_in power f (map d ps)) ≡ map d (cond y (f p ∷ ps) (p ∷ change_at (λ a b. a == b) power_in power f ps))
    go true true same rest = ap (λ (q : Part). q ∷ map d ps) (turns p)
    go false false same rest = ap (λ (qs : List Part). d p ∷ qs) rest
    go true false same rest = absurd (false≢true (sym same))
    go false true same rest = absurd (false≢true same)

-- press keeps a seat's power
press_power : (readers : List ℕ) (item : Item) (p : Part) → power_in (with_effect (Delivers readers item) p) ≡ power_in p
press_power readers item p = go (list_any (λ q. q == power_in p) readers)
  where
    go : (b : Bool) → power_in (cond b (with_item item p) p) ≡ power_in p
    go true = refl
    go false = refl

-- a seat's own letter may stand before press for it or after it
press_letter : (k : Kept) (readers : List ℕ) (item : Item) (p : Part)
    → with_letter k (Delivers readers item) (with_effect (Delivers readers item) p) ≡ with_effect (Delivers readers item) (with_letter k (Delivers readers item) p)
press_letter k readers item p = go (list_any (λ q. q == power_in p) readers)
  where
    go : (b : Bool) → with_letter k (Delivers readers item) (cond b (with_item item p) p)
        ≡ cond b (with_item item (with_letter k (Delivers readers item) p)) (with_letter k (Delivers readers item) p)
    go true = refl
    go false = refl

press_author : (who : Author) (k : Kept) (readers : List ℕ) (item : Item) (ps : List Part)
    → with_author who k (Delivers readers item) (map (with_effect (Delivers readers item)) ps) ≡ map (with_effect (Delivers readers item)) (with_author who k (Delivers readers item) ps)
press_author Nobody k readers item ps = refl
press_author TheMaster k readers item ps = refl
press_author (Seat power) k readers item ps =
    change_map power (with_letter k (Delivers readers item)) (with_effect (Delivers readers item)) ps (press_power readers item) (press_letter k readers item)

each_kept : (f : Part → Part) (ps : List Part) → ((p : Part) → f p ≡ p) → map f ps ≡ ps
each_kept f [] same = refl
each_kept f (p ∷ ps) same = ap (λ (q : Part). q ∷ map f ps) (same p) ∙ ap (λ (qs : List Part). p ∷ qs) (each_kept f ps same)

each_same : (f h : Part → Part) (ps : List Part) → ((p : Part) → f p ≡ h p) → map f ps ≡ map h ps
each_same f h [] same = refl
each_same f h (p ∷ ps) same = ap (λ (q : Part). q ∷ map f ps) (same p) ∙ ap (λ (qs : List Part). h p ∷ qs) (each_same f h ps same)

-- press first, then the author's letter, then what else reaches each seat: the letter and then the effect
seats_after : (who : Author) (k : Kept) (e : Effect) (ps : List Part) → map (reached e) (with_author who k e (delivered e ps)) ≡ map (with_effect e) (with_author who k e ps)
seats_after who k Nothing ps = each_same (reached Nothing) (with_effect Nothing) (with_author who k Nothing ps) (λ p. refl)
seats_after who k (Pending orders) ps = each_same (reached (Pending orders)) (with_effect (Pending orders)) (with_author who k (Pending orders) ps) (λ p. refl)
seats_after who k (Votes vote) ps = each_same (reached (Votes vote)) (with_effect (Votes vote)) (with_author who k (Votes vote) ps) (λ p. refl)
seats_after who k (Delivers readers item) ps =
    each_kept (reached (Delivers readers item)) (with_author who k (Delivers readers item) (map (with_effect (Delivers readers item)) ps)) (λ p. refl)
    ∙ press_author who k readers item ps
seats_after who k (Opens public paper seats) ps =
    each_same (reached (Opens public paper seats)) (with_effect (Opens public paper seats)) (with_author who k (Opens public paper seats) ps) (λ p. refl)
seats_after who k (Publishes public paper played) ps =
    each_same (reached (Publishes public paper played)) (with_effect (Publishes public paper played)) (with_author who k (Publishes public paper played) ps) (λ p. refl)
seats_after who k (Seats seat) ps = each_same (reached (Seats seat)) (with_effect (Seats seat)) (with_author who k (Seats seat) ps) (λ p. refl)

-- a game into which an effect brings what it brings, and whose seats then have their letter and what reaches each
pub row_after : (c : Change) (old new : GameRow) → ((key : List ℕ) → (game key new).public ≡ public_after c.effect (game key old).public)
    → rows.lines new.papers.items ≡ papers_after c.effect (rows.lines old.papers.items)
    → parts new.seats.items ≡ map (reached c.effect) (with_author c.author c.kept c.effect (delivered c.effect (parts old.seats.items)))
    → (key : List ℕ) → game key new ≡ game_after c (game key old)
row_after c old new public papers seats key =
    ap (λ (p : Public). record { public = p; papers = rows.lines new.papers.items; seats = parts new.seats.items }) (public key)
    ∙ ap (λ (ps : List (List ℕ)). record { public = public_after c.effect (game key old).public; papers = ps; seats = parts new.seats.items }) papers
    ∙ ap (λ (ps : List Part). record { public = public_after c.effect (game key old).public; papers = papers_after c.effect (rows.lines old.papers.items); seats = ps })
    (seats ∙ seats_after c.author c.kept c.effect (parts old.seats.items))

-- a paper with the public part after it
pub page_brings : {E : Type 0} (e : Effect) (public : Public) (paper : List ℕ) (played : Bool) (old new : GameRow) (r : Result (Unit {0}) E) → e ≡ Publishes public paper played
    → OnOk r ((key : List ℕ) → (game key new).public ≡ record public { game = key }) → OnOk r (rows.lines new.papers.items ≡ rows.lines old.papers.items ++ paper ∷ [])
    → new.seats ≡ old.seats → OnOk r (Brings e old new)
page_brings e public paper played old new (Ok x) is replaced added same =
    let brings : Brings (Publishes public paper played) old new = record { public = replaced; papers = added; seats = ap (λ seats. parts seats.items) same } in
    subst (λ (x : Effect). Brings x old new) (sym is) brings
page_brings e public paper played old new (Err x) is replaced added same = tt

-- what holds of each seat holds of one
pub at_place : (P : Part → Type 0) (xs : List SeatRow) (i : ℕ) (old : SeatRow) → i < length xs → old ≡ get_or xs i old → AllByRecursion P (parts xs) → P (part old)
at_place P [] i old lt is all = absurd (omega arith)
at_place P (x ∷ xs) zero old lt is all = subst (λ (y : SeatRow). P (part y)) (sym is) all.0
at_place P (x ∷ xs) (suc i) old lt is all = at_place P xs i old (omega arith) is all.1

-- room for counts

each_of : (P : Part → Type 0) (ps : List Part) → ((p : Part) → P p) → AllByRecursion P ps
each_of P [] all = tt
each_of P (p ∷ ps) all = (all p, each_of P ps all)

-- the author may send, as each seat of a game says
sent_room : (who : Author) (readers : List ℕ) (item : Item) (ps : List Part) → have_room who readers ps ≡ true
    → AllByRecursion (AuthorMaySend who (Delivers readers item)) (map (with_effect (Delivers readers item)) ps)
sent_room who readers item [] room = tt
sent_room who readers item (p ∷ ps) room =
    let all = and_parts (has_room who readers p.own) (have_room who readers ps) room in
    let sends = (and_parts (may_send who p.own) (may_get readers p.own) all.0).0 in
    (go (list_any (λ q. q == power_in p) readers) (λ mine. less (is_seat who (power_in p)) mine sends), sent_room who readers item ps all.1)
  where
    less : (b : Bool) → b ≡ true → cond b (nat_lt p.own.sent most_sent) true ≡ true → p.own.sent < most_sent
    less true mine sends = ltb-true p.own.sent most_sent sends
    less false mine sends = absurd (false≢true mine)

    go : (b : Bool) → (is_seat who (power_in p) ≡ true → p.own.sent < most_sent) → AuthorMaySend who (Delivers readers item) (cond b (with_item item p) p)
    go true lt mine press = lt mine
    go false lt mine press = lt mine

none_sent : (who : Author) (e : Effect) (ps : List Part) → is_press e ≡ false → AllByRecursion (AuthorMaySend who e) ps
none_sent who e ps quiet = each_of (AuthorMaySend who e) ps (λ p mine press. absurd (false≢true (sym quiet ∙ press)))

-- where the counts have room, the author may have sent one more, and press leaves it that
pub all_may_send : (who : Author) (e : Effect) (ps : List Part) → finds_room who e ps ≡ true → AllByRecursion (AuthorMaySend who e) (delivered e ps)
all_may_send who Nothing ps room = none_sent who Nothing ps refl
all_may_send who (Pending orders) ps room = none_sent who (Pending orders) ps refl
all_may_send who (Votes vote) ps room = none_sent who (Votes vote) ps refl
all_may_send who (Delivers readers item) ps room = sent_room who readers item ps room
all_may_send who (Opens public paper seats) ps room = none_sent who (Opens public paper seats) ps refl
all_may_send who (Publishes public paper played) ps room = none_sent who (Publishes public paper played) ps refl
all_may_send who (Seats seat) ps room = none_sent who (Seats seat) ps refl

-- and the inboxes have room
pub all_may_get : (who : Author) (e : Effect) (ps : List Part) → finds_room who e ps ≡ true → inboxes_have_room e ps ≡ true
all_may_get who Nothing ps room = refl
all_may_get who (Pending orders) ps room = refl
all_may_get who (Votes vote) ps room = refl
all_may_get who (Delivers readers item) ps room = gets ps room
  where
    gets : (qs : List Part) → have_room who readers qs ≡ true → list_all (λ q. may_get readers q.own) qs ≡ true
    gets [] all = refl
    gets (q ∷ qs) all =
        let parts = and_parts (has_room who readers q.own) (have_room who readers qs) all in
        ap (λ (t : Bool). t && list_all (λ r. may_get readers r.own) qs) (and_parts (may_send who q.own) (may_get readers q.own) parts.0).1 ∙ gets qs parts.1
all_may_get who (Opens public paper seats) ps room = refl
all_may_get who (Publishes public paper played) ps room = refl
all_may_get who (Seats seat) ps room = refl

-- the seat at the place of a power is of that power
pub at_power : (power : ℕ) (xs : List SeatRow) (i : ℕ) (old : SeatRow) → i ≡ place (λ a b. a == b) power_in power (parts xs) → i < length xs → old ≡ get_or xs i old
    → (power_in (part old) == power) ≡ true
at_power power [] i old here lt is = absurd (omega (arith, lt))
at_power power (x ∷ xs) i old here lt is = go (power_in (part x) == power) refl i here lt is (λ j here lt is. at_power power xs j old here lt is)
  where
    go : (b : Bool) → (power_in (part x) == power) ≡ b → (j : ℕ) → j ≡ cond b 0 (place (λ a b. a == b) power_in power (parts xs) + 1) → j < suc (length xs)
        → old ≡ get_or (x ∷ xs) j old
        → ((j : ℕ) → j ≡ place (λ a b. a == b) power_in power (parts xs) → j < length xs → old ≡ get_or xs j old → (power_in (part old) == power) ≡ true)
        → (power_in (part old) == power) ≡ true
    go true hit zero here lt is more = subst (λ (y : SeatRow). (power_in (part y) == power) ≡ true) (sym is) hit
    go true hit (suc j) here lt is more = absurd (omega (arith, here))
    go false off zero here lt is more = absurd (omega (arith, here))
    go false off (suc j) here lt is more = more j (omega (arith, here)) (omega (arith, lt)) is

-- the seats of a loop that reaches each in turn
pub reach_next : (e : Effect) (xs : List SeatRow) (i : ℕ) (new d : SeatRow) → i < length xs → part new ≡ reached e (part (get_or xs i d))
    → take (i + 1) (parts (slice_set xs i new)) ++ map (reached e) (drop (i + 1) (parts (slice_set xs i new))) ≡ take i (parts xs) ++ map (reached e) (drop i (parts xs))
reach_next e xs i new d lt is = rw (add-one i) (go xs i lt is)
  where
    go : (ys : List SeatRow) (j : ℕ) → j < length ys → part new ≡ reached e (part (get_or ys j d))
        → take (suc j) (parts (slice_set ys j new)) ++ map (reached e) (drop (suc j) (parts (slice_set ys j new))) ≡ take j (parts ys) ++ map (reached e) (drop j (parts ys))
    go [] j lt is = absurd (omega arith)
    go (y ∷ ys) zero lt is = ap (λ (p : Part). p ∷ map (reached e) (parts ys)) is
    go (y ∷ ys) (suc j) lt is = ap (λ (ps : List Part). part y ∷ ps) (go ys j (omega arith) is)

above : (a : ℕ) → nat_le a most_papers ≡ false → most_papers < a
above a is = grind (arith, nat_tests)

-- where the counts have no room, the effect finds no place
pub no_room : (name : List ℕ) (who : Author) (e : Effect) (key : List ℕ) (g : GameRow) → finds_room who e (parts g.seats.items) ≡ false → LacksPlace name who e (Some (game key g))
no_room name who Nothing key g none = absurd (false≢true (sym none))
no_room name who (Pending orders) key g none = absurd (false≢true (sym none))
no_room name who (Votes vote) key g none = absurd (false≢true (sym none))
no_room name who (Delivers readers item) key g none = none
no_room name who (Opens public paper seats) key g none = absurd (false≢true (sym none))
no_room name who (Publishes public paper played) key g none = above public.papers none
no_room name who (Seats seat) key g none = absurd (false≢true (sym none))
