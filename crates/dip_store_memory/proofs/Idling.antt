-- Seats that have neither orders nor a vote.
use Rattle.std.proofs.Common.{◌≡◌, ◌&&◌, ◌==◌, ◌⊎◌, inl, inr, ℕ, zero, suc, Bool, true, false, not, cond, List, [], ◌∷◌, ◌++◌, Option, None, Some, IfSome, String, Result, Ok, Err, OnOk, OnErr, map, option_map, option_and_then, refl, sym, ap, subst, ◌∙◌, bytes_eq, string_bytes, get_or, eqb-true, length, nat_lt}
use Rattle.std.specs.List.{list_any, slice_set}
use Rattle.std.specs.declared.alloc.Global.{Global}
use Rattle.std.specs.Map.{lookup}
use Rattle.std.specs.Option.{option_or}
use Rattle.std.specs.String.{string_eq}
use Rattle.std.proofs.lemmas.Bool.{both_ways, eq-eqb}
use Rattle.std.proofs.lemmas.List.{get_or-set_other}
use Rattle.std.proofs.lemmas.Slice.Eq.{bytes_eq-Decides}
use Rattle.indexmap.specs.IndexMap.{IndexMap, UpdatesBy}
use Rattle.dip_desk_state.specs.Keyed.{at, change_at}
use Rattle.dip_desk_state.specs.Records.{Kept, Own, Public}
use Rattle.dip_desk_state.specs.State.{Author, Nobody, TheMaster, Seat, Change, Effect, Nothing, Pending, Votes, Delivers, Opens, Publishes, Seats, Game, IsIdle, NewSeat, Part, State, fresh, game_after, game_at, is_seat, name_of, new_games, opening_game, own_at, own_effect, own_of, power_in, seat_at, state_after, with_author, with_digest, with_effect, with_item, with_letter}
use Rattle.dip_desk_state.proofs.KeyedLemmas.{at-append, at-change_at_other, at-change_at_same, names_tell, powers_tell}
use Rattle.dip_desk_state.proofs.KeptKeys.{effect_power, letter_power, name_kept}
use Rattle.dip_store_memory.specs.Idle.{Idle, RecallsIdle, idle_with_room, is_idle, is_still, is_stirring, most_idle, stirs}
use Rattle.dip_store_memory.specs.Seen.{DifferByName}
use Rattle.dip_store_memory.proofs.Named.{found_said, said, updated_said}
use Rattle.dip_store_memory.proofs.Seeing.{at_last}

-- ---- a seat after a change

-- an effect leaves each idle seat so
still_idle : (e : Effect) (x : Part) → IsIdle x.own → IsIdle (with_effect e x).own
still_idle Nothing x idle = idle
still_idle (Pending orders) x idle = idle
still_idle (Votes vote) x idle = idle
still_idle (Delivers readers item) x idle = go (list_any (λ p. p == power_in x) readers)
  where
    go : (b : Bool) → IsIdle (cond b (with_item item x) x).own
    go true = record { vote = idle.vote; pending = idle.pending }
    go false = idle
still_idle (Opens public paper seats) x idle = idle
still_idle (Publishes public paper true) x idle = record { vote = idle.vote; pending = refl }
still_idle (Publishes public paper false) x idle = idle
still_idle (Seats seat) x idle = go (seat.power == power_in x)
  where
    go : (b : Bool) → IsIdle (cond b (with_digest seat.digest x) x).own
    go true = record { vote = idle.vote; pending = idle.pending }
    go false = idle

abbrev SeatIsIdle : Option Part → Type 0
SeatIsIdle seat = IfSome (own_of seat) IsIdle

each_idle : (e : Effect) (power : ℕ) (xs : List Part) → SeatIsIdle (seat_at power xs) → SeatIsIdle (seat_at power (map (with_effect e) xs))
each_idle e power [] idle = tt
each_idle e power (x ∷ xs) idle =
    subst (λ (p : ℕ). SeatIsIdle (cond (p == power) (Some (with_effect e x)) (seat_at power (map (with_effect e) xs)))) (sym (effect_power e x))
    (go (power_in x == power) idle (each_idle e power xs))
  where
    go : (b : Bool) → SeatIsIdle (cond b (Some x) (seat_at power xs)) → (SeatIsIdle (seat_at power xs) → SeatIsIdle (seat_at power (map (with_effect e) xs)))
        → SeatIsIdle (cond b (Some (with_effect e x)) (seat_at power (map (with_effect e) xs)))
    go true idle more = still_idle e x idle
    go false idle more = more idle

-- a letter that gives neither orders nor a vote leaves its author so, and any letter others
own_still : (e : Effect) (o : Own) → is_stirring e ≡ false → IsIdle o → IsIdle (own_effect e o)
own_still Nothing o none idle = idle
own_still (Pending orders) o none idle = absurd (let x = none in cc)
own_still (Votes vote) o none idle = absurd (let x = none in cc)
own_still (Delivers readers item) o none idle = record { vote = idle.vote; pending = idle.pending }
own_still (Opens public paper seats) o none idle = idle
own_still (Publishes public paper played) o none idle = idle
own_still (Seats seat) o none idle = idle

letter_idle : (who : Author) (k : Kept) (e : Effect) (power : ℕ) (xs : List Part) → (is_stirring e && is_seat who power) ≡ false → SeatIsIdle (seat_at power xs) → SeatIsIdle (seat_at power (with_author who k e xs))
letter_idle Nobody k e power xs off idle = idle
letter_idle TheMaster k e power xs off idle = idle
letter_idle (Seat p) k e power xs off idle = go (p == power) refl off
  where
    and_true : (b : Bool) → (b && true) ≡ false → b ≡ false
    and_true false h = refl
    and_true true h = h

    changed : is_stirring e ≡ false → (x : Option Part) → SeatIsIdle x → SeatIsIdle (option_map (with_letter k e) x)
    changed none None idle = tt
    changed none (Some x) idle = own_still e (record x.own { kept = Some k }) none (record { vote = idle.vote; pending = idle.pending })

    go : (b : Bool) → (p == power) ≡ b → (is_stirring e && b) ≡ false → SeatIsIdle (seat_at power (change_at (λ a b. a == b) power_in p (with_letter k e) xs))
    go true is off =
        subst (λ (q : ℕ). SeatIsIdle (seat_at power (change_at (λ a b. a == b) power_in q (with_letter k e) xs))) (sym (eqb-true p power is))
        (subst SeatIsIdle (sym (at-change_at_same (λ a b. a == b) power_in power (with_letter k e) xs (letter_power k e))) (changed (and_true (is_stirring e) off) (seat_at power xs) idle))
    go false is off = subst SeatIsIdle (sym (at-change_at_other (λ a b. a == b) power_in p power (with_letter k e) xs powers_tell (letter_power k e) is)) idle

-- a new seat is idle
fresh_idle : (power : ℕ) (seats : List NewSeat) → SeatIsIdle (seat_at power (map fresh seats))
fresh_idle power [] = tt
fresh_idle power (x ∷ xs) = go (x.power == power) (fresh_idle power xs)
  where
    go : (b : Bool) → SeatIsIdle (seat_at power (map fresh xs)) → SeatIsIdle (cond b (Some (fresh x)) (seat_at power (map fresh xs)))
    go true more = record { vote = refl; pending = refl }
    go false more = more

-- ---- a state after a change

abbrev GameIsIdle : ℕ → Option Game → Type 0
GameIsIdle power g = IfSome (option_and_then (λ g. own_of (seat_at power g.seats)) g) IsIdle

new_idle : (e : Effect) (name : List ℕ) (power : ℕ) → GameIsIdle power (at bytes_eq name_of name (new_games e))
new_idle Nothing name power = tt
new_idle (Pending orders) name power = tt
new_idle (Votes vote) name power = tt
new_idle (Delivers readers item) name power = tt
new_idle (Opens public paper seats) name power = go (bytes_eq public.game name)
  where
    go : (b : Bool) → GameIsIdle power (cond b (Some (opening_game public paper seats)) None)
    go true = fresh_idle power seats
    go false = tt
new_idle (Publishes public paper played) name power = tt
new_idle (Seats seat) name power = tt

pub idle_stays : (c : Change) (s : State) (name : List ℕ) (power : ℕ) → stirs c name power ≡ false → IfSome (own_at name power s) IsIdle → IfSome (own_at name power (state_after c s)) IsIdle
idle_stays c s name power off idle =
    subst (GameIsIdle power) (sym (at-append bytes_eq name_of name (change_at bytes_eq name_of c.game (game_after c) s.games) (new_games c.effect)))
    (first (at bytes_eq name_of name (change_at bytes_eq name_of c.game (game_after c) s.games)) (changed (bytes_eq c.game name) refl off))
  where
    first : (x : Option Game) → GameIsIdle power x → GameIsIdle power (option_or x (at bytes_eq name_of name (new_games c.effect)))
    first None idle = new_idle c.effect name power
    first (Some g) idle = idle

    inside : (is_stirring c.effect && is_seat c.author power) ≡ false → (x : Option Game) → GameIsIdle power x → GameIsIdle power (option_map (game_after c) x)
    inside off None idle = tt
    inside off (Some g) idle = each_idle c.effect power (with_author c.author c.kept c.effect g.seats) (letter_idle c.author c.kept c.effect power g.seats off idle)

    changed : (b : Bool) → bytes_eq c.game name ≡ b → (is_stirring c.effect && (b && is_seat c.author power)) ≡ false → GameIsIdle power (at bytes_eq name_of name (change_at bytes_eq name_of c.game (game_after c) s.games))
    changed true is off =
        let same = (bytes_eq-Decides c.game name).0 is in
        subst (λ (n : List ℕ). GameIsIdle power (at bytes_eq name_of n (change_at bytes_eq name_of c.game (game_after c) s.games))) same
        (subst (GameIsIdle power) (sym (at-change_at_same bytes_eq name_of c.game (game_after c) s.games (name_kept c)))
        (inside off (game_at c.game s) (subst (λ (n : List ℕ). GameIsIdle power (game_at n s)) (sym same) idle)))
    changed false is off = subst (GameIsIdle power) (sym (at-change_at_other bytes_eq name_of c.game name (game_after c) s.games names_tell (name_kept c) is)) idle

-- each seat of a game that is opened is idle
pub opened_idle : (c : Change) (s : State) (name : List ℕ) (p : Public) (paper : List ℕ) (seats : List NewSeat) → name ≡ p.game → c.effect ≡ Opens p paper seats → DifferByName (state_after c s).games
    → (power : ℕ) → IfSome (own_at name power (state_after c s)) IsIdle
opened_idle c s name p paper seats named is apart power = subst (λ (n : List ℕ). IfSome (own_at n power (state_after c s)) IsIdle) (sym named) here
  where
    new : new_games c.effect ≡ opening_game p paper seats ∷ []
    new = ap (λ (e : Effect). new_games e) is

    here : GameIsIdle power (game_at p.game (state_after c s))
    here =
        let before = change_at bytes_eq name_of c.game (game_after c) s.games in
        let found = ap (λ (gs : List Game). at bytes_eq name_of p.game (before ++ gs)) new
        ∙ at_last bytes_eq name_of before (opening_game p paper seats) names_tell (subst (λ (gs : List Game). DifferByName (before ++ gs)) new apart) in
        subst (GameIsIdle power) (sym found) (fresh_idle power seats)

-- ---- what is known of them

-- nothing is known wrong where nothing is
pub recalls_no_idle : (s : State) → RecallsIdle s []
recalls_no_idle s name power h = absurd (let x = h in cc)

-- of what a state has, what is left before a change is right before it and after it
abbrev pub LeavesIdle : Change → Idle → Idle → Type 0
LeavesIdle c old new = (name : List ℕ) (power : ℕ) → is_idle name power new ≡ true → (is_idle name power old ≡ true) × (stirs c name power ≡ false)

pub idle_before : (c : Change) (old new : Idle) → LeavesIdle c old new → (s : State) → RecallsIdle s old → RecallsIdle s new
idle_before c old new leaves s recalls name power h = recalls name power (leaves name power h).0

pub idle_after : (c : Change) (old new : Idle) → LeavesIdle c old new → (s : State) → RecallsIdle s old → RecallsIdle (state_after c s) new
idle_after c old new leaves s recalls name power h =
    let it = leaves name power h in
    idle_stays c s name power it.1 (recalls name power it.0)

-- where room is made no more is known
room_idle : (ws : Idle) (name : List ℕ) (power : ℕ) → is_idle name power (idle_with_room ws) ≡ true → is_idle name power ws ≡ true
room_idle ws name power = go (nat_lt (length ws) most_idle)
  where
    go : (b : Bool) → is_idle name power (cond b ws []) ≡ true → is_idle name power ws ≡ true
    go true h = h
    go false h = absurd (let x = h in cc)

-- and of each seat of a game that is opened
pub begun_idle : (c : Change) (s : State) (game : List ℕ) (p : Public) (paper : List ℕ) (seats : List NewSeat) (old new : Idle) → game ≡ p.game → c.effect ≡ Opens p paper seats → DifferByName (state_after c s).games
    → ((name : List ℕ) (power : ℕ) → is_idle name power new ≡ true → (is_idle name power (idle_with_room old) ≡ true) ⊎ (bytes_eq game name ≡ true))
    → RecallsIdle (state_after c s) old → RecallsIdle (state_after c s) new
begun_idle c s game p paper seats old new named is apart begins recalls name power h = elim (begins name power h) [
  | inl before ↦ recalls name power (room_idle old name power before)
  | inr here ↦ subst (λ (n : List ℕ). IfSome (own_at n power (state_after c s)) IsIdle) ((bytes_eq-Decides game name).0 here) (opened_idle c s game p paper seats named is apart power)
]

-- ---- as it lies in memory

as_it_is : {A : Type 0} (o : Option A) → option_map (λ v. v) o ≡ o
as_it_is None = refl
as_it_is (Some x) = refl

-- under a name, what lies there
pub stirred_found : (name : List ℕ) (es : List (String Global × List Bool)) → lookup (λ k. bytes_eq name (string_bytes k)) es ≡ lookup (bytes_eq name) (said (λ (v : List Bool). v) es)
stirred_found name es = sym (as_it_is (lookup (λ k. bytes_eq name (string_bytes k)) es)) ∙ found_said (λ (v : List Bool). v) name es

-- and what a change at a name leaves under each
pub stirred_updated : {S : Type 0} (bs : List ℕ) (m n : IndexMap (String Global) (List Bool) S) (w : Option (List Bool)) → UpdatesBy string_eq (λ k. bytes_eq bs (string_bytes k)) m n w
    → (other : List ℕ) → lookup (bytes_eq other) (said (λ (v : List Bool). v) n.entries) ≡ cond (bytes_eq bs other) w (lookup (bytes_eq other) (said (λ (v : List Bool). v) m.entries))
stirred_updated bs m n w updates other =
    updated_said (λ (v : List Bool). v) bs m n w updates other
    ∙ ap (λ (o : Option (List Bool)). cond (bytes_eq bs other) o (lookup (bytes_eq other) (said (λ (v : List Bool). v) m.entries))) (as_it_is w)

-- by the name and what is known that are meant
pub put_named : (other bs name : List ℕ) (marks : List Bool) (ws vs : Idle) → bs ≡ name → ws ≡ vs
    → cond (bytes_eq bs other) (Some marks) (lookup (bytes_eq other) ws) ≡ cond (bytes_eq name other) (Some marks) (lookup (bytes_eq other) vs)
put_named other bs name marks ws vs key same =
    ap (λ (n : List ℕ). cond (bytes_eq n other) (Some marks) (lookup (bytes_eq other) ws)) key ∙ ap (λ (xs : Idle). cond (bytes_eq name other) (Some marks) (lookup (bytes_eq other) xs)) same

-- a game's marks are written anew, or there is no memory for them
abbrev IsPut : List ℕ → List Bool → Idle → Idle → Type 0
IsPut game marks old new = (name : List ℕ) → lookup (bytes_eq name) new ≡ cond (bytes_eq game name) (Some marks) (lookup (bytes_eq name) old)

pub begun : {X E : Type 0} (did : Result X E) (game : List ℕ) (marks : List Bool) (old room new : Idle) → room ≡ idle_with_room old
    → OnOk did (IsPut game marks room new) → OnErr did (new ≡ room)
    → (name : List ℕ) (power : ℕ) → is_idle name power new ≡ true → (is_idle name power (idle_with_room old) ≡ true) ⊎ (bytes_eq game name ≡ true)
begun (Ok x) game marks old room new roomy ok err name power h = go (bytes_eq game name) refl (ok name)
  where
    go : (b : Bool) → bytes_eq game name ≡ b → lookup (bytes_eq name) new ≡ cond b (Some marks) (lookup (bytes_eq name) room) → (is_idle name power (idle_with_room old) ≡ true) ⊎ (bytes_eq game name ≡ true)
    go true is put = inr is
    go false is put = inl (subst (λ (ws : Idle). is_idle name power ws ≡ true) roomy (ap (is_still power) (sym put) ∙ h))
begun (Err e) game marks old room new roomy ok err name power h = inl (subst (λ (ws : Idle). is_idle name power ws ≡ true) (err ∙ roomy) h)

-- a game's marks are taken out
abbrev pub IsOut : List ℕ → Idle → Idle → Type 0
IsOut game old new = (name : List ℕ) → lookup (bytes_eq name) new ≡ cond (bytes_eq game name) None (lookup (bytes_eq name) old)

pub out_left : (game : List ℕ) (power : ℕ) (old new : Idle) → IsOut game old new
    → (name : List ℕ) (other : ℕ) → is_idle name other new ≡ true → (is_idle name other old ≡ true) × ((bytes_eq game name && (power == other)) ≡ false)
out_left game power old new out name other h = go (bytes_eq game name) refl (out name)
  where
    go : (b : Bool) → bytes_eq game name ≡ b → lookup (bytes_eq name) new ≡ cond b None (lookup (bytes_eq name) old) → (is_idle name other old ≡ true) × ((b && (power == other)) ≡ false)
    go true is left = absurd (let x = sym (ap (is_still other) left) ∙ h in cc)
    go false is left = (ap (is_still other) (sym left) ∙ h, refl)

-- and put back with one more
pub stirred_left : {X E : Type 0} (did : Result X E) (game : List ℕ) (power : ℕ) (marks anew : List Bool) (old out new : Idle) → lookup (bytes_eq game) old ≡ Some marks → IsOut game old out
    → ((other : ℕ) → is_still other (Some anew) ≡ true → (is_still other (Some marks) ≡ true) × ((power == other) ≡ false))
    → OnOk did (IsPut game anew out new) → OnErr did (new ≡ out)
    → (name : List ℕ) (other : ℕ) → is_idle name other new ≡ true → (is_idle name other old ≡ true) × ((bytes_eq game name && (power == other)) ≡ false)
stirred_left (Ok x) game power marks anew old out new found taken turn ok err name other h = go (bytes_eq game name) refl (ok name) (taken name)
  where
    go : (b : Bool) → bytes_eq game name ≡ b → lookup (bytes_eq name) new ≡ cond b (Some anew) (lookup (bytes_eq name) out) → lookup (bytes_eq name) out ≡ cond b None (lookup (bytes_eq name) old)
        → (is_idle name other old ≡ true) × ((b && (power == other)) ≡ false)
    go true is put left =
        let it = turn other (ap (is_still other) (sym put) ∙ h) in
        let same = (bytes_eq-Decides game name).0 is in
        (subst (λ (n : List ℕ). is_idle n other old ≡ true) same (ap (is_still other) found ∙ it.0), it.1)
    go false is put left = (ap (is_still other) (sym left) ∙ ap (is_still other) (sym put) ∙ h, refl)
stirred_left (Err e) game power marks anew old out new found taken turn ok err name other h = out_left game power old out taken name other (subst (λ (ws : Idle). is_idle name other ws ≡ true) err h)

set_true : (marks : List Bool) (power : ℕ) → get_or (slice_set marks power true) power true ≡ true
set_true [] power = refl
set_true (x ∷ xs) zero = refl
set_true (x ∷ xs) (suc power) = set_true xs power

-- the mark of a power is written: it is still no longer, and the others are as they were
pub marked : (marks : List Bool) (power other : ℕ) → is_still other (Some (slice_set marks power true)) ≡ true → (is_still other (Some marks) ≡ true) × ((power == other) ≡ false)
marked marks power other h = go (power == other) refl
  where
    go : (b : Bool) → (power == other) ≡ b → (is_still other (Some marks) ≡ true) × (b ≡ false)
    go true is =
        let there = subst (λ (n : ℕ). get_or (slice_set marks power true) n true ≡ true) (eqb-true power other is) (set_true marks power) in
        absurd (let x = sym (ap not there) ∙ h in cc)
    go false is =
        (ap not (sym (get_or-set_other marks power other true true (λ same. both_ways _ is (eq-eqb power other (sym same))))) ∙ h, refl)

-- what is found of a power tells it
pub told_still : (marks : List Bool) (index power : ℕ) (has : Bool) → has ≡ get_or marks index true → index ≡ power → not has ≡ is_still power (Some marks)
told_still marks index power has is same = ap not is ∙ ap (λ (n : ℕ). not (get_or marks n true)) same
