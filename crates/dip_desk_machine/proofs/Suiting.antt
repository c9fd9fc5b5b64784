-- Which effect may come from whom, and where.
use Rattle.std.proofs.Common.{◌≡◌, ◌==◌, ◌+◌, ◌⊎◌, inl, inr, ℕ, nat_le, nat_lt, unwrap_or, Bool, true, false, not, cond, List, [], ◌∷◌, Option, Some, None, option_map, is_some, refl, sym, ap, subst, ◌∙◌, bytes_eq, eqb, length, ◌<◌}
use Rattle.std.specs.Prelude.{◌&&◌, ◌||◌, option_and_then, filter}
use Rattle.std.specs.List.{list_any}
use Rattle.std.proofs.lemmas.Bool.{and_parts}
use Rattle.std.proofs.lemmas.List.Quantifiers.{position-Some}
use Rattle.dip_letters.specs.Letters.{FitsRequest, is_on}
use Rattle.dip_letters.specs.Notes.{Request, SeatNote}
use Rattle.dip_letters.specs.Notes.MasterRequest.{Create, Tick, Replace, Notify}
use Rattle.dip_letters.specs.Notes.PlayerRequest.{Orders, Withdraw, Press, Vote, VoteFor, Show, Inbox}
use Rattle.dip_letters.specs.Notes.Request.{Player, Master}
use Rattle.dip_map.specs.Charts.{Chart, Realm, no_realm, power_of, powers}
use Rattle.dip_desk_games.specs.Drawing.{drawn_between, public_drawn}
use Rattle.dip_desk_machine.proofs.Titles.{draw_told, notice_told}
use Rattle.dip_desk_machine.specs.Titles.{names_phase}
use Rattle.dip_desk_machine.specs.Mail.{Mail}
use Rattle.dip_desk_games.specs.Noting.{is_announcement, public_noted}
use Rattle.dip_desk_machine.specs.Pressing.{are_distinct, is_among, is_to_all, item_of, may_read, named_powers, names_all, other_powers, readers_of, readers_where}
use Rattle.dip_desk_state.specs.Bounds.{most_papers, most_sent}
use Rattle.dip_desk_state.specs.State.{State, Game, Author, Nobody, TheMaster, Seat, Effect, Nothing, Part, Pending, Votes, Delivers, Opens, Publishes, Seats, NewSeat, game_at, power_in, seat_at, whole_of}
use Rattle.dip_desk_machine.specs.Machine.{Decides, DecidesIn, IsPublished, IsSpoiled, MasterDecides, NumberedBy, OnTime, Ticks, Verdict, NotKnown, Again, OutOfTurn, Taken, addressed, creation, digest, draw_verdict, has_seat, new_seat, new_seats, notified, old_number, open_game, opening_public, orders_effect, orders_verdict, page_shown, press_to, refusal_verdict, replaced, replacement, seat_command, seen_in, unless, verdict_by, verdict_on, vote_verdict}
use Rattle.dip_desk_state.specs.Fitting.{are_complete}
use Rattle.dip_desk_games.specs.Ordering.{Ordered, kept_orders, outcome_of_lines, same_standings}
use Rattle.dip_desk_games.specs.Ticking.{is_due, is_over}
use Rattle.dip_desk_machine.specs.Voting.{plain_vote, set_of}
use Rattle.dip_desk_machine.specs.View.{Suits}
use Rattle.dip_desk_state.specs.Writable.{IsPublicOf}
use Rattle.dip_desk_state.specs.Records.{Item, Public, Own, Kept, Standing, For, Whole}
use Rattle.dip_reports.specs.Texts.{opening_paper, paper_line, press_line, refusal_line, replaced_line, vote_line, withdrawn_line}
use Rattle.dip_reports.specs.declared.refusals.Refusal.{Refusal}
use Rattle.dip_reports.specs.declared.refusals.Refusal.TheVariants.{GameOver, Malformed, NameTaken, NoGrey, NotDue, NumberUsed, QuotaUsed, Stale, WrongSender}
use Rattle.dip_desk_state.proofs.KeyedLemmas.{at_key, powers_tell}
use Rattle.dip_desk_machine.proofs.VotingLemmas.{drawn_low}
use Rattle.dip_desk_machine.proofs.WritableLemmas.{of_drawn, of_noted}

-- from whom an effect comes: a seat orders, votes and sends press, which it doesn't send to itself; the master opens games, publishes and
-- gives seats away
abbrev pub Comes : Author → Option Game → Effect → Type 0
Comes Nobody game e = ⊥
Comes TheMaster game Nothing = Unit {0}
Comes TheMaster game (Pending orders) = ⊥
Comes TheMaster game (Votes vote) = ⊥
Comes TheMaster game (Delivers readers item) = ⊥
Comes TheMaster game (Opens public paper seats) = Unit {0}
Comes TheMaster game (Publishes public paper played) = Unit {0}
Comes TheMaster game (Seats seat) = Unit {0}
Comes (Seat p) None e = ⊥
Comes (Seat p) (Some g) Nothing = Unit {0}
Comes (Seat p) (Some g) (Pending orders) = Unit {0}
Comes (Seat p) (Some g) (Votes vote) = Unit {0}
Comes (Seat p) (Some g) (Delivers readers item) = is_among p readers ≡ false
Comes (Seat p) (Some g) (Opens public paper seats) = ⊥
Comes (Seat p) (Some g) (Publishes public paper played) = ⊥
Comes (Seat p) (Some g) (Seats seat) = ⊥

-- from whom it comes, and where
abbrev pub IsFitting : List ℕ → Author → Option Game → Effect → Type 0
IsFitting name who game e = Comes who game e × Suits name game e

abbrev pub VerdictSuits : List ℕ → Author → Option Game → Verdict → Type 0
VerdictSuits name who game NotKnown = Unit {0}
VerdictSuits name who game (Again text) = Unit {0}
VerdictSuits name who game (OutOfTurn text) = Unit {0}
VerdictSuits name who game (Taken text e) = IsFitting name who game e

-- ---- what holds of each kind of verdict holds of all

-- what holds of each answer to an old number, and of what is decided of a new one
pub numbered_holds : (P : Verdict → Type 0) → ((text : List ℕ) → P (Again text)) → ((text : List ℕ) → P (OutOfTurn text)) → (n : Mail) (k : Option Kept)
    (New : Verdict → Type 0) (v : Verdict) → (New v → P v) → NumberedBy (old_number n k) New v → P v
numbered_holds P again out n None New v new h = new h
numbered_holds P again out n (Some k) New v new h = go (nat_lt n.note.number k.number) (n.note.number == k.number) (bytes_eq n.sum k.sum) h
  where
    go : (a b c : Bool) → NumberedBy (cond a (Some (OutOfTurn (refusal_line (Stale k.number)))) (cond b (Some (cond c (Again k.reply) (OutOfTurn (refusal_line (NumberUsed k.number))))) None)) New v → P v
    go true b c is = subst P (sym is) (out (refusal_line (Stale k.number)))
    go false true true is = subst P (sym is) (again k.reply)
    go false true false is = subst P (sym is) (out (refusal_line (NumberUsed k.number)))
    go false false c is = new is

-- what holds of each answer to an old number, and of a seat's verdict on a new one
pub seat_holds : (P : Verdict → Type 0) → ((text : List ℕ) → P (Again text)) → ((text : List ℕ) → P (OutOfTurn text)) → (n : Mail) (k : Option Kept) (v : Verdict)
    → P v → P (unwrap_or (old_number n k) v)
seat_holds P again out n None v h = h
seat_holds P again out n (Some k) v h = go (nat_lt n.note.number k.number) (n.note.number == k.number) (bytes_eq n.sum k.sum)
  where
    go : (a b c : Bool) → P (unwrap_or (cond a (Some (OutOfTurn (refusal_line (Stale k.number)))) (cond b (Some (cond c (Again k.reply) (OutOfTurn (refusal_line (NumberUsed k.number))))) None)) v)
    go true b c = out (refusal_line (Stale k.number))
    go false true true = again k.reply
    go false true false = out (refusal_line (NumberUsed k.number))
    go false false c = h

unless_holds : (P : Verdict → Type 0) (b : Bool) (r : Refusal) (v : Verdict) → P (refusal_verdict r) → (b ≡ false → P v) → P (unless b r v)
unless_holds P true r v stops goes = stops
unless_holds P false r v stops goes = goes refl

-- orders that stand already change nothing, and others stand then
orders_hold : (P : Verdict → Type 0) (text : List ℕ) (standing orders : List Standing) → P (Taken text Nothing) → P (Taken text (Pending orders)) → P (Taken text (orders_effect standing orders))
orders_hold P text standing orders same other = go (same_standings standing orders)
  where
    go : (b : Bool) → P (Taken text (cond b Nothing (Pending orders)))
    go true = same
    go false = other

-- what ORDERS comes to where other orders stand then
abbrev pub ordered_anew : Chart → Ordered → Verdict
ordered_anew m d = Taken d.answers (Pending (kept_orders m d.orders))

-- each kind of verdict on a power's command
pub record OfPlayer (P : Verdict → Type 0) (m : Chart) (command : Request) (p : Public) (o : Own) : Type 0 where
  pub refused : (r : Refusal) → P (refusal_verdict r)
  pub told : (text : List ℕ) → P (Taken text Nothing)
  pub ordered : (lines : List (List ℕ)) → P (ordered_anew m (outcome_of_lines m p.board o.power o.pending lines))
  pub withdrawn : P (Taken withdrawn_line (Pending []))
  pub voted : (draw : Bool) → P (Taken (vote_line m (plain_vote draw)) (Votes (plain_vote draw)))
  pub voted_for : (names : List (List ℕ)) (set : List ℕ) → command ≡ Player (VoteFor names) → set_of m names ≡ Some set → P (Taken (vote_line m (For set)) (Votes (For set)))
  pub sent : (grey : Bool) (names text : List (List ℕ)) (readers : List ℕ) → command ≡ Player (Press grey names text) → readers_of m o.power names ≡ Some readers
      → nat_le most_sent o.sent ≡ false → P (Taken press_line (Delivers readers (item_of m o.power grey names text)))

pub command_holds : (P : Verdict → Type 0) (m : Chart) (command : Request) (p : Public) (o : Own) (page : List Item) → OfPlayer P m command p o → P (seat_command m command p o page)
command_holds P m (Player (Orders lines)) p o page h =
    unless_holds P (is_over p.status) GameOver (orders_verdict m o (outcome_of_lines m p.board o.power o.pending lines)) (h.refused GameOver)
    (λ on. orders_hold P _ o.pending _ (h.told _) (h.ordered lines))
command_holds P m (Player Withdraw) p o page h = unless_holds P (is_over p.status) GameOver (Taken withdrawn_line (orders_effect o.pending [])) (h.refused GameOver) (λ on. orders_hold P _ o.pending [] (h.told _) h.withdrawn)
command_holds P m (Player (Press grey names text)) p o page h = by (readers_of m o.power names) refl
  where
    by : (found : Option (List ℕ)) → readers_of m o.power names ≡ found → P (addressed found (press_to p o grey (item_of m o.power grey names text)))
    by None is = h.refused Malformed
    by (Some readers) is =
        unless_holds P (is_over p.status) GameOver _ (h.refused GameOver)
        (λ on. unless_holds P (grey && not p.grey) NoGrey _ (h.refused NoGrey)
        (λ may. unless_holds P (nat_le most_sent o.sent) QuotaUsed (Taken press_line (Delivers readers (item_of m o.power grey names text))) (h.refused QuotaUsed)
        (λ few. h.sent grey names text readers refl is few)))
command_holds P m (Player (Vote draw)) p o page h =
    unless_holds P (is_over p.status) GameOver (Taken (vote_line m (plain_vote draw)) (Votes (plain_vote draw))) (h.refused GameOver) (λ on. h.voted draw)
command_holds P m (Player (VoteFor names)) p o page h = by (set_of m names) refl
  where
    by : (found : Option (List ℕ)) → set_of m names ≡ found → P (addressed found (λ set. vote_verdict m p (For set)))
    by None is = h.refused Malformed
    by (Some set) is = unless_holds P (is_over p.status) GameOver (Taken (vote_line m (For set)) (Votes (For set))) (h.refused GameOver) (λ on. h.voted_for names set refl is)
command_holds P m (Player Show) p o page h = h.told _
command_holds P m (Player (Inbox first)) p o page h = h.told _
command_holds P m (Master command) p o page h = h.refused WrongSender

-- what holds of a refused TICK, of a draw, and of a paper that is published
pub ticks_hold : (P : Verdict → Type 0) (m : Chart) (tick : ℕ) (w : Whole) (over due : Bool) (v : Verdict) → P (refusal_verdict GameOver) → P (refusal_verdict NotDue)
    → ((set : List ℕ) → drawn_between m w ≡ Some set → P (draw_verdict m (public_drawn set w.public))) → (IsPublished m tick w v → P v) → Ticks m tick w over due v → P v
ticks_hold P m tick w true due v ended early drawn played h = subst P (sym h) ended
ticks_hold P m tick w false false v ended early drawn played h = subst P (sym h) early
ticks_hold P m tick w false true v ended early drawn played h = go (drawn_between m w) refl h
  where
    go : (o : Option (List ℕ)) → drawn_between m w ≡ o → OnTime m tick w o v → P v
    go (Some set) at is = subst P (sym is) (drawn set at)
    go None at is = played is

-- a public part with one paper more, on the same board; after a command of the grammar it is one of the map, where the old one is
pub record IsNext (m : Chart) (command : Request) (p q : Public) : Type 0 where
  pub name : q.game ≡ p.game
  pub board : q.board ≡ p.board
  pub papers : q.papers ≡ p.papers + 1
  pub stays : FitsRequest command → IsPublicOf m p → IsPublicOf m q

-- each kind of verdict on a new letter of the master in a game that is there
pub record OfGame (P : Verdict → Type 0) (m : Chart) (n : Mail) (command : Request) (g : Game) : Type 0 where
  pub refused : (r : Refusal) → P (refusal_verdict r)
  pub played : (tick : ℕ) (v : Verdict) → command ≡ Master (Tick tick) → IsPublished m tick (whole_of g) v → P v
  pub noted : (text paper : List ℕ) (public : Public) → IsNext m command g.public public → names_phase public.papers paper ≡ false → ((IsPublicOf m g.public → g.public.papers < most_papers → ⊥) → IsSpoiled m command g)
      → P (Taken text (Publishes public paper false))
  pub seated : (note : SeatNote) (seat : NewSeat) → command ≡ Master (Replace note) → new_seat m n.note.game note ≡ Some seat → seat.power < length m.realms
      → (s : Part) → seat_at seat.power g.seats ≡ Some s → P (Taken (replaced_line note.power) (Seats seat))

pub in_game_holds : (P : Verdict → Type 0) (m : Chart) (n : Mail) (command : Request) (g : Game) (v : Verdict) → OfGame P m n command g → DecidesIn m n command g v → P v
in_game_holds P m n (Player command) g v h d = subst P (sym d) (h.refused WrongSender)
in_game_holds P m n (Master (Create due period grey intent seats)) g v h d = subst P (sym d) (by (new_seats m n.note.game seats))
  where
    by : (found : Option (List NewSeat)) → P (creation m (opening_public m n.note.game due period grey (is_on intent)) found (Some g))
    by None = h.refused Malformed
    by (Some found) = go (are_complete m found)
      where
        go : (b : Bool) → P (cond b (open_game m (opening_public m n.note.game due period grey (is_on intent)) found (Some g)) (refusal_verdict Malformed))
        go true = h.refused NameTaken
        go false = h.refused Malformed
in_game_holds P m n (Master (Tick tick)) g v h d =
    ticks_hold P m tick (whole_of g) (is_over g.public.status) (is_due tick g.public) v (h.refused GameOver) (h.refused NotDue)
    (λ set is.
    h.noted _ _ (public_drawn set g.public) (record { name = refl; board = refl; papers = refl; stays = λ fits of. of_drawn m set g.public (drawn_low m (whole_of g) set is) of })
    (draw_told m (public_drawn set g.public)) (λ off can of. off of can.papers))
    (λ p. h.played tick v refl p) d
in_game_holds P m n (Master (Replace note)) g v h d = subst P (sym d) (subst P (sym (same (has_seat m note.power g))) (by (power_of m note.power) refl))
  where
    replaced_by : Bool → Option ℕ → Verdict
    replaced_by true q = replaced note (option_map (λ p. record { power = p; digest = digest n.note.game note.power note.secret }) q)
    replaced_by false q = refusal_verdict Malformed

    same : (b : Bool) → replacement m n.note.game note b ≡ replaced_by b (power_of m note.power)
    same true = refl
    same false = refl

    at_seat : (p : ℕ) → power_of m note.power ≡ Some p → (x : Option Part) → seat_at p g.seats ≡ x → P (replaced_by (is_some x) (Some p))
    at_seat p found None is = h.refused Malformed
    at_seat p found (Some s) is =
        h.seated note (record { power = p; digest = digest n.note.game note.power note.secret }) refl
        (ap (option_map (λ p. record { power = p; digest = digest n.note.game note.power note.secret })) found)
        (position-Some (λ (x : Realm). bytes_eq x.name note.power) m.realms p no_realm found).0 s is

    by : (q : Option ℕ) → power_of m note.power ≡ q → P (replaced_by (is_some (option_and_then (λ p. seat_at p g.seats) q)) q)
    by None found = h.refused Malformed
    by (Some p) found = at_seat p found (seat_at p g.seats) refl
in_game_holds P m n (Master (Notify notice)) g v h d =
    subst P (sym d)
    (unless_holds P (is_over g.public.status && not (is_announcement notice)) GameOver (notified m notice (public_noted notice g.public)) (h.refused GameOver)
    (λ on. h.noted _ _ (public_noted notice g.public) (record { name = refl; board = refl; papers = refl; stays = of_noted m notice g.public }) (notice_told m notice (public_noted notice g.public)) (λ off can of. off of can.papers)))

-- each kind of verdict on a letter of the master, by its game
pub record OfMaster (P : Option Game → Verdict → Type 0) (m : Chart) (n : Mail) (command : Request) : Type 0 where
  pub unknown : P None NotKnown
  pub again : (game : Option Game) (text : List ℕ) → P game (Again text)
  pub out : (game : Option Game) (text : List ℕ) → P game (OutOfTurn text)
  pub free : (r : Refusal) → P None (refusal_verdict r)
  pub opened : (due period : ℕ) (grey : Bool) (intent : Option Bool) (notes : List SeatNote) (found : List NewSeat) → command ≡ Master (Create due period grey intent notes)
      → new_seats m n.note.game notes ≡ Some found → are_complete m found ≡ true
      → P None (Taken (paper_line 1) (Opens (opening_public m n.note.game due period grey (is_on intent)) (opening_paper m (opening_public m n.note.game due period grey (is_on intent))) found))
  pub in_game : (g : Game) → OfGame (P (Some g)) m n command g

pub master_holds : (P : Option Game → Verdict → Type 0) (m : Chart) (n : Mail) (k : Option Kept) (command : Request) (game : Option Game) (v : Verdict) → OfMaster P m n command
    → MasterDecides m n k command game v → P game v
master_holds P m n k command (Some g) v h d =
    numbered_holds (P (Some g)) (h.again (Some g)) (h.out (Some g)) n k (DecidesIn m n command g) v (in_game_holds (P (Some g)) m n command g v (h.in_game g)) d
master_holds P m n k (Player command) None v h d = subst (P None) (sym d) h.unknown
master_holds P m n k (Master (Create due period grey intent seats)) None v h d =
    numbered_holds (P None) (h.again None) (h.out None) n k (λ w. w ≡ creation m (opening_public m n.note.game due period grey (is_on intent)) (new_seats m n.note.game seats) None) v
    (λ is. subst (P None) (sym is) (by (new_seats m n.note.game seats) refl)) d
  where
    by : (found : Option (List NewSeat)) → new_seats m n.note.game seats ≡ found → P None (creation m (opening_public m n.note.game due period grey (is_on intent)) found None)
    by None is = h.free Malformed
    by (Some found) is = go (are_complete m found) refl
      where
        go : (b : Bool) → are_complete m found ≡ b → P None (cond b (open_game m (opening_public m n.note.game due period grey (is_on intent)) found None) (refusal_verdict Malformed))
        go true all = h.opened due period grey intent seats found refl is all
        go false some = h.free Malformed
master_holds P m n k (Master (Tick tick)) None v h d = subst (P None) (sym d) h.unknown
master_holds P m n k (Master (Replace seat)) None v h d = subst (P None) (sym d) h.unknown
master_holds P m n k (Master (Notify notice)) None v h d = subst (P None) (sym d) h.unknown

-- ---- the readers of press

none_left : (writer : ℕ) (ps : List ℕ) → is_among writer (filter (λ p. not (p == writer)) ps) ≡ false
none_left writer [] = refl
none_left writer (p ∷ ps) = go (p == writer) refl (none_left writer ps)
  where
    go : (b : Bool) → (p == writer) ≡ b → is_among writer (filter (λ q. not (q == writer)) ps) ≡ false
        → is_among writer (cond (not b) (p ∷ filter (λ q. not (q == writer)) ps) (filter (λ q. not (q == writer)) ps)) ≡ false
    go true same rest = rest
    go false differ rest = ap (λ (t : Bool). t || is_among writer (filter (λ q. not (q == writer)) ps)) differ ∙ rest

not_true : (b : Bool) → not b ≡ true → b ≡ false
not_true true e = cc
not_true false e = refl

-- what holds of all powers but the writer, and of powers of the map that a writer may send to, holds of the readers of press
pub readers_hold : (P : List ℕ → Type 0) (m : Chart) (writer : ℕ) (names : List (List ℕ)) (readers : List ℕ) → P (other_powers m writer)
    → ((found : List ℕ) → named_powers m names ≡ Some found → may_read writer found ≡ true → P found) → readers_of m writer names ≡ Some readers → P readers
readers_hold P m writer names readers all named e = go (is_to_all names) (list_any names_all names) e
  where
    by : (o : Option (List ℕ)) → named_powers m names ≡ o → readers_where writer o ≡ Some readers → P readers
    by None is e = cc
    by (Some found) is e = here (may_read writer found) refl e
      where
        here : (b : Bool) → may_read writer found ≡ b → cond b (Some found) None ≡ Some readers → P readers
        here true may e = let same : found ≡ readers = cc in subst P same (named found is may)
        here false may e = cc

    go : (a b : Bool) → cond a (Some (other_powers m writer)) (cond b None (readers_where writer (named_powers m names))) ≡ Some readers → P readers
    go true b e = let same : other_powers m writer ≡ readers = cc in subst P same all
    go false true e = cc
    go false false e = by (named_powers m names) refl e

pub readers_apart : (m : Chart) (writer : ℕ) (names : List (List ℕ)) (readers : List ℕ) → readers_of m writer names ≡ Some readers → is_among writer readers ≡ false
readers_apart m writer names readers =
    readers_hold (λ rs. is_among writer rs ≡ false) m writer names readers (none_left writer (powers m))
    (λ found is may. not_true (is_among writer found) (and_parts (are_distinct found) (not (is_among writer found)) may).1)

-- ---- who sends what

seat_suits : (m : Chart) (name : List ℕ) (p : ℕ) (g : Game) (n : Mail) (x : Option Part) → seat_at p g.seats ≡ x → VerdictSuits name (Seat p) (Some g) (verdict_by m n (Some g.public) x)
seat_suits m name p g n None is = tt
seat_suits m name p g n (Some s) is =
    seat_holds (VerdictSuits name (Seat p) (Some g)) (λ text. tt) (λ text. tt) n s.own.kept (seat_command m n.note.command g.public s.own (page_shown n.note.command s.box))
    (command_holds (VerdictSuits name (Seat p) (Some g)) m n.note.command g.public s.own (page_shown n.note.command s.box) (record {
      refused = λ r. (tt, tt);
      told = λ text. (tt, tt);
      ordered = λ lines. (tt, tt);
      withdrawn = (tt, tt);
      voted = λ draw. (tt, tt);
      voted_for = λ names set of found. (tt, tt);
      sent = λ grey names text readers of found few. (subst (λ (q : ℕ). is_among q readers ≡ false) it (readers_apart m s.own.power names readers found), tt);
    }))
  where
    it : power_in s ≡ p
    it = powers_tell.same (power_in s) p (at_key eqb power_in p g.seats s is)

nothing_suits : (name : List ℕ) (game : Option Game) → IsFitting name TheMaster game Nothing
nothing_suits name None = (tt, tt)
nothing_suits name (Some g) = (tt, tt)

master_suits : (m : Chart) (n : Mail) (k : Option Kept) (command : Request) (game : Option Game) (v : Verdict) → MasterDecides m n k command game v
    → VerdictSuits n.note.game TheMaster game v
master_suits m n k command game v = master_holds (VerdictSuits n.note.game TheMaster) m n k command game v (record {
  unknown = tt;
  again = λ game text. tt;
  out = λ game text. tt;
  free = λ r. (tt, tt);
  opened = λ due period grey intent notes found of is all. (tt, refl);
  in_game = λ g. record {
    refused = λ r. (tt, tt);
    played = λ tick v of p. subst (VerdictSuits n.note.game TheMaster (Some g)) (sym p.verdict) (tt, refl);
    noted = λ text paper public next told spoiled. (tt, next.name);
    seated = λ note seat of new low s found. (tt, (s, found));
  };
})

-- what is decided has an effect that may come there
pub decides_suits : (m : Chart) (s : State) (n : Mail) (who : Author) (v : Verdict) → Decides m s n who v → VerdictSuits n.note.game who (game_at n.note.game s) v
decides_suits m s n Nobody v h = subst (λ (w : Verdict). VerdictSuits n.note.game Nobody (game_at n.note.game s) w) (sym h) tt
decides_suits m s n TheMaster v h = master_suits m n s.desk.kept n.note.command (game_at n.note.game s) v h
decides_suits m s n (Seat p) v h = go (game_at n.note.game s) h
  where
    go : (game : Option Game) → v ≡ verdict_on m n (seen_in p game) → VerdictSuits n.note.game (Seat p) game v
    go None is = subst (λ (w : Verdict). VerdictSuits n.note.game (Seat p) None w) (sym is) tt
    go (Some g) is = subst (λ (w : Verdict). VerdictSuits n.note.game (Seat p) (Some g) w) (sym is) (seat_suits m n.note.game p g n (seat_at p g.seats) refl)

-- a new game comes from the master, where there is none of its name
pub opens_where : (name : List ℕ) (who : Author) (game : Option Game) (public : Public) (paper : List ℕ) (seats : List NewSeat)
    → IsFitting name who game (Opens public paper seats) → (who ≡ TheMaster) × (game ≡ None) × (public.game ≡ name)
opens_where name Nobody game public paper seats h = absurd h.0
opens_where name TheMaster None public paper seats h = (refl, refl, h.1)
opens_where name TheMaster (Some g) public paper seats h = absurd h.1
opens_where name (Seat p) None public paper seats h = absurd h.0
opens_where name (Seat p) (Some g) public paper seats h = absurd h.0

-- a seat's letter has its effect in a game that is there
pub seat_where : (p : ℕ) (game : Option Game) (e : Effect) → Comes (Seat p) game e → (g : Game) × (game ≡ Some g)
seat_where p None e h = absurd h
seat_where p (Some g) e h = (g, refl)

-- an effect that opens a game of that name, which is free
abbrev pub OpensGame : List ℕ → Option Game → Effect → Type 0
OpensGame name game e =
    (public : Public) × (paper : List ℕ) × (seats : List NewSeat) × (e ≡ Opens public paper seats) × (game ≡ None) × (public.game ≡ name)

-- an effect that publishes a paper of a game that is there
abbrev pub PublishesIn : Option Game → Effect → Type 0
PublishesIn game e =
    (public : Public) × (paper : List ℕ) × (played : Bool) × (e ≡ Publishes public paper played) × (g : Game) × (game ≡ Some g) × (public.game ≡ g.public.game)

-- an effect that gives a seat of a game that is there another digest
abbrev pub SeatsIn : Option Game → Effect → Type 0
SeatsIn game e = (seat : NewSeat) × (e ≡ Seats seat) × (g : Game) × (game ≡ Some g) × (s : Part) × (seat_at seat.power g.seats ≡ Some s)

-- the master's letter does nothing, opens a game of its name, which is free, publishes a paper of a game that is there, or gives one of
-- its seats away
pub master_where : (name : List ℕ) (game : Option Game) (e : Effect) → IsFitting name TheMaster game e
    → (e ≡ Nothing) ⊎ (OpensGame name game e ⊎ (PublishesIn game e ⊎ SeatsIn game e))
master_where name game Nothing h = inl refl
master_where name game (Pending orders) h = absurd h.0
master_where name game (Votes vote) h = absurd h.0
master_where name game (Delivers readers item) h = absurd h.0
master_where name None (Opens public paper seats) h = inr (inl (public, paper, seats, refl, refl, h.1))
master_where name (Some g) (Opens public paper seats) h = absurd h.1
master_where name None (Publishes public paper played) h = absurd h.1
master_where name (Some g) (Publishes public paper played) h = inr (inr (inl (public, paper, played, refl, g, refl, h.1)))
master_where name None (Seats seat) h = absurd h.1
master_where name (Some g) (Seats seat) h = inr (inr (inr (seat, refl, g, refl, h.1.0, h.1.1)))

-- what is published is published by TICK in a game that is there, whose phase was adjudicated, or else leaves its board; a seat that is
-- given away is of a power of the map
abbrev pub IsPosted : Chart → Request → Option Game → Verdict → Type 0
IsPosted m command game NotKnown = Unit {0}
IsPosted m command game (Again text) = Unit {0}
IsPosted m command game (OutOfTurn text) = Unit {0}
IsPosted m command game (Taken text Nothing) = Unit {0}
IsPosted m command game (Taken text (Pending orders)) = Unit {0}
IsPosted m command game (Taken text (Votes vote)) = Unit {0}
IsPosted m command game (Taken text (Delivers readers item)) = Unit {0}
IsPosted m command game (Taken text (Opens public paper seats)) = Unit {0}
IsPosted m command game (Taken text (Publishes public paper true)) =
    (tick : ℕ) × (g : Game) × (command ≡ Master (Tick tick)) × (game ≡ Some g) × IsPublished m tick (whole_of g) (Taken text (Publishes public paper true))
IsPosted m command game (Taken text (Publishes public paper false)) =
    (g : Game) × (game ≡ Some g) × IsNext m command g.public public × ((IsPublicOf m g.public → g.public.papers < most_papers → ⊥) → IsSpoiled m command g)
IsPosted m command game (Taken text (Seats seat)) = seat.power < length m.realms

pub master_posted : (m : Chart) (n : Mail) (k : Option Kept) (command : Request) (game : Option Game) (v : Verdict) → MasterDecides m n k command game v → IsPosted m command game v
master_posted m n k command game v = master_holds (IsPosted m command) m n k command game v (record {
  unknown = tt;
  again = λ game text. tt;
  out = λ game text. tt;
  free = λ r. tt;
  opened = λ due period grey intent notes found of is all. tt;
  in_game = λ g. record {
    refused = λ r. tt;
    played = λ tick v of p. subst (IsPosted m command (Some g)) (sym p.verdict) (tick, g, of, refl, subst (IsPublished m tick (whole_of g)) p.verdict p);
    noted = λ text paper public next told spoiled. (g, refl, next, spoiled);
    seated = λ note seat of new low s found. low;
  };
})
