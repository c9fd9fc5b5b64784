-- Each step keeps a state lawful.
use Rattle.std.proofs.Common.{◌≡◌, ◌<◌, ◌≤◌, ◌*◌, ℕ, suc, nat_le, nat_lt, length, arith, option_map, ◌==◌, ◌+◌, Bool, true, false, cond, List, [], ◌∷◌, ◌++◌, append-nil, length-append, inl, inr, refl, sym, ap, subst, ◌∙◌, Option, Some, None, bytes_eq, map}
use Rattle.std.specs.Prelude.{count_by}
use Rattle.std.specs.List.{AllByRecursion, list_all}
use Rattle.std.specs.Option.{option_or}
use Rattle.std.proofs.lemmas.Bool.{eqb-false, eqb-true, false≢true, ltb-false}
use Rattle.std.proofs.lemmas.Bool.Decides.{nat_tests}
use Rattle.std.proofs.lemmas.List.{length-map}
use Rattle.std.proofs.lemmas.List.Quantifiers.{position-Some}
use Rattle.dip_letters.specs.Letters.{FitsRequest, is_on}
use Rattle.dip_letters.specs.Notes.{Request, SeatNote}
use Rattle.dip_letters.specs.Notes.MasterRequest.{Create, Tick, Replace, Notify}
use Rattle.dip_letters.specs.Notes.Request.{Player, Master}
use Rattle.dip_map.specs.Boards.{Position, IsOf, opening}
use Rattle.dip_map.specs.Charts.{Chart, Realm, no_realm, power_of, powers}
use Rattle.dip_desk_state.specs.Bounds.{most_items, most_sent}
use Rattle.dip_desk_state.specs.Records.{Item, Kept, Own, Public}
use Rattle.dip_reports.specs.Texts.{refusal_line}
use Rattle.dip_reports.specs.declared.refusals.Refusal.TheVariants.{NumberUsed, Stale}
use Rattle.dip_desk_state.specs.Keyed.{at, change_at}
use Rattle.dip_desk_machine.specs.Lawful.{AreNamedApart, AreStanding, IsLawful, IsLawfulGame, IsLawfulSeat, StaysLawful, last_number, sent_by_others}
use Rattle.dip_desk_machine.specs.Machine.{Decides, DecidesIn, change_of, Verdict, MasterDecides, NumberedBy, NotKnown, Again, OutOfTurn, Taken, after, author, creation, digest, kept_of, new_seat, new_seats, old_number, with_more, opening_public, page_shown, seat_command, seat_verdict, seen_in, verdict_by, verdict_on}
use Rattle.dip_desk_state.specs.Fitting.{are_complete}
use Rattle.dip_desk_machine.specs.Mail.{IsMail, Mail}
use Rattle.dip_desk_machine.specs.Pressing.{is_among}
use Rattle.dip_desk_state.specs.State.{State, Game, Part, Author, Nobody, TheMaster, Seat, Change, Effect, Nothing, Pending, Votes, Delivers, Opens, Publishes, Seats, NewSeat, after_paper, desk_after, fresh, game_after, game_at, name_of, new_games, opening_game, papers_after, power_in, public_after, seat_at, whole_of, with_author, with_digest, with_effect, with_item, with_letter}
use Rattle.dip_desk_state.specs.Writable.{IsPublicOf, IsStatusOf, IsVoteOf}
use Rattle.dip_desk_games.specs.Ticking.{orders_of, public_played, status_after}
use Rattle.dip_orders_placed.proofs.KeptLaws.{count_cons}
use Rattle.dip_orders.specs.Given.{AreGiven}
use Rattle.dip_orders_placed.specs.declared.placed.PlacedOrder.{PlacedOrder}
use Rattle.dip_turn.specs.Laws.{WinnersOwnMore}
use Rattle.dip_turn.specs.Reports.{IsPlayed}
use Rattle.dip_turn_phases.specs.declared.report.Report.{Report}
use Rattle.dip_desk_state.proofs.KeyedLemmas.{at-append, names_tell, powers_tell}
use Rattle.dip_desk_machine.proofs.LawfulOrders.{AreRead, ordered_standing}
use Rattle.dip_desk_games.proofs.ListLemmas.{all_weaker}
use Rattle.dip_desk_machine.proofs.Counting.{all_both}
use Rattle.dip_desk_machine.proofs.ListLemmas.{all_at, all_change, all_last, all_map, all_same, count_change, count_map}
use Rattle.dip_desk_state.proofs.KeptKeys.{effect_power, letter_power, name_kept}
use Rattle.dip_desk_machine.proofs.Suiting.{Comes, IsFitting, IsPosted, command_holds, decides_suits, master_holds, master_posted, master_where, seat_holds}
use Rattle.dip_desk_machine.proofs.Handing.{each_counted, whole_given}
use Rattle.dip_desk_machine.proofs.VotingLemmas.{plain_fits, set_fits}
use Rattle.dip_desk_machine.proofs.WritableLemmas.{of_opening, of_played, of_renamed, status_played}

-- names stay apart

absent_change : (k j : List ℕ) (f : Game → Game) (gs : List Game) → ((g : Game) → name_of (f g) ≡ name_of g) → at bytes_eq name_of k gs ≡ None
    → at bytes_eq name_of k (change_at bytes_eq name_of j f gs) ≡ None
absent_change k j f [] keeps none = refl
absent_change k j f (g ∷ gs) keeps none =
    let skip : at bytes_eq name_of k gs ≡ None → bytes_eq (name_of g) k ≡ false → (b : Bool) → at bytes_eq name_of k (cond b (f g ∷ gs) (g ∷ change_at bytes_eq name_of j f gs)) ≡ None =
    λ rest other. elim [
      | true ↦ ap (λ (n : List ℕ). cond (bytes_eq n k) (Some (f g)) (at bytes_eq name_of k gs)) (keeps g) ∙ ap (λ (c : Bool). cond c (Some (f g)) (at bytes_eq name_of k gs)) other ∙ rest
      | false ↦ ap (λ (c : Bool). cond c (Some g) (at bytes_eq name_of k (change_at bytes_eq name_of j f gs))) other ∙ absent_change k j f gs keeps rest
    ]
    in
    let go : (b : Bool) → bytes_eq (name_of g) k ≡ b → cond b (Some g) (at bytes_eq name_of k gs) ≡ None
    → at bytes_eq name_of k (cond (bytes_eq (name_of g) j) (f g ∷ gs) (g ∷ change_at bytes_eq name_of j f gs)) ≡ None =
    elim [
      | true ↦ λ is rest. absurd (cc)
      | false ↦ λ is rest. skip rest is (bytes_eq (name_of g) j)
    ]
    in go (bytes_eq (name_of g) k) refl none

apart_change : (j : List ℕ) (f : Game → Game) (gs : List Game) → ((g : Game) → name_of (f g) ≡ name_of g) → AreNamedApart gs → AreNamedApart (change_at bytes_eq name_of j f gs)
apart_change j f [] keeps apart = tt
apart_change j f (g ∷ gs) keeps apart =
    let go : (b : Bool) → AreNamedApart (cond b (f g ∷ gs) (g ∷ change_at bytes_eq name_of j f gs)) =
    elim [
      | true ↦ (subst (λ (name : List ℕ). at bytes_eq name_of name gs ≡ None) (sym (keeps g)) apart.0, apart.1)
      | false ↦ (absent_change (name_of g) j f gs keeps apart.0, apart_change j f gs keeps apart.1)
    ]
    in go (bytes_eq (name_of g) j)

unlike : (a b : List ℕ) → bytes_eq a b ≡ false → bytes_eq b a ≡ false
unlike a b differ = go (bytes_eq b a) refl
  where
    go : (c : Bool) → bytes_eq b a ≡ c → c ≡ false
    go true is = absurd (false≢true (sym differ ∙ ap (λ (x : List ℕ). bytes_eq a x) (names_tell.same b a is) ∙ names_tell.self a))
    go false is = refl

apart_last : (gs : List Game) (new : Game) → AreNamedApart gs → at bytes_eq name_of (name_of new) gs ≡ None → AreNamedApart (gs ++ new ∷ [])
apart_last [] new apart none = (refl, tt)
apart_last (g ∷ gs) new apart none =
    let go : (b : Bool) → bytes_eq (name_of g) (name_of new) ≡ b → cond b (Some g) (at bytes_eq name_of (name_of new) gs) ≡ None → AreNamedApart (g ∷ (gs ++ new ∷ [])) =
    elim [
      | true ↦ λ is rest. absurd (cc)
      | false ↦ λ is rest. (
        at-append bytes_eq name_of (name_of g) gs (new ∷ [])
            ∙ ap (λ (o : Option Game). option_or o (cond (bytes_eq (name_of new) (name_of g)) (Some new) None)) apart.0
            ∙ ap (λ (c : Bool). cond c (Some new) None) (unlike (name_of g) (name_of new) is),
        apart_last gs new apart.1 rest,
      )
    ]
    in go (bytes_eq (name_of g) (name_of new)) refl none

-- a seat's letter

abbrev pub Fits : Chart → Position → Own → Effect → Type 0
Fits m b o Nothing = Unit {0}
Fits m b o (Pending orders) = AreStanding m b o.power orders
Fits m b o (Votes vote) = IsVoteOf m vote
Fits m b o (Delivers readers item) = o.sent < most_sent
Fits m b o (Opens public paper seats) = Unit {0}
Fits m b o (Publishes public paper played) = Unit {0}
Fits m b o (Seats seat) = Unit {0}

abbrev pub VerdictFits : Chart → Position → Own → Verdict → Type 0
VerdictFits m b o NotKnown = Unit {0}
VerdictFits m b o (Again text) = Unit {0}
VerdictFits m b o (OutOfTurn text) = Unit {0}
VerdictFits m b o (Taken text e) = Fits m b o e

none_standing : (m : Chart) (b : Position) (power : ℕ) → AreStanding m b power []
none_standing m b power = record { orders = []; lines = refl; ascending = tt; each = tt }

letter_lawful : (m : Chart) (b : Position) (k : Kept) (p : ℕ) (game : Option Game) (e : Effect) (s : Part) → Comes (Seat p) game e → k.number ≤ 999999999 → IsLawfulSeat m b s
    → Fits m b s.own e → IsLawfulSeat m b (with_letter k e s)
letter_lawful m b k p None e s comes few l fits = absurd comes
letter_lawful m b k p (Some g) Nothing s comes few l fits = record { power = l.power; vote = l.vote; pending = l.pending; last = few; sent = l.sent; items = l.items; box = l.box }
letter_lawful m b k p (Some g) (Pending orders) s comes few l fits = record { power = l.power; vote = l.vote; pending = fits; last = few; sent = l.sent; items = l.items; box = l.box }
letter_lawful m b k p (Some g) (Votes vote) s comes few l fits = record { power = l.power; vote = fits; pending = l.pending; last = few; sent = l.sent; items = l.items; box = l.box }
letter_lawful m b k p (Some g) (Delivers readers item) s comes few l fits = record { power = l.power; vote = l.vote; pending = l.pending; last = few; sent = omega (arith, fits); items = l.items; box = l.box }
letter_lawful m b k p (Some g) (Opens public paper seats) s comes few l fits = absurd comes
letter_lawful m b k p (Some g) (Publishes public paper played) s comes few l fits = absurd comes
letter_lawful m b k p (Some g) (Seats seat) s comes few l fits = absurd comes

below : (a : ℕ) → nat_le most_sent a ≡ false → a < most_sent
below a is = grind (arith, nat_tests)

command_fits : (m : Chart) (p : Public) (o : Own) (page : List Item) (command : Request) → FitsRequest command → AreRead m p.board → AreStanding m p.board o.power o.pending
    → VerdictFits m p.board o (seat_command m command p o page)
command_fits m p o page command fits again l = command_holds (VerdictFits m p.board o) m command p o page (record {
  refused = λ r. tt;
  told = λ t. tt;
  ordered = λ lines. ordered_standing m p.board o.power o.pending lines again l;
  withdrawn = none_standing m p.board o.power;
  voted = λ draw. plain_fits m draw;
  voted_for = λ names set is found. set_fits m names set (subst FitsRequest is fits) found;
  sent = λ grey names lines readers of found few. below o.sent few;
})

pub seat_fits : (m : Chart) (n : Mail) (g : Game) (p : ℕ) (text : List ℕ) (e : Effect) → IsMail n → AreRead m g.public.board → Taken text e ≡ verdict_on m n (seen_in p (Some g))
    → (s : Part) → seat_at p g.seats ≡ Some s → IsLawfulSeat m g.public.board s → Fits m g.public.board s.own e
seat_fits m n g p text e mail again d s found l =
    let is : seat_verdict m n g.public s.own (page_shown n.note.command s.box) ≡ Taken text e = sym (d ∙ ap (λ (x : Option Part). verdict_by m n (Some g.public) x) found) in
    subst (VerdictFits m g.public.board s.own) is
    (seat_holds (VerdictFits m g.public.board s.own) (λ t. tt) (λ t. tt) n s.own.kept (seat_command m n.note.command g.public s.own (page_shown n.note.command s.box))
    (command_fits m g.public s.own (page_shown n.note.command s.box) n.note.command mail.command again l.pending))

-- the seats that have the author's letter
with_author_count : (who : Author) (k : Kept) (e : Effect) (q : ℕ) (seats : List Part) → count_by (λ (s : Part). power_in s == q) (with_author who k e seats) ≡ count_by (λ (s : Part). power_in s == q) seats
with_author_count Nobody k e q seats = refl
with_author_count TheMaster k e q seats = refl
with_author_count (Seat p) k e q seats = count_change (λ a b. a == b) power_in p (with_letter k e) (λ j. j == q) seats (letter_power k e)

with_author_lawful : (m : Chart) (b : Position) (who : Author) (k : Kept) (e : Effect) (seats : List Part)
    → ((p : ℕ) → who ≡ Seat p → (s : Part) → seat_at p seats ≡ Some s → IsLawfulSeat m b s → IsLawfulSeat m b (with_letter k e s))
    → AllByRecursion (IsLawfulSeat m b) seats → AllByRecursion (IsLawfulSeat m b) (with_author who k e seats)
with_author_lawful m b Nobody k e seats step all = all
with_author_lawful m b TheMaster k e seats step all = all
with_author_lawful m b (Seat p) k e seats step all = all_change (λ a b. a == b) power_in p (with_letter k e) (IsLawfulSeat m b) seats all (step p refl)

length_change : (p : ℕ) (f : Part → Part) (seats : List Part) → length (change_at (λ a b. a == b) power_in p f seats) ≡ length seats
length_change p f [] = refl
length_change p f (s ∷ ss) = go (power_in s == p) (length_change p f ss)
  where
    go : (b : Bool) → length (change_at (λ a b. a == b) power_in p f ss) ≡ length ss
        → length (cond b (f s ∷ ss) (s ∷ change_at (λ a b. a == b) power_in p f ss)) ≡ suc (length ss)
    go true rest = refl
    go false rest = ap suc rest

with_author_length : (who : Author) (k : Kept) (e : Effect) (seats : List Part) → length (with_author who k e seats) ≡ length seats
with_author_length Nobody k e seats = refl
with_author_length TheMaster k e seats = refl
with_author_length (Seat p) k e seats = length_change p (with_letter k e) seats

-- a lawful seat but for the bound of its box
record IsReached (m : Chart) (b : Position) (s : Part) : Type 0 where
  power : power_in s < length m.realms
  vote : IsVoteOf m s.own.vote
  pending : AreStanding m b (power_in s) s.own.pending
  last : last_number s.own.kept ≤ 999999999
  sent : s.own.sent ≤ most_sent
  items : s.own.items ≡ length s.box

-- no power's others have sent more than their quotas
pub sent_within : (power : ℕ) (seats : List Part) → AllByRecursion (λ s. s.own.sent ≤ most_sent) seats
    → sent_by_others power seats + most_sent * count_by (λ s. power_in s == power) seats ≤ most_sent * length seats
sent_within power [] all = omega arith
sent_within power (s ∷ ss) all =
    let rest = sent_within power ss all.1 in
    let head = count_cons (λ (x : Part). power_in x == power) s ss in
    go (power_in s == power) rest head
  where
    go : (b : Bool) → sent_by_others power ss + most_sent * count_by (λ s. power_in s == power) ss ≤ most_sent * length ss
        → count_by (λ (x : Part). power_in x == power) (s ∷ ss) ≡ cond b 1 0 + count_by (λ (x : Part). power_in x == power) ss
        → (cond b 0 s.own.sent + sent_by_others power ss) + most_sent * count_by (λ (x : Part). power_in x == power) (s ∷ ss) ≤ most_sent * suc (length ss)
    go true rest head = omega (arith, rest, head)
    go false rest head = let few = all.0 in omega (arith, rest, head, few)

-- at most six others send to a seat, each within its quota
all_boxed : (m : Chart) (b : Position) (seats : List Part) → length seats ≤ 7 → list_all (λ q. count_by (λ (s : Part). power_in s == q) seats == 1) (powers m) ≡ true
    → AllByRecursion (IsReached m b) seats → AllByRecursion (λ s. length s.box ≤ sent_by_others (power_in s) seats) seats → AllByRecursion (IsLawfulSeat m b) seats
all_boxed m b seats many powers all boxes =
    all_both (IsReached m b) (λ s. length s.box ≤ sent_by_others (power_in s) seats) (IsLawfulSeat m b) seats
    (λ s r few. record { power = r.power; vote = r.vote; pending = r.pending; last = r.last; sent = r.sent; items = r.items; box = bounded s r.power few }) all boxes
  where
    bounded : (s : Part) → power_in s < length m.realms → length s.box ≤ sent_by_others (power_in s) seats → length s.box ≤ most_items
    bounded s low few =
        let one : (count_by (λ (x : Part). power_in x == power_in s) seats == 1) ≡ true =
        each_counted (λ p. count_by (λ (x : Part). power_in x == p) seats == 1) 0 (length m.realms) (power_in s) powers (omega arith) (omega (arith, low)) in
        let same = eqb-true (count_by (λ (x : Part). power_in x == power_in s) seats) 1 one in
        let most = sent_within (power_in s) seats (all_weaker (IsReached m b) (λ x. x.own.sent ≤ most_sent) seats (λ x r. r.sent) all) in
        omega (arith, same, most, many, few)

-- the seats of a game after a letter
abbrev seats_after : Change → Game → List Part
seats_after c g = map (with_effect c.effect) (with_author c.author c.kept c.effect g.seats)

-- no box holds more than the others have sent
abbrev AreSent : List Part → Type 0
AreSent seats = AllByRecursion (λ s. length s.box ≤ sent_by_others (power_in s) seats) seats

-- a game after a letter, by what the letter does to each seat, to the public part and to the papers
game_lawful : (m : Chart) (c : Change) (g : Game) → IsLawfulGame m g → IsPublicOf m (public_after c.effect g.public)
    → ((p : ℕ) → c.author ≡ Seat p → (s : Part) → seat_at p g.seats ≡ Some s → IsLawfulSeat m g.public.board s → IsLawfulSeat m g.public.board (with_letter c.kept c.effect s))
    → ((s : Part) → IsLawfulSeat m g.public.board s → IsReached m (public_after c.effect g.public).board (with_effect c.effect s))
    → AreSent (seats_after c g) → (public_after c.effect g.public).papers ≡ length (papers_after c.effect g.papers) → IsLawfulGame m (game_after c g)
game_lawful m c g l of own each boxes papers = record {
  public = of;
  powers = powers_stay;
  few = many;
  seats = all_boxed m (public_after c.effect g.public).board (seats_after c g) many powers_stay
      (all_map (IsLawfulSeat m g.public.board) (IsReached m (public_after c.effect g.public).board) (with_effect c.effect) (with_author c.author c.kept c.effect g.seats) each
      (with_author_lawful m g.public.board c.author c.kept c.effect g.seats own l.seats)) boxes;
  boxes = boxes;
  papers = papers;
}
  where
    powers_stay : list_all (λ q. count_by (λ (s : Part). power_in s == q) (seats_after c g) == 1) (powers m) ≡ true
    powers_stay =
        all_same (λ q. count_by (λ (s : Part). power_in s == q) (seats_after c g) == 1)
        (λ q. count_by (λ (s : Part). power_in s == q) g.seats == 1) (powers m)
        (λ q. ap (λ (k : ℕ). k == 1)
        (count_map (with_effect c.effect) (λ (s : Part). power_in s == q) (λ (s : Part). power_in s == q) (with_author c.author c.kept c.effect g.seats)
        (λ s. ap (λ (j : ℕ). j == q) (effect_power c.effect s))
        ∙ with_author_count c.author c.kept c.effect q g.seats))
        ∙ l.powers

    many : length (seats_after c g) ≤ 7
    many =
        let same = length-map (with_author c.author c.kept c.effect g.seats) (with_effect c.effect) ∙ with_author_length c.author c.kept c.effect g.seats in
        let were = l.few in omega (arith, same, were)

-- ---- what the others have sent

abbrev counted : ℕ → ℕ → ℕ → ℕ
counted power q sent = cond (q == power) 0 sent

-- a change of each seat that leaves its power and what it has sent leaves the others' sum
sent_mapped : (power : ℕ) (f : Part → Part) (seats : List Part) → ((s : Part) → power_in (f s) ≡ power_in s) → ((s : Part) → (f s).own.sent ≡ s.own.sent)
    → sent_by_others power (map f seats) ≡ sent_by_others power seats
sent_mapped power f [] keeps same = refl
sent_mapped power f (s ∷ ss) keeps same =
    ap (λ (q : ℕ). counted power q (f s).own.sent + sent_by_others power (map f ss)) (keeps s)
    ∙ ap (λ (n : ℕ). counted power (power_in s) n + sent_by_others power (map f ss)) (same s)
    ∙ ap (λ (n : ℕ). counted power (power_in s) s.own.sent + n) (sent_mapped power f ss keeps same)

-- a change of one seat that leaves its power and what it has sent leaves it too
sent_changed : (p power : ℕ) (f : Part → Part) (seats : List Part) → ((s : Part) → power_in (f s) ≡ power_in s) → ((s : Part) → (f s).own.sent ≡ s.own.sent)
    → sent_by_others power (change_at (λ a b. a == b) power_in p f seats) ≡ sent_by_others power seats
sent_changed p power f [] keeps same = refl
sent_changed p power f (s ∷ ss) keeps same = go (power_in s == p) (sent_changed p power f ss keeps same)
  where
    go : (b : Bool) → sent_by_others power (change_at (λ a b. a == b) power_in p f ss) ≡ sent_by_others power ss
        → sent_by_others power (cond b (f s ∷ ss) (s ∷ change_at (λ a b. a == b) power_in p f ss)) ≡ counted power (power_in s) s.own.sent + sent_by_others power ss
    go true rest =
        ap (λ (q : ℕ). counted power q (f s).own.sent + sent_by_others power ss) (keeps s) ∙ ap (λ (n : ℕ). counted power (power_in s) n + sent_by_others power ss) (same s)
    go false rest = ap (λ (n : ℕ). counted power (power_in s) s.own.sent + n) rest

-- one seat more letter raises it for each other power
sent_raised : (p power : ℕ) (f : Part → Part) (seats : List Part) (x : Part) → ((s : Part) → power_in (f s) ≡ power_in s) → ((s : Part) → (f s).own.sent ≡ s.own.sent + 1)
    → seat_at p seats ≡ Some x → (p == power) ≡ false → sent_by_others power (change_at (λ a b. a == b) power_in p f seats) ≡ sent_by_others power seats + 1
sent_raised p power f [] x keeps more there other = absurd (cc)
sent_raised p power f (s ∷ ss) x keeps more there other = go (power_in s == p) refl there (λ later. sent_raised p power f ss x keeps more later other)
  where
    apart : (power_in s == p) ≡ true → (power_in s == power) ≡ false
    apart same = ap (λ (q : ℕ). q == power) (powers_tell.same (power_in s) p same) ∙ other

    go : (b : Bool) → (power_in s == p) ≡ b → cond b (Some s) (seat_at p ss) ≡ Some x
        → (seat_at p ss ≡ Some x → sent_by_others power (change_at (λ a b. a == b) power_in p f ss) ≡ sent_by_others power ss + 1)
        → sent_by_others power (cond b (f s ∷ ss) (s ∷ change_at (λ a b. a == b) power_in p f ss)) ≡ (counted power (power_in s) s.own.sent + sent_by_others power ss) + 1
    go true is there rest =
        let new : counted power (power_in (f s)) (f s).own.sent ≡ s.own.sent + 1 =
        ap (λ (q : ℕ). counted power q (f s).own.sent) (keeps s) ∙ ap (λ (t : Bool). cond t 0 (f s).own.sent) (apart is) ∙ more s in
        let old : counted power (power_in s) s.own.sent ≡ s.own.sent = ap (λ (t : Bool). cond t 0 s.own.sent) (apart is) in
        omega (arith, new, old)
    go false is there rest = let later = rest there in omega (arith, later)

-- and lowers it for none
sent_grows : (p power : ℕ) (f : Part → Part) (seats : List Part) → ((s : Part) → power_in (f s) ≡ power_in s) → ((s : Part) → s.own.sent ≤ (f s).own.sent)
    → sent_by_others power seats ≤ sent_by_others power (change_at (λ a b. a == b) power_in p f seats)
sent_grows p power f [] keeps more = omega arith
sent_grows p power f (s ∷ ss) keeps more = go (power_in s == p) (sent_grows p power f ss keeps more)
  where
    one : (b : Bool) → (n k : ℕ) → n ≤ k → cond b 0 n ≤ cond b 0 k
    one true n k le = omega arith
    one false n k le = le

    go : (b : Bool) → sent_by_others power ss ≤ sent_by_others power (change_at (λ a b. a == b) power_in p f ss)
        → counted power (power_in s) s.own.sent + sent_by_others power ss ≤ sent_by_others power (cond b (f s ∷ ss) (s ∷ change_at (λ a b. a == b) power_in p f ss))
    go true rest =
        let new : counted power (power_in (f s)) (f s).own.sent ≡ counted power (power_in s) (f s).own.sent = ap (λ (q : ℕ). counted power q (f s).own.sent) (keeps s) in
        let low : counted power (power_in s) s.own.sent ≤ counted power (power_in s) (f s).own.sent = one (power_in s == power) s.own.sent (f s).own.sent (more s) in
        omega (arith, new, low)
    go false rest = omega (arith, rest)

-- ---- effects that send no press

-- an effect that leaves what each seat has sent and heard
record IsSilent (e : Effect) : Type 0 where
  sent : (s : Part) → (with_effect e s).own.sent ≡ s.own.sent
  box : (s : Part) → (with_effect e s).box ≡ s.box
  own : (k : Kept) (s : Part) → (with_letter k e s).own.sent ≡ s.own.sent
  kept : (k : Kept) (s : Part) → (with_letter k e s).box ≡ s.box

author_sent : (who : Author) (k : Kept) (e : Effect) (power : ℕ) (seats : List Part) → IsSilent e → sent_by_others power (with_author who k e seats) ≡ sent_by_others power seats
author_sent Nobody k e power seats silent = refl
author_sent TheMaster k e power seats silent = refl
author_sent (Seat p) k e power seats silent = sent_changed p power (with_letter k e) seats (letter_power k e) (silent.own k)

author_boxes : (who : Author) (k : Kept) (e : Effect) (P : ℕ → ℕ → Type 0) (seats : List Part) → IsSilent e → AllByRecursion (λ s. P (power_in s) (length s.box)) seats
    → AllByRecursion (λ s. P (power_in s) (length s.box)) (with_author who k e seats)
author_boxes Nobody k e P seats silent all = all
author_boxes TheMaster k e P seats silent all = all
author_boxes (Seat p) k e P seats silent all =
    all_change (λ a b. a == b) power_in p (with_letter k e) (λ s. P (power_in s) (length s.box)) seats all
    (λ s found h. subst (λ (q : ℕ). P q (length (with_letter k e s).box)) (sym (letter_power k e s)) (subst (λ (box : List Item). P (power_in s) (length box)) (sym (silent.kept k s)) h))

silent_boxes : (c : Change) (g : Game) → IsSilent c.effect → AreSent g.seats → AreSent (seats_after c g)
silent_boxes c g silent all =
    let inner : List Part = with_author c.author c.kept c.effect g.seats in
    let sum : (power : ℕ) → sent_by_others power (seats_after c g) ≡ sent_by_others power g.seats =
    λ power. sent_mapped power (with_effect c.effect) inner (effect_power c.effect) silent.sent ∙ author_sent c.author c.kept c.effect power g.seats silent in
    all_map (λ s. length s.box ≤ sent_by_others (power_in s) g.seats) (λ s. length s.box ≤ sent_by_others (power_in s) (seats_after c g)) (with_effect c.effect) inner
    (λ s few.
    subst (λ (k : ℕ). length (with_effect c.effect s).box ≤ k) (sym (sum (power_in (with_effect c.effect s))))
    (subst (λ (q : ℕ). length (with_effect c.effect s).box ≤ sent_by_others q g.seats) (sym (effect_power c.effect s))
    (subst (λ (box : List Item). length box ≤ sent_by_others (power_in s) g.seats) (sym (silent.box s)) few)))
    (author_boxes c.author c.kept c.effect (λ q k. k ≤ sent_by_others q g.seats) g.seats silent all)

-- ---- press

-- what a delivery does to a seat, of which the author's own letter was taken down
delivered_box : (readers : List ℕ) (item : Item) (s : Part) (most : ℕ) → length s.box ≤ most → (is_among (power_in s) readers ≡ true → length s.box + 1 ≤ most)
    → length (with_effect (Delivers readers item) s).box ≤ most
delivered_box readers item s most few more = go (is_among (power_in s) readers) refl
  where
    go : (b : Bool) → is_among (power_in s) readers ≡ b → length (cond b (with_item item s) s).box ≤ most
    go true is = let longer = length-append s.box (item ∷ []) in let room = more is in omega (arith, longer, room)
    go false is = few

delivered_sent : (readers : List ℕ) (item : Item) (s : Part) → (with_effect (Delivers readers item) s).own.sent ≡ s.own.sent
delivered_sent readers item s = go (is_among (power_in s) readers)
  where
    go : (b : Bool) → (cond b (with_item item s) s).own.sent ≡ s.own.sent
    go true = refl
    go false = refl

delivered_boxes : (k : Kept) (p : ℕ) (readers : List ℕ) (item : Item) (seats : List Part) (x : Part) → is_among p readers ≡ false → seat_at p seats ≡ Some x → AreSent seats
    → AreSent (map (with_effect (Delivers readers item)) (change_at (λ a b. a == b) power_in p (with_letter k (Delivers readers item)) seats))
delivered_boxes k p readers item seats x apart there all =
    all_map (λ s. length s.box ≤ sent_by_others (power_in s) seats) (λ s. length s.box ≤ sent_by_others (power_in s) new) (with_effect e) inner
    (λ s few. subst (λ (q : ℕ). length (with_effect e s).box ≤ sent_by_others q new) (sym (effect_power e s)) (one s few)) kept
  where
    e : Effect
    e = Delivers readers item

    inner : List Part
    inner = change_at (λ a b. a == b) power_in p (with_letter k e) seats

    new : List Part
    new = map (with_effect e) inner

    sum : (power : ℕ) → sent_by_others power new ≡ sent_by_others power inner
    sum power = sent_mapped power (with_effect e) inner (effect_power e) (delivered_sent readers item)

    grown : (power : ℕ) → sent_by_others power seats ≤ sent_by_others power inner
    grown power = sent_grows p power (with_letter k e) seats (letter_power k e) (λ s. omega arith)

    other : (power : ℕ) → is_among power readers ≡ true → (p == power) ≡ false
    other power near = go (p == power) refl
      where
        go : (b : Bool) → (p == power) ≡ b → b ≡ false
        go true same = absurd (false≢true (sym apart ∙ ap (λ (q : ℕ). is_among q readers) (powers_tell.same p power same) ∙ near))
        go false differ = refl

    one : (s : Part) → length s.box ≤ sent_by_others (power_in s) seats → length (with_effect e s).box ≤ sent_by_others (power_in s) new
    one s few =
        let whole = sum (power_in s) in
        let low = grown (power_in s) in
        delivered_box readers item s (sent_by_others (power_in s) new) (omega (arith, few, whole, low))
        (λ near.
        let more = sent_raised p (power_in s) (with_letter k e) seats x (letter_power k e) (λ s. refl) there (other (power_in s) near) in
        omega (arith, few, whole, more))

    kept : AllByRecursion (λ s. length s.box ≤ sent_by_others (power_in s) seats) inner
    kept = all_change (λ a b. a == b) power_in p (with_letter k e) (λ s. length s.box ≤ sent_by_others (power_in s) seats) seats all
        (λ s found few. subst (λ (q : ℕ). length s.box ≤ sent_by_others q seats) (sym (letter_power k e s)) few)

-- a new game

-- the seats of a new game are of powers of the map
abbrev pub AreKnown : Chart → List NewSeat → Type 0
AreKnown m seats = AllByRecursion (λ s. s.power < length m.realms) seats

one_more : (m : Chart) (game : List ℕ) (n : SeatNote) (more : Option (List NewSeat)) (seats : List NewSeat) → ((rest : List NewSeat) → more ≡ Some rest → AreKnown m rest)
    → (r : Option ℕ) → power_of m n.power ≡ r → with_more (option_map (λ p. record { power = p; digest = digest game n.power n.secret }) r) more ≡ Some seats → AreKnown m seats
one_more m game n more seats known None found both = absurd (cc)
one_more m game n None seats known (Some r) found both = absurd (cc)
one_more m game n (Some rest) seats known (Some r) found both =
    let all : (record { power = r; digest = digest game n.power n.secret }) ∷ rest ≡ seats = cc in
    subst (AreKnown m) all ((position-Some (λ (x : Realm). bytes_eq x.name n.power) m.realms r no_realm found).0, known rest refl)

seats_known : (m : Chart) (game : List ℕ) (notes : List SeatNote) (seats : List NewSeat) → new_seats m game notes ≡ Some seats → AreKnown m seats
seats_known m game [] seats is = let none : [] ≡ seats = cc in subst (AreKnown m) none tt
seats_known m game (n ∷ ns) seats is = one_more m game n (new_seats m game ns) seats (seats_known m game ns) (power_of m n.power) refl is

pub record IsLawfulOpening (m : Chart) (command : Request) (public : Public) (seats : List NewSeat) : Type 0 where
  pub of_map : IsOf m (opening m) → FitsRequest command → IsPublicOf m public
  pub papers : public.papers ≡ 1
  pub complete : are_complete m seats ≡ true
  pub known : AreKnown m seats
  pub asked : (due : ℕ) × (period : ℕ) × (grey : Bool) × (intent : Option Bool) × (notes : List SeatNote) × (command ≡ Master (Create due period grey intent notes)) × (length seats ≡ length notes)

abbrev pub OpensLawful : Chart → Request → Verdict → Type 0
OpensLawful m command NotKnown = Unit {0}
OpensLawful m command (Again text) = Unit {0}
OpensLawful m command (OutOfTurn text) = Unit {0}
OpensLawful m command (Taken text Nothing) = Unit {0}
OpensLawful m command (Taken text (Pending lines)) = Unit {0}
OpensLawful m command (Taken text (Votes vote)) = Unit {0}
OpensLawful m command (Taken text (Delivers readers item)) = Unit {0}
OpensLawful m command (Taken text (Opens public paper seats)) = IsLawfulOpening m command public seats
OpensLawful m command (Taken text (Publishes public paper played)) = Unit {0}
OpensLawful m command (Taken text (Seats seat)) = Unit {0}

-- as many seats as were named
seats_named : (m : Chart) (game : List ℕ) (notes : List SeatNote) (seats : List NewSeat) → new_seats m game notes ≡ Some seats → length seats ≡ length notes
seats_named m game [] seats is = let none : [] ≡ seats = cc in ap length (sym none)
seats_named m game (n ∷ ns) seats is = go (new_seat m game n) (new_seats m game ns) refl (seats_named m game ns) is
  where
    go : (one : Option NewSeat) (more : Option (List NewSeat)) → new_seats m game ns ≡ more → ((xs : List NewSeat) → new_seats m game ns ≡ Some xs → length xs ≡ length ns)
        → with_more one more ≡ Some seats → length seats ≡ suc (length ns)
    go None more at rest e = absurd (cc)
    go (Some x) None at rest e = absurd (cc)
    go (Some x) (Some xs) at rest e = let all : x ∷ xs ≡ seats = cc in ap length (sym all) ∙ ap suc (rest xs at)

pub master_lawful : (m : Chart) (n : Mail) (k : Option Kept) (command : Request) (game : Option Game) (v : Verdict) → MasterDecides m n k command game v → OpensLawful m command v
master_lawful m n k command game v = master_holds (λ game. OpensLawful m command) m n k command game v (record {
  unknown = tt;
  again = λ game text. tt;
  out = λ game text. tt;
  free = λ r. tt;
  opened = λ due period grey intent notes found of is all. record {
    of_map = λ fine fits. of_opening m n.note.game due period grey intent notes fine (subst FitsRequest of fits);
    papers = refl;
    complete = all;
    known = seats_known m n.note.game notes found is;
    asked = (due, period, grey, intent, notes, of, seats_named m n.note.game notes found is);
  };
  in_game = λ g. record {
    refused = λ r. tt;
    played = λ tick w of p. subst (OpensLawful m command) (sym p.verdict) tt;
    noted = λ text paper public next told spoiled. tt;
    seated = λ note seat of new low s found. tt;
  };
})

opened_lawful : (m : Chart) (command : Request) (public : Public) (paper : List ℕ) (seats : List NewSeat) → IsOf m (opening m) → FitsRequest command → length seats ≤ 7
    → IsLawfulOpening m command public seats → IsLawfulGame m (opening_game public paper seats)
opened_lawful m command public paper seats fine fits few h = record {
  public = h.of_map fine fits;
  powers = all_same (λ q. count_by (λ (s : Part). power_in s == q) (map fresh seats) == 1) (λ q. count_by (λ (s : NewSeat). s.power == q) seats == 1) (powers m)
      (λ q. ap (λ (c : ℕ). c == 1) (count_map fresh (λ (s : Part). power_in s == q) (λ (s : NewSeat). s.power == q) seats (λ s. refl)))
      ∙ h.complete;
  few = (let same = length-map seats fresh in omega (arith, same, few));
  seats = all_map (λ s. s.power < length m.realms) (IsLawfulSeat m public.board) fresh seats (λ s low. record { power = low; vote = tt; pending = none_standing m public.board s.power; last = omega arith; sent = omega arith; items = refl; box = omega arith }) h.known;
  boxes = all_map (λ s. Unit {0}) (λ s. length s.box ≤ sent_by_others (power_in s) (map fresh seats)) fresh seats (λ s u. omega arith) (each_unit seats);
  papers = h.papers;
}
  where
    each_unit : (ss : List NewSeat) → AllByRecursion (λ s. Unit {0}) ss
    each_unit [] = tt
    each_unit (s ∷ ss) = (tt, each_unit ss)

-- ---- what each effect does to each seat

reached_same : (m : Chart) (b : Position) (s : Part) → IsLawfulSeat m b s → IsReached m b s
reached_same m b s l = record { power = l.power; vote = l.vote; pending = l.pending; last = l.last; sent = l.sent; items = l.items }

reached_delivered : (m : Chart) (b : Position) (readers : List ℕ) (item : Item) (s : Part) → IsLawfulSeat m b s → IsReached m b (with_effect (Delivers readers item) s)
reached_delivered m b readers item s l = go (is_among (power_in s) readers)
  where
    go : (t : Bool) → IsReached m b (cond t (with_item item s) s)
    go true = record {
      power = l.power;
      vote = l.vote;
      pending = l.pending;
      last = l.last;
      sent = l.sent;
      items = (let were = l.items in let longer = length-append s.box (item ∷ []) in omega (arith, were, longer));
    }
    go false = reached_same m b s l

-- a seat whose orders are gone, on any board
reached_played : (m : Chart) (b c : Position) (s : Part) → IsLawfulSeat m b s → IsReached m c (after_paper true s)
reached_played m b c s l = record { power = l.power; vote = l.vote; pending = none_standing m c (power_in s); last = l.last; sent = l.sent; items = l.items }

reached_seated : (m : Chart) (b : Position) (seat : NewSeat) (s : Part) → IsLawfulSeat m b s → IsReached m b (with_effect (Seats seat) s)
reached_seated m b seat s l = go (seat.power == power_in s)
  where
    go : (t : Bool) → IsReached m b (cond t (with_digest seat.digest s) s)
    go true = record { power = l.power; vote = l.vote; pending = l.pending; last = l.last; sent = l.sent; items = l.items }
    go false = reached_same m b s l

-- the effects that send no press

silent_paper : (public : Public) (paper : List ℕ) (played : Bool) → IsSilent (Publishes public paper played)
silent_paper public paper true = record { sent = λ s. refl; box = λ s. refl; own = λ k s. refl; kept = λ k s. refl }
silent_paper public paper false = record { sent = λ s. refl; box = λ s. refl; own = λ k s. refl; kept = λ k s. refl }

silent_seat : (seat : NewSeat) → IsSilent (Seats seat)
silent_seat seat = record { sent = sent; box = box; own = λ k s. refl; kept = λ k s. refl }
  where
    sent : (s : Part) → (with_effect (Seats seat) s).own.sent ≡ s.own.sent
    sent s = go (seat.power == power_in s)
      where
        go : (t : Bool) → (cond t (with_digest seat.digest s) s).own.sent ≡ s.own.sent
        go true = refl
        go false = refl

    box : (s : Part) → (with_effect (Seats seat) s).box ≡ s.box
    box s = go (seat.power == power_in s)
      where
        go : (t : Bool) → (cond t (with_digest seat.digest s) s).box ≡ s.box
        go true = refl
        go false = refl

-- the board after a phase is one of the map, where its orders could be given, and so is whoever has won
abbrev pub StaysOf : Chart → Type 0
StaysOf m = (b : Position) (pending : List PlacedOrder) (new : Position) (report : Report) → IsOf m b → AreGiven m b pending → IsPlayed m b pending new report
    → IsOf m new × IsStatusOf m (status_after report.course)

pub stays_of : (m : Chart)
    → ((b : Position) (pending : List PlacedOrder) (new : Position) (report : Report) → IsOf m b → AreGiven m b pending → IsPlayed m b pending new report → IsOf m new)
    → WinnersOwnMore → StaysOf m
stays_of m stays wins b pending new report of given played =
    let on = stays b pending new report of given played in (on, status_played m b pending new report wins on played)

-- numbers

-- a letter that is taken has a number greater than the last
pub numbered_newer : (n : Mail) (k : Option Kept) (New : Verdict → Type 0) (text : List ℕ) (e : Effect) → IsMail n → NumberedBy (old_number n k) New (Taken text e) → last_number k < n.note.number
numbered_newer n None New text e is h = let least = is.number_least in omega (arith, least)
numbered_newer n (Some k) New text e is h = go (nat_lt n.note.number k.number) (n.note.number == k.number) (bytes_eq n.sum k.sum) refl refl h
  where
    go : (a b c : Bool) → nat_lt n.note.number k.number ≡ a → (n.note.number == k.number) ≡ b
        → NumberedBy (cond a (Some (OutOfTurn (refusal_line (Stale k.number)))) (cond b (Some (cond c (Again k.reply) (OutOfTurn (refusal_line (NumberUsed k.number))))) None)) New (Taken text e)
        → k.number < n.note.number
    go true b c less same h = let bad : ◌≡◌ {A = Verdict} (Taken text e) (OutOfTurn (refusal_line (Stale k.number))) = h in absurd (cc)
    go false true true less same h = let bad : ◌≡◌ {A = Verdict} (Taken text e) (Again k.reply) = h in absurd (cc)
    go false true false less same h = let bad : ◌≡◌ {A = Verdict} (Taken text e) (OutOfTurn (refusal_line (NumberUsed k.number))) = h in absurd (cc)
    go false false c less differ h = omega (arith, ltb-false n.note.number k.number less, eqb-false n.note.number k.number differ)

pub master_newer : (m : Chart) (n : Mail) (k : Option Kept) (command : Request) (game : Option Game) (text : List ℕ) (e : Effect) → IsMail n
    → MasterDecides m n k command game (Taken text e) → last_number k < n.note.number
master_newer m n k command (Some g) text e is h = numbered_newer n k (DecidesIn m n command g) text e is h
master_newer m n k (Player command) None text e is h = let bad : ◌≡◌ {A = Verdict} (Taken text e) NotKnown = h in absurd (cc)
master_newer m n k (Master (Create due period grey intent seats)) None text e is h =
    numbered_newer n k (λ w. w ≡ creation m (opening_public m n.note.game due period grey (is_on intent)) (new_seats m n.note.game seats) None) text e is h
master_newer m n k (Master (Tick tick)) None text e is h = let bad : ◌≡◌ {A = Verdict} (Taken text e) NotKnown = h in absurd (cc)
master_newer m n k (Master (Replace seat)) None text e is h = let bad : ◌≡◌ {A = Verdict} (Taken text e) NotKnown = h in absurd (cc)
master_newer m n k (Master (Notify notice)) None text e is h = let bad : ◌≡◌ {A = Verdict} (Taken text e) NotKnown = h in absurd (cc)

-- and no old number answers it
numbered_new : (n : Mail) (k : Option Kept) (New : Verdict → Type 0) (text : List ℕ) (e : Effect) → NumberedBy (old_number n k) New (Taken text e) → old_number n k ≡ None
numbered_new n None New text e h = refl
numbered_new n (Some k) New text e h = go (nat_lt n.note.number k.number) (n.note.number == k.number) (bytes_eq n.sum k.sum) h
  where
    go : (a b c : Bool) → NumberedBy (cond a (Some (OutOfTurn (refusal_line (Stale k.number)))) (cond b (Some (cond c (Again k.reply) (OutOfTurn (refusal_line (NumberUsed k.number))))) None)) New (Taken text e)
        → cond a (Some (OutOfTurn (refusal_line (Stale k.number)))) (cond b (Some (cond c (Again k.reply) (OutOfTurn (refusal_line (NumberUsed k.number))))) None) ≡ None
    go true b c h = let bad : ◌≡◌ {A = Verdict} (Taken text e) (OutOfTurn (refusal_line (Stale k.number))) = h in absurd (cc)
    go false true true h = let bad : ◌≡◌ {A = Verdict} (Taken text e) (Again k.reply) = h in absurd (cc)
    go false true false h = let bad : ◌≡◌ {A = Verdict} (Taken text e) (OutOfTurn (refusal_line (NumberUsed k.number))) = h in absurd (cc)
    go false false c h = refl

pub master_new : (m : Chart) (n : Mail) (k : Option Kept) (command : Request) (game : Option Game) (text : List ℕ) (e : Effect)
    → MasterDecides m n k command game (Taken text e) → old_number n k ≡ None
master_new m n k command (Some g) text e h = numbered_new n k (DecidesIn m n command g) text e h
master_new m n k (Player command) None text e h = let bad : ◌≡◌ {A = Verdict} (Taken text e) NotKnown = h in absurd (cc)
master_new m n k (Master (Create due period grey intent seats)) None text e h =
    numbered_new n k (λ w. w ≡ creation m (opening_public m n.note.game due period grey (is_on intent)) (new_seats m n.note.game seats) None) text e h
master_new m n k (Master (Tick tick)) None text e h = let bad : ◌≡◌ {A = Verdict} (Taken text e) NotKnown = h in absurd (cc)
master_new m n k (Master (Replace seat)) None text e h = let bad : ◌≡◌ {A = Verdict} (Taken text e) NotKnown = h in absurd (cc)
master_new m n k (Master (Notify notice)) None text e h = let bad : ◌≡◌ {A = Verdict} (Taken text e) NotKnown = h in absurd (cc)

-- one step

-- the games after a letter that opens none, where the one that it names stays lawful, and has no more papers than the master has sent letters
games_lawful : (m : Chart) (s : State) (n : Mail) (who : Author) (text : List ℕ) (e : Effect) → IsLawful m s → new_games e ≡ []
    → ((g : Game) → game_at n.note.game s ≡ Some g → IsLawfulGame m g → IsLawfulGame m (game_after (change_of n who text e) g))
    → ((g : Game) → game_at n.note.game s ≡ Some g → g.public.papers ≤ last_number s.desk.kept → (public_after e g.public).papers ≤ last_number (desk_after who (kept_of n text) s.desk).kept)
    → last_number s.desk.kept ≤ last_number (desk_after who (kept_of n text) s.desk).kept → last_number (desk_after who (kept_of n text) s.desk).kept ≤ 999999999
    → IsLawful m (after n who (Taken text e) s)
games_lawful m s n who text e l none here papers rises last =
    let f : Game → Game = game_after (change_of n who text e) in
    let most : ℕ = last_number (desk_after who (kept_of n text) s.desk).kept in
    subst (λ (gs : List Game). IsLawful m (record { desk = desk_after who (kept_of n text) s.desk; games = gs }))
    (sym (ap (λ (gs : List Game). change_at bytes_eq name_of n.note.game f s.games ++ gs) none ∙ append-nil (change_at bytes_eq name_of n.note.game f s.games))) (record {
      games = all_change bytes_eq name_of n.note.game f (IsLawfulGame m) s.games l.games here;
      names = apart_change n.note.game f s.games (name_kept (change_of n who text e)) l.names;
      numbered = all_change bytes_eq name_of n.note.game f (λ g. g.public.papers ≤ most) s.games
          (all_weaker (λ (g : Game). g.public.papers ≤ last_number s.desk.kept) (λ (g : Game). g.public.papers ≤ most) s.games (λ g few. omega (arith, few, rises)) l.numbered)
          (λ g found few. papers g found (all_at bytes_eq name_of n.note.game (λ (h : Game). h.public.papers ≤ last_number s.desk.kept) s.games g l.numbered found));
      last = last;
    })

lawful_after : (m : Chart) → IsOf m (opening m) → ((b : Position) → IsOf m b → AreRead m b) → StaysOf m → (s : State) (n : Mail) (who : Author) (v : Verdict)
    → IsMail n → Decides m s n who v → IsLawful m s → IsLawful m (after n who v s)
lawful_after m fine again stays s n who NotKnown is d l = l
lawful_after m fine again stays s n who (Again text) is d l = l
lawful_after m fine again stays s n who (OutOfTurn text) is d l = l
lawful_after m fine again stays s n who (Taken text e) is d l = go who e d (decides_suits m s n who (Taken text e) d)
  where
    newer : (e : Effect) → Decides m s n TheMaster (Taken text e) → last_number s.desk.kept < n.note.number
    newer e d = master_newer m n s.desk.kept n.note.command (game_at n.note.game s) text e is d

    none_here : (p : ℕ) → ◌≡◌ {A = Author} TheMaster (Seat p) → ⊥
    none_here p bad = cc

    -- the master's letter, in the game that it names
    by_master : (e : Effect) → Decides m s n TheMaster (Taken text e) → new_games e ≡ []
        → ((g : Game) → game_at n.note.game s ≡ Some g → IsLawfulGame m g → IsLawfulGame m (game_after (change_of n TheMaster text e) g))
        → ((g : Game) → game_at n.note.game s ≡ Some g → (public_after e g.public).papers ≤ g.public.papers + 1) → IsLawful m (after n TheMaster (Taken text e) s)
    by_master e d none here one =
        let rise = newer e d in
        games_lawful m s n TheMaster text e l none here (λ g found few. let more = one g found in omega (arith, few, rise, more)) (omega (arith, rise)) is.number_most

    idle : Decides m s n TheMaster (Taken text Nothing) → IsLawful m (after n TheMaster (Taken text Nothing) s)
    idle d = by_master Nothing d refl
        (λ g found lg. game_lawful m (change_of n TheMaster text Nothing) g lg lg.public (λ p author part there lp. absurd (none_here p author)) (reached_same m g.public.board)
        (silent_boxes (change_of n TheMaster text Nothing) g (record { sent = λ s. refl; box = λ s. refl; own = λ k s. refl; kept = λ k s. refl }) lg.boxes) lg.papers)
        (λ g found. omega arith)

    opening_it : (public : Public) (paper : List ℕ) (seats : List NewSeat) → Decides m s n TheMaster (Taken text (Opens public paper seats))
        → game_at n.note.game s ≡ None → public.game ≡ n.note.game → IsLawful m (after n TheMaster (Taken text (Opens public paper seats)) s)
    opening_it public paper seats d free named =
        let f : Game → Game = game_after (change_of n TheMaster text (Opens public paper seats)) in
        let opens : IsLawfulOpening m n.note.command public seats = master_lawful m n s.desk.kept n.note.command (game_at n.note.game s) (Taken text (Opens public paper seats)) d in
        let fits : FitsRequest (Master (Create opens.asked.0 opens.asked.1 opens.asked.2 opens.asked.3 opens.asked.4)) = subst FitsRequest opens.asked.5 is.command in
        let named_few : length opens.asked.4 ≤ 7 = fits.4 in
        let as_many : length seats ≡ length opens.asked.4 = opens.asked.6 in
        let few : length seats ≤ 7 = omega (arith, named_few, as_many) in
        let first : public.papers ≡ 1 = opens.papers in
        let least : 1 ≤ n.note.number = is.number_least in
        let rise : last_number s.desk.kept < n.note.number = newer (Opens public paper seats) d in
        let absent : (g : Game) → game_at n.note.game s ≡ Some g → ⊥ = λ g found. let bad : ◌≡◌ {A = Option Game} None (Some g) = sym free ∙ found in cc in
        record {
          games = all_last (IsLawfulGame m) (change_at bytes_eq name_of n.note.game f s.games) (opening_game public paper seats)
              (all_change bytes_eq name_of n.note.game f (IsLawfulGame m) s.games l.games (λ g found lg. absurd (absent g found)))
              (opened_lawful m n.note.command public paper seats fine is.command few opens);
          names = apart_last (change_at bytes_eq name_of n.note.game f s.games) (opening_game public paper seats)
              (apart_change n.note.game f s.games (name_kept (change_of n TheMaster text (Opens public paper seats))) l.names)
              (absent_change public.game n.note.game f s.games (name_kept (change_of n TheMaster text (Opens public paper seats)))
              (ap (λ (name : List ℕ). at bytes_eq name_of name s.games) named ∙ free));
          numbered = all_last (λ g. g.public.papers ≤ n.note.number) (change_at bytes_eq name_of n.note.game f s.games) (opening_game public paper seats)
              (all_change bytes_eq name_of n.note.game f (λ g. g.public.papers ≤ n.note.number) s.games
              (all_weaker (λ (g : Game). g.public.papers ≤ last_number s.desk.kept) (λ (g : Game). g.public.papers ≤ n.note.number) s.games (λ g few. omega (arith, few, rise)) l.numbered)
              (λ g found few. absurd (absent g found))) (omega (arith, first, least));
          last = is.number_most;
        }

    counted_on : (public : Public) (paper : List ℕ) (g : Game) → IsLawfulGame m g → public.papers ≡ g.public.papers + 1 → public.papers ≡ length (g.papers ++ paper ∷ [])
    counted_on public paper g lg counted = let were = lg.papers in let more = length-append g.papers (paper ∷ []) in omega (arith, counted, were, more)

    -- the game that was found is the one that is there
    found_one : (g h : Game) → game_at n.note.game s ≡ Some g → game_at n.note.game s ≡ Some h → h ≡ g
    found_one g h there found = let one : Some h ≡ Some g = sym found ∙ there in cc

    playing : (public : Public) (paper : List ℕ) → Decides m s n TheMaster (Taken text (Publishes public paper true))
        → IsPosted m n.note.command (game_at n.note.game s) (Taken text (Publishes public paper true)) → IsLawful m (after n TheMaster (Taken text (Publishes public paper true)) s)
    playing public paper d by =
        let p = by.4 in
        let after_phase : public ≡ public_played by.0 by.1.public p.board p.report.course = cc in
        let counted : public.papers ≡ by.1.public.papers + 1 = ap (λ (q : Public). q.papers) after_phase in
        by_master (Publishes public paper true) d refl
        (λ g found lg.
        let same : g ≡ by.1 = found_one by.1 g by.3 found in
        let lh : IsLawfulGame m by.1 = subst (IsLawfulGame m) same lg in
        let timely : by.0 ≤ 999999999999 = subst FitsRequest by.2 is.command in
        let on = stays by.1.public.board (orders_of m (whole_of by.1)) p.board p.report lh.public.board (whole_given m by.1 (again by.1.public.board lh.public.board) lh) p.played in
        let of : IsPublicOf m public = subst (IsPublicOf m) (sym after_phase) (of_played m by.0 by.1.public p.board p.report.course timely lh.public on.0 on.1) in
        game_lawful m (change_of n TheMaster text (Publishes public paper true)) g lg (of_renamed m g.public.game public of) (λ p author part there lp. absurd (none_here p author))
        (reached_played m g.public.board public.board)
        (silent_boxes (change_of n TheMaster text (Publishes public paper true)) g (silent_paper public paper true) lg.boxes)
        (counted_on public paper g lg (counted ∙ ap (λ (h : Game). h.public.papers + 1) (sym same))))
        (λ g found. let same : g ≡ by.1 = found_one by.1 g by.3 found in let papers = ap (λ (h : Game). h.public.papers) same in omega (arith, counted, papers))

    noting : (public : Public) (paper : List ℕ) → Decides m s n TheMaster (Taken text (Publishes public paper false))
        → IsPosted m n.note.command (game_at n.note.game s) (Taken text (Publishes public paper false)) → IsLawful m (after n TheMaster (Taken text (Publishes public paper false)) s)
    noting public paper d by =
        let counted : public.papers ≡ by.0.public.papers + 1 = by.2.papers in
        by_master (Publishes public paper false) d refl
        (λ g found lg.
        let same : g ≡ by.0 = found_one by.0 g by.1 found in
        let board : public.board ≡ g.public.board = by.2.board ∙ ap (λ (h : Game). h.public.board) (sym same) in
        let of : IsPublicOf m public = by.2.stays is.command (subst (λ (h : Game). IsPublicOf m h.public) same lg.public) in
        game_lawful m (change_of n TheMaster text (Publishes public paper false)) g lg (of_renamed m g.public.game public of) (λ p author part there lp. absurd (none_here p author))
        (λ s ls. subst (λ (b : Position). IsReached m b s) (sym board) (reached_same m g.public.board s ls))
        (silent_boxes (change_of n TheMaster text (Publishes public paper false)) g (silent_paper public paper false) lg.boxes)
        (counted_on public paper g lg (counted ∙ ap (λ (h : Game). h.public.papers + 1) (sym same))))
        (λ g found. let same : g ≡ by.0 = found_one by.0 g by.1 found in let papers = ap (λ (h : Game). h.public.papers) same in omega (arith, counted, papers))

    publishing : (public : Public) (paper : List ℕ) (played : Bool) → Decides m s n TheMaster (Taken text (Publishes public paper played))
        → IsPosted m n.note.command (game_at n.note.game s) (Taken text (Publishes public paper played)) → IsLawful m (after n TheMaster (Taken text (Publishes public paper played)) s)
    publishing public paper true d by = playing public paper d by
    publishing public paper false d by = noting public paper d by

    seating : (seat : NewSeat) → Decides m s n TheMaster (Taken text (Seats seat)) → IsLawful m (after n TheMaster (Taken text (Seats seat)) s)
    seating seat d = by_master (Seats seat) d refl
        (λ g found lg. game_lawful m (change_of n TheMaster text (Seats seat)) g lg lg.public (λ p author part there lp. absurd (none_here p author)) (reached_seated m g.public.board seat)
        (silent_boxes (change_of n TheMaster text (Seats seat)) g (silent_seat seat) lg.boxes) lg.papers)
        (λ g found. omega arith)

    -- a seat's letter: its own part after it
    own_part : (p : ℕ) (e : Effect) → Decides m s n (Seat p) (Taken text e) → Comes (Seat p) (game_at n.note.game s) e → (g : Game) → game_at n.note.game s ≡ Some g → IsLawfulGame m g
        → (q : ℕ) → Seat p ≡ Seat q → (part : Part) → seat_at q g.seats ≡ Some part → IsLawfulSeat m g.public.board part → IsLawfulSeat m g.public.board (with_letter (kept_of n text) e part)
    own_part p e d comes g found lg q author part there lp =
        let same : p ≡ q = cc in
        letter_lawful m g.public.board (kept_of n text) p (game_at n.note.game s) e part comes is.number_most lp
        (seat_fits m n g p text e is (again g.public.board lg.public.board) (d ∙ ap (λ (x : Option Game). verdict_on m n (seen_in p x)) found) part
        (subst (λ (x : ℕ). seat_at x g.seats ≡ Some part) (sym same) there) lp)

    -- a letter that has an author's seat is of one that is there
    seat_here : (p : ℕ) (e : Effect) (g : Game) → Decides m s n (Seat p) (Taken text e) → game_at n.note.game s ≡ Some g → (x : Part) × (seat_at p g.seats ≡ Some x)
    seat_here p e g d found = go (seat_at p g.seats) refl
      where
        go : (x : Option Part) → seat_at p g.seats ≡ x → (y : Part) × (seat_at p g.seats ≡ Some y)
        go None at =
            let bad : ◌≡◌ {A = Verdict} (Taken text e) NotKnown =
            d ∙ ap (λ (x : Option Game). verdict_on m n (seen_in p x)) found ∙ ap (λ (x : Option Part). verdict_by m n (Some g.public) x) at in absurd (cc)
        go (Some x) at = (x, at)

    quiet : (p : ℕ) (e : Effect) → Decides m s n (Seat p) (Taken text e) → Comes (Seat p) (game_at n.note.game s) e → IsSilent e → new_games e ≡ []
        → ((s : Part) → with_effect e s ≡ s) → ((q : Public) → public_after e q ≡ q) → ((ps : List (List ℕ)) → papers_after e ps ≡ ps) → IsLawful m (after n (Seat p) (Taken text e) s)
    quiet p e d comes silent none seats public papers =
        games_lawful m s n (Seat p) text e l none
        (λ g found lg.
        let stands : (public_after e g.public).board ≡ g.public.board = ap (λ (q : Public). q.board) (public g.public) in
        game_lawful m (change_of n (Seat p) text e) g lg (subst (IsPublicOf m) (sym (public g.public)) lg.public) (own_part p e d comes g found lg)
        (λ x lx. subst (λ (b : Position). IsReached m b (with_effect e x)) (sym stands) (subst (IsReached m g.public.board) (sym (seats x)) (reached_same m g.public.board x lx)))
        (silent_boxes (change_of n (Seat p) text e) g silent lg.boxes)
        (ap (λ (q : Public). q.papers) (public g.public) ∙ lg.papers ∙ ap length (sym (papers g.papers))))
        (λ g found few. subst (λ (q : Public). q.papers ≤ last_number s.desk.kept) (sym (public g.public)) few) (omega arith) l.last

    delivering : (p : ℕ) (readers : List ℕ) (item : Item) → Decides m s n (Seat p) (Taken text (Delivers readers item)) → Comes (Seat p) (game_at n.note.game s) (Delivers readers item)
        → IsLawful m (after n (Seat p) (Taken text (Delivers readers item)) s)
    delivering p readers item d comes =
        games_lawful m s n (Seat p) text (Delivers readers item) l refl
        (λ g found lg.
        let here = seat_here p (Delivers readers item) g d found in
        game_lawful m (change_of n (Seat p) text (Delivers readers item)) g lg lg.public (own_part p (Delivers readers item) d comes g found lg) (reached_delivered m g.public.board readers item)
        (delivered_boxes (kept_of n text) p readers item g.seats here.0 (apart (game_at n.note.game s) g found comes) here.1 lg.boxes) lg.papers)
        (λ g found few. few) (omega arith) l.last
      where
        apart : (game : Option Game) (g : Game) → game ≡ Some g → Comes (Seat p) game (Delivers readers item) → is_among p readers ≡ false
        apart None g found comes = absurd comes
        apart (Some h) g found comes = comes

    by_power : (p : ℕ) (e : Effect) → Decides m s n (Seat p) (Taken text e) → (game : Option Game) → game_at n.note.game s ≡ game → Comes (Seat p) game e → IsLawful m (after n (Seat p) (Taken text e) s)
    by_power p e d None at comes = absurd comes
    by_power p Nothing d (Some g) at comes = quiet p Nothing d (subst (λ (x : Option Game). Comes (Seat p) x Nothing) (sym at) comes) (record { sent = λ s. refl; box = λ s. refl; own = λ k s. refl; kept = λ k s. refl }) refl (λ x. refl) (λ q. refl) (λ ps. refl)
    by_power p (Pending orders) d (Some g) at comes = quiet p (Pending orders) d (subst (λ (x : Option Game). Comes (Seat p) x (Pending orders)) (sym at) comes) (record { sent = λ s. refl; box = λ s. refl; own = λ k s. refl; kept = λ k s. refl }) refl (λ x. refl) (λ q. refl) (λ ps. refl)
    by_power p (Votes vote) d (Some g) at comes = quiet p (Votes vote) d (subst (λ (x : Option Game). Comes (Seat p) x (Votes vote)) (sym at) comes) (record { sent = λ s. refl; box = λ s. refl; own = λ k s. refl; kept = λ k s. refl }) refl (λ x. refl) (λ q. refl) (λ ps. refl)
    by_power p (Delivers readers item) d (Some g) at comes = delivering p readers item d (subst (λ (x : Option Game). Comes (Seat p) x (Delivers readers item)) (sym at) comes)
    by_power p (Opens public paper seats) d (Some g) at comes = absurd comes
    by_power p (Publishes public paper played) d (Some g) at comes = absurd comes
    by_power p (Seats seat) d (Some g) at comes = absurd comes

    go : (who : Author) (e : Effect) → Decides m s n who (Taken text e) → IsFitting n.note.game who (game_at n.note.game s) e → IsLawful m (after n who (Taken text e) s)
    go Nobody e d fits = absurd fits.0
    go TheMaster e d fits = elim (master_where n.note.game (game_at n.note.game s) e fits) [
      | inl nothing ↦ subst (λ (x : Effect). IsLawful m (after n TheMaster (Taken text x) s)) (sym nothing) (idle (subst (λ (x : Effect). Decides m s n TheMaster (Taken text x)) nothing d))
      | inr more ↦ elim more [
        | inl opens ↦ subst (λ (x : Effect). IsLawful m (after n TheMaster (Taken text x) s)) (sym opens.3)
            (opening_it opens.0 opens.1 opens.2 (subst (λ (x : Effect). Decides m s n TheMaster (Taken text x)) opens.3 d) opens.4 opens.5)
        | inr rest ↦ elim rest [
          | inl paper ↦ subst (λ (x : Effect). IsLawful m (after n TheMaster (Taken text x) s)) (sym paper.3)
              (publishing paper.0 paper.1 paper.2 (subst (λ (x : Effect). Decides m s n TheMaster (Taken text x)) paper.3 d)
              (subst (λ (x : Effect). IsPosted m n.note.command (game_at n.note.game s) (Taken text x)) paper.3
              (master_posted m n s.desk.kept n.note.command (game_at n.note.game s) (Taken text e) d)))
          | inr seats ↦ subst (λ (x : Effect). IsLawful m (after n TheMaster (Taken text x) s)) (sym seats.1)
              (seating seats.0 (subst (λ (x : Effect). Decides m s n TheMaster (Taken text x)) seats.1 d))
        ]
      ]
    ]
    go (Seat p) e d fits = by_power p e d (game_at n.note.game s) refl fits.0

pub stays_lawful : (m : Chart) → IsOf m (opening m) → ((b : Position) → IsOf m b → AreRead m b) → StaysOf m → StaysLawful m
stays_lawful m fine again stays old n r new is l step = subst (IsLawful m) (sym step.3) (lawful_after m fine again stays old n (author m n old) step.0 is step.1 l)
